-- The lines of a root: zeros, and then its elements piece by piece.
use Rattle.std.proofs.Common.{◌≡◌, ℕ, zero, suc, ◌+◌, ◌*◌, ◌<◌, ◌≤◌, true, false, List, [], ◌∷◌, ◌++◌, length, refl, sym, ◌∙◌, ap, ap₂, subst, arith, map, take, drop, replicate, ℤ, pos, negsuc, length-append, append_assoc, take-append-drop, length-drop, eqb-true}
use Rattle.std.proofs.lemmas.List.{append-nil, map-append, length-take, drop-drop, take_all, drop_all}
use Rattle.std.proofs.lemmas.List.Elements.{All-head, All-tail, All-cons, All-nil, All-take, All-drop}
use Rattle.std.proofs.Math.Seq.{take-add}
use Rattle.std.specs.List.{flat_map, range_with_len, list_any}
use Rattle.std.specs.Prelude.{Some, None, All}
use Rattle.pdl_lemmas.specs.Tests.{by_test}
use Rattle.pdl_elem.specs.declared.Ty.{Ty}
use Rattle.pdl_elem.specs.declared.Ty.TheVariants.{Longlong}
use Rattle.pdl_elem.specs.Laws.{WrappingLaws}
use Rattle.pdl_elem.specs.Types.{InRange}
use Rattle.pdl_buf.specs.Made.{IsMade}
use Rattle.pdl_shape.specs.Shape.{IsDims, size_of}
use Rattle.pdl_choice.specs.Where.{is_set}
use Rattle.pdl_world.specs.KeepingLaws.{NewestKeepsAll, NewestIsKept, MoreKeepAll}
use Rattle.pdl_world.specs.Swept.{parents}
use Rattle.pdl_world.specs.World.{World, ArrayDef, root}
use Rattle.pdl_image.specs.declared.TheConstants.{PIECE}
use Rattle.pdl_image.specs.Dump.{is_least, as_listed, given_lines, least_lines, filling_lines, piece_lines, piece_count, root_lines}
use Rattle.pdl_image.specs.Lines.{Line, root_line, piece_line, least_line}
use Rattle.pdl_reread.specs.Trees.{line_tree}
use Rattle.pdl_machine.specs.Names.{KernelTexts, Named, found, names_limit}
use Rattle.pdl_machine.specs.State.{State}
use Rattle.pdl_machine.specs.Watches.{Watches}
use Rattle.pdl_rebuild.specs.Made.{with_root, RootsAreMade, PiecesAreGiven, LeastAreGiven}
use Rattle.pdl_rebuild.specs.Rebuilt.{state_of, one_name, arrays_of, ParentBelow, IsResting}
use Rattle.pdl_rebuild.specs.Steps.{Leads, AllLead}
use Rattle.pdl_rebuild.proofs.StepLeads.{none_lead, first_leads, then_lead, one_leads}
use Rattle.pdl_rebuild.proofs.RebuiltTexts.{found_last}
use Rattle.pdl_rebuild.proofs.RebuiltTidied.{same_self, below_arrays, below_more, includes_front, includes_back, includes_behind}

-- as many zeros
abbrev zeros : List ℤ → List ℤ
zeros es = replicate (length es) (pos 0)

zeros_split : (p q : List ℤ) → zeros (p ++ q) ≡ zeros p ++ zeros q
zeros_split [] q = refl
zeros_split (x ∷ p) q = ap (λ zs. pos 0 ∷ zs) (zeros_split p q)

zeros_long : (es : List ℤ) → length (zeros es) ≡ length es
zeros_long [] = refl
zeros_long (e ∷ es) = ap suc (zeros_long es)

listed_long : (es : List ℤ) → length (map as_listed es) ≡ length es
listed_long [] = refl
listed_long (e ∷ es) = ap suc (listed_long es)

-- numbers that are all 0
unset_zeros : (es : List ℤ) → list_any is_set es ≡ false → es ≡ zeros es
unset_zeros [] unset = refl
unset_zeros (pos zero ∷ es) unset = ap (λ xs. pos 0 ∷ xs) (unset_zeros es unset)
unset_zeros (pos (suc n) ∷ es) unset = absurd (true_false unset) where
  true_false : true ≡ false → ⊥
  true_false e = cc
unset_zeros (negsuc n ∷ es) unset = absurd (true_false unset) where
  true_false : true ≡ false → ⊥
  true_false e = cc

least_is : (n : ℤ) → is_least n ≡ true → n ≡ negsuc 9223372036854775807
least_is (pos n) is = absurd (false_true is) where
  false_true : false ≡ true → ⊥
  false_true e = cc
least_is (negsuc n) is = ap negsuc (eqb-true n 9223372036854775807 is)

listed_in_range : WrappingLaws → (ty : Ty) (es : List ℤ) → All (InRange ty) es → All (InRange ty) (map as_listed es)
listed_in_range laws ty [] fit = All-nil (InRange ty)
listed_in_range laws ty (e ∷ es) fit =
    All-cons (InRange ty) (as_listed e) (map as_listed es)
    (by_test (is_least e) (λ least. rw least (laws.zero ty)) (λ other. rw other (All-head (InRange ty) e es fit)))
    (listed_in_range laws ty es (All-tail (InRange ty) e es fit))

pub record FillLaws : Type 0 where
  pub roots : RootsAreMade
  pub pieces : PiecesAreGiven
  pub least : LeastAreGiven
  pub wrapping : WrappingLaws
  pub keeps : NewestKeepsAll
  pub kept : NewestIsKept
  pub more : MoreKeepAll

module _ (laws : FillLaws) (ws : Watches) (kernels : Named KernelTexts) (names : Named ℕ) (w : World) (x : List ℕ) (ty : Ty) (ds : List ℕ)
    (first_es : List ℤ) (resting_first : IsResting ws names (with_root w ty ds first_es)) (bound : found names x ≡ Some (length w)) (are : IsDims ds) where
  -- the newest array with these elements
  abbrev holding : List ℤ → State
  holding es = state_of ws kernels names (with_root w ty ds es)

  resting : (es : List ℤ) → IsResting ws names (with_root w ty ds es)
  resting es =
      let newest = laws.kept w (length w) (root ty ds first_es) (arrays_of names) resting_first.kept in
      record {
        idle = resting_first.idle;
        order = (refl, (tt, resting_first.order.1.1));
        below = resting_first.below;
        kept = laws.keeps w (length w) (root ty ds es) (arrays_of names) newest.newest newest.others;
      }

  -- the numbers of a piece, unless all are 0
  numbers_given : (front p back : List ℤ) → length (front ++ (zeros p ++ back)) ≡ size_of ds → All (InRange ty) p
      → AllLead (holding (front ++ (zeros p ++ back))) (map line_tree (given_lines x (length front) p)) (holding (front ++ (p ++ back)))
  numbers_given front [] back count fit = none_lead (holding (front ++ ([] ++ back)))
  numbers_given front (n ∷ ns) back count fit =
      by_test (list_any is_set (n ∷ ns))
      (λ some. rw some (one_leads (holding (front ++ (zeros (n ∷ ns) ++ back))) (holding (front ++ ((n ∷ ns) ++ back))) (line_tree (piece_line x (length front) (length front + length ns) n ns)) refl
      (laws.pieces ws kernels names w x ty ds front (zeros (n ∷ ns)) back n ns (resting (front ++ (zeros (n ∷ ns) ++ back))) bound are count (zeros_long (n ∷ ns)) fit)))
      (λ none. rw none (subst (λ zs. AllLead (holding (front ++ (zeros (n ∷ ns) ++ back))) [] (holding (front ++ (zs ++ back)))) (sym (unset_zeros (n ∷ ns) none)) (none_lead (holding (front ++ (zeros (n ∷ ns) ++ back))))))

  least_at : (t : Ty) → Longlong ≡ t → (front behind : List ℤ) → IsResting ws names (with_root w t ds (front ++ (pos 0 ∷ behind))) → length (front ++ (pos 0 ∷ behind)) ≡ size_of ds
      → Leads (state_of ws kernels names (with_root w t ds (front ++ (pos 0 ∷ behind)))) (line_tree (least_line x (length front))) (state_of ws kernels names (with_root w t ds (front ++ (negsuc 9223372036854775807 ∷ behind))))
  least_at t is front behind =
      subst (λ u. IsResting ws names (with_root w u ds (front ++ (pos 0 ∷ behind))) → length (front ++ (pos 0 ∷ behind)) ≡ size_of ds
      → Leads (state_of ws kernels names (with_root w u ds (front ++ (pos 0 ∷ behind)))) (line_tree (least_line x (length front))) (state_of ws kernels names (with_root w u ds (front ++ (negsuc 9223372036854775807 ∷ behind))))) is
      (λ rests count. laws.least ws kernels names w x ds front (pos 0) behind rests bound are count)

  -- and then each least longlong among them
  least_given : (at : ℕ) (front p back : List ℤ) → at ≡ length front → length (front ++ (map as_listed p ++ back)) ≡ size_of ds → All (InRange ty) p
      → AllLead (holding (front ++ (map as_listed p ++ back))) (map line_tree (least_lines x at p)) (holding (front ++ (p ++ back)))
  least_given at front [] back place count fit = none_lead (holding (front ++ ([] ++ back)))
  least_given at front (n ∷ ns) back place count fit =
      let fit' : All (InRange ty) ns = All-tail (InRange ty) n ns fit in
      let behind : List ℤ = map as_listed ns ++ back in
      let count' : length ((front ++ n ∷ []) ++ behind) ≡ size_of ds = lengths front n (as_listed n) behind count in
      let rest : AllLead (holding (front ++ (n ∷ behind))) (map line_tree (least_lines x (at + 1) ns)) (holding (front ++ ((n ∷ ns) ++ back))) =
      subst (λ es. AllLead (holding es) (map line_tree (least_lines x (at + 1) ns)) (holding (front ++ ((n ∷ ns) ++ back)))) (append_assoc front (n ∷ []) behind)
      (subst (λ es. AllLead (holding ((front ++ n ∷ []) ++ behind)) (map line_tree (least_lines x (at + 1) ns)) (holding es)) (append_assoc front (n ∷ []) (ns ++ back))
      (least_given (at + 1) (front ++ n ∷ []) ns back (next_place at front n place) count' fit')) in
      by_test (is_least n)
      (λ least. let nought : as_listed n ≡ pos 0 = rw least refl in
      rw least (first_leads (holding (front ++ (pos 0 ∷ behind))) (holding (front ++ (n ∷ behind))) (holding (front ++ ((n ∷ ns) ++ back))) (line_tree (least_line x at)) (map line_tree (least_lines x (at + 1) ns)) refl
      (one_least (least_is n least) behind (subst (λ z. length (front ++ (z ∷ behind)) ≡ size_of ds) nought count) (All-head (InRange ty) n ns fit)) rest))
      (λ other. rw other rest)
    where
      lengths : (front : List ℤ) (n m : ℤ) (behind : List ℤ) → length (front ++ (m ∷ behind)) ≡ size_of ds → length ((front ++ n ∷ []) ++ behind) ≡ size_of ds
      lengths front n m behind count = omega (arith, count, length-append front (m ∷ behind), length-append (front ++ n ∷ []) behind, length-append front (n ∷ []))

      next_place : (at : ℕ) (front : List ℤ) (n : ℤ) → at ≡ length front → at + 1 ≡ length (front ++ n ∷ [])
      next_place at front n place = omega (arith, place, length-append front (n ∷ []))

      one_least : n ≡ negsuc 9223372036854775807 → (behind : List ℤ) → length (front ++ (pos 0 ∷ behind)) ≡ size_of ds → InRange ty n → Leads (holding (front ++ (pos 0 ∷ behind))) (line_tree (least_line x at)) (holding (front ++ (n ∷ behind)))
      one_least is behind count in_range =
          subst (λ z. Leads (holding (front ++ (pos 0 ∷ behind))) (line_tree (least_line x at)) (holding (front ++ (z ∷ behind)))) (sym is)
          (subst (λ k. Leads (holding (front ++ (pos 0 ∷ behind))) (line_tree (least_line x k)) (holding (front ++ (negsuc 9223372036854775807 ∷ behind)))) (sym place)
          (least_at ty (sym (laws.wrapping.least ty (subst (InRange ty) is in_range))) front behind (resting (front ++ (pos 0 ∷ behind))) count))

  zeros_listed : (es : List ℤ) → zeros (map as_listed es) ≡ zeros es
  zeros_listed [] = refl
  zeros_listed (e ∷ es) = ap (λ zs. pos 0 ∷ zs) (zeros_listed es)

  -- all lines of a piece
  piece_filled : (front p back : List ℤ) → length (front ++ (zeros p ++ back)) ≡ size_of ds → All (InRange ty) p
      → AllLead (holding (front ++ (zeros p ++ back))) (map line_tree (filling_lines x (length front) p)) (holding (front ++ (p ++ back)))
  piece_filled front p back count fit =
      let ls : List ℤ = map as_listed p in
      let given : List Line = given_lines x (length front) ls in
      let least : List Line = least_lines x (length front) p in
      let count' : length (front ++ (zeros ls ++ back)) ≡ size_of ds = ap (λ zs. length (front ++ (zs ++ back))) (zeros_listed p) ∙ count in
      let count'' : length (front ++ (ls ++ back)) ≡ size_of ds = omega (arith, count, length-append front (ls ++ back), length-append ls back, listed_long p, length-append front (zeros p ++ back), length-append (zeros p) back, zeros_long p) in
      subst (λ xs. AllLead (holding (front ++ (zeros p ++ back))) xs (holding (front ++ (p ++ back)))) (sym (map-append line_tree given least))
      (then_lead (holding (front ++ (zeros p ++ back))) (holding (front ++ (ls ++ back))) (holding (front ++ (p ++ back))) (map line_tree given) (map line_tree least)
      (subst (λ zs. AllLead (holding (front ++ (zs ++ back))) (map line_tree given) (holding (front ++ (ls ++ back)))) (zeros_listed p) (numbers_given front ls back count' (listed_in_range laws.wrapping ty p fit)))
      (least_given (length front) front p back refl count'' fit))

  filled_at : (a : ℕ) (front p back : List ℤ) → (0 < length p → a ≡ length front) → length (front ++ (zeros p ++ back)) ≡ size_of ds → All (InRange ty) p
      → AllLead (holding (front ++ (zeros p ++ back))) (map line_tree (filling_lines x a p)) (holding (front ++ (p ++ back)))
  filled_at a front [] back place count fit = none_lead (holding (front ++ ([] ++ back)))
  filled_at a front (e ∷ p) back place count fit =
      subst (λ k. AllLead (holding (front ++ (zeros (e ∷ p) ++ back))) (map line_tree (filling_lines x k (e ∷ p))) (holding (front ++ ((e ∷ p) ++ back)))) (sym (place (omega arith))) (piece_filled front (e ∷ p) back count fit)

  -- the elements up to a piece, and zeros behind them
  abbrev so_far : List ℤ → ℕ → List ℤ
  so_far es k = take (PIECE * k) es ++ zeros (drop (PIECE * k) es)

  one_piece : (es : List ℤ) (k : ℕ) → length es ≡ size_of ds → All (InRange ty) es → AllLead (holding (so_far es k)) (map line_tree (piece_lines x es k)) (holding (so_far es (k + 1)))
  one_piece es k count fit =
      let a : ℕ = PIECE * k in
      let front : List ℤ = take a es in
      let rest : List ℤ = drop a es in
      let p : List ℤ = take PIECE rest in
      let q : List ℤ = drop PIECE rest in
      let before : so_far es k ≡ front ++ (zeros p ++ zeros q) = ap (λ zs. front ++ zs) (ap zeros (sym (take-append-drop PIECE rest)) ∙ zeros_split p q) in
      let after : front ++ (p ++ zeros q) ≡ so_far es (k + 1) =
      sym (append_assoc front p (zeros q))
      ∙ ap₂ (λ us vs. us ++ zeros vs) (sym (take-add a PIECE es)) (drop-drop PIECE a es)
      ∙ ap (λ j. take j es ++ zeros (drop j es)) (next_place k) in
      let long : length (front ++ (zeros p ++ zeros q)) ≡ size_of ds = ap length (sym before) ∙ so_far_long es a ∙ count in
      subst (λ us. AllLead (holding us) (map line_tree (piece_lines x es k)) (holding (so_far es (k + 1)))) (sym before)
      (subst (λ us. AllLead (holding (front ++ (zeros p ++ zeros q))) (map line_tree (piece_lines x es k)) (holding us)) after
      (filled_at a front p (zeros q) (λ some. place a es (omega (arith, some, length-take PIECE rest))) long (All-take (InRange ty) PIECE rest (All-drop (InRange ty) a es fit))))
    where
      next_place : (k : ℕ) → PIECE * k + PIECE ≡ PIECE * (k + 1)
      next_place k = omega arith

      so_far_long : (es : List ℤ) (a : ℕ) → length (take a es ++ zeros (drop a es)) ≡ length es
      so_far_long es a = omega (arith, length-append (take a es) (zeros (drop a es)), zeros_long (drop a es), length-append (take a es) (drop a es), ap length (take-append-drop a es))

      place : (a : ℕ) (es : List ℤ) → 0 < length (drop a es) → a ≡ length (take a es)
      place a es some = omega (arith, some, length-drop a es, length-take a es)

  all_pieces : (count k : ℕ) (es : List ℤ) → length es ≡ size_of ds → All (InRange ty) es
      → AllLead (holding (so_far es k)) (map line_tree (flat_map (piece_lines x es) (range_with_len k count))) (holding (so_far es (k + count)))
  all_pieces zero k es long fit = subst (λ j. AllLead (holding (so_far es k)) [] (holding (so_far es j))) (plus_zero k) (none_lead (holding (so_far es k))) where
    plus_zero : (k : ℕ) → k ≡ k + 0
    plus_zero k = omega arith
  all_pieces (suc count) k es long fit =
      let first : List Line = piece_lines x es k in
      let others : List Line = flat_map (piece_lines x es) (range_with_len (k + 1) count) in
      subst (λ xs. AllLead (holding (so_far es k)) xs (holding (so_far es (k + suc count)))) (sym (map-append line_tree first others))
      (then_lead (holding (so_far es k)) (holding (so_far es (k + 1))) (holding (so_far es (k + suc count))) (map line_tree first) (map line_tree others)
      (one_piece es k long fit)
      (subst (λ j. AllLead (holding (so_far es (k + 1))) (map line_tree others) (holding (so_far es j))) (plus_suc k count) (all_pieces count (k + 1) es long fit)))
    where
      plus_suc : (k n : ℕ) → k + 1 + n ≡ k + suc n
      plus_suc k n = omega arith

  all_filled : (es : List ℤ) → length es ≡ size_of ds → All (InRange ty) es
      → AllLead (holding (zeros es)) (map line_tree (flat_map (piece_lines x es) (range_with_len 0 (piece_count (length es))))) (holding es)
  all_filled es long fit =
      subst (λ us. AllLead (holding (zeros es)) (map line_tree (flat_map (piece_lines x es) (range_with_len 0 (piece_count (length es))))) (holding us))
      (whole es (PIECE * (0 + piece_count (length es))) (enough (length es)))
      (all_pieces (piece_count (length es)) 0 es long fit)
    where
      enough : (n : ℕ) → n ≤ PIECE * (0 + piece_count n)
      enough n = omega arith

      whole : (es : List ℤ) (a : ℕ) → length es ≤ a → take a es ++ zeros (drop a es) ≡ es
      whole es a le = ap₂ (λ us vs. us ++ zeros vs) (take_all a es le) (drop_all a es le) ∙ append-nil es

-- a new name with a new array keeps all
pub resting_more : NewestKeepsAll → MoreKeepAll → (ws : Watches) (names : Named ℕ) (w : World) (x : List ℕ) (d : ArrayDef) → IsResting ws names w → ParentBelow (length w) d
    → IsResting ws (names ++ one_name x (length w)) ((length w, d) ∷ w)
resting_more keeps more ws names w x d resting parent =
    let held : List ℕ = arrays_of (names ++ one_name x (length w)) in
    record {
      idle = resting.idle;
      order = (refl, (parent, resting.order));
      below = below_arrays (suc (length w)) names (one_name x (length w)) (below_more (length w) (suc (length w)) (arrays_of names) (omega arith) resting.below) (omega arith, tt);
      kept = keeps w (length w) d held (includes_back names (one_name x (length w)) (length w) (rw (same_self (length w)) refl))
          (more w (arrays_of names) (parents d ++ held) (λ k h. includes_behind (parents d) held k (includes_front names (one_name x (length w)) k h)) resting.kept);
    }

pub root_rebuilt : FillLaws → (ws : Watches) (kernels : Named KernelTexts) (names : Named ℕ) (w : World) (x : List ℕ) (ty : Ty) (ds : List ℕ) (es : List ℤ)
    → IsResting ws names w → found names x ≡ None → length names < names_limit → IsDims ds → IsMade ty ds es
    → AllLead (state_of ws kernels names w) (map line_tree (root_lines x ty ds es)) (state_of ws kernels (names ++ one_name x (length w)) (with_root w ty ds es))
root_rebuilt laws ws kernels names w x ty ds es resting fresh few are made =
    let names' : Named ℕ = names ++ one_name x (length w) in
    let none : List ℤ = replicate (size_of ds) (pos 0) in
    let pieces : List Line = flat_map (piece_lines x es) (range_with_len 0 (piece_count (length es))) in
    first_leads (state_of ws kernels names w) (state_of ws kernels names' (with_root w ty ds none)) (state_of ws kernels names' (with_root w ty ds es)) (line_tree (root_line x ty ds)) (map line_tree pieces) refl
    (laws.roots ws kernels names w x ty ds resting fresh few are)
    (subst (λ n. AllLead (state_of ws kernels names' (with_root w ty ds (replicate n (pos 0)))) (map line_tree pieces) (state_of ws kernels names' (with_root w ty ds es))) made.count
    (all_filled laws ws kernels names' w x ty ds none (resting_more laws.keeps laws.more ws names w x (root ty ds none) resting tt) (found_last names x (length w) fresh) are es made.count made.in_range))
