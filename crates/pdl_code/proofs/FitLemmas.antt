-- Code of which no name is refused fits its signature.
use borrow.Author.Count.{below_more}
use Rattle.std.proofs.Common.{◌≡◌, ◌≢◌, ℕ, zero, suc, ◌+◌, ◌<◌, ◌≤◌, List, [], ◌∷◌, ◌++◌, length, get_or, refl, sym, ap, subst, ◌∙◌, arith, eqb, eqb-true, eq-eqb, nat_eq}
use Rattle.std.specs.Prelude.{Bool, true, false, not, ◌||◌, max, ◌==◌, if◌then◌else◌, nat_lt, Option, Some, None, option_map, slice_set, All}
use Rattle.std.specs.List.{IsDistinct, AllByRecursion, list_any}
use Rattle.std.proofs.lemmas.List.{get_or-set_same, get_or-set_other, length-set}
use Rattle.std.proofs.lemmas.List.Folds.{list_any_at}
use Rattle.std.proofs.lemmas.Bool.{ltb-false, ne_eqb, false_from_ne_true, true≢false, or_parts}
use Rattle.std.proofs.lemmas.Map.Steps.{length-le_from_distinct_below}
use Rattle.pdl_lemmas.specs.Options.{some_inj, none_some, then_elim, map_elim}
use Rattle.pdl_sig.specs.declared.Role.{Role}
use Rattle.pdl_sig.specs.declared.Role.TheVariants.{Input, Output, Both, Temp}
use Rattle.pdl_sig.specs.declared.SigArg.{SigArg}
use Rattle.pdl_sig.specs.declared.Signature.{Signature}
use Rattle.pdl_sig.specs.declared.SigFault.TheVariants.{TooManyNames, TwiceNamed, NoOutput, OpenSize}
use Rattle.pdl_sig.specs.Resolution.{is_output}
use Rattle.pdl_sig.specs.Refusals.{IsWellFormed, has_open, has_twice, is_twice_named, has_one_name}
use Rattle.pdl_code.specs.declared.fault.KernelFault.{KernelFault}
use Rattle.pdl_code.specs.declared.fault.KernelFault.TheVariants.{UnknownDim, WriteToInput}
use Rattle.pdl_code.specs.declared.lexeme.Span.{Span}
use Rattle.pdl_code.specs.declared.scope.Meant.{Meant}
use Rattle.pdl_code.specs.declared.scope.Meant.TheVariants.{InSlot, Dim, Unknown}
use Rattle.pdl_code.specs.Fit.{argument_of, nobody, places_of, IsAccessFit, IsTreeFit, AreIndicesFit, IsLeft, IsStepFit, IsCodeFit, locals_after, step_locals, code_locals}
use Rattle.pdl_code.specs.declared.names.Target.TheVariants.{New, Named}
use Rattle.pdl_code.specs.declared.names.Variable.TheVariants.{Index}
use Rattle.pdl_code.specs.Tree.{Tree, Indices, named, along, size, RawTree, RawIndices, RawStep, RawCode, number, access, unary, binary, none, repeat, choose, keep, put, done, next}
use Rattle.pdl_code.specs.Refused.{argument_at, axis_wrong, behind_name, code_code, code_wrongs, index_code, index_wrongs, is_input, loop_wrong, looped, mark, meant_tree, named_argument, named_dim, no_dim, or_zero, primary_wrong, scope_after, slot_of, step_code, step_wrongs, target_wrong, tree_code, tree_wrongs, when}
use Rattle.pdl_code.specs.Scope.{Scope, axis_of, bytes_of, dim_place, meant, no_flags, or_local, place_by, slot_in, within}
use Rattle.pdl_code.specs.Declaring.{raw_after, raw_locals, raw_step_locals}
use Rattle.pdl_code.proofs.DeclaringLemmas.{after_count}

-- lists without an element
first_none : {A : Type 0} (xs ys : List A) → xs ++ ys ≡ [] → xs ≡ []
first_none [] ys e = refl
first_none (x ∷ xs) ys e = cc

second_none : {A : Type 0} (xs ys : List A) → xs ++ ys ≡ [] → ys ≡ []
second_none [] ys e = e
second_none (x ∷ xs) ys e = cc

-- a place is within the list
place_step : {A : Type 0} (test : A → Bool) (x : A) (xs : List A) (k : ℕ) (b : Bool) → ((j : ℕ) → place_by test xs ≡ Some j → j < length xs)
    → (if b then Some 0 else option_map (λ j. suc j) (place_by test xs)) ≡ Some k → k < length (x ∷ xs)
place_step test x xs k true rest h = subst (λ j. j < length (x ∷ xs)) (some_inj h) (omega arith)
place_step test x xs k false rest h =
    map_elim (k < length (x ∷ xs)) (λ j. suc j) (place_by test xs) h
    (λ j at is. let below = rest j at in subst (λ i. i < length (x ∷ xs)) is (omega (arith, below)))

pub place_below : {A : Type 0} (test : A → Bool) (xs : List A) (k : ℕ) → place_by test xs ≡ Some k → k < length xs
place_below test [] k e = absurd (none_some e)
place_below test (x ∷ xs) k e = place_step test x xs k (test x) (λ j at. place_below test xs j at) e

-- how many dimensions, from place k on, aren't marked
abbrev unmarked : List ℕ → ℕ → List Bool → ℕ
unmarked [] k given = 0
unmarked (d ∷ ds) k given = if get_or given k false then unmarked ds (k + 1) given else suc (unmarked ds (k + 1) given)

none_marked : (ds : List ℕ) (k : ℕ) (given : List Bool) → ((i : ℕ) → get_or given i false ≡ false) → unmarked ds k given ≡ length ds
none_marked [] k given clear = refl
none_marked (d ∷ ds) k given clear =
    ap (λ b. if b then unmarked ds (k + 1) given else suc (unmarked ds (k + 1) given)) (clear k)
    ∙ ap (λ n. suc n) (none_marked ds (k + 1) given clear)

marked_before : (ds : List ℕ) (j k : ℕ) (given : List Bool) → k < j → unmarked ds j (slice_set given k true) ≡ unmarked ds j given
marked_before [] j k given lt = refl
marked_before (d ∷ ds) j k given lt =
    ap (λ b. if b then unmarked ds (j + 1) (slice_set given k true) else suc (unmarked ds (j + 1) (slice_set given k true)))
    (get_or-set_other given k j true false (λ e. omega (arith, e, lt)))
    ∙ ap (λ n. if get_or given j false then n else suc n) (marked_before ds (j + 1) k given (omega (arith, lt)))

-- a mark takes one away
mark_here : (ds : List ℕ) (d j k : ℕ) (given : List Bool) → j ≡ k → k < length given → get_or given k false ≡ false
    → unmarked (d ∷ ds) j given ≡ suc (unmarked (d ∷ ds) j (slice_set given k true))
mark_here ds d j k given same within clear =
    let marked = slice_set given k true in
    ap (λ b. if b then unmarked ds (j + 1) given else suc (unmarked ds (j + 1) given)) (ap (λ i. get_or given i false) same ∙ clear)
    ∙ ap (λ n. suc n) (sym (marked_before ds (j + 1) k given (omega (arith, same))))
    ∙ sym (ap (λ b. suc (if b then unmarked ds (j + 1) marked else suc (unmarked ds (j + 1) marked)))
    (ap (λ i. get_or marked i false) same ∙ get_or-set_same given k true false within))

same_flag : (b c : Bool) (n : ℕ) → c ≡ b → (if b then suc n else suc (suc n)) ≡ suc (if c then n else suc n)
same_flag true true n e = refl
same_flag false false n e = refl
same_flag true false n e = cc
same_flag false true n e = cc

mark_later : (ds : List ℕ) (d j k : ℕ) (given : List Bool) → (j ≡ k → ⊥) → unmarked ds (j + 1) given ≡ suc (unmarked ds (j + 1) (slice_set given k true))
    → unmarked (d ∷ ds) j given ≡ suc (unmarked (d ∷ ds) j (slice_set given k true))
mark_later ds d j k given other more =
    ap (λ n. if get_or given j false then n else suc n) more
    ∙ same_flag (get_or given j false) (get_or (slice_set given k true) j false) (unmarked ds (j + 1) (slice_set given k true)) (get_or-set_other given k j true false other)

mark_step : (ds : List ℕ) (d j k : ℕ) (given : List Bool) (b : Bool) → nat_eq j k ≡ b → k < length given → get_or given k false ≡ false
    → ((j ≡ k → ⊥) → unmarked ds (j + 1) given ≡ suc (unmarked ds (j + 1) (slice_set given k true)))
    → unmarked (d ∷ ds) j given ≡ suc (unmarked (d ∷ ds) j (slice_set given k true))
mark_step ds d j k given true t within clear more = mark_here ds d j k given (eqb-true j k t) within clear
mark_step ds d j k given false t within clear more =
    let other : j ≡ k → ⊥ = λ e. true≢false (sym (eq-eqb j k e) ∙ t) in
    mark_later ds d j k given other (more other)

one_marked : (ds : List ℕ) (j k : ℕ) (given : List Bool) → j ≤ k → k < j + length ds → k < length given → get_or given k false ≡ false
    → unmarked ds j given ≡ suc (unmarked ds j (slice_set given k true))
one_marked [] j k given le lt within clear = absurd (omega (arith, le, lt))
one_marked (d ∷ ds) j k given le lt within clear =
    mark_step ds d j k given (nat_eq j k) refl within clear
    (λ other. one_marked ds (j + 1) k given (omega (arith, le, other)) (omega (arith, lt)) within clear)

looped_step : (ds : List ℕ) (d k : ℕ) (given : List Bool) (b : Bool) → length (places_of (looped ds (k + 1) given)) ≡ unmarked ds (k + 1) given
    → length (places_of (if b then looped ds (k + 1) given else along k (named (Index d)) (looped ds (k + 1) given))) ≡ (if b then unmarked ds (k + 1) given else suc (unmarked ds (k + 1) given))
looped_step ds d k given true rest = rest
looped_step ds d k given false rest = ap (λ n. suc n) rest

looped_count : (ds : List ℕ) (k : ℕ) (given : List Bool) → length (places_of (looped ds k given)) ≡ unmarked ds k given
looped_count [] k given = refl
looped_count (d ∷ ds) k given = looped_step ds d k given (get_or given k false) (looped_count ds (k + 1) given)

looped_same : (ds : List ℕ) (j k : ℕ) (given : List Bool) → k < j → looped ds j (slice_set given k true) ≡ looped ds j given
looped_same [] j k given lt = refl
looped_same (d ∷ ds) j k given lt =
    ap (λ b. if b then looped ds (j + 1) (slice_set given k true) else along j (named (Index d)) (looped ds (j + 1) (slice_set given k true)))
    (get_or-set_other given k j true false (λ e. omega (arith, e, lt)))
    ∙ ap (λ is. if get_or given j false then is else along j (named (Index d)) is) (looped_same ds (j + 1) k given (omega (arith, lt)))

left_step : (n j d : ℕ) (ds : List ℕ) (given : List Bool) (b : Bool) → j < n → get_or given j false ≡ b → (b ≡ true → IsLeft n given (looped ds (j + 1) given))
    → (b ≡ false → IsLeft n (slice_set given j true) (looped ds (j + 1) given)) → IsLeft n given (if b then looped ds (j + 1) given else along j (named (Index d)) (looped ds (j + 1) given))
left_step n j d ds given true lt at whole other = whole refl
left_step n j d ds given false lt at whole other = (lt, at, other refl)

-- the dimensions that aren't given have one index each
looped_left : (n : ℕ) (ds : List ℕ) (j : ℕ) (given : List Bool) → n ≡ j + length ds → length given ≡ 8 → n ≤ 8 → ((k : ℕ) → k < j → get_or given k false ≡ true)
    → IsLeft n given (looped ds j given)
looped_left n [] j given same eight few before = λ k lt. before k (omega (arith, lt, same))
looped_left n (d ∷ ds) j given same eight few before =
    left_step n j d ds given (get_or given j false) (omega (arith, same)) refl
    (λ t. looped_left n ds (j + 1) given (omega (arith, same)) eight few (below_more (λ k. get_or given k false ≡ true) j before t))
    (λ f. subst (IsLeft n (slice_set given j true)) (looped_same ds (j + 1) j given (omega arith))
    (looped_left n ds (j + 1) (slice_set given j true) (omega (arith, same)) (length-set given j true ∙ eight) few
    (below_more (λ k. get_or (slice_set given j true) k false ≡ true) j (λ k lt. get_or-set_other given j k true false (λ e. omega (arith, e, lt)) ∙ before k lt)
    (get_or-set_same given j true false (omega (arith, same, eight, few))))))

-- a role that is no input's
not_input : (r : Role) → is_input r ≡ false → r ≢ Input
not_input Input h e = cc
not_input Output h e = cc
not_input Both h e = cc
not_input Temp h e = cc

-- what a test that refuses nothing says
unrefused : (b : Bool) (r : KernelFault) → when b r ≡ [] → b ≡ false
unrefused true r e = cc
unrefused false r e = refl

-- numbers of which none stands twice
to_distinct : (xs : List ℕ) → has_twice nat_eq xs ≡ false → IsDistinct eqb xs
unfolding IsDistinct
to_distinct [] e = tt
to_distinct (x ∷ xs) e = (apart x xs (or_parts (list_any (nat_eq x) xs) (has_twice nat_eq xs) e).0, to_distinct xs (or_parts (list_any (nat_eq x) xs) (has_twice nat_eq xs) e).1)
  where
    apart : (x : ℕ) (ys : List ℕ) → list_any (nat_eq x) ys ≡ false → AllByRecursion (λ y. nat_eq x y ≡ false) ys
    apart x [] h = tt
    apart x (y ∷ ys) h = ((or_parts (nat_eq x y) (list_any (nat_eq x) ys) h).0, apart x ys (or_parts (nat_eq x y) (list_any (nat_eq x) ys) h).1)

-- what a signature that isn't refused says of its arguments
allowed_tests : (a b c d : Bool) {A : Type 0} (x y : A) (rest : Option A) → (if a || b then Some x else (if c || d then Some y else rest)) ≡ None → (b ≡ false) × (c ≡ false)
allowed_tests true b c d x y rest e = absurd (none_some (sym e))
allowed_tests false true c d x y rest e = absurd (none_some (sym e))
allowed_tests false false true d x y rest e = absurd (none_some (sym e))
allowed_tests false false false d x y rest e = (refl, refl)

below_step : (x : ℕ) (xs : List ℕ) (n q : ℕ) (b : Bool) → nat_eq q x ≡ b → All (λ y. y < n) (x ∷ xs) → (list_any (nat_eq q) xs ≡ true → q < n) → (b || list_any (nat_eq q) xs) ≡ true → q < n
below_step x xs n q true t all rest h = let first = all 0 0 (omega arith) in omega (arith, eqb-true q x t, first)
below_step x xs n q false t all rest h = rest h

below_any : (xs : List ℕ) (n q : ℕ) → All (λ x. x < n) xs → list_any (nat_eq q) xs ≡ true → q < n
below_any [] n q all e = cc
below_any (x ∷ xs) n q all e = below_step x xs n q (nat_eq q x) refl all (λ h. below_any xs n q (λ k d lt. all (suc k) d (omega (arith, lt))) h) e

neither : (p q : Bool) → (p || q) ≡ false → q ≡ true → ⊥
neither true q e h = cc
neither false q e h = cc

module _ (s : Signature) (w : IsWellFormed s) where
  tests : (nat_lt 8 (length s.names) ≡ false) × (is_twice_named s.args ≡ false)
  tests =
      allowed_tests (nat_lt 16 (length s.args)) (nat_lt 8 (length s.names)) (is_twice_named s.args) false TooManyNames TwiceNamed
      (if not (list_any (λ (a : SigArg). is_output a.role) s.args) then Some NoOutput else (if has_open s.args 0 s.fixed then Some OpenSize else None))
      w.allowed

  at_most_eight : length s.names ≤ 8
  at_most_eight = ltb-false 8 (length s.names) tests.0

  pub dims_below : (a : ℕ) → a < length s.args → All (λ n. n < length s.names) (argument_of s a).dims
  dims_below a lt = w.numbers a nobody lt

  dims_apart : (a : ℕ) → a < length s.args → has_twice nat_eq (argument_of s a).dims ≡ false
  dims_apart a lt =
      false_from_ne_true (has_twice nat_eq (argument_of s a).dims) (λ twice.
      let found = list_any_at (λ (x : SigArg). has_twice nat_eq x.dims) s.args a nobody lt twice in
      neither (has_twice has_one_name s.args) (list_any (λ (x : SigArg). has_twice nat_eq x.dims) s.args) tests.1 found)

  pub rank_within : (a : ℕ) → a < length s.args → length (argument_of s a).dims ≤ 8
  rank_within a lt =
      let ds = (argument_of s a).dims in
      let count = length-le_from_distinct_below ds (length s.names) (to_distinct ds (dims_apart a lt)) (λ q h. below_any ds (length s.names) q (dims_below a lt) h) in
      omega (arith, count, at_most_eight)

meant_slot : (p q : Option ℕ) (k : ℕ) → or_local p q ≡ InSlot k → p ≡ Some k
meant_slot (Some j) q k e = cc
meant_slot None (Some d) k e = cc
meant_slot None None k e = cc

meant_dim : (p q : Option ℕ) (d : ℕ) → or_local p q ≡ Dim d → q ≡ Some d
meant_dim (Some j) q d e = cc
meant_dim None (Some i) d e = cc
meant_dim None None d e = cc

module _ (source : List ℕ) (s : Signature) (wf : IsWellFormed s) where
  slot_below : (c : Scope) (w : Span) (k : ℕ) → meant source s c.locals w ≡ InSlot k → k < length c.locals
  slot_below c w k e = place_below _ c.locals k (meant_slot (slot_in source c.locals (bytes_of source w)) (dim_place s (bytes_of source w)) k e)

  size_fits : (n : ℕ) (w : Span) (p : Option ℕ) → named_dim source s w ≡ p → no_dim w p ≡ [] → IsTreeFit s n (size (or_zero p))
  size_fits n w None at e = cc
  size_fits n w (Some d) at e = place_below _ s.names d at

  word_fits : (c : Scope) (w : Span) (m : Meant) → meant source s c.locals w ≡ m → primary_wrong c.loops w m ≡ [] → IsTreeFit s (length c.locals) (meant_tree m)
  word_fits c w (InSlot k) at e = slot_below c w k at
  word_fits c w (Dim d) at e = place_below _ s.names d (meant_dim (slot_in source c.locals (bytes_of source w)) (dim_place s (bytes_of source w)) d at)
  word_fits c w Unknown at e = tt

  axis_below : (ds : List ℕ) (name : List ℕ) (k : ℕ) → axis_of s ds name ≡ Some k → k < length ds
  axis_below ds name k e = then_elim (k < length ds) _ (dim_place s name) e (λ d at found. place_below _ ds k found)

  -- the indices of loops
  looped_step_fits : (n rank d k : ℕ) (ds : List ℕ) (given : List Bool) (b : Bool) → k < rank → d < length s.names → AreIndicesFit s n rank (looped ds (k + 1) given)
      → AreIndicesFit s n rank (if b then looped ds (k + 1) given else along k (named (Index d)) (looped ds (k + 1) given))
  looped_step_fits n rank d k ds given true lt below rest = rest
  looped_step_fits n rank d k ds given false lt below rest = (lt, below, rest)

  looped_fits : (n rank : ℕ) (ds : List ℕ) (k : ℕ) (given : List Bool) → k + length ds ≤ rank → All (λ d. d < length s.names) ds → AreIndicesFit s n rank (looped ds k given)
  looped_fits n rank [] k given le all = tt
  looped_fits n rank (d ∷ ds) k given le all =
      looped_step_fits n rank d k ds given (get_or given k false) (omega (arith, le)) (all 0 0 (omega arith))
      (looped_fits n rank ds (k + 1) given (omega (arith, le)) (λ i x lt. all (suc i) x (omega (arith, lt))))

  -- as many indices as there are dimensions left, and each fits
  pub record Fits (n : ℕ) (ds : List ℕ) (given : List Bool) (is : Indices) : Type 0 where
    pub count : length (places_of is) ≡ unmarked ds 0 given
    pub fit : AreIndicesFit s n (length ds) is
    pub left : IsLeft (length ds) given is

  along_fits : (n : ℕ) (ds : List ℕ) (given : List Bool) (w : Span) (e : Tree) (f : List Bool → Indices) (ws : List KernelFault) (rs : List Bool → List KernelFault) (p : Option ℕ)
      → axis_of s ds (bytes_of source w) ≡ p → axis_wrong w given p ++ (ws ++ rs (mark given p)) ≡ [] → length given ≡ 8 → length ds ≤ 8
      → (ws ≡ [] → IsTreeFit s n e) → ((g : List Bool) → rs g ≡ [] → length g ≡ 8 → Fits n ds g (f g)) → Fits n ds given (along (or_zero p) e (f (mark given p)))
  along_fits n ds given w e f ws rs None at wrongs eight few tree rest = cc
  along_fits n ds given w e f ws rs (Some k) at wrongs eight few tree rest =
      let below = axis_below ds (bytes_of source w) k at in
      let clear = unrefused (get_or given k false) (UnknownDim w.from) (first_none (axis_wrong w given (Some k)) (ws ++ rs (mark given (Some k))) wrongs) in
      let inner = second_none (axis_wrong w given (Some k)) (ws ++ rs (mark given (Some k))) wrongs in
      let found = rest (slice_set given k true) (second_none ws (rs (slice_set given k true)) inner) (length-set given k true ∙ eight) in
      record {
        count = ap (λ m. suc m) found.count ∙ sym (one_marked ds 0 k given (omega arith) (omega (arith, below)) (omega (arith, below, few, eight)) clear);
        fit = (below, tree (first_none ws (rs (slice_set given k true)) inner), found.fit);
        left = (below, clear, found.left);
      }

  no_mark : (i : ℕ) → get_or no_flags i false ≡ false
  no_mark zero = refl
  no_mark (suc zero) = refl
  no_mark (suc (suc zero)) = refl
  no_mark (suc (suc (suc zero))) = refl
  no_mark (suc (suc (suc (suc zero)))) = refl
  no_mark (suc (suc (suc (suc (suc zero))))) = refl
  no_mark (suc (suc (suc (suc (suc (suc zero)))))) = refl
  no_mark (suc (suc (suc (suc (suc (suc (suc zero))))))) = refl
  no_mark (suc (suc (suc (suc (suc (suc (suc (suc i)))))))) = refl

  access_fits : (n : ℕ) (w : Span) (f : List ℕ → Indices) (rs : List ℕ → List KernelFault) (p : Option ℕ) → named_argument source s w ≡ p
      → behind_name w p (rs (argument_at s p).dims) ≡ []
      → ((ds : List ℕ) → rs ds ≡ [] → length ds ≤ 8 → All (λ d. d < length s.names) ds → Fits n ds no_flags (f ds))
      → IsAccessFit s n (or_zero p) (f (argument_at s p).dims)
  access_fits n w f rs None at wrongs rest = cc
  access_fits n w f rs (Some a) at wrongs rest =
      let below = place_below _ s.args a at in
      let ds = (argument_of s a).dims in
      let found = rest ds wrongs (rank_within s wf a below) (dims_below s wf a below) in
      (below, found.count ∙ none_marked ds 0 no_flags no_mark, found.fit, found.left)

  mutual
    pub tree_fits : (c : Scope) (t : RawTree) → tree_wrongs source s c t ≡ [] → IsTreeFit s (length c.locals) (tree_code source s c t)
    tree_fits c (number z) e = tt
    tree_fits c (size w) e = size_fits (length c.locals) w (named_dim source s w) refl e
    tree_fits c (named w) e = word_fits c w (meant source s c.locals w) refl e
    tree_fits c (access o is) e =
        access_fits (length c.locals) o.name (λ ds. index_code source s c ds no_flags is) (λ ds. index_wrongs source s c ds no_flags o.close is) (named_argument source s o.name) refl e
        (λ ds h few all. index_fits c ds no_flags o.close is h refl few all)
    tree_fits c (unary op x) e = tree_fits c x e
    tree_fits c (binary op x y) e =
        (tree_fits c x (first_none (tree_wrongs source s c x) (tree_wrongs source s c y) e), tree_fits c y (second_none (tree_wrongs source s c x) (tree_wrongs source s c y) e))

    pub index_fits : (c : Scope) (ds : List ℕ) (given : List Bool) (at : ℕ) (is : RawIndices) → index_wrongs source s c ds given at is ≡ [] → length given ≡ 8 → length ds ≤ 8
        → All (λ d. d < length s.names) ds → Fits (length c.locals) ds given (index_code source s c ds given is)
    index_fits c ds given at none e eight few all =
        record { count = looped_count ds 0 given; fit = looped_fits (length c.locals) (length ds) ds 0 given (omega arith) all; left = looped_left (length ds) ds 0 given (omega arith) eight few (λ k lt. absurd (omega (arith, lt))) }
    index_fits c ds given at (along w t rest) e eight few all =
        along_fits (length c.locals) ds given w (tree_code source s c t) (λ g. index_code source s c ds g rest) (tree_wrongs source s c t) (λ g. index_wrongs source s c ds g at rest)
        (axis_of s ds (bytes_of source w)) refl e eight few (λ h. tree_fits c t h) (λ g h k. index_fits c ds g at rest h k few all)

  -- the word of a loop, and of an assignment
  loop_fits : (c : Scope) (w : Span) (p : Option ℕ) → named_dim source s w ≡ p → loop_wrong c.loops w p ≡ [] → or_zero p < length s.names
  loop_fits c w None at e = cc
  loop_fits c w (Some d) at e = place_below _ s.names d at

  target_fits : (c : Scope) (w : Span) (m : Meant) → meant source s c.locals w ≡ m → target_wrong w m ≡ [] → slot_of m < length c.locals
  target_fits c w (InSlot k) at e = slot_below c w k at
  target_fits c w (Dim d) at e = cc
  target_fits c w Unknown at e = cc

  put_role : (w : Span) (rs : Option ℕ → List KernelFault) (p : Option ℕ) → behind_name w p (when (is_input (argument_at s p).role) (WriteToInput w.from) ++ rs p) ≡ []
      → ((argument_of s (or_zero p)).role ≢ Input) × (behind_name w p (rs p) ≡ [])
  put_role w rs None e = cc
  put_role w rs (Some a) e =
      let role = (argument_of s a).role in
      let test = when (is_input role) (WriteToInput w.from) in
      (not_input role (unrefused (is_input role) (WriteToInput w.from) (first_none test (rs (Some a)) e)), second_none test (rs (Some a)) e)

  -- how many locals are visible after a statement
  kept : (n k : ℕ) → k < n → (if k == n then suc n else n) ≡ n
  kept n k lt = ap (λ b. if b then suc n else n) (ne_eqb k n (λ e. omega (arith, lt, e)))

  one_more : (n : ℕ) → (if n == n then suc n else n) ≡ suc n
  one_more n = ap (λ b. if b then suc n else n) (eq-eqb n n refl)

  locals_is : (c : Scope) (t : RawStep) → step_wrongs source s c t ≡ [] → locals_after (length c.locals) (step_code source s c t) ≡ raw_after (length c.locals) t
  locals_is c (repeat w body) e = refl
  locals_is c (choose x whole other) e = refl
  locals_is c (keep (New ty w) op x) e = one_more (length c.locals)
  locals_is c (keep (Named w) op x) e =
      let m = meant source s c.locals w in
      kept (length c.locals) (slot_of m) (target_fits c w m refl (first_none (target_wrong w m) (tree_wrongs source s c x) e))
  locals_is c (put o is op x) e = refl

  mutual
    pub step_fits : (c : Scope) (t : RawStep) → step_wrongs source s c t ≡ [] → IsStepFit s (length c.locals) (step_code source s c t)
    step_fits c (repeat w body) e =
        let d = named_dim source s w in
        let inner = code_wrongs source s (within c (or_zero d)) body in
        (loop_fits c w d refl (first_none (loop_wrong c.loops w d) inner e), code_fits (within c (or_zero d)) body (second_none (loop_wrong c.loops w d) inner e))
    step_fits c (choose x whole other) e =
        let a = tree_wrongs source s c x in
        let p = code_wrongs source s c whole in
        let q = code_wrongs source s c other in
        let both = second_none a (p ++ q) e in
        (tree_fits c x (first_none a (p ++ q) e), code_fits c whole (first_none p q both), code_fits c other (second_none p q both))
    step_fits c (keep (New ty w) op x) e = (omega arith, tree_fits c x e)
    step_fits c (keep (Named w) op x) e =
        let m = meant source s c.locals w in
        let below = target_fits c w m refl (first_none (target_wrong w m) (tree_wrongs source s c x) e) in
        (omega (arith, below), tree_fits c x (second_none (target_wrong w m) (tree_wrongs source s c x) e))
    step_fits c (put o is op x) e =
        let p = named_argument source s o.name in
        let name = behind_name o.name p (when (is_input (argument_at s p).role) (WriteToInput o.name.from) ++ index_wrongs source s c (argument_at s p).dims no_flags o.close is) in
        let role = put_role o.name (λ q. index_wrongs source s c (argument_at s q).dims no_flags o.close is) p (first_none name (tree_wrongs source s c x) e) in (
          role.0,
          access_fits (length c.locals) o.name (λ ds. index_code source s c ds no_flags is) (λ ds. index_wrongs source s c ds no_flags o.close is) p refl role.1
              (λ ds h few all. index_fits c ds no_flags o.close is h refl few all),
          tree_fits c x (second_none name (tree_wrongs source s c x) e),
        )

    pub code_fits : (c : Scope) (t : RawCode) → code_wrongs source s c t ≡ [] → IsCodeFit s (length c.locals) (code_code source s c t)
    code_fits c done e = tt
    code_fits c (next t rest) e =
        let here = first_none (step_wrongs source s c t) (code_wrongs source s (scope_after c t) rest) e in (
          step_fits c t here,
          subst (λ n. IsCodeFit s n (code_code source s (scope_after c t) rest)) (after_count c t ∙ sym (locals_is c t here))
              (code_fits (scope_after c t) rest (second_none (step_wrongs source s c t) (code_wrongs source s (scope_after c t) rest) e)),
        )

  mutual
    pub step_count : (c : Scope) (t : RawStep) → step_wrongs source s c t ≡ [] → raw_step_locals (length c.locals) t ≡ step_locals (length c.locals) (step_code source s c t)
    step_count c (repeat w body) e =
        let d = named_dim source s w in
        code_count (within c (or_zero d)) body (second_none (loop_wrong c.loops w d) (code_wrongs source s (within c (or_zero d)) body) e)
    step_count c (choose x whole other) e =
        let a = tree_wrongs source s c x in
        let p = code_wrongs source s c whole in
        let q = code_wrongs source s c other in
        let both = second_none a (p ++ q) e in
        let n = length c.locals in
        ap (λ m. max m (raw_locals n other)) (code_count c whole (first_none p q both)) ∙ ap (max (code_locals n (code_code source s c whole))) (code_count c other (second_none p q both))
    step_count c (keep (New ty w) op x) e = sym (one_more (length c.locals))
    step_count c (keep (Named w) op x) e = sym (locals_is c (keep (Named w) op x) e)
    step_count c (put o is op x) e = refl

    pub code_count : (c : Scope) (t : RawCode) → code_wrongs source s c t ≡ [] → raw_locals (length c.locals) t ≡ code_locals (length c.locals) (code_code source s c t)
    code_count c done e = refl
    code_count c (next t rest) e =
        let here = first_none (step_wrongs source s c t) (code_wrongs source s (scope_after c t) rest) e in
        let n = length c.locals in
        let after = scope_after c t in
        let code = code_code source s after rest in
        ap (λ m. max m (raw_locals (raw_after n t) rest)) (step_count c t here)
        ∙ ap (max (step_locals n (step_code source s c t)))
        (ap (λ m. raw_locals m rest) (sym (after_count c t))
        ∙ code_count after rest (second_none (step_wrongs source s c t) (code_wrongs source s after rest) e)
        ∙ ap (λ m. code_locals m code) (after_count c t ∙ sym (locals_is c t here)))
