-- The arrays of a dump so far, each by its own name.
use Rattle.std.proofs.Common.{◌≡◌, ℕ, zero, suc, ◌+◌, ◌<◌, ◌≤◌, ◌^◌, true, false, List, [], ◌∷◌, ◌++◌, length, refl, sym, ◌∙◌, subst, arith, map, length-append, append_assoc, eqb-true, ℤ, pos}
use Rattle.std.proofs.lemmas.Bool.{eq-eqb}
use Rattle.std.proofs.lemmas.Int.{ints}
use Rattle.std.proofs.lemmas.List.{map-append}
use Rattle.std.proofs.lemmas.List.Elements.{All-cons, All-nil}
use Rattle.std.proofs.lemmas.List.FromFn.{length-map-range_with_len}
use Rattle.std.specs.List.{range_with_len, list_any}
use Rattle.std.specs.Prelude.{Some, None, All, ◌==◌, if◌then◌else◌, is_some, codes, decimal}
use Rattle.pdl_lemmas.specs.Tests.{by_test}
use Rattle.pdl_elem.specs.declared.Ty.{Ty}
use Rattle.pdl_elem.specs.declared.Ty.TheVariants.{Byte, Longlong}
use Rattle.pdl_elem.specs.Types.{InRange}
use Rattle.pdl_buf.specs.Made.{IsMade}
use Rattle.pdl_shape.specs.Shape.{IsDims, size_of}
use Rattle.pdl_world.specs.declared.Trans.{Trans}
use Rattle.pdl_world.specs.declared.Trans.TheVariants as trans
use Rattle.pdl_world.specs.Sound.{IsShowable}
use Rattle.pdl_world.specs.World.{World, ArrayDef, root, view}
use Rattle.pdl_image.specs.Dump.{affine_call, edge_number, mask_of, root_lines, array_lines, world_lines}
use Rattle.pdl_image.specs.Lines.{Call, Line, chosen, ranged, view_line, undef_line}
use Rattle.pdl_image.specs.Stems.{name_at, index_name, is_in}
use Rattle.pdl_reread.specs.Trees.{line_tree}
use Rattle.pdl_machine.specs.Names.{KernelTexts, Named, found, names_limit}
use Rattle.pdl_machine.specs.State.{State}
use Rattle.pdl_machine.specs.Watches.{Watches}
use Rattle.pdl_rebuild.specs.Named.{LastButOneGoes}
use Rattle.pdl_rebuild.specs.Rebuilt.{state_of, one_name, InOrder, ParentBelow, IsResting}
use Rattle.pdl_rebuild.specs.Shown.{IsReadAgain, AffineViewsAreMade, IsChosenBy, by_index, by_mask, by_corners, ChosenViewsAreMade}
use Rattle.pdl_rebuild.specs.Steps.{Leads, AllLead}
use Rattle.pdl_rebuild.proofs.MadeFilling.{FillLaws, resting_more, root_rebuilt}
use Rattle.pdl_rebuild.proofs.StepLeads.{none_lead, first_leads, then_lead, one_leads}
use Rattle.pdl_rebuild.proofs.RebuiltTexts.{found_front, found_back, found_last, one_new, names_differ, index_differs}

-- what is wanted of an array so that its lines make it again, in the world of the older ones
abbrev pub CanRemake : World → ArrayDef → Type 0
CanRemake w (root ty ds es) = IsDims ds × IsMade ty ds es
CanRemake w (view p (trans.Affine t)) = IsShowable w p (trans.Affine t) × IsReadAgain (affine_call t)
CanRemake w (view p (trans.Index dims ind)) = IsShowable w p (trans.Index dims ind) × (IsDims dims × IsMade Longlong dims ind)
CanRemake w (view p (trans.Where dims places)) = IsShowable w p (trans.Where dims places) × IsDims dims
CanRemake w (view p (trans.Range dims ind sizes edge)) = IsShowable w p (trans.Range dims ind sizes edge) × (IsDims dims × IsMade Longlong dims ind)

abbrev pub AllCanRemake : World → Type 0
AllCanRemake [] = Unit {0}
AllCanRemake ((k, d) ∷ w) = CanRemake w d × AllCanRemake w

-- the names of a dump's arrays
abbrev pub stems : List ℕ → World → Named ℕ
stems stem [] = []
stems stem ((k, d) ∷ w) = stems stem w ++ one_name (name_at stem k) k

pub stems_long : (stem : List ℕ) (w : World) → length (stems stem w) ≡ length w
stems_long stem [] = refl
stems_long stem ((k, d) ∷ w) = omega (arith, length-append (stems stem w) (one_name (name_at stem k) k), stems_long stem w)

stem_new : (stem : List ℕ) (w : World) (j : ℕ) → InOrder w → length w ≤ j → j < 2 ^ 64 → found (stems stem w) (name_at stem j) ≡ None
stem_new stem [] j order above small = refl
stem_new stem ((k, d) ∷ w) j order above small =
    found_back (stems stem w) (one_name (name_at stem k) k) (name_at stem j) (stem_new stem w j order.1.1 (omega arith) small)
    ∙ one_new (name_at stem k) (name_at stem j) k (λ same. names_differ stem j k small (omega (arith, order.0, above, small)) (λ e. omega (arith, e, order.0, above)) same)

pub stem_found : (stem : List ℕ) (w : World) (j : ℕ) → InOrder w → length w ≤ 512 → j < length w → found (stems stem w) (name_at stem j) ≡ Some j
stem_found stem [] j order few below = absurd (omega arith)
stem_found stem ((k, d) ∷ w) j order few below =
    by_test (j == k)
    (λ same. last (eqb-true j k same))
    (λ other. found_front (stems stem w) (one_name (name_at stem k) k) (name_at stem j) j (stem_found stem w j order.1.1 (omega arith) (smaller other)))
  where
    last : j ≡ k → found (stems stem w ++ one_name (name_at stem k) k) (name_at stem j) ≡ Some j
    last e = subst (λ i. found (stems stem w ++ one_name (name_at stem k) k) (name_at stem i) ≡ Some i) (sym e)
        (found_last (stems stem w) (name_at stem k) k (stem_new stem w k order.1.1 (omega (arith, order.0)) (omega (arith, order.0, few))))

    smaller : (j == k) ≡ false → j < length w
    smaller other = below_last j k (length w) order.0 (λ e. no_eq e other) below where
      no_eq : j ≡ k → (j == k) ≡ false → ⊥
      no_eq e other = let yes : (j == k) ≡ true = eq-eqb j k e in absurd (cc)

      below_last : (j k n : ℕ) → k ≡ n → (j ≡ k → ⊥) → j < suc n → j < n
      below_last j k n is differ below = omega arith

index_new : (stem : List ℕ) (w : World) → InOrder w → length w ≤ 512 → found (stems stem w) (index_name stem) ≡ None
index_new stem [] order few = refl
index_new stem ((k, d) ∷ w) order few =
    found_back (stems stem w) (one_name (name_at stem k) k) (index_name stem) (index_new stem w order.1.1 (omega arith))
    ∙ one_new (name_at stem k) (index_name stem) k (index_differs stem k (omega (arith, order.0, few)))

pub apart_new : (stem : List ℕ) (w : World) (x : List ℕ) → ((rest : List ℕ) → x ≡ stem ++ rest → ⊥) → found (stems stem w) x ≡ None
apart_new stem [] x apart = refl
apart_new stem ((k, d) ∷ w) x apart =
    found_back (stems stem w) (one_name (name_at stem k) k) x (apart_new stem w x apart) ∙ one_new (name_at stem k) x k (apart (decimal k))

pub record RemakeLaws : Type 0 where
  pub fill : FillLaws
  pub affine : AffineViewsAreMade
  pub chosen : ChosenViewsAreMade
  pub goes : LastButOneGoes

mask_in_range : (places : List ℕ) (a n : ℕ) → All (InRange Byte) (map (λ p. if is_in places p then pos 1 else pos 0) (range_with_len a n))
mask_in_range places a zero = All-nil (InRange Byte)
mask_in_range places a (suc n) =
    All-cons (InRange Byte) (if is_in places a then pos 1 else pos 0) (map (λ p. if is_in places p then pos 1 else pos 0) (range_with_len (a + 1) n))
    (by_test (is_in places a) (λ yes'. rw yes' (omega (arith, ints), omega (arith, ints))) (λ no'. rw no' (omega (arith, ints), omega (arith, ints))))
    (mask_in_range places (a + 1) n)

mask_made : (dims places : List ℕ) → IsMade Byte dims (mask_of (size_of dims) places)
mask_made dims places = record {
  count = length-map-range_with_len (λ p. if is_in places p then pos 1 else pos 0) 0 (size_of dims);
  in_range = mask_in_range places 0 (size_of dims);
}

module _ (laws : RemakeLaws) (ws : Watches) (idle : list_any is_some ws ≡ false) (kernels : Named KernelTexts) (stem : List ℕ) where
  -- the state after the lines of these arrays
  abbrev pub rebuilt : World → State
  rebuilt w = state_of ws kernels (stems stem w) w

  pub stems_rest : (w : World) → InOrder w → IsResting ws (stems stem w) w
  stems_rest [] order = record { idle = idle; order = tt; below = tt; kept = refl }
  stems_rest ((k, d) ∷ w) order =
      subst (λ j. IsResting ws (stems stem w ++ one_name (name_at stem j) j) ((j, d) ∷ w)) (sym order.0)
      (resting_more laws.fill.keeps laws.fill.more ws (stems stem w) w (name_at stem (length w)) d (stems_rest w order.1.1) order.1.0)

  few_names : (w : World) → length w + 1 < 512 → length (stems stem w) < names_limit
  few_names w few = omega (arith, few, stems_long stem w)

  -- an array that chooses is made, then the view by it, and then its name goes
  chosen_rebuilt : (w : World) (p : ℕ) (t : Trans) (call : Call) (ty : Ty) (dims : List ℕ) (es : List ℤ) → InOrder w → length w + 1 < 512 → p < length w → IsShowable w p t → IsChosenBy (index_name stem) t call (root ty dims es)
      → IsDims dims → IsMade ty dims es
      → AllLead (rebuilt w) (map line_tree (root_lines (index_name stem) ty dims es ++ (view_line (name_at stem (length w)) (name_at stem p) call ∷ undef_line (index_name stem) ∷ []))) (rebuilt ((length w, view p t) ∷ w))
  chosen_rebuilt w p t call ty dims es order few below show choice are made =
      let n : ℕ = length w in
      let x : List ℕ = name_at stem n in
      let index : List ℕ = index_name stem in
      let names' : Named ℕ = stems stem w ++ one_name index n in
      let d : ArrayDef = root ty dims es in
      let mid : State = state_of ws kernels names' ((n, d) ∷ w) in
      let shown : State = state_of ws kernels (names' ++ one_name x (suc n)) ((suc n, view p t) ∷ ((n, d) ∷ w)) in
      let front : List Line = root_lines index ty dims es in
      let rest : List Line = view_line x (name_at stem p) call ∷ undef_line index ∷ [] in
      let index_fresh : found (stems stem w) index ≡ None = index_new stem w order (omega arith) in
      let x_fresh : found names' x ≡ None =
      found_back (stems stem w) (one_name index n) x (stem_new stem w n order (omega arith) (omega arith)) ∙ one_new index x n (λ same. index_differs stem n (omega arith) (sym same)) in
      let goes : Leads shown (line_tree (undef_line index)) (rebuilt ((n, view p t) ∷ w)) =
      subst (λ ns. Leads (state_of ws kernels ns ((suc n, view p t) ∷ ((n, d) ∷ w))) (line_tree (undef_line index)) (rebuilt ((n, view p t) ∷ w))) (sym (append_assoc (stems stem w) (one_name index n) (one_name x (suc n))))
      (laws.goes ws kernels (stems stem w) w index x d (view p t) (stems_rest w order) index_fresh below) in
      subst (λ xs. AllLead (rebuilt w) xs (rebuilt ((n, view p t) ∷ w))) (sym (map-append line_tree front rest))
      (then_lead (rebuilt w) mid (rebuilt ((n, view p t) ∷ w)) (map line_tree front) (map line_tree rest)
      (root_rebuilt laws.fill ws kernels (stems stem w) w index ty dims es (stems_rest w order) index_fresh (few_names w few) are made)
      (first_leads mid shown (rebuilt ((n, view p t) ∷ w)) (line_tree (view_line x (name_at stem p) call)) (line_tree (undef_line index) ∷ []) refl
      (laws.chosen ws kernels names' w x (name_at stem p) index p t call d
      (resting_more laws.fill.keeps laws.fill.more ws (stems stem w) w index d (stems_rest w order) tt)
      x_fresh (omega (arith, few, stems_long stem w, length-append (stems stem w) (one_name index n)))
      (found_front (stems stem w) (one_name index n) (name_at stem p) p (stem_found stem w p order (omega arith) below))
      (found_last (stems stem w) index n index_fresh) show choice)
      (one_leads shown (rebuilt ((n, view p t) ∷ w)) (line_tree (undef_line index)) refl goes)))

  -- all lines of one array
  array_rebuilt : (w : World) (d : ArrayDef) → InOrder w → ParentBelow (length w) d → CanRemake w d → length w + 1 < 512
      → AllLead (rebuilt w) (map line_tree (array_lines stem (length w) d)) (rebuilt ((length w, d) ∷ w))
  array_rebuilt w (root ty ds es) order parent can few =
      root_rebuilt laws.fill ws kernels (stems stem w) w (name_at stem (length w)) ty ds es (stems_rest w order) (stem_new stem w (length w) order (omega arith) (omega arith)) (few_names w few) can.0 can.1
  array_rebuilt w (view p (trans.Affine t)) order parent can few =
      one_leads (rebuilt w) (rebuilt ((length w, view p (trans.Affine t)) ∷ w)) (line_tree (view_line (name_at stem (length w)) (name_at stem p) (affine_call t))) refl
      (laws.affine ws kernels (stems stem w) w (name_at stem (length w)) (name_at stem p) p t (stems_rest w order) (stem_new stem w (length w) order (omega arith) (omega arith)) (few_names w few)
      (stem_found stem w p order (omega arith) parent) can.0 can.1)
  array_rebuilt w (view p (trans.Index dims ind)) order parent can few =
      chosen_rebuilt w p (trans.Index dims ind) (chosen (codes "index") (index_name stem)) Longlong dims ind order few parent can.0 (by_index dims ind can.1.1.count) can.1.0 can.1.1
  array_rebuilt w (view p (trans.Where dims places)) order parent can few =
      chosen_rebuilt w p (trans.Where dims places) (chosen (codes "where") (index_name stem)) Byte dims (mask_of (size_of dims) places) order few parent can.0 (by_mask dims places) can.1 (mask_made dims places)
  array_rebuilt w (view p (trans.Range dims ind sizes edge)) order parent can few =
      chosen_rebuilt w p (trans.Range dims ind sizes edge) (ranged (index_name stem) sizes (edge_number edge)) Longlong dims ind order few parent can.0 (by_corners dims ind sizes edge can.1.1.count) can.1.0 can.1.1

  -- the lines of all arrays
  pub world_rebuilt : (w : World) → InOrder w → AllCanRemake w → length w < 512
      → AllLead (state_of ws kernels [] []) (map line_tree (world_lines stem w)) (rebuilt w)
  world_rebuilt [] order can few = none_lead (state_of ws kernels [] [])
  world_rebuilt ((k, d) ∷ w) order can few =
      subst (λ xs. AllLead (state_of ws kernels [] []) xs (rebuilt ((k, d) ∷ w))) (sym (map-append line_tree (world_lines stem w) (array_lines stem k d)))
      (then_lead (state_of ws kernels [] []) (rebuilt w) (rebuilt ((k, d) ∷ w)) (map line_tree (world_lines stem w)) (map line_tree (array_lines stem k d))
      (world_rebuilt w order.1.1 can.1 (omega arith))
      (subst (λ j. AllLead (rebuilt w) (map line_tree (array_lines stem j d)) (rebuilt ((j, d) ∷ w))) (sym order.0) (array_rebuilt w d order.1.1 order.1.0 can.0 (omega arith))))
