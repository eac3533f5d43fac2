-- The line of a piece, and that of the least longlong.
use Rattle.std.proofs.Common.{◌≡◌, ℕ, suc, ◌+◌, ◌-◌, ◌*◌, ◌<◌, ◌≤◌, true, List, [], ◌∷◌, ◌++◌, length, refl, ◌∙◌, ap, ap₂, arith, map, ℤ, pos, negsuc, length-append}
use Rattle.std.proofs.lemmas.List.Elements.{All-head, All-tail}
use Rattle.std.specs.Prelude.{Some, None, Ok, All, codes, decimal, ◌==◌, ◌&&◌}
use Rattle.std.specs.List.{range_with_len}
use Rattle.std.specs.Option.{option_map_or}
use Rattle.std.proofs.Math.Bool.{or-true}
use Rattle.pdl_elem.specs.declared.BinaryOp.TheVariants.{Shl}
use Rattle.pdl_elem.specs.declared.Ty.{Ty}
use Rattle.pdl_elem.specs.declared.Ty.TheVariants.{Byte, Long, Longlong}
use Rattle.pdl_elem.specs.Laws.{WrappingLaws}
use Rattle.pdl_elem.specs.Numbers.{wrapped}
use Rattle.pdl_elem.specs.Types.{InRange}
use Rattle.pdl_buf.specs.declared.made.Made.{Made}
use Rattle.pdl_shape.specs.Laws.{PositionLaws, SizeLaws}
use Rattle.pdl_shape.specs.Places.{write}
use Rattle.pdl_shape.specs.Shape.{IsDims, size_of}
use Rattle.pdl_shape.specs.Stretched.{stretched}
use Rattle.pdl_slices.specs.declared.SliceArg.{SliceArg}
use Rattle.pdl_slices.specs.declared.SliceArg.TheVariants.{One, Span}
use Rattle.pdl_slices.specs.Meaning.{TextsHaveOneMeaning, slice_of}
use Rattle.pdl_affine.specs.declared.Affine.TheVariants as affine
use Rattle.pdl_lexemes.specs.declared.AssignOp.TheVariants.{Set}
use Rattle.pdl_lexemes.specs.Lists.{type_of}
use Rattle.pdl_ops.specs.Parts.{StretchedToItself}
use Rattle.pdl_ops.specs.Values.{fits}
use Rattle.pdl_syntax.specs.Tree.{Tree, named, number, binary, call, none, value, text}
use Rattle.pdl_syntax.specs.StatementTree.{assign}
use Rattle.pdl_reread.specs.Trees.{range_text, list_tree}
use Rattle.pdl_world.specs.declared.Trans.{Trans}
use Rattle.pdl_world.specs.declared.Trans.TheVariants.{Affine}
use Rattle.pdl_world.specs.Formula.{child_dims}
use Rattle.pdl_world.specs.KeepingLaws.{NewestKeepsAll, NewestIsKept}
use Rattle.pdl_world.specs.Laws.{NewRootHasPath, NewViewHasPath}
use Rattle.pdl_world.specs.Refused.{refusal_at, view_refusal}
use Rattle.pdl_world.specs.Swept.{KeepsAll}
use Rattle.pdl_world.specs.World.{World, ArrayDef, root, view, Look, look_of_root, look, through, root_elements, set_elements, assign_through, elements, assign as assign_in}
use Rattle.pdl_machine.specs.declared.builtin.Builtin.TheVariants.{Arranged}
use Rattle.pdl_machine.specs.declared.builtin.Arrangement.TheVariants.{Flat}
use Rattle.pdl_machine.specs.Arrays.{Arrays, with_new, array_in}
use Rattle.pdl_machine.specs.Names.{KernelTexts, Named, Names, found}
use Rattle.pdl_machine.specs.Operators.{values_for}
use Rattle.pdl_machine.specs.State.{with_arrays}
use Rattle.pdl_machine.specs.Step.{assigned, assigning, target, unless_flow}
use Rattle.pdl_machine.specs.Then.{and_then}
use Rattle.pdl_machine.specs.Value.{value_of}
use Rattle.pdl_machine.specs.Operators.{binary_each}
use Rattle.pdl_machine.specs.Outcome.{new_root}
use Rattle.pdl_ops.specs.Elementwise.{converted}
use Rattle.pdl_machine.specs.Watches.{Watches}
use Rattle.pdl_rebuild.specs.Made.{with_root, PiecesAreGiven, LeastAreGiven}
use Rattle.pdl_rebuild.specs.Rebuilt.{state_with, state_of, InOrder, arrays_of, IsResting}
use Rattle.pdl_rebuild.specs.Steps.{Leads}
use Rattle.pdl_rebuild.proofs.TreeArguments.{NumberLaws}
use Rattle.pdl_rebuild.proofs.TreeCalls.{viewed_call, name_taken, slice_valued}
use Rattle.pdl_rebuild.proofs.StepLeads.{leads_by}
use Rattle.pdl_rebuild.proofs.RebuiltPassing.{with_all, with_all_is, numbered_from, numbered_within, order_below, AreFine, all_fine, live_by, Stays, all_stay, root_shown, array_stays}
use Rattle.pdl_rebuild.proofs.WorldPlaces.{flat, from_to, at_one, range_look, flat_dims, flats, span_dims, spans, one_dims, ones, writes}
use Rattle.pdl_rebuild.proofs.MeaningSpelled.{span_read, one_read}
use Rattle.pdl_rebuild.proofs.RebuiltTidied.{same_self, not_same, AllWithin, tidy_passing}

-- what is seen through a new view
look_view : (w : World) (k p : ℕ) (t : Trans) (l : Look) → look w p ≡ Some l → look ((k, view p t) ∷ w) k ≡ through t l
look_view w k p t l is = rw (same_self k, is) refl

-- arrays of other numbers have nothing to do with a root's elements
others_elements : (n j : ℕ) (passing w : World) (r : ℕ) → r < n → AllWithin n j passing → root_elements (passing ++ w) r ≡ root_elements w r
others_elements n j [] w r below within = refl
others_elements n j ((k, root ty ds es) ∷ passing) w r below within = rw (not_same k r (λ e. omega (arith, e, within.0, below))) (others_elements n j passing w r below within.1.1)
others_elements n j ((k, view p t) ∷ passing) w r below within = others_elements n j passing w r below within.1.1

others_stay : (n j : ℕ) (passing w : World) (r : ℕ) (new : List ℤ) → r < n → AllWithin n j passing → set_elements (passing ++ w) r new ≡ passing ++ set_elements w r new
others_stay n j [] w r new below within = refl
others_stay n j ((k, root ty ds es) ∷ passing) w r new below within = rw (not_same k r (λ e. omega (arith, e, within.0, below))) (ap (λ u. (k, root ty ds es) ∷ u) (others_stay n j passing w r new below within.1.1))
others_stay n j ((k, view p t) ∷ passing) w r new below within = ap (λ u. (k, view p t) ∷ u) (others_stay n j passing w r new below within.1.1)

older_stay : (w : World) (r : ℕ) (new : List ℤ) → InOrder w → length w ≤ r → set_elements w r new ≡ w
older_stay [] r new order above = refl
older_stay ((k, root ty ds es) ∷ w) r new order above = ap₂ (λ d u. (k, d) ∷ u) (rw (not_same k r (λ e. omega (arith, e, order.0, above)))) (older_stay w r new order.1.1 (omega arith))
older_stay ((k, view p t) ∷ w) r new order above = ap (λ u. (k, view p t) ∷ u) (older_stay w r new order.1.1 (omega arith))

fits_itself : (k : ℕ) → fits (k ∷ []) (k ∷ []) ≡ true
fits_itself k = rw (same_self k) (ap (λ b. b && true) (or-true (k == 1)))

wrapped_same : WrappingLaws → (ty : Ty) (es : List ℤ) → All (InRange ty) es → map (wrapped ty) es ≡ es
wrapped_same laws ty [] fit = refl
wrapped_same laws ty (e ∷ es) fit = ap₂ (λ x xs. x ∷ xs) (laws.same ty e (All-head (InRange ty) e es fit)) (wrapped_same laws ty es (All-tail (InRange ty) e es fit))

pub record PieceLaws : Type 0 where
  pub numbers : NumberLaws
  pub root_path : NewRootHasPath
  pub view_path : NewViewHasPath
  pub positions : PositionLaws
  pub sizes : SizeLaws
  pub itself : StretchedToItself
  pub meaning : TextsHaveOneMeaning
  pub keeps : NewestKeepsAll
  pub kept : NewestIsKept

-- numbers in one dimension over as many positions of a root
module _ (laws : PieceLaws) (ws : Watches) (kernels : Named KernelTexts) (names : Named ℕ) (w : World) (x : List ℕ) (ty : Ty) (ds : List ℕ) (es : List ℤ)
    (resting : IsResting ws names (with_root w ty ds es)) (bound : found names x ≡ Some (length w)) (are : IsDims ds) where
  abbrev by_name : Names
  by_name = record { arrays = names; kernels = kernels }

  abbrev at_first : Arrays
  at_first = record { world = with_root w ty ds es; next = suc (length w) }

  abbrev flattened : Arrays
  flattened = (with_new at_first (view (length w) flat)).0

  abbrev parted : Trans → Arrays
  parted t = (with_new flattened (view (suc (length w)) t)).0

  root_look : look (with_root w ty ds es) (length w) ≡ Some (look_of_root (length w) ty ds)
  root_look = laws.numbers.whole w (length w) ty ds es

  flat_look : look flattened.world (suc (length w)) ≡ Some (range_look (length w) ty 0 (size_of ds))
  flat_look = look_view (with_root w ty ds es) (suc (length w)) (length w) flat (look_of_root (length w) ty ds) root_look ∙ flats laws.positions laws.sizes (length w) ty ds are

  flat_allowed : view_refusal (with_root w ty ds es) (length w) flat ≡ None
  flat_allowed =
      ap₂ (λ p o. refusal_at p (child_dims flat (option_map_or (λ l. l.dims) o []))) (laws.root_path w (length w) ty ds es) root_look
      ∙ ap (refusal_at (length w ∷ [])) (flat_dims laws.sizes ds are)

  flat_valued : value_of by_name at_first (call (codes "flat") (value none (named x))) ≡ Ok (flattened, suc (length w))
  flat_valued =
      viewed_call by_name at_first at_first (codes "flat") (value none (named x)) (length w) [] (Arranged Flat) flat
      (name_taken by_name at_first x (length w) bound) refl refl flat_allowed

  -- a part of it, by a slice
  module _ (t : List ℕ) (args : List SliceArg) (m a : ℕ) (read : slice_of t ≡ Ok args)
      (dims : child_dims (Affine (affine.Slice args)) (size_of ds ∷ []) ≡ Ok (m ∷ []))
      (seen : through (Affine (affine.Slice args)) (range_look (length w) ty 0 (size_of ds)) ≡ Some (range_look (length w) ty a m)) where
    abbrev by_args : Trans
    by_args = Affine (affine.Slice args)

    part_look : look (parted by_args).world (suc (length w) + 1) ≡ Some (range_look (length w) ty a m)
    part_look = look_view flattened.world (suc (length w) + 1) (suc (length w)) by_args (range_look (length w) ty 0 (size_of ds)) flat_look ∙ seen

    part_allowed : view_refusal flattened.world (suc (length w)) by_args ≡ None
    part_allowed =
        ap₂ (λ p o. refusal_at p (child_dims by_args (option_map_or (λ l. l.dims) o [])))
        (laws.view_path (with_root w ty ds es) (suc (length w)) (length w) flat ∙ ap (λ p. suc (length w) ∷ p) (laws.root_path w (length w) ty ds es)) flat_look
        ∙ ap (refusal_at (suc (length w) ∷ length w ∷ [])) dims

    part_valued : value_of by_name at_first (target x ((codes "flat", none) ∷ (codes "slice", text none t) ∷ [])) ≡ Ok (parted by_args, suc (length w) + 1)
    part_valued = slice_valued by_name at_first flattened (call (codes "flat") (value none (named x))) (suc (length w)) t args flat_valued read part_allowed

    -- values that a new array behind it has
    module _ (defs : List ArrayDef) (j : ℕ) (source : Tree) (given : Made) (vs new : List ℤ)
        (valued : value_of by_name (parted by_args) source ≡ Ok (with_all (parted by_args) defs, j))
        (made : array_in (with_all (parted by_args) defs) j ≡ given)
        (fit : fits given.dims (m ∷ []) ≡ true) (stretches : map (wrapped ty) (stretched given.dims (m ∷ []) given.elems) ≡ vs)
        (writes_new : write (map Some (range_with_len a m)) vs es ≡ new) where
      abbrev at_end : Arrays
      at_end = with_all (parted by_args) defs

      first_fine : AreFine at_first
      first_fine = order_below (with_root w ty ds es) resting.order

      part_stays : Stays (parted by_args) at_end (suc (length w) + 1)
      part_stays =
          all_stay laws.numbers.older (parted by_args) (suc (length w) + 1) defs
          (all_fine at_first (view (length w) flat ∷ view (suc (length w)) by_args ∷ []) first_fine)
          (live_by (parted by_args).world (suc (length w) + 1) (range_look (length w) ty a m) part_look)

      end_look : look at_end.world (suc (length w) + 1) ≡ Some (range_look (length w) ty a m)
      end_look = part_stays.look_is ∙ part_look

      values_are : values_for Set (array_in at_end (suc (length w) + 1)) (array_in at_end j) ≡ Ok vs
      values_are =
          ap₂ (λ o r. values_for Set (record { ty = option_map_or (λ l. l.ty) o Byte; dims = option_map_or (λ l. l.dims) o []; elems = elements at_end.world (suc (length w) + 1) }) r) end_look made
          ∙ rw fit (ap Ok stretches)

      abbrev all_new : List ArrayDef
      all_new = view (length w) flat ∷ view (suc (length w)) by_args ∷ defs

      abbrev passing : World
      passing = numbered_from (suc (length w)) all_new

      end_is : at_end ≡ record { world = passing ++ with_root w ty ds es; next = suc (length w) + length all_new }
      end_is = with_all_is (with_root w ty ds es) (suc (length w)) all_new

      end_world : at_end.world ≡ passing ++ with_root w ty ds es
      end_world = ap (λ b. b.world) end_is

      within : AllWithin (suc (length w)) (suc (length w) + length all_new) passing
      within = numbered_within (suc (length w)) all_new

      own_elements : root_elements (with_root w ty ds es) (length w) ≡ es
      own_elements = rw (same_self (length w)) refl

      own_set : set_elements (with_root w ty ds es) (length w) new ≡ with_root w ty ds new
      own_set = rw (same_self (length w)) (ap (λ u. (length w, root ty ds new) ∷ u) (older_stay w (length w) new resting.order.1.1 (omega arith)))

      written : assign_in at_end.world (suc (length w) + 1) vs ≡ passing ++ with_root w ty ds new
      written =
          ap (λ o. assign_through at_end.world o vs) end_look
          ∙ ap (λ u. set_elements u (length w) (write (map Some (range_with_len a m)) vs (root_elements u (length w)))) end_world
          ∙ ap (λ zs. set_elements (passing ++ with_root w ty ds es) (length w) (write (map Some (range_with_len a m)) vs zs))
          (others_elements (suc (length w)) (suc (length w) + length all_new) passing (with_root w ty ds es) (length w) (omega arith) within ∙ own_elements)
          ∙ ap (set_elements (passing ++ with_root w ty ds es) (length w)) writes_new
          ∙ others_stay (suc (length w)) (suc (length w) + length all_new) passing (with_root w ty ds es) (length w) new (omega arith) within
          ∙ ap (λ u. passing ++ u) own_set

      assigned_is : assigned Set at_end (suc (length w) + 1) j ≡ Ok (record { world = passing ++ with_root w ty ds new; next = suc (length w) + length all_new })
      assigned_is =
          ap (λ r. and_then r (λ values. Ok (record { world = assign_in at_end.world (suc (length w) + 1) values; next = at_end.next }))) values_are
          ∙ ap₂ (λ u n. Ok (record { world = u; next = n })) written (ap (λ b. b.next) end_is)

      assigning_is : assigning (state_of ws kernels names (with_root w ty ds es)) (target x ((codes "flat", none) ∷ (codes "slice", text none t) ∷ [])) Set source
          ≡ Ok (state_with ws kernels names (passing ++ with_root w ty ds new) (suc (length w) + length all_new), [])
      assigning_is =
          ap (λ r. and_then (and_then r (unless_flow [])) (λ v. and_then (value_of by_name v.0 source) (λ u. and_then (assigned Set u.0 v.1 u.1) (λ b. Ok (with_arrays (state_of ws kernels names (with_root w ty ds es)) b, []))))) part_valued
          ∙ ap (λ r. and_then r (λ u. and_then (assigned Set u.0 (suc (length w) + 1) u.1) (λ b. Ok (with_arrays (state_of ws kernels names (with_root w ty ds es)) b, [])))) valued
          ∙ ap (λ r. and_then r (λ b. Ok (with_arrays (state_of ws kernels names (with_root w ty ds es)) b, []))) assigned_is

      still_kept : KeepsAll (with_root w ty ds new) (arrays_of names)
      still_kept =
          let newest = laws.kept w (length w) (root ty ds es) (arrays_of names) resting.kept in
          laws.keeps w (length w) (root ty ds new) (arrays_of names) newest.newest newest.others

      pub part_given : Leads (state_of ws kernels names (with_root w ty ds es)) (assign x ((codes "flat", none) ∷ (codes "slice", text none t) ∷ []) Set source) (state_of ws kernels names (with_root w ty ds new))
      part_given =
          leads_by ws (state_of ws kernels names (with_root w ty ds es)) (state_with ws kernels names (passing ++ with_root w ty ds new) (suc (length w) + length all_new))
          (state_of ws kernels names (with_root w ty ds new)) (assign x ((codes "flat", none) ∷ (codes "slice", text none t) ∷ []) Set source) resting.idle refl refl (λ present. refl)
          (λ present. assigning_is)
          (tidy_passing ws resting.idle kernels names passing (with_root w ty ds new) (suc (length w) + length all_new) (refl, (tt, resting.order.1.1)) within resting.below still_kept)

-- the length of a part of a root's elements
part_fits : (ds : List ℕ) (front old back : List ℤ) → length (front ++ (old ++ back)) ≡ size_of ds → length front + length old ≤ size_of ds
part_fits ds front old back count = omega (arith, count, length-append front (old ++ back), length-append old back)

pub pieces_are_given : PieceLaws → PiecesAreGiven
pieces_are_given laws ws kernels names w x ty ds front old back n ns resting bound are count many in_range =
    let a : ℕ = length front in
    let b : ℕ = length front + length ns in
    let m : ℕ = length (n ∷ ns) in
    let large : size_of ds ≤ 1048576 = omega (arith, laws.sizes.size_within ds, are.within) in
    let inside : b < size_of ds = omega (arith, part_fits ds front old back count, many) in
    let size : b - a + 1 ≡ m = sum a (length ns) in
    part_given laws ws kernels names w x ty ds (front ++ (old ++ back)) resting bound are
    (range_text a b) (Span (Some (pos a)) (Some (pos b)) None ∷ []) m a (span_read laws.meaning a b (omega (arith, large, inside)) (omega (arith, large, inside)))
    (span_dims (size_of ds) a b large (omega arith) inside ∙ ap (λ k. Ok (k ∷ [])) size)
    (spans laws.positions (length w) ty (size_of ds) a b large (omega arith) inside ∙ ap (λ k. Some (range_look (length w) ty a k)) size)
    (root (type_of (n ∷ ns)) (m ∷ []) (n ∷ ns) ∷ []) (suc (length w) + 1 + 1) (list_tree (n ∷ ns)) (record { ty = type_of (n ∷ ns); dims = m ∷ []; elems = n ∷ ns }) (n ∷ ns) (front ++ ((n ∷ ns) ++ back))
    refl (root_shown laws.numbers.seen (parted laws ws kernels names w x ty ds (front ++ (old ++ back)) resting bound are (from_to a b)) (type_of (n ∷ ns)) (m ∷ []) (n ∷ ns) (times_one m))
    (fits_itself m) (ap (map (wrapped ty)) (laws.itself (m ∷ []) (n ∷ ns) (times_one m)) ∙ wrapped_same laws.numbers.wrapping ty (n ∷ ns) in_range)
    (writes front (n ∷ ns) old back many)
  where
    sum : (a k : ℕ) → a + k - a + 1 ≡ suc k
    sum a k = omega arith

    times_one : (m : ℕ) → m ≡ m * 1
    times_one m = omega arith

-- what `longlong(1) << 63` is
abbrev least : ℤ
least = negsuc 9223372036854775807

abbrev least_tree : Tree
least_tree = binary Shl (call (codes "longlong") (value none (number (pos 1)))) (number (pos 63))

abbrev least_defs : List ArrayDef
least_defs = root Long [] (pos 1 ∷ []) ∷ root Longlong [] (pos 1 ∷ []) ∷ root Long [] (pos 63 ∷ []) ∷ root Longlong [] (least ∷ []) ∷ []

least_valued : NumberLaws → (names : Names) (a : Arrays) → AreFine a → value_of names a least_tree ≡ Ok (with_all a least_defs, a.next + 1 + 1 + 1)
least_valued laws names a fine =
    let b : Arrays = (with_new a (root Long [] (pos 1 ∷ []))).0 in
    let c : Arrays = (with_new b (root Longlong [] (pos 1 ∷ []))).0 in
    let d : Arrays = (with_new c (root Long [] (pos 63 ∷ []))).0 in
    let one : array_in d (a.next + 1) ≡ record { ty = Longlong; dims = []; elems = pos 1 ∷ [] } =
    array_stays c d (a.next + 1)
    (all_stay laws.older c (a.next + 1) (root Long [] (pos 63 ∷ []) ∷ []) (all_fine a (root Long [] (pos 1 ∷ []) ∷ root Longlong [] (pos 1 ∷ []) ∷ []) fine)
    (live_by c.world (a.next + 1) (look_of_root (a.next + 1) Longlong []) (laws.whole b.world b.next Longlong [] (pos 1 ∷ []))))
    ∙ root_shown laws.seen b Longlong [] (pos 1 ∷ []) refl in
    ap (λ m. and_then (new_root b (converted Longlong m)) (λ v. and_then (value_of names v.0 (number (pos 63))) (λ u. and_then (binary_each Shl (array_in u.0 v.1) (array_in u.0 u.1)) (new_root u.0))))
    (root_shown laws.seen a Long [] (pos 1 ∷ []) refl)
    ∙ ap₂ (λ m k. and_then (binary_each Shl m k) (new_root d)) one (root_shown laws.seen c Long [] (pos 63 ∷ []) refl)

pub least_are_given : PieceLaws → LeastAreGiven
least_are_given laws ws kernels names w x ds front old back resting bound are count =
    let p : ℕ = length front in
    let large : size_of ds ≤ 1048576 = omega (arith, laws.sizes.size_within ds, are.within) in
    let inside : p < size_of ds = omega (arith, part_fits ds front (old ∷ []) back count) in
    let c : Arrays = parted laws ws kernels names w x Longlong ds (front ++ (old ∷ back)) resting bound are (at_one p) in
    part_given laws ws kernels names w x Longlong ds (front ++ (old ∷ back)) resting bound are
    (decimal p) (One (pos p) ∷ []) 1 p (one_read laws.meaning p (omega (arith, large, inside)))
    (one_dims (size_of ds) p inside) (ones laws.positions (length w) Longlong (size_of ds) p inside)
    least_defs (c.next + 1 + 1 + 1) least_tree (record { ty = Longlong; dims = []; elems = least ∷ [] }) (least ∷ []) (front ++ (least ∷ back))
    (least_valued laws.numbers (record { arrays = names; kernels = kernels }) c
    (all_fine (record { world = with_root w Longlong ds (front ++ (old ∷ back)); next = suc (length w) }) (view (length w) flat ∷ view (suc (length w)) (at_one p) ∷ []) (order_below (with_root w Longlong ds (front ++ (old ∷ back))) resting.order)))
    (root_shown laws.numbers.seen (with_all c (root Long [] (pos 1 ∷ []) ∷ root Longlong [] (pos 1 ∷ []) ∷ root Long [] (pos 63 ∷ []) ∷ [])) Longlong [] (least ∷ []) refl)
    refl refl
    (writes front (least ∷ []) (old ∷ []) back refl)
