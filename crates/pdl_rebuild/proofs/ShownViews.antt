-- The lines of views.
use Rattle.std.proofs.Common.{◌≡◌, ℕ, suc, ◌+◌, ◌*◌, ◌<◌, true, false, List, [], ◌∷◌, ◌++◌, length, refl, sym, ◌∙◌, ap, ap₂, subst, arith, ℤ, pos}
use Rattle.std.proofs.lemmas.List.FromFn.{length-map-range_with_len}
use Rattle.std.specs.Prelude.{Some, None, Ok, codes, IsSomeAnd, if◌then◌else◌}
use Rattle.pdl_elem.specs.declared.Ty.TheVariants.{Byte, Longlong}
use Rattle.pdl_shape.specs.Shape.{size_of}
use Rattle.pdl_slices.specs.Written.{slice_text, WrittenTextsAreRead}
use Rattle.pdl_affine.specs.declared.Affine.{Affine}
use Rattle.pdl_affine.specs.declared.Affine.TheVariants as affine
use Rattle.pdl_choice.specs.declared.edges.Edge.{Edge}
use Rattle.pdl_choice.specs.declared.edges.Edge.TheVariants.{Refuse, Zero, Nearest, Periodic}
use Rattle.pdl_choice.specs.Where.{which}
use Rattle.pdl_lexemes.specs.Lists.{type_of}
use Rattle.pdl_syntax.specs.StatementTree.{bind}
use Rattle.pdl_syntax.specs.Tree.{Args, named, number, call, none, value}
use Rattle.pdl_world.specs.declared.Trans.{Trans}
use Rattle.pdl_world.specs.declared.Trans.TheVariants as trans
use Rattle.pdl_world.specs.KeepingLaws.{MoreKeepAll}
use Rattle.pdl_world.specs.Laws.{LiveLieBelow}
use Rattle.pdl_world.specs.Refused.{view_refusal}
use Rattle.pdl_world.specs.Sound.{IsShowable, IsLive}
use Rattle.pdl_world.specs.World.{World, ArrayDef, root, view, look_of_root}
use Rattle.pdl_image.specs.Dump.{affine_call, edge_number, mask_of}
use Rattle.pdl_image.specs.Laws.{MasksChoose}
use Rattle.pdl_image.specs.Lines.{Call, chosen, ranged}
use Rattle.pdl_image.specs.Stems.{is_in}
use Rattle.pdl_reread.specs.Trees.{with_numbers, list_tree, call_tree}
use Rattle.pdl_machine.specs.declared.builtin.Arrangement.{Arrangement}
use Rattle.pdl_machine.specs.declared.builtin.Arrangement.TheVariants as word
use Rattle.pdl_machine.specs.declared.builtin.Builtin.TheVariants.{Arranged, Index, Where, Range}
use Rattle.pdl_machine.specs.declared.fault.Fault.TheVariants.{WrongArguments}
use Rattle.pdl_machine.specs.Arrays.{Arrays, with_new, array_in}
use Rattle.pdl_machine.specs.Builtin.{builtin_of}
use Rattle.pdl_machine.specs.Names.{KernelTexts, Named, Names, found, names_limit}
use Rattle.pdl_machine.specs.Outcome.{array, viewed}
use Rattle.pdl_machine.specs.Then.{and_then, or_fault}
use Rattle.pdl_machine.specs.Value.{value_of, known, taken}
use Rattle.pdl_machine.specs.Views.{arranged, look_up, edge_of, range_by}
use Rattle.pdl_machine.specs.Watches.{Watches}
use Rattle.pdl_rebuild.specs.Rebuilt.{state_of, one_name, IsResting, InOrder}
use Rattle.pdl_rebuild.specs.Shown.{IsReadAgain, AffineViewsAreMade, by_index, by_mask, by_corners, ChosenViewsAreMade}
use Rattle.pdl_rebuild.specs.Steps.{Leads}
use Rattle.pdl_rebuild.proofs.TreeArguments.{NumberLaws, all_defs, numbers_from, numbers_taken, numbers_seen, AllCanNegate, fitting_negate}
use Rattle.pdl_rebuild.proofs.RebuiltBindings.{new_bound}
use Rattle.pdl_rebuild.proofs.TreeCalls.{viewed_call, name_taken, value_taken, slice_valued}
use Rattle.pdl_rebuild.proofs.RebuiltPassing.{with_all, with_all_is, numbered_from, numbered_within, numbers_more, order_below, AreFine, new_fine, live_by, Stays, all_stay, array_stays, refusal_stays, root_shown}

pub record ViewLaws : Type 0 where
  pub numbers : NumberLaws
  pub more : MoreKeepAll
  pub below : LiveLieBelow
  pub texts : WrittenTextsAreRead
  pub masks : MasksChoose

-- the view words with numbers, and what they are written with
arranged_valued : ViewLaws → (names : Names) (a : Arrays) (y : List ℕ) (p : ℕ) (f : List ℕ) (r : Arrangement) (ns : List ℤ) (t : Affine) → AreFine a → IsLive a.world p
    → found names.arrays y ≡ Some p → builtin_of f ≡ Some (Arranged r) → arranged r ns ≡ Some t → AllCanNegate ns → view_refusal a.world p (trans.Affine t) ≡ None
    → value_of names a (call f (with_numbers (value none (named y)) ns)) ≡ Ok (with_new (with_all a (all_defs ns)) (view p (trans.Affine t)))
arranged_valued laws names a y p f r ns t fine live is word_is arranged_is can allowed =
    let b : Arrays = with_all a (all_defs ns) in
    viewed_call names a b f (with_numbers (value none (named y)) ns) p (numbers_from a.next ns) (Arranged r) (trans.Affine t)
    (numbers_taken laws.numbers names a a (value none (named y)) (array p ∷ []) ns can (name_taken names a y p is))
    word_is
    (ap (λ o. and_then (or_fault WrongArguments o) (λ ms. and_then (or_fault WrongArguments (arranged r ms)) (λ u. Ok (viewed (trans.Affine u))))) (numbers_seen laws.numbers a ns fine)
    ∙ ap (λ o. and_then (or_fault WrongArguments o) (λ u. Ok (viewed (trans.Affine u)))) arranged_is)
    (refusal_stays laws.numbers.older a p (trans.Affine t) (all_defs ns) fine live ∙ allowed)

-- the new arrays that the line of a view leaves before the view itself
abbrev affine_defs : Affine → List ArrayDef
affine_defs (affine.Slice args) = []
affine_defs (affine.Xchg a b) = all_defs (a ∷ b ∷ [])
affine_defs (affine.Mv a b) = all_defs (a ∷ b ∷ [])
affine_defs (affine.Reorder order) = all_defs order
affine_defs (affine.Dummy place size) = all_defs (place ∷ size ∷ [])
affine_defs (affine.Diagonal listed) = all_defs listed
affine_defs affine.Squeeze = []
affine_defs (affine.Clump count) = all_defs (count ∷ [])

module _ (laws : ViewLaws) (names : Names) (a : Arrays) (y : List ℕ) (p : ℕ) (fine : AreFine a) (is : found names.arrays y ≡ Some p) where
  affine_valued : (t : Affine) → IsShowable a.world p (trans.Affine t) → IsReadAgain (affine_call t)
      → value_of names a (call_tree y (affine_call t)) ≡ Ok (with_new (with_all a (affine_defs t)) (view p (trans.Affine t)))
  affine_valued (affine.Slice args) show again =
      slice_valued names a a (named y) p (slice_text args) args (ap (known a) is) (laws.texts again.text args again.is) show.allowed
  affine_valued (affine.Xchg m n) show again = arranged_valued laws names a y p (codes "xchg") word.Xchg (m ∷ n ∷ []) (affine.Xchg m n) fine show.live is refl refl (fitting_negate (m ∷ n ∷ []) again) show.allowed
  affine_valued (affine.Mv m n) show again = arranged_valued laws names a y p (codes "mv") word.Mv (m ∷ n ∷ []) (affine.Mv m n) fine show.live is refl refl (fitting_negate (m ∷ n ∷ []) again) show.allowed
  affine_valued (affine.Reorder order) show again = arranged_valued laws names a y p (codes "reorder") word.Reorder order (affine.Reorder order) fine show.live is refl refl (fitting_negate order again) show.allowed
  affine_valued (affine.Dummy place size) show again = arranged_valued laws names a y p (codes "dummy") word.Dummy (place ∷ size ∷ []) (affine.Dummy place size) fine show.live is refl refl (fitting_negate (place ∷ size ∷ []) again) show.allowed
  affine_valued (affine.Diagonal []) show again = absurd (false_true show.well_formed) where
    false_true : false ≡ true → ⊥
    false_true e = cc
  affine_valued (affine.Diagonal (k ∷ listed)) show again = arranged_valued laws names a y p (codes "diagonal") word.Diagonal (k ∷ listed) (affine.Diagonal (k ∷ listed)) fine show.live is refl refl (fitting_negate (k ∷ listed) again) show.allowed
  affine_valued affine.Squeeze show again = arranged_valued laws names a y p (codes "squeeze") word.Squeeze [] affine.Squeeze fine show.live is refl refl tt show.allowed
  affine_valued (affine.Clump count) show again = arranged_valued laws names a y p (codes "clump") word.Clump (count ∷ []) (affine.Clump count) fine show.live is refl refl (fitting_negate (count ∷ []) again) show.allowed

pub affine_views_are_made : ViewLaws → AffineViewsAreMade
affine_views_are_made laws ws kernels names w x y p t resting fresh few is show again =
    let n : ℕ = length w in
    let defs : List ArrayDef = affine_defs t in
    let fine : AreFine (record { world = w; next = n }) = order_below w resting.order in
    new_bound laws.more ws kernels names w x (call_tree y (affine_call t)) (n + length defs) (view p (trans.Affine t)) (numbered_from n defs)
    resting fresh few (laws.below w n p (order_below w resting.order) show.live) (omega arith) (numbered_within n defs)
    (affine_valued laws (record { arrays = names; kernels = kernels }) (record { world = w; next = n }) y p fine is t show again
    ∙ ap (λ b. Ok (with_new b (view p (trans.Affine t)))) (with_all_is w n defs))

-- ---- views that an array chooses

edge_again : (e : Edge) → edge_of (pos (edge_number e)) ≡ Some e
edge_again Refuse = refl
edge_again Zero = refl
edge_again Nearest = refl
edge_again Periodic = refl

-- the new arrays that the line leaves before the view itself
abbrev list_def : List ℤ → ArrayDef
list_def ns = root (type_of ns) (length ns ∷ []) ns

abbrev edge_def : ℕ → ArrayDef
edge_def e = root (type_of (pos e ∷ [])) [] (pos e ∷ [])

times_one : (m : ℕ) → m ≡ m * 1
times_one m = omega arith

module _ (laws : ViewLaws) (names : Names) (w : World) (d : ArrayDef) (y index : List ℕ) (p : ℕ) (order : InOrder w)
    (is : found names.arrays y ≡ Some p) (at : found names.arrays index ≡ Some (length w)) where
  abbrev older_ones : Arrays
  older_ones = record { world = w; next = length w }

  abbrev with_chooser : Arrays
  with_chooser = record { world = (length w, d) ∷ w; next = suc (length w) }

  chooser_fine : AreFine with_chooser
  chooser_fine = (omega arith, (order_more w order))
    where
      order_more : (w : World) → InOrder w → AreFine (record { world = w; next = suc (length w) })
      order_more w order = numbers_more (length w) (suc (length w)) w (omega arith) (order_below w order)

  -- the parent is shown as before
  allowed_still : (t : Trans) → IsShowable w p t → view_refusal with_chooser.world p t ≡ None
  allowed_still t show = refusal_stays laws.numbers.older older_ones p t (d ∷ []) (order_below w order) show.live ∙ show.allowed

  live_still : (t : Trans) → IsShowable w p t → IsLive with_chooser.world p
  live_still t show = still (all_stay laws.numbers.older older_ones p (d ∷ []) (order_below w order) show.live) show.live
    where
      still : Stays older_ones (with_all older_ones (d ∷ [])) p → IsLive w p → IsLive with_chooser.world p
      still stays live = subst (λ o. IsSomeAnd o (λ l. Unit {0})) (sym stays.look_is) live

  -- the parent and the array that chooses
  both_taken : taken names with_chooser (value (value none (named y)) (named index)) ≡ Ok (with_chooser, array p ∷ array (length w) ∷ [])
  both_taken =
      value_taken names with_chooser with_chooser with_chooser (value none (named y)) (array p ∷ []) (named index) (length w)
      (name_taken names with_chooser y p is) (ap (known with_chooser) at)

-- the view that a call on the parent and the array that chooses gives
module _ (laws : ViewLaws) (names : Names) (w : World) (y index : List ℕ) (p : ℕ) (order : InOrder w)
    (is : found names.arrays y ≡ Some p) (at : found names.arrays index ≡ Some (length w)) where
  abbrev chooser : ArrayDef → Arrays
  chooser d = record { world = (length w, d) ∷ w; next = suc (length w) }

  index_valued : (dims : List ℕ) (ind : List ℤ) → length ind ≡ size_of dims → IsShowable w p (trans.Index dims ind)
      → value_of names (chooser (root Longlong dims ind)) (call (codes "index") (value (value none (named y)) (named index))) ≡ Ok (with_new (chooser (root Longlong dims ind)) (view p (trans.Index dims ind)))
  index_valued dims ind many show =
      let d : ArrayDef = root Longlong dims ind in
      viewed_call names (chooser d) (chooser d) (codes "index") (value (value none (named y)) (named index)) p (array (length w) ∷ []) Index (trans.Index dims ind)
      (both_taken laws names w d y index p order is at) refl
      (ap look_up (root_shown laws.numbers.seen (record { world = w; next = length w }) Longlong dims ind many))
      (allowed_still laws names w d y index p order is at (trans.Index dims ind) show)

  mask_valued : (dims places : List ℕ) → IsShowable w p (trans.Where dims places)
      → value_of names (chooser (root Byte dims (mask_of (size_of dims) places))) (call (codes "where") (value (value none (named y)) (named index))) ≡ Ok (with_new (chooser (root Byte dims (mask_of (size_of dims) places))) (view p (trans.Where dims places)))
  mask_valued dims places show =
      let d : ArrayDef = root Byte dims (mask_of (size_of dims) places) in
      viewed_call names (chooser d) (chooser d) (codes "where") (value (value none (named y)) (named index)) p (array (length w) ∷ []) Where (trans.Where dims places)
      (both_taken laws names w d y index p order is at) refl
      (ap (λ m. Ok (viewed (trans.Where m.dims (which m.elems)))) (root_shown laws.numbers.seen (record { world = w; next = length w }) Byte dims (mask_of (size_of dims) places) (mask_long (size_of dims) places))
      ∙ ap (λ ps. Ok (viewed (trans.Where dims ps))) (laws.masks (size_of dims) places show.well_formed))
      (allowed_still laws names w d y index p order is at (trans.Where dims places) show)
    where
      mask_long : (n : ℕ) (places : List ℕ) → length (mask_of n places) ≡ n
      mask_long n places = length-map-range_with_len (λ q. if is_in places q then pos 1 else pos 0) 0 n

  corners_valued : (dims : List ℕ) (ind sizes : List ℤ) (edge : Edge) → length ind ≡ size_of dims → IsShowable w p (trans.Range dims ind sizes edge)
      → value_of names (chooser (root Longlong dims ind)) (call_tree y (ranged index sizes (edge_number edge)))
      ≡ Ok (with_new (with_all (chooser (root Longlong dims ind)) (list_def sizes ∷ edge_def (edge_number edge) ∷ [])) (view p (trans.Range dims ind sizes edge)))
  corners_valued dims ind sizes edge many show =
      let d : ArrayDef = root Longlong dims ind in
      let e : ℕ = edge_number edge in
      let t : Trans = trans.Range dims ind sizes edge in
      let a : Arrays = chooser d in
      let b : Arrays = (with_new a (list_def sizes)).0 in
      let c : Arrays = (with_new b (edge_def e)).0 in
      let fine : AreFine a = chooser_fine laws names w d y index p order is at in
      let lists : Args = value (value (value none (named y)) (named index)) (list_tree sizes) in
      let chooser_shown : array_in c (length w) ≡ record { ty = Longlong; dims = dims; elems = ind } =
      array_stays a c (length w) (all_stay laws.numbers.older a (length w) (list_def sizes ∷ edge_def e ∷ []) fine
      (live_by a.world (length w) (look_of_root (length w) Longlong dims) (laws.numbers.whole w (length w) Longlong dims ind)))
      ∙ root_shown laws.numbers.seen (record { world = w; next = length w }) Longlong dims ind many in
      let sizes_shown : array_in c a.next ≡ record { ty = type_of sizes; dims = length sizes ∷ []; elems = sizes } =
      array_stays b c a.next (all_stay laws.numbers.older b a.next (edge_def e ∷ []) (new_fine a (list_def sizes) fine)
      (live_by b.world a.next (look_of_root a.next (type_of sizes) (length sizes ∷ [])) (laws.numbers.whole a.world a.next (type_of sizes) (length sizes ∷ []) sizes)))
      ∙ root_shown laws.numbers.seen a (type_of sizes) (length sizes ∷ []) sizes (times_one (length sizes)) in
      viewed_call names a c (codes "range") (value lists (number (pos e))) p (array (length w) ∷ array a.next ∷ array b.next ∷ []) Range t
      (value_taken names a b c lists (array p ∷ array (length w) ∷ array a.next ∷ []) (number (pos e)) b.next
      (value_taken names a a b (value (value none (named y)) (named index)) (array p ∷ array (length w) ∷ []) (list_tree sizes) a.next (both_taken laws names w d y index p order is at) refl)
      refl)
      refl
      (ap₂ (λ i s. range_by i (array s ∷ array (array_in c b.next) ∷ [])) chooser_shown sizes_shown
      ∙ ap (λ m. range_by (record { ty = Longlong; dims = dims; elems = ind }) (array (record { ty = type_of sizes; dims = length sizes ∷ []; elems = sizes }) ∷ array m ∷ []))
      (root_shown laws.numbers.seen b (type_of (pos e ∷ [])) [] (pos e ∷ []) refl)
      ∙ ap (λ o. and_then (or_fault WrongArguments o) (λ found_edge. Ok (viewed (trans.Range dims ind sizes found_edge)))) (edge_again edge))
      (refusal_stays laws.numbers.older a p t (list_def sizes ∷ edge_def e ∷ []) fine (live_still laws names w d y index p order is at t show)
      ∙ allowed_still laws names w d y index p order is at t show)

-- the line of such a view, whatever new arrays it leaves before the view
chosen_made : ViewLaws → (ws : Watches) (kernels : Named KernelTexts) (names : Named ℕ) (w : World) (x y : List ℕ) (p : ℕ) (t : Trans) (by_call : Call) (d : ArrayDef) (defs : List ArrayDef)
    → IsResting ws names ((length w, d) ∷ w) → found names x ≡ None → length names < names_limit → p < length w
    → value_of (record { arrays = names; kernels = kernels }) (record { world = (length w, d) ∷ w; next = suc (length w) }) (call_tree y by_call)
    ≡ Ok (with_new (with_all (record { world = (length w, d) ∷ w; next = suc (length w) }) defs) (view p t))
    → Leads (state_of ws kernels names ((length w, d) ∷ w)) (bind x (call_tree y by_call) false)
    (state_of ws kernels (names ++ one_name x (suc (length w))) ((suc (length w), view p t) ∷ ((length w, d) ∷ w)))
chosen_made laws ws kernels names w x y p t by_call d defs resting fresh few below valued =
    new_bound laws.more ws kernels names ((length w, d) ∷ w) x (call_tree y by_call) (suc (length w) + length defs) (view p t) (numbered_from (suc (length w)) defs)
    resting fresh few (omega (arith, below)) (omega arith) (numbered_within (suc (length w)) defs)
    (valued ∙ ap (λ b. Ok (with_new b (view p t))) (with_all_is ((length w, d) ∷ w) (suc (length w)) defs))

pub chosen_views_are_made : ViewLaws → ChosenViewsAreMade
chosen_views_are_made laws ws kernels names w x y index p t by_call d resting fresh few is at show (by_index dims ind many) =
    chosen_made laws ws kernels names w x y p (trans.Index dims ind) (chosen (codes "index") index) (root Longlong dims ind) [] resting fresh few (laws.below w (length w) p (order_below w resting.order.1.1) show.live)
    (index_valued laws (record { arrays = names; kernels = kernels }) w y index p resting.order.1.1 is at dims ind many show)
chosen_views_are_made laws ws kernels names w x y index p t by_call d resting fresh few is at show (by_mask dims places) =
    chosen_made laws ws kernels names w x y p (trans.Where dims places) (chosen (codes "where") index) (root Byte dims (mask_of (size_of dims) places)) [] resting fresh few (laws.below w (length w) p (order_below w resting.order.1.1) show.live)
    (mask_valued laws (record { arrays = names; kernels = kernels }) w y index p resting.order.1.1 is at dims places show)
chosen_views_are_made laws ws kernels names w x y index p t by_call d resting fresh few is at show (by_corners dims ind sizes edge many) =
    chosen_made laws ws kernels names w x y p (trans.Range dims ind sizes edge) (ranged index sizes (edge_number edge)) (root Longlong dims ind) (list_def sizes ∷ edge_def (edge_number edge) ∷ []) resting fresh few (laws.below w (length w) p (order_below w resting.order.1.1) show.live)
    (corners_valued laws (record { arrays = names; kernels = kernels }) w y index p resting.order.1.1 is at dims ind sizes edge many show)
