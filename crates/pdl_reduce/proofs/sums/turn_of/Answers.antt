-- The sizes are the first ones of the broadcast, or those after a first one of 1 are.
use Rattle.std.proofs.Common.{◌≡◌, ℕ, List, drop, ap, subst, sym, ◌∙◌}
use Rattle.std.specs.Prelude.{slice_index_or}
use Rattle.std.proofs.lemmas.Bool.Decides.{Decides-eqb}
use Rattle.std.proofs.lemmas.Slice.Eq.{starts_is}
use Rattle.pdl_reduce.proofs.BlockShortRows.{AreFirst, first_turn, later_turn}
use Rattle.pdl_reduce.proofs.sums.turn_of.Goals as goal

pub returns-then-starts_with : goal.returns-then-starts_with
returns-then-starts_with c =
    let sizes : List ℕ = c.dims_list-sizes.result.now in
    let joined : List ℕ = c.args.joined.now in
    let first : AreFirst sizes joined = (starts_is Decides-eqb joined sizes c.starts_with.result c.starts_with.ensures.value).0 c.if-starts_with.true in
    first_turn c.args.dims.now joined c.elements_of-rows.result c.elements_of-rows.ensures.count (subst (λ (ds : List ℕ). AreFirst ds joined) c.dims_list-sizes.ensures.list first)

pub returns-then-starts_with-2 : goal.returns-then-starts_with-2
returns-then-starts_with-2 c =
    let dims : List ℕ = c.args.dims.now in
    let joined : List ℕ = c.args.joined.now in
    let sizes : List ℕ = c.sizes_after-then-size_along-eq1.result.now in
    let after : List ℕ = c.sizes_after.result.now in
    let first : AreFirst sizes after = (starts_is Decides-eqb after sizes c.starts_with-then-size_along-eq1.result c.starts_with-then-size_along-eq1.ensures.value).0 c.if-starts_with-2.true in
    let is : sizes ≡ drop 1 dims = c.sizes_after-then-size_along-eq1.ensures ∙ ap (λ (ds : List ℕ). drop 1 ds) c.dims_list-sizes.ensures.list in
    let one : slice_index_or dims 0 1 ≡ 1 = sym (ap (λ (ds : List ℕ). slice_index_or ds 0 1) c.dims_list-sizes.ensures.list) ∙ sym c.size_along.ensures ∙ c.if-size_along-eq1.true in
    later_turn dims joined c.elements_of-rows.result c.size_along-times.result c.elements_of-rows.ensures.count c.size_along-times.ensures one
    (subst (λ (ds : List ℕ). AreFirst ds (drop 1 joined)) is (subst (λ (js : List ℕ). AreFirst sizes js) c.sizes_after.ensures first))
