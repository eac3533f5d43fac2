-- One number more lies below its start, and is placed.
use Rattle.std.proofs.Common.{◌≡◌, ◌<◌, ◌∙◌, ◌+◌, ℕ, ℤ, List, pos, ◌+ℤ◌, IsTrue, Some, ap, ap₂, arith, below_more, get_or, length, refl, replicate, rules, SFits, w64, subst, sym, to_z-of_z}
use Rattle.std.proofs.lemmas.Bool.Decides.{nat_tests}
use Rattle.std.proofs.lemmas.List.{get_or-replicate, length-replicate}
use Rattle.pdl_lemmas.specs.Numbers.{row_place_below}
use Rattle.pdl_choice.specs.declared.edges.Edge.TheVariants.{Zero}
use Rattle.pdl_choice.specs.Edges.{edge_coordinate, is_within}
use Rattle.pdl_choice.proofs.EdgeLemmas.{inside_edge, within_zero}
use Rattle.pdl_choice.proofs.RangePlaces.{plus_none}
use Rattle.pdl_choice.proofs.RoundsStrides.{placing_more, placing_stops, stride_more, stride_fits}
use Rattle.pdl_choice.proofs.corners.inner_place.Goals as goal

pub overflow_mul-place : goal.overflow_mul-place
overflow_mul-place c =
    let below : c.in_ok-place.field-0 < get_or c.args.parent.now c.loop-number.number 0 = omega (arith, c.in_ok-place.ensures.bound, c.requires.below c.loop-number.number (omega arith)) in
    omega (arith, row_place_below c.loop-number.stride _ c.loop-number.place c.in_ok-place.field-0 c.loop-number.invariant.placing.below below, stride_fits c.shape_laws.ensures.sizes (c.loop-number.number + 1) _ c.args.parent.now c.requires.bounded (stride_more c.loop-number.number c.loop-number.stride c.args.parent.now (omega arith) c.loop-number.invariant.placing.stride_is))

pub overflow_add-place : goal.overflow_add-place
overflow_add-place c =
    let below : c.in_ok-place.field-0 < get_or c.args.parent.now c.loop-number.number 0 = omega (arith, c.in_ok-place.ensures.bound, c.requires.below c.loop-number.number (omega arith)) in
    omega (arith, row_place_below c.loop-number.stride _ c.loop-number.place c.in_ok-place.field-0 c.loop-number.invariant.placing.below below, stride_fits c.shape_laws.ensures.sizes (c.loop-number.number + 1) _ c.args.parent.now c.requires.bounded (stride_more c.loop-number.number c.loop-number.stride c.args.parent.now (omega arith) c.loop-number.invariant.placing.stride_is))

pub overflow_mul-stride : goal.overflow_mul-stride
overflow_mul-stride c =
    omega (arith, stride_fits c.shape_laws.ensures.sizes (c.loop-number.number + 1) _ c.args.parent.now c.requires.bounded (stride_more c.loop-number.number c.loop-number.stride c.args.parent.now (omega arith) c.loop-number.invariant.placing.stride_is))

pub loop-number-preserved : goal.loop-number-preserved
loop-number-preserved c =
    let i : ℕ = c.loop-number.number in
    let x : ℕ = c.in_ok-place.field-0 in
    let v : ℤ = get_or c.args.corner.now i (pos 0) in
    let n : ℕ = get_or c.args.parent.now i 0 in
    let fits : SFits w64 v = search rules in
    let is : Some x ≡ edge_coordinate Zero (get_or c.args.starts.now i 0) (v +ℤ pos 0) = simp to_z-of_z at c.in_ok-place.ensures.value in
    let within : x < get_or c.args.starts.now i 0 = c.in_ok-place.ensures.bound in
    let value : v ≡ pos x = within_zero (get_or c.args.starts.now i 0) v x (is ∙ ap (edge_coordinate Zero (get_or c.args.starts.now i 0)) (sym (plus_none v 0 refl))) in
    let below : x < n = omega (arith, within, c.requires.below i (omega arith)) in
    let zeros : List ℕ = replicate (length c.args.corner.now + 1) 0 in
    let first : get_or zeros i 0 ≡ 0 = get_or-replicate (length c.args.corner.now + 1) i 0 0 (omega arith) in
    record {
      inside = below_more _ _ c.loop-number.invariant.inside (subst (λ (z : ℤ). IsTrue (is_within (get_or c.args.starts.now i 0) z)) (sym value) (grind (arith, nat_tests, within)));
      placing = placing_more i c.loop-number.place c.loop-number.stride x Zero c.args.parent.now c.args.corner.now zeros
          (omega (arith, c.requires.fit, c.requires.paired)) (length-replicate {A = ℕ} (length c.args.corner.now + 1) 0) c.loop-number-test.true
          (inside_edge Zero n (v +ℤ pos (get_or zeros i 0)) x (ap₂ (λ (z : ℤ) (k : ℕ). z +ℤ pos k) value first ∙ ap pos (omega arith)) below)
          below c.loop-number.invariant.placing;
    }

pub returns-clause-small : goal.returns-clause-small
returns-clause-small c =
    omega (arith, c.loop-number.invariant.placing.below, stride_fits c.shape_laws.ensures.sizes c.loop-number.number _ c.args.parent.now c.requires.bounded c.loop-number.invariant.placing.stride_is)

pub returns-clause-stands : goal.returns-clause-stands
returns-clause-stands c = record {
  inside = λ j h. c.loop-number.invariant.inside j (omega arith);
  is = placing_stops c.loop-number.number c.loop-number.place c.loop-number.stride Zero c.args.parent.now c.args.corner.now (omega arith) (omega arith) c.loop-number.invariant.placing;
}
