use Rattle.std.proofs.Common.{◌∙◌, ◌+◌, ap, sym, length, get_or, rules, w32}
use mir.Syntax.{w128}
use mir.Val.{SFits}
use Rattle.std.proofs.lemmas.Int.{to_z-of_z}
use Rattle.std.proofs.lemmas.List.{length_push}
use Rattle.pdl_affine.specs.Courses.{gathered, counting}
use Rattle.pdl_affine.proofs.WindowPlaces.{counted_more, pushed}
use Rattle.pdl_affine.proofs.composing.counted_incs.Goals as goal

pub loop-dimension-preserved : goal.loop-dimension-preserved
loop-dimension-preserved c = record {
  room = c.push_reserved.ensures.capacity ∙ c.loop-dimension.invariant.room;
  count = ap length c.push_reserved.ensures.items ∙ length_push _ _ ∙ ap (λ n. n + 1) c.loop-dimension.invariant.count;
  same =
      let wide : SFits w128 c.gathered.result = search rules in
      let small : SFits w32 c.counting.result = search rules in
      pushed _ _ _ _ _ c.push_reserved.ensures.items c.loop-dimension.invariant.same
      (to_z-of_z w32 c.counting.result small ∙ c.counting.ensures
      ∙ ap (λ z. counting z (get_or c.dims_list-sizes.result.now c.loop-dimension.dimension 0)) (to_z-of_z w128 c.gathered.result wide ∙ c.gathered.ensures.value))
      ∙ sym (counted_more (gathered c.incs_of-incs.result.now c.args.courses.now) c.dims_list-sizes.result.now c.loop-dimension.dimension c.loop-dimension-test.true);
}
