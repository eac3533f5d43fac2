use Rattle.std.proofs.Common.{◌∙◌, ◌+◌, ap, sym, length, get_or, pos, rules, w32}
use mir.Syntax.{w128}
use mir.Val.{SFits}
use Rattle.std.proofs.lemmas.Int.{to_z-of_z}
use Rattle.std.proofs.lemmas.List.{length_push}
use Rattle.pdl_affine.specs.Courses.{counting}
use Rattle.pdl_affine.proofs.WindowPlaces.{counted_next, pushed}
use Rattle.pdl_affine.proofs.clumping.counted_incs.Goals as goal

pub loop-i-preserved : goal.loop-i-preserved
loop-i-preserved c = record {
  room = c.push_reserved-in-loop-i.ensures.capacity ∙ c.loop-i.invariant.room;
  count = ap length c.push_reserved-in-loop-i.ensures.items ∙ length_push _ _ ∙ ap (λ n. n + 1) c.loop-i.invariant.count;
  same =
      let inc : SFits w32 (get_or c.args.rest.now c.loop-i.i (pos 0)) = search rules in
      let small : SFits w32 c.counting-in-loop-i.result = search rules in
      let wide : SFits w128 c.from-in-loop-i.result = search rules in
      pushed _ _ _ _ _ c.push_reserved-in-loop-i.ensures.items c.loop-i.invariant.same
      (to_z-of_z w32 c.counting-in-loop-i.result small ∙ c.counting-in-loop-i.ensures
      ∙ ap (λ z. counting z (get_or c.dims_list-sizes.result.now (c.loop-i.i + 1) 0)) (to_z-of_z w128 c.from-in-loop-i.result wide ∙ c.from-in-loop-i.ensures ∙ to_z-of_z w32 (get_or c.args.rest.now c.loop-i.i (pos 0)) inc))
      ∙ sym (counted_next _ c.args.rest.now c.dims_list-sizes.result.now c.loop-i.i (c.requires ∙ ap length (sym c.dims_list-sizes.ensures.list)) c.loop-i-test.true);
}
