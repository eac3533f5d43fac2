use Rattle.std.proofs.Common.{pos, get_or, rules, FitsSigned}
use Rattle.std.specs.Int.{w64}
use Rattle.std.proofs.lemmas.Int.{to_z-of_z}
use Rattle.pdl_image.proofs.DumpFilling.{least_added, least_refused, passed_on}
use Rattle.pdl_image.proofs.pieces.add_listed_leasts.Goals as goal

pub returns-in_err-add_if_least : goal.returns-in_err-add_if_least
returns-in_err-add_if_least c =
    let fits : FitsSigned w64 (get_or c.args.numbers.now c.loop-i.i (pos 0)) = search rules in
    passed_on _ _ _ c.from_residual.result c.in_err-add_if_least.field-0.0 c.from_residual.ensures.1
    (least_refused _ _ _ c.args.name.now c.args.first c.args.numbers.now c.loop-i.i _ _ c.loop-i-test.true
    (to_z-of_z w64 (get_or c.args.numbers.now c.loop-i.i (pos 0)) fits) c.loop-i.invariant c.in_err-add_if_least.ensures)

pub loop-i-preserved : goal.loop-i-preserved
loop-i-preserved c =
    let fits : FitsSigned w64 (get_or c.args.numbers.now c.loop-i.i (pos 0)) = search rules in
    least_added _ _ _ c.args.name.now c.args.first c.args.numbers.now c.loop-i.i _ _ c.loop-i-test.true
    (to_z-of_z w64 (get_or c.args.numbers.now c.loop-i.i (pos 0)) fits) c.loop-i.invariant c.in_ok-add_if_least.ensures
