use Rattle.std.proofs.Common.{arith}
use Rattle.std.proofs.lemmas.Grind.{common_steps}
use Rattle.std.proofs.lemmas.List.{take_rest, drop-drop}
use Rattle.pdl_shell.proofs.PaceCarried.{stops_result, stops_then, carries_then, carries_ended}
use Rattle.pdl_shell.proofs.runner.Runner.take.Goals as goal

pub taking-preserved : goal.taking-preserved
taking-preserved g c = record {
  in_bytes = grind (arith, common_steps);
  carried = rw drop-drop at (carries_then _ _ _ _ _ _ _ _ _ c.taking.invariant.carried (rw take_rest at c.in_ok-used.ensures.carries));
  works = c.in_ok-used.ensures.works;
  none_left = c.in_ok-used.ensures.none_left;
  count = grind (arith, common_steps);
  counted = c.in_ok-used.ensures.counted;
  served = c.in_ok-used.ensures.served;
  tells = λ told. c.in_ok-used.ensures.tells (c.taking.invariant.tells told);
}

pub returns-in_err-used-clause-stops : goal.returns-in_err-used-clause-stops
returns-in_err-used-clause-stops g c =
    stops_result c.from_residual.result c.in_err-used.field-0.0 c.from_residual.ensures.1 _ _ _ _ _
    (stops_then _ _ _ _ _ _ _ _ _ c.taking.invariant.carried (rw take_rest at c.in_err-used.ensures.stops))

pub returns-else-not-self-clause-carries : goal.returns-else-not-self-clause-carries
returns-else-not-self-clause-carries g c =
    carries_ended c.course_laws.ensures _ _ _ _ _ _ c.taking.invariant.carried c.if-not-self.false
