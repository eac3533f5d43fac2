use Rattle.std.proofs.Common.{Ok, ◌+◌, ◌≤◌}
use Rattle.std.specs.Prelude.{sum_by}
use Rattle.pdl_image.specs.Dump.{world_lines}
use Rattle.pdl_engine.specs.State.{SameArrays, StayFresh}
use Rattle.pdl_machine.specs.Tidy.{renumber}
use Rattle.pdl_scope.specs.Costs.{ReadsNoDearer}
use Rattle.pdl_scope.specs.Dumping.{WritesLines, dump_steps, oldest}
use Rattle.pdl_scope.proofs.dumping.write_arrays.Given as goal

-- the oldest arrays were written
abbrev pub invariant-loop-at : goal.invariant-loop-at
invariant-loop-at g l = record {
  same : SameArrays l.fn.engine l.engine;
  stay : StayFresh l.fn.engine l.engine;
  lines : WritesLines l.fn.image l.image l.at (world_lines l.fn.image.stem (renumber (oldest l.at l.fn.engine.world))) (Ok tt);
  costs : ReadsNoDearer l.fn.engine l.engine;
  counted : l.steps ≤ l.fn.steps + sum_by (dump_steps l.fn.engine) (oldest l.at l.fn.engine.world);
}
