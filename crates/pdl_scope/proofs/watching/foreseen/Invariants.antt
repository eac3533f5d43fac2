use Rattle.std.proofs.Common.{◌≡◌, ◌+◌, ◌≤◌, [], take}
use Rattle.std.specs.Prelude.{sum_by}
use Rattle.pdl_engine.specs.Reading.{read_steps}
use Rattle.pdl_engine.specs.State.{SameArrays, StayFresh}
use Rattle.pdl_watch.specs.Slots.{lists_of}
use Rattle.pdl_machine.specs.Watches.{attached, notices}
use Rattle.pdl_scope.specs.Plans.{all_assigned}
use Rattle.pdl_scope.proofs.watching.foreseen.Given as goal

-- what the watchers of the slots before this one are to be told is found
abbrev pub invariant-loop-watch : goal.invariant-loop-watch
invariant-loop-watch g l = record {
  told : lists_of l.all.items ≡ notices l.number l.fn.engine.world (all_assigned l.fn.engine.world l.plan) (take l.watch-index l.watches);
  same : SameArrays l.fn.engine l.engine;
  stay : StayFresh l.fn.engine l.engine;
  quiet : attached l.watches ≡ [] → l.steps ≡ l.fn.steps;
  counted : l.steps ≤ l.fn.steps + sum_by (read_steps l.fn.engine) (attached (take l.watch-index l.watches));
}
