use Rattle.std.proofs.Common.{◌≡◌, ◌+◌, ◌≤◌, true, take}
use Rattle.std.specs.Prelude.{All, sum_by}
use Rattle.pdl_engine.specs.Reading.{read_steps}
use Rattle.pdl_engine.specs.State.{is_fresh, SameArrays, StayFresh}
use Rattle.pdl_scope.specs.Costs.{ReadsNoDearer}
use Rattle.pdl_scope.proofs.calling.ready_all.Given as goal

abbrev pub invariant-loop-id : goal.invariant-loop-id
invariant-loop-id g l = record {
  same : SameArrays l.fn.engine l.engine;
  stay : StayFresh l.fn.engine l.engine;
  fresh : All (λ v. is_fresh l.engine v ≡ true) (take l.id-index l.ids);
  costs : ReadsNoDearer l.fn.engine l.engine;
  counted : l.steps ≤ l.fn.steps + sum_by (read_steps l.fn.engine) (take l.id-index l.ids);
}
