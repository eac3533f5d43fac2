use Rattle.std.proofs.Common.{◌+◌, ◌≤◌, drop, take}
use Rattle.pdl_session.specs.Costs.{read_all}
use Rattle.pdl_machine.specs.Fills.{number_in}
use Rattle.pdl_scope.specs.Scope.{OnlyReads}
use Rattle.pdl_session.specs.Arguments.{seen_of, AreGivenLive}
use Rattle.pdl_session.proofs.ArgumentsGathered.{IsFront}
use Rattle.pdl_session.proofs.dims.numbers_in.Given as goal

abbrev pub invariant-loop-one : goal.invariant-loop-one
invariant-loop-one g l = record {
  found : IsFront (λ x. number_in (seen_of l.initial.scope.arrays x)) l.given l.one-index l.found.items;
  live : AreGivenLive l.initial.scope.arrays.world (drop l.one-index l.given);
  same : OnlyReads l.initial.scope l.scope;
  counted : l.steps ≤ l.initial.steps + read_all l.initial.scope (take l.one-index l.given);
}
