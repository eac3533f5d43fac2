use Rattle.std.proofs.Common.{◌≡◌, drop}
use Rattle.pdl_scope.specs.Flowing.{have_flow}
use Rattle.pdl_scope.proofs.flowing.have_flow.Given as goal

-- none of the arrays before this one has the root of a flow
abbrev pub invariant-loop-id : goal.invariant-loop-id
invariant-loop-id l = have_flow l.engine.world l.flows (drop l.id-index l.ids) ≡ have_flow l.engine.world l.flows l.ids
