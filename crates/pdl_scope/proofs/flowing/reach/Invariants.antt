use Rattle.std.proofs.Common.{◌≡◌, drop}
use Rattle.pdl_machine.specs.Flows.{is_reached}
use Rattle.pdl_scope.proofs.flowing.reach.Given as goal

-- none of the arrays before this one reaches it
abbrev pub invariant-loop-id : goal.invariant-loop-id
invariant-loop-id l = is_reached l.engine.world (drop l.id-index l.ids) l.above ≡ is_reached l.engine.world l.ids l.above
