use Rattle.std.proofs.Common.{◌≡◌, drop}
use Rattle.pdl_machine.specs.Cuts.{is_read}
use Rattle.pdl_scope.proofs.flowing.is_read.Given as goal

-- none of the formulas before this one reads it
abbrev pub invariant-loop-flow : goal.invariant-loop-flow
invariant-loop-flow l = is_read (drop l.flow-index l.flows) l.engine.world l.id ≡ is_read l.flows l.engine.world l.id
