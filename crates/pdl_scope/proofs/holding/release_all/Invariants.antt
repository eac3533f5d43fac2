use Rattle.std.proofs.Common.{ℕ, List, drop}
use Rattle.pdl_scope.specs.Holding.{AreHeld, LetsGo}
use Rattle.pdl_scope.specs.LetGo.{GoesOn}
use Rattle.pdl_scope.proofs.holding.release_all.Given as goal

-- those before this place are let go
abbrev pub invariant-loop-id : goal.invariant-loop-id
invariant-loop-id g l = record {
  lets_go : (staying : List ℕ) → AreHeld l.fn.engine staying l.leaving → LetsGo staying l.fn.engine l.engine (drop l.id-index l.leaving);
  goes_on : GoesOn l.fn.engine l.engine l.fn.steps l.steps;
}
