use Rattle.pdl_cases.specs.Kept.{AreKept}
use Rattle.pdl_cases.proofs.engine.run_all.Given as goal

abbrev pub invariant-loop : goal.invariant-loop
invariant-loop g l = AreKept l.board.engine l.board.arrays.items
