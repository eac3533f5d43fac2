use Rattle.std.proofs.Common.{ℕ}
use Rattle.pdl_engine.specs.State.{State}
use Rattle.pdl_cases.specs.Kept.{AreKept, Recounts}
use Rattle.pdl_cases.proofs.board.recounted.Given as goal

-- what was kept so far is known in each state that is recounted so
abbrev pub invariant-loop-array : goal.invariant-loop-array
invariant-loop-array l = (old new : State) → Recounts l.more l.id old new → AreKept old l.arrays → AreKept new l.left.items
