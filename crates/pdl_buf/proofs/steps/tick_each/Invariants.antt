use Rattle.std.proofs.Common.{◌≡◌, ◌+◌}
use Rattle.pdl_buf.proofs.steps.tick_each.Given as goal

-- a step for each number below i
abbrev pub invariant-loop-i : goal.invariant-loop-i
invariant-loop-i g l = l.steps ≡ l.fn.steps + l.i
