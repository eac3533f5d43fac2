use Rattle.std.proofs.Common.{◌≡◌, ◌+◌, take}
use Rattle.pdl_numbers.specs.Numbers.{elements_in}
use Rattle.pdl_numbers.specs.Typed.{count_moved}
use Rattle.pdl_buf.proofs.steps.tick_moved.Given as goal

-- a step for each number before this place that isn't 0
abbrev pub invariant-loop-place : goal.invariant-loop-place
invariant-loop-place g l = l.steps ≡ l.fn.steps + count_moved (take l.place (elements_in l.numbers).elems)
