-- Each call goes down in the fuel, or with the same fuel in the rank of its part.
use Rattle.std.proofs.Common.{◌≡◌, ◌+◌, ◌-◌, ◌*◌, length}
use Rattle.pdl_code.specs.Tree.{RawCode}
use Rattle.pdl_code.specs.TreeOf.{code_of}
use Rattle.pdl_code.specs.CodeReading.{Read, before_code, code_at, code_reader}
use Rattle.pdl_code.proofs.stmts.+blocks.Given as goal

-- what is left to read gives the same as what stood there at the start
pub record Turns (now start : Read RawCode) : Type 0 where
  pub same : now ≡ start

abbrev pub decreases-code : goal.decreases-code
decreases-code l = 8 * l.fuel

abbrev pub decreases-block : goal.decreases-block
decreases-block l = 8 * l.fuel + 1

abbrev pub decreases-otherwise : goal.decreases-otherwise
decreases-otherwise l = 8 * l.fuel + 2

abbrev pub decreases-choice : goal.decreases-choice
decreases-choice l = 8 * l.fuel + 3

abbrev pub decreases-step : goal.decreases-step
decreases-step l = 8 * l.fuel + 4

abbrev pub decreases-statement : goal.decreases-statement
decreases-statement l = 8 * l.fuel + 5

abbrev pub decreases-statements : goal.decreases-statements
decreases-statements l = 8 * l.fuel + 6

abbrev pub invariant-statements-loop : goal.invariant-statements-loop
invariant-statements-loop l =
    let g = code_reader l.fuel in
    Turns (before_code (code_of l.found.items) (code_at g (l.end - l.counter) l.rest)) (code_at g (length l.tokens) l.tokens)
