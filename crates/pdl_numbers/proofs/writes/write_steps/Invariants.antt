use Rattle.std.proofs.Common.{◌≡◌, length, drop}
use Rattle.pdl_shape.specs.Places.{write}
use Rattle.pdl_numbers.specs.Writes.{stepped}
use Rattle.pdl_numbers.proofs.writes.write_steps.Given as goal

-- what is left to be put gives what the whole list does
abbrev pub invariant-loop-j : goal.invariant-loop-j
invariant-loop-j g l =
    write (drop l.j (stepped l.place l.inc (length l.values))) (drop l.j l.values) l.numbers ≡ write (stepped l.place l.inc (length l.values)) l.values l.fn.numbers
