-- The elements before the next run are read.
use Rattle.std.proofs.Common.{◌≤◌, ◌-◌, length}
use Rattle.pdl_numbers.specs.Reads.{HasRead}
use Rattle.pdl_numbers.proofs.reads.read_runs.Given as goal

abbrev pub invariant-loop-done : goal.invariant-loop-done
invariant-loop-done g l = record { inside : l.done ≤ length l.initial.into; read : HasRead l.triple l.numbers l.first l.done l.into }

abbrev pub decreases-loop-done : goal.decreases-loop-done
decreases-loop-done g l = length l.initial.into - l.done
