-- The numbers at the places before the next block are fetched.
use Rattle.std.proofs.Common.{◌≡◌, ◌-◌, length, take}
use Rattle.pdl_shape.specs.Places.{read}
use Rattle.pdl_numbers.proofs.packed.Packed.many_gathered.Given as goal

abbrev pub invariant-loop-done : goal.invariant-loop-done
invariant-loop-done g l = l.packed ≡ read (take l.done l.places) l.self

abbrev pub decreases-loop-done : goal.decreases-loop-done
decreases-loop-done g l = length l.places - l.done
