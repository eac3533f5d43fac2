use Rattle.std.proofs.Common.{◌+ℤ◌, pos}
use Rattle.pdl_shape.specs.Shape.{coordinates_of}
use Rattle.pdl_shape.specs.Triple.{moved}
use Rattle.pdl_numbers.proofs.ShownWalks.{Walk}
use Rattle.pdl_numbers.proofs.placement.place_of_position.Given as goal

-- the walk over the dimensions before i
abbrev pub invariant-loop-i : goal.invariant-loop-i
invariant-loop-i l = Walk l.incs l.sizes l.i l.rest l.place (pos l.offset +ℤ moved l.incs (coordinates_of l.sizes l.position))
