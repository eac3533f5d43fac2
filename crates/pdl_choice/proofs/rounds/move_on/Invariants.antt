use Rattle.pdl_shape.specs.Shape.{position_of}
use Rattle.pdl_choice.proofs.ShapeSteps.{Carried}
use Rattle.pdl_choice.proofs.rounds.move_on.Given as goal

abbrev pub invariant-loop-dimension : goal.invariant-loop-dimension
invariant-loop-dimension l = Carried l.dimension l.coordinates l.sizes (position_of l.sizes l.fn.coordinates)
