-- The increments along the dimensions before this one are listed.
use Rattle.pdl_shape.proofs.TripleStretches.{Listed, stretched_incs}
use Rattle.pdl_shape.proofs.stretched.stretched_triple.Given as goal

abbrev pub invariant-loop-dimension : goal.invariant-loop-dimension
invariant-loop-dimension l = Listed l.items.items l.items.capacity l.dimension (stretched_incs l.incs l.sizes l.dims)
