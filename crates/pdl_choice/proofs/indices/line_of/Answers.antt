use Rattle.std.proofs.Common.{arith}
use Rattle.pdl_choice.proofs.ShapeBounds.{rest_of, times_below}
use Rattle.pdl_choice.proofs.indices.line_of.Goals as goal

pub used_position-requires-clause-bounded : goal.used_position-requires-clause-bounded
used_position-requires-clause-bounded c = (rest_of c.shape_laws.ensures.sizes _ _ _ c.in-Some.ensures.cases.0 c.requires.bounded).size_fits

pub overflow_mul-result : goal.overflow_mul-result
overflow_mul-result c =
    omega (arith, times_below c.in-Some.size.now _ _ c.used_position.ensures.bound (rest_of c.shape_laws.ensures.sizes _ _ _ c.in-Some.ensures.cases.0 c.requires.bounded).all_fits)
