-- The window fits the placement.
use Rattle.std.proofs.Common.{length, arith, ap}
use Rattle.pdl_buf.specs.Window.{Window}
use Rattle.pdl_buf.proofs.reading.strided_sum.Goals as goal

pub sum-requires-clause-within : goal.sum-requires-clause-within
sum-requires-clause-within c =
    let s = c.from.inside in
    omega (arith, c.requires, c.shown_laws.ensures.count s.placement s.buf.now.elems, ap (λ (w : Window). length w.elems) c.from.view_is)
