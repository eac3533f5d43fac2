-- What is shown of numbers in a range is in it.
use Rattle.std.proofs.Common.{All, subst}
use Rattle.pdl_elem.specs.Types.{InRange}
use Rattle.pdl_numbers.specs.Typed.{TypedElements}
use Rattle.pdl_buf.specs.Window.{Window}
use Rattle.pdl_buf.proofs.ranges.strided_is_in_range.Goals as goal

pub returns : goal.returns
returns c =
    let s = c.from.inside in
    subst (λ (w : Window). All (InRange w.ty) w.elems) c.from.view_is
    (c.shown_laws.ensures.in_range s.buf.now.ty s.placement s.buf.now.elems c.keeps_triple.ensures c.from.invariant
    (subst (λ (k : TypedElements). All (InRange k.ty) k.elems) c.buf.view_is c.are_in_range.ensures))
