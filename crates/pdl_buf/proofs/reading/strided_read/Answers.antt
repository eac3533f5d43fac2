-- What is read is the window's block.
use Rattle.std.proofs.Common.{length, take, drop, arith, ap, subst, ◌∙◌}
use Rattle.pdl_numbers.specs.Typed.{TypedElements}
use Rattle.pdl_numbers.specs.Reads.{HasRead}
use Rattle.pdl_buf.specs.Window.{Window}
use Rattle.pdl_buf.proofs.reading.strided_read.Goals as goal

pub read-requires-clause-within : goal.read-requires-clause-within
read-requires-clause-within c =
    let s = c.from.inside in
    omega (arith, c.requires, c.shown_laws.ensures.count s.placement s.buf.now.elems, ap (λ (w : Window). length w.elems) c.from.view_is)

pub returns-clause-value : goal.returns-clause-value
returns-clause-value c =
    let s = c.from.inside in
    let laws = c.shown_laws.ensures in
    let count = length c.args.into.now in
    laws.block s.placement s.buf.now.elems c.read.new.into c.args.first count (omega arith)
    (omega (arith, c.requires, laws.count s.placement s.buf.now.elems, ap (λ (w : Window). length w.elems) c.from.view_is))
    (subst (λ (k : TypedElements). HasRead s.placement k.elems c.args.first count c.read.new.into) c.buf.view_is c.read.ensures.value)
    ∙ ap (λ (w : Window). take count (drop c.args.first w.elems)) c.from.view_is
