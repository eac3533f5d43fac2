-- A write leaves as many elements.
use Rattle.std.proofs.Common.{length, ap, ◌∙◌}
use Rattle.pdl_numbers.specs.Typed.{TypedElements}
use Rattle.pdl_numbers.specs.Numbers.{elements_in}
use Rattle.pdl_buf.proofs.moves.scatter.Goals as goal

pub returns-clause-kept_length : goal.returns-clause-kept_length
returns-clause-kept_length g c =
    ap (λ (k : TypedElements). length k.elems) c.scatter.ensures
    ∙ c.shape_laws.ensures.writes.as_many c.args.places.now c.args.values.now (elements_in c.into.inside.numbers).elems
    ∙ ap (λ (k : TypedElements). length k.elems) c.into.view_is
