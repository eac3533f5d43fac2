-- The bytes in turn are those of the numbers.
use Rattle.std.proofs.Common.{ap, ◌∙◌}
use Rattle.std.specs.List.{flat_map}
use Rattle.pdl_numbers.specs.Bytes.{bytes_of}
use Rattle.pdl_numbers.proofs.ByteLemmas.{bytes_are}
use Rattle.pdl_numbers.proofs.packed.Packed.bytes.Goals as goal

pub returns : goal.returns
returns g c =
    c.as_flattened.ensures.value ∙ ap (flat_map (λ x. x)) c.deref.ensures.value
    ∙ bytes_are g.T.PackedType.ty c.self.inside.cells.items c.self.invariant
    ∙ ap (flat_map (bytes_of g.T.PackedType.ty)) c.self.view_is
