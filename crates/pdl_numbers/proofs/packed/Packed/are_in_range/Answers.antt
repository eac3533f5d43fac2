-- What bytes stand for is a number of the type.
use Rattle.std.proofs.Common.{pos, All, get_or, subst}
use Rattle.std.proofs.lemmas.List.Elements.{All-map}
use Rattle.std.specs.Int.{from_le_bytes}
use Rattle.pdl_elem.specs.Types.{InRange}
use Rattle.pdl_numbers.specs.Bytes.{word_of, number_of}
use Rattle.pdl_numbers.proofs.packed.Packed.are_in_range.Goals as goal

pub returns : goal.returns
returns g c =
    subst (All (InRange g.T.PackedType.ty)) c.self.view_is
    (All-map (InRange g.T.PackedType.ty) (number_of g.T.PackedType.ty) c.self.inside.cells.items
    (λ k d h. c.wrapping_laws.ensures.in_range g.T.PackedType.ty (pos (from_le_bytes (word_of g.T.PackedType.ty) (get_or c.self.inside.cells.items k d)))))
