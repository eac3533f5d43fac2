-- The unpacked cell at a place is the number there.
use Rattle.std.proofs.Common.{◌<◌, ℤ, pos, List, length, get_or, w64, ap, sym, ◌∙◌, arith}
use Rattle.std.proofs.lemmas.Int.{to_z-of_z}
use Rattle.std.proofs.lemmas.List.{get_or-map, length-map}
use Rattle.pdl_numbers.specs.Bytes.{number_of}
use Rattle.pdl_numbers.proofs.packed.Packed.get.Goals as goal

pub returns-clause-value : goal.returns-clause-value
returns-clause-value g c =
    let within : c.args.place < length c.self.inside.cells.items = omega (arith, c.requires, ap length c.self.view_is, length-map c.self.inside.cells.items (number_of g.T.PackedType.ty)) in
    to_z-of_z w64 c.unpack.result (record { sfits = c.unpack.type_inv }) ∙ c.unpack.ensures
    ∙ ap (number_of g.T.PackedType.ty) c.index.ensures
    ∙ sym (get_or-map (number_of g.T.PackedType.ty) c.self.inside.cells.items c.args.place c.index.result.now (pos 0) within)
    ∙ ap (λ (ns : List ℤ). get_or ns c.args.place (pos 0)) c.self.view_is
