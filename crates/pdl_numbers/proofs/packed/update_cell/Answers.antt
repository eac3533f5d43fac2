-- What is unpacked is a number of the type.
use Rattle.std.proofs.Common.{◌≡◌, rules, ap, ap₂, sym, subst, ◌∙◌, to_z, of_z}
use Rattle.std.proofs.lemmas.Int.{to_z-of_z}
use Rattle.std.specs.Int.{w64}
use Rattle.pdl_elem.specs.declared.Ty.{Ty}
use Rattle.pdl_elem.specs.Operators.{value_of}
use Rattle.pdl_elem.specs.Types.{InRange}
use Rattle.pdl_numbers.specs.Bytes.{bytes_of, number_of}
use Rattle.pdl_numbers.proofs.UpdateLemmas.{number_in_range}
use Rattle.pdl_numbers.proofs.packed.update_cell.Goals as goal

pub packed_value-requires : goal.packed_value-requires
packed_value-requires g c =
    let t : Ty = g.T.PackedType.ty in
    let x : to_z w64 (of_z w64 c.unpack.result) ≡ number_of t c.args.cell.now = to_z-of_z w64 c.unpack.result (record { sfits = c.unpack.type_inv }) ∙ c.unpack.ensures in
    let n : to_z w64 (of_z w64 c.args.number) ≡ c.args.number = to_z-of_z w64 c.args.number c.ranges.number in
    (search rules, (subst (InRange t) (sym x) (number_in_range c.wrapping_laws.ensures t c.args.cell.now), (subst (InRange t) (sym n) c.requires.number, λ d zero. c.requires.divisor d (sym n ∙ zero))))

pub returns : goal.returns
returns g c =
    let t : Ty = g.T.PackedType.ty in
    c.packed_value.ensures
    ∙ ap (bytes_of t) (ap₂ (value_of g.O.KnownOp.op t) (to_z-of_z w64 c.unpack.result (record { sfits = c.unpack.type_inv }) ∙ c.unpack.ensures) (to_z-of_z w64 c.args.number c.ranges.number))
