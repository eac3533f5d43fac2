-- What is unpacked is the number in the cell.
use Rattle.std.proofs.Common.{ℤ, ap, ap₂, ◌∙◌}
use Rattle.std.proofs.lemmas.Int.{to_z-of_z}
use Rattle.std.specs.Int.{w64}
use Rattle.pdl_elem.specs.declared.Ty.{Ty}
use Rattle.pdl_elem.specs.Numbers.{wrapped}
use Rattle.pdl_numbers.specs.Bytes.{bytes_of}
use Rattle.pdl_numbers.proofs.folds.fold_cell.Goals as goal

pub returns : goal.returns
returns g c =
    let t : Ty = g.T.PackedType.ty in
    c.packed_wrapped.ensures
    ∙ ap (λ (z : ℤ). bytes_of t (wrapped t z))
    (to_z-of_z w64 c.take.result (record { sfits = c.take.type_inv }) ∙ c.take.ensures
    ∙ ap₂ g.F.Folding.taken (to_z-of_z w64 c.unpack.result (record { sfits = c.unpack.type_inv }) ∙ c.unpack.ensures) (to_z-of_z w64 c.args.number c.ranges.number))
