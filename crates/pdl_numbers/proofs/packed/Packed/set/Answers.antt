-- One number is another, and all are packed.
use Rattle.std.proofs.Common.{List, ℤ, ap, ◌∙◌}
use Rattle.std.specs.Prelude.{slice_set}
use Rattle.std.proofs.lemmas.Int.{to_z-of_z}
use Rattle.std.specs.Int.{w64}
use Rattle.pdl_numbers.specs.Bytes.{bytes_of}
use Rattle.pdl_numbers.proofs.ByteLemmas.{set_packed, set_number}
use Rattle.pdl_numbers.proofs.packed.Packed.set.Goals as goal

pub invariant_of-self : goal.invariant_of-self
invariant_of-self g c =
    set_packed g.T.PackedType.ty c.self.inside.cells.items c.args.place c.args.number c.pack.result c.requires.in_range
    (c.pack.ensures ∙ ap (bytes_of g.T.PackedType.ty) (to_z-of_z w64 c.args.number c.ranges.number)) c.self.invariant

pub returns : goal.returns
returns g c =
    set_number g.T.PackedType.ty c.self.inside.cells.items c.args.place c.args.number c.pack.result c.requires.in_range
    (c.pack.ensures ∙ ap (bytes_of g.T.PackedType.ty) (to_z-of_z w64 c.args.number c.ranges.number))
    ∙ ap (λ (xs : List ℤ). slice_set xs c.args.place c.args.number) c.self.view_is
