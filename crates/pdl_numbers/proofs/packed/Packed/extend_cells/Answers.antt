-- All cells are packed, whether the others came or not.
use Rattle.std.proofs.Common.{List, ℕ, ◌++◌, true, false, sym, subst}
use Rattle.std.specs.Bool.{if◌then◌else◌}
use Rattle.std.specs.Result.{is_ok}
use Rattle.std.proofs.lemmas.List.Elements.{All-append}
use Rattle.pdl_elem.specs.declared.Ty.{Ty}
use Rattle.pdl_numbers.specs.Bytes.{ArePacked, IsPacked}
use Rattle.pdl_numbers.proofs.packed.Packed.extend_cells.Goals as goal

pub invariant_of-self : goal.invariant_of-self
invariant_of-self g c =
    let t : Ty = g.T.PackedType.ty in
    let old : List (List ℕ) = c.self.inside.cells.items in
    subst (ArePacked t) (sym c.extend_from_slice.ensures.items)
    (elim (is_ok c.extend_from_slice.result) as (λ b. ArePacked t (if b then old ++ c.args.cells.now else old)) [
      | true ↦ All-append (IsPacked t) old c.args.cells.now c.self.invariant c.requires
      | false ↦ c.self.invariant
    ])
