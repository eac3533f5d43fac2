-- The cells are the bytes of the numbers at the places.
use Rattle.std.proofs.Common.{ℕ, ℤ, List, map, rules, ap, sym, subst, ◌∙◌}
use Rattle.std.specs.Prelude.{Option}
use Rattle.pdl_elem.specs.declared.Ty.{Ty}
use Rattle.pdl_shape.specs.Places.{read}
use Rattle.pdl_numbers.specs.Bytes.{ArePacked, number_of}
use Rattle.pdl_numbers.proofs.ByteLemmas.{all_again, all_packed}
use Rattle.pdl_numbers.proofs.PlacedCells.{read_in_range}
use Rattle.pdl_numbers.proofs.packed.Packed.few_gathered.Goals as goal

pub fetched-requires : goal.fetched-requires
fetched-requires g c = (search rules, subst (ArePacked g.T.PackedType.ty) (sym c.as_slice.ensures.value) c.self.invariant)

pub invariant_of-result : goal.invariant_of-result
invariant_of-result g c =
    let t : Ty = g.T.PackedType.ty in
    let ps : List (Option ℕ) = c.args.places.now in
    let values : List ℤ = read ps (map (number_of t) c.as_slice.result.now) in
    subst (ArePacked t) (sym c.in_ok-cells.ensures) (all_packed t values (read_in_range c.wrapping_laws.ensures t ps c.as_slice.result.now))

pub returns : goal.returns
returns g c =
    let t : Ty = g.T.PackedType.ty in
    let ps : List (Option ℕ) = c.args.places.now in
    let values : List ℤ = read ps (map (number_of t) c.as_slice.result.now) in
    ap (map (number_of t)) c.in_ok-cells.ensures
    ∙ all_again t values (read_in_range c.wrapping_laws.ensures t ps c.as_slice.result.now)
    ∙ ap (read ps) (ap (map (number_of t)) c.as_slice.ensures.value ∙ c.self.view_is)
