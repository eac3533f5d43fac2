-- The cells at the places are packed, and the others stay.
use Rattle.std.proofs.Common.{◌≡◌, ℕ, List, length, map, drop, rules, ap, sym, subst, ◌∙◌, arith}
use Rattle.std.proofs.lemmas.List.{take_at}
use Rattle.std.specs.List.{range_with_len}
use Rattle.pdl_elem.specs.declared.Ty.{Ty}
use Rattle.pdl_shape.specs.Places.{write}
use Rattle.pdl_numbers.specs.Bytes.{ArePacked, number_of}
use Rattle.pdl_numbers.proofs.packed.Packed.put_by.Goals as goal

pub pack_by-requires : goal.pack_by-requires
pack_by-requires g c =
    (search rules, (c.requires.few, (c.requires.small, (c.requires.in_range, subst (ArePacked g.T.PackedType.ty) (sym c.as_mut_slice.ensures.value) c.self.invariant))))

pub invariant_of-self : goal.invariant_of-self
invariant_of-self g c = subst (ArePacked g.T.PackedType.ty) (sym (take_at c.pack_by.new.cells _ c.self.inside.cells.len (omega arith))) c.pack_by.ensures.packed

pub returns : goal.returns
returns g c =
    let t : Ty = g.T.PackedType.ty in
    let cells : List (List ℕ) = c.pack_by.new.cells in
    let rest : List (List ℕ) = drop (length cells) c.self.inside.cells.items in
    let before : map (number_of t) c.as_mut_slice.result.now ≡ c.args.self.now = ap (map (number_of t)) c.as_mut_slice.ensures.value ∙ c.self.view_is in
    ap (map (number_of t)) (take_at cells rest c.self.inside.cells.len (omega arith))
    ∙ c.pack_by.ensures.value
    ∙ ap (write (map (g.R.Route.goes_to c.args.route.now) (range_with_len 0 (length c.args.values.now))) c.args.values.now) before
