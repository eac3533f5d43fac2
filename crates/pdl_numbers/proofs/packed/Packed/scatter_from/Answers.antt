-- The cells at the places are copied, and the others stay.
use Rattle.std.proofs.Common.{◌≡◌, ℕ, ℤ, List, length, map, drop, rules, ap, ap₂, sym, subst, ◌∙◌, arith}
use Rattle.std.proofs.lemmas.List.{length-map, take_at}
use Rattle.pdl_elem.specs.declared.Ty.{Ty}
use Rattle.pdl_shape.specs.Places.{write}
use Rattle.pdl_numbers.specs.Bytes.{ArePacked, number_of}
use Rattle.pdl_numbers.proofs.packed.Packed.scatter_from.Goals as goal

pub copy_cells-requires : goal.copy_cells-requires
copy_cells-requires g c =
    let t : Ty = g.T.PackedType.ty in
    let paired : length c.args.places.now ≡ length c.as_slice.result.now =
    c.requires ∙ ap (λ (ns : List ℤ). length ns) (sym c.from.view_is) ∙ length-map c.from.inside.cells.items (number_of t) ∙ ap (λ (cells : List (List ℕ)). length cells) (sym c.as_slice.ensures.value) in
    (search rules, (paired, (subst (ArePacked t) (sym c.as_slice.ensures.value) c.from.invariant, subst (ArePacked t) (sym c.as_mut_slice.ensures.value) c.self.invariant)))

pub invariant_of-self : goal.invariant_of-self
invariant_of-self g c = subst (ArePacked g.T.PackedType.ty) (sym (take_at c.copy_cells.new.cells _ c.self.inside.cells.len (omega arith))) c.copy_cells.ensures.packed

pub returns : goal.returns
returns g c =
    let t : Ty = g.T.PackedType.ty in
    let cells : List (List ℕ) = c.copy_cells.new.cells in
    let rest : List (List ℕ) = drop (length cells) c.self.inside.cells.items in
    let before : map (number_of t) c.as_mut_slice.result.now ≡ c.args.self.now = ap (map (number_of t)) c.as_mut_slice.ensures.value ∙ c.self.view_is in
    ap (map (number_of t)) (take_at cells rest c.self.inside.cells.len (omega arith))
    ∙ c.copy_cells.ensures.value
    ∙ ap₂ (write c.args.places.now) (ap (map (number_of t)) c.as_slice.ensures.value ∙ c.from.view_is) before
