-- The cell at the place has the bytes of the number.
use Rattle.std.proofs.Common.{◌≡◌, ℕ, List, length, map, drop, rules, ap, ap₂, sym, subst, ◌∙◌, arith}
use Rattle.std.proofs.lemmas.Int.{to_z-of_z}
use Rattle.std.proofs.lemmas.List.{take_at}
use Rattle.std.specs.Int.{w64}
use Rattle.pdl_elem.specs.declared.Ty.{Ty}
use Rattle.pdl_shape.specs.Places.{put}
use Rattle.pdl_numbers.specs.Bytes.{ArePacked, bytes_of, number_of}
use Rattle.pdl_numbers.proofs.ByteLemmas.{number_again, packed_again}
use Rattle.pdl_numbers.proofs.packed.Packed.put.Goals as goal

pub put_cell-requires : goal.put_cell-requires
put_cell-requires g c =
    let t : Ty = g.T.PackedType.ty in
    (search rules, (packed_again t c.args.number c.pack.result c.requires (c.pack.ensures ∙ ap (bytes_of t) (to_z-of_z w64 c.args.number c.ranges.number)), subst (ArePacked t) (sym c.as_mut_slice.ensures.value) c.self.invariant))

pub invariant_of-self : goal.invariant_of-self
invariant_of-self g c = subst (ArePacked g.T.PackedType.ty) (sym (take_at c.put_cell.new.cells _ c.self.inside.cells.len (omega arith))) c.put_cell.ensures.packed

pub returns : goal.returns
returns g c =
    let t : Ty = g.T.PackedType.ty in
    let cells : List (List ℕ) = c.put_cell.new.cells in
    let rest : List (List ℕ) = drop (length cells) c.self.inside.cells.items in
    let before : map (number_of t) c.as_mut_slice.result.now ≡ c.args.self.now = ap (map (number_of t)) c.as_mut_slice.ensures.value ∙ c.self.view_is in
    let packed : c.pack.result ≡ bytes_of t c.args.number = c.pack.ensures ∙ ap (bytes_of t) (to_z-of_z w64 c.args.number c.ranges.number) in
    let value : number_of t c.pack.result ≡ c.args.number = ap (number_of t) packed ∙ number_again t c.args.number c.requires in
    ap (map (number_of t)) (take_at cells rest c.self.inside.cells.len (omega arith))
    ∙ c.put_cell.ensures.value
    ∙ ap₂ (put c.args.place) value before
