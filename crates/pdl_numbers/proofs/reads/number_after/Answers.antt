-- The number at the place, unpacked.
use Rattle.std.proofs.Common.{◌≡◌, ◌<◌, ℕ, ℤ, List, pos, ◌+ℤ◌, ◌*ℤ◌, length, map, sym, get_or, arith, ap, ◌∙◌, to_z, of_z}
use Rattle.std.proofs.lemmas.Int.{to_z-of_z}
use Rattle.std.proofs.lemmas.List.{get_or-map}
use Rattle.std.specs.Int.{w32, w64}
use Rattle.std.specs.Int.RustNames.{unsigned_abs}
use Rattle.pdl_numbers.specs.Bytes.{number_of}
use Rattle.pdl_numbers.proofs.ReadRuns.{inside_below}
use Rattle.pdl_numbers.proofs.reads.number_after.Goals as goal

pub returns : goal.returns
returns g c =
    let n : List ℕ → ℤ = number_of g.T.PackedType.ty in
    let p : ℕ = c.place_after.result in
    let inc : to_z w32 (of_z w32 c.args.inc) ≡ c.args.inc = to_z-of_z w32 c.args.inc c.ranges.inc in
    let e : p ≡ unsigned_abs (pos c.args.place +ℤ c.args.inc *ℤ pos c.args.steps) = c.place_after.ensures ∙ ap (λ (z : ℤ). unsigned_abs (pos c.args.place +ℤ z *ℤ pos c.args.steps)) inc in
    let within : p < length c.args.cells.now = omega (arith, e, inside_below _ _ c.requires.inside) in
    to_z-of_z w64 c.unpack.result (record { sfits = c.unpack.type_inv }) ∙ c.unpack.ensures ∙ ap n c.index-cells-place_after.is
    ∙ sym (get_or-map n c.args.cells.now p c.index-cells-place_after.result (pos 0) within)
    ∙ ap (λ (q : ℕ). get_or (map n c.args.cells.now) q (pos 0)) e
