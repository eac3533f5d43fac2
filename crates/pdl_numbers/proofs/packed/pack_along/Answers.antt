-- One cell more is packed, and all are packed at the end.
use Rattle.std.proofs.Common.{◌≡◌, ℕ, ◌+◌, ◌<◌, ◌≤◌, ℤ, pos, ◌+ℤ◌, ◌*ℤ◌, List, length, map, get_or, drop, rules, arith, ap, sym, ◌∙◌, to_z, of_z, FitsSigned}
use Rattle.std.proofs.lemmas.Int.{to_z-of_z}
use Rattle.std.proofs.Math.Nat.{mul-le-mul}
use Rattle.std.proofs.lemmas.List.{length-set}
use Rattle.std.proofs.lemmas.List.Elements.{All-get_or}
use Rattle.std.proofs.lemmas.List.FromFn.{length-map-range_with_len, get_or-map-range_with_len}
use Rattle.std.specs.Int.{w32, w64}
use Rattle.std.specs.List.{range_with_len}
use Rattle.std.specs.Prelude.{Option, None, Some, unsigned_abs}
use Rattle.pdl_elem.specs.declared.Ty.{Ty}
use Rattle.pdl_elem.specs.Types.{InRange}
use Rattle.pdl_shape.specs.Places.{put, write}
use Rattle.pdl_numbers.specs.Bytes.{bytes_of, number_of}
use Rattle.pdl_numbers.specs.Writes.{stepped}
use Rattle.pdl_numbers.proofs.ByteLemmas.{set_packed, set_number}
use Rattle.pdl_numbers.proofs.PlaceLists.{write_more, write_done}
use Rattle.pdl_numbers.proofs.ReadRuns.{place_narrow}
use Rattle.pdl_numbers.proofs.packed.pack_along.Goals as goal

pub offset_bounds-cells-place_after : goal.offset_bounds-cells-place_after
offset_bounds-cells-place_after g c =
    let inc : to_z w32 (of_z w32 c.args.inc) ≡ c.args.inc = to_z-of_z w32 c.args.inc c.ranges.inc in
    let p : ℕ = c.place_after.result in
    let e : p ≡ unsigned_abs (pos c.args.place +ℤ c.args.inc *ℤ pos c.loop-j.j) = c.place_after.ensures ∙ ap (λ (z : ℤ). unsigned_abs (pos c.args.place +ℤ z *ℤ pos c.loop-j.j)) inc in
    let low : p < 1048576 = omega (arith, e, place_narrow _ (c.requires.inside c.loop-j.j (omega arith)).place) in
    let thin : g.row.N ≤ 8 = g.met.T.PackedType.narrow in
    record { fits = omega (arith, mul-le-mul {n₁ = p} {m₁ = g.row.N} {n₂ = 1048576} {m₂ = 8} (omega arith) thin) }

pub loop-j-preserved : goal.loop-j-preserved
loop-j-preserved g c =
    let t : Ty = g.T.PackedType.ty in
    let n : ℕ = length c.args.numbers.now in
    let inc : ℤ = to_z w32 (of_z w32 c.args.inc) in
    let at : ℕ → Option ℕ = λ j. Some (unsigned_abs (pos c.args.place +ℤ inc *ℤ pos j)) in
    let ps : List (Option ℕ) = map at (range_with_len 0 n) in
    let l : length ps ≡ n = length-map-range_with_len at 0 n in
    let z : ℤ = get_or c.args.numbers.now c.loop-j.j (pos 0) in
    let f : FitsSigned w64 z = search rules in
    let r : InRange t z = All-get_or (InRange t) c.args.numbers.now c.loop-j.j (pos 0) (omega arith) c.requires.in_range in
    let e : c.pack.result ≡ bytes_of t z = c.pack.ensures ∙ ap (bytes_of t) (to_z-of_z w64 z f) in
    let p : ℕ = c.place_after.result in
    let here : Some p ≡ get_or ps c.loop-j.j None =
    ap Some c.place_after.ensures ∙ sym (get_or-map-range_with_len at 0 n c.loop-j.j c.loop-j.j None (omega arith) (omega arith)) in
    record {
      count = length-set c.loop-j.cells p c.pack.result ∙ c.loop-j.invariant.count;
      packed = set_packed t c.loop-j.cells p z c.pack.result r e c.loop-j.invariant.packed;
      left = ap (write (drop (c.loop-j.j + 1) ps) (drop (c.loop-j.j + 1) c.args.numbers.now)) (set_number t c.loop-j.cells p z c.pack.result r e)
          ∙ ap (λ (o : Option ℕ). write (drop (c.loop-j.j + 1) ps) (drop (c.loop-j.j + 1) c.args.numbers.now) (put o z (map (number_of t) c.loop-j.cells))) here
          ∙ sym (write_more ps c.args.numbers.now (map (number_of t) c.loop-j.cells) c.loop-j.j (omega (arith, l)) (omega arith)) ∙ c.loop-j.invariant.left;
    }

pub returns-clause-value : goal.returns-clause-value
returns-clause-value g c =
    let t : Ty = g.T.PackedType.ty in
    let n : ℕ = length c.args.numbers.now in
    let inc : ℤ = to_z w32 (of_z w32 c.args.inc) in
    let at : ℕ → Option ℕ = λ j. Some (unsigned_abs (pos c.args.place +ℤ inc *ℤ pos j)) in
    let l : length (stepped c.args.place inc n) ≡ n = length-map-range_with_len at 0 n in
    sym (write_done (stepped c.args.place inc n) c.args.numbers.now (map (number_of t) c.loop-j.cells) c.loop-j.j (omega (arith, l))) ∙ c.loop-j.invariant.left
    ∙ ap (λ (y : ℤ). write (stepped c.args.place y n) c.args.numbers.now (map (number_of t) c.args.cells.now)) (to_z-of_z w32 c.args.inc c.ranges.inc)
