-- One value more is put, and all are put at the end.
use Rattle.std.proofs.Common.{◌≡◌, ℕ, ◌+◌, ℤ, pos, ◌+ℤ◌, ◌*ℤ◌, List, length, map, get_or, drop, rules, arith, ap, sym, ◌∙◌, to_z, of_z}
use Rattle.std.proofs.lemmas.Int.{to_z-of_z}
use Rattle.std.specs.Int.{w32, w64}
use Rattle.std.specs.List.{range_with_len}
use Rattle.std.specs.Prelude.{Option, None, Some, unsigned_abs}
use Rattle.std.proofs.lemmas.List.FromFn.{length-map-range_with_len, get_or-map-range_with_len}
use Rattle.pdl_shape.specs.Places.{put, write}
use Rattle.pdl_numbers.specs.Writes.{stepped}
use Rattle.pdl_numbers.proofs.PlaceLists.{write_more, write_done}
use Rattle.pdl_numbers.proofs.writes.write_steps.Goals as goal

pub loop-j-preserved : goal.loop-j-preserved
loop-j-preserved g c =
    let n : ℕ = length c.args.values.now in
    let inc : ℤ = to_z w32 (of_z w32 c.args.inc) in
    let at : ℕ → Option ℕ = λ j. Some (unsigned_abs (pos c.args.place +ℤ inc *ℤ pos j)) in
    let ps : List (Option ℕ) = map at (range_with_len 0 n) in
    let l : length ps ≡ n = length-map-range_with_len at 0 n in
    let z : ℤ = get_or c.args.values.now c.loop-j.j (pos 0) in
    let f : to_z w64 (of_z w64 z) ≡ z = search (rules, to_z-of_z) in
    let here : Some c.place_after.result ≡ get_or ps c.loop-j.j None =
    ap Some c.place_after.ensures ∙ sym (get_or-map-range_with_len at 0 n c.loop-j.j c.loop-j.j None (omega arith) (omega arith)) in
    ap (λ (es : List ℤ). write (drop (c.loop-j.j + 1) ps) (drop (c.loop-j.j + 1) c.args.values.now) es) (c.put.ensures ∙ ap (λ (y : ℤ). put (Some c.place_after.result) y c.loop-j.numbers) f)
    ∙ ap (λ (o : Option ℕ). write (drop (c.loop-j.j + 1) ps) (drop (c.loop-j.j + 1) c.args.values.now) (put o z c.loop-j.numbers)) here
    ∙ sym (write_more ps c.args.values.now c.loop-j.numbers c.loop-j.j (omega (arith, l)) (omega arith)) ∙ c.loop-j.invariant

pub returns : goal.returns
returns g c =
    let n : ℕ = length c.args.values.now in
    let inc : ℤ = to_z w32 (of_z w32 c.args.inc) in
    let at : ℕ → Option ℕ = λ j. Some (unsigned_abs (pos c.args.place +ℤ inc *ℤ pos j)) in
    let l : length (stepped c.args.place inc n) ≡ n = length-map-range_with_len at 0 n in
    sym (write_done (stepped c.args.place inc n) c.args.values.now c.loop-j.numbers c.loop-j.j (omega (arith, l))) ∙ c.loop-j.invariant
    ∙ ap (λ (z : ℤ). write (stepped c.args.place z n) c.args.values.now c.args.numbers.now) (to_z-of_z w32 c.args.inc c.ranges.inc)
