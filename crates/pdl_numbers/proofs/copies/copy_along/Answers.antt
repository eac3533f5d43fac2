-- One cell more is copied, and all are at the end.
use Rattle.std.proofs.Common.{◌≡◌, ◌<◌, ◌≤◌, ℕ, ℤ, List, pos, ◌+ℤ◌, ◌*ℤ◌, length, map, arith, ap, sym, subst, ◌∙◌, to_z, of_z}
use Rattle.std.proofs.lemmas.Int.{to_z-of_z}
use Rattle.std.proofs.Math.Nat.{mul-le-mul}
use Rattle.std.proofs.lemmas.List.{length-set}
use Rattle.std.proofs.lemmas.List.Elements.{All-get_or, All-set}
use Rattle.std.specs.Int.{w32}
use Rattle.std.specs.Prelude.{unsigned_abs}
use Rattle.pdl_elem.specs.declared.Ty.{Ty}
use Rattle.pdl_shape.specs.Places.{read, write}
use Rattle.pdl_numbers.specs.Bytes.{IsPacked, number_of}
use Rattle.pdl_numbers.specs.Writes.{stepped}
use Rattle.pdl_numbers.proofs.CopyLemmas.{cell_copied, length_stepped}
use Rattle.pdl_numbers.proofs.PlaceLists.{write_done}
use Rattle.pdl_numbers.proofs.ReadRuns.{inside_below, place_narrow}
use Rattle.pdl_numbers.proofs.copies.copy_along.Goals as goal

pub offset_bounds-cells-place_after : goal.offset_bounds-cells-place_after
offset_bounds-cells-place_after g c =
    let inc : to_z w32 (of_z w32 c.args.inc) ≡ c.args.inc = to_z-of_z w32 c.args.inc c.ranges.inc in
    let p : ℕ = c.place_after-in-loop-j.result in
    let e : p ≡ unsigned_abs (pos c.args.place +ℤ c.args.inc *ℤ pos c.loop-j.j) = c.place_after-in-loop-j.ensures ∙ ap (λ (z : ℤ). unsigned_abs (pos c.args.place +ℤ z *ℤ pos c.loop-j.j)) inc in
    let low : p < 1048576 = omega (arith, e, place_narrow _ (c.requires.inside c.loop-j.j (omega arith)).place) in
    let thin : g.row.N ≤ 8 = g.met.T.PackedType.narrow in
    record { fits = omega (arith, mul-le-mul {n₁ = p} {m₁ = g.row.N} {n₂ = 1048576} {m₂ = 8} (omega arith) thin) }

pub loop-j-preserved : goal.loop-j-preserved
loop-j-preserved g c =
    let t : Ty = g.T.PackedType.ty in
    let from : List (List ℕ) = c.args.from.now in
    let j : ℕ = c.loop-j.j in
    let p : ℕ = c.place_after-in-loop-j.result in
    let q : ℕ = c.place_after.result in
    let step : to_z w32 (of_z w32 c.args.step) ≡ c.args.step = to_z-of_z w32 c.args.step c.ranges.step in
    let e : q ≡ unsigned_abs (pos c.args.first +ℤ c.args.step *ℤ pos j) = c.place_after.ensures ∙ ap (λ (z : ℤ). unsigned_abs (pos c.args.first +ℤ z *ℤ pos j)) step in
    let within : q < length from = omega (arith, e, inside_below _ _ (c.requires.from_inside j (omega arith))) in
    let cell : List ℕ = c.index-from-place_after.result in
    let packed : IsPacked t cell = subst (IsPacked t) (sym c.index-from-place_after.is) (All-get_or (IsPacked t) from q cell within c.requires.from_packed) in
    record {
      count = length-set c.loop-j.cells p cell ∙ c.loop-j.invariant.count;
      packed = All-set (IsPacked t) c.loop-j.cells p cell packed c.loop-j.invariant.packed;
      left = cell_copied t from c.loop-j.cells c.args.first c.args.place (to_z w32 (of_z w32 c.args.step)) (to_z w32 (of_z w32 c.args.inc)) c.args.count j q p cell _ (omega arith) within c.place_after.ensures c.place_after-in-loop-j.ensures c.index-from-place_after.is c.loop-j.invariant.left;
    }

pub returns-clause-value : goal.returns-clause-value
returns-clause-value g c =
    let t : Ty = g.T.PackedType.ty in
    let n : ℕ = c.args.count in
    let inc : ℤ = to_z w32 (of_z w32 c.args.inc) in
    let step : ℤ = to_z w32 (of_z w32 c.args.step) in
    let es : List ℤ = map (number_of t) c.args.from.now in
    sym (write_done (stepped c.args.place inc n) (read (stepped c.args.first step n) es) (map (number_of t) c.loop-j.cells) c.loop-j.j (omega (arith, length_stepped c.args.place inc n))) ∙ c.loop-j.invariant.left
    ∙ ap (λ (y : ℤ). write (stepped c.args.place y n) (read (stepped c.args.first step n) es) (map (number_of t) c.args.cells.now)) (to_z-of_z w32 c.args.inc c.ranges.inc)
    ∙ ap (λ (y : ℤ). write (stepped c.args.place c.args.inc n) (read (stepped c.args.first y n) es) (map (number_of t) c.args.cells.now)) (to_z-of_z w32 c.args.step c.ranges.step)
