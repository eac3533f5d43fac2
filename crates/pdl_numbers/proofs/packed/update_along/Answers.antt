-- One place more, and all are changed at the end.
use Rattle.std.proofs.Common.{◌≡◌, ℕ, ◌+◌, ◌<◌, ◌≤◌, ℤ, pos, ◌+ℤ◌, ◌*ℤ◌, List, [], length, map, get_or, drop, rules, arith, refl, ap, ap₂, sym, subst, ◌∙◌, to_z, of_z, FitsSigned}
use Rattle.std.proofs.lemmas.Int.{to_z-of_z}
use Rattle.std.proofs.Math.Nat.{mul-le-mul}
use Rattle.std.proofs.lemmas.List.{length-set}
use Rattle.std.proofs.lemmas.List.FromFn.{length-map-range_with_len, get_or-map-range_with_len}
use Rattle.std.specs.Int.{w32, w64}
use Rattle.std.specs.List.{range_with_len}
use Rattle.std.specs.Prelude.{Option, None, Some, unsigned_abs}
use Rattle.pdl_elem.specs.declared.Ty.{Ty}
use Rattle.pdl_numbers.specs.Bytes.{number_of}
use Rattle.pdl_numbers.specs.Reads.{IsInside}
use Rattle.pdl_numbers.specs.Updates.{change, value_with}
use Rattle.pdl_numbers.specs.Writes.{stepped}
use Rattle.pdl_numbers.proofs.ReadRuns.{inside_below, place_fits, place_narrow}
use Rattle.pdl_numbers.proofs.ByteLemmas.{set_packed}
use Rattle.pdl_numbers.proofs.UpdateLemmas.{cell_changed, change_done, from_first, next_fits, one_further, value_in_range}
use Rattle.pdl_numbers.proofs.packed.update_along.Goals as goal

-- the place is one of the run
inside : (n place j at : ℕ) (inc w : ℤ) → w ≡ inc → to_z w64 at ≡ pos place +ℤ w *ℤ pos j → IsInside n (pos place +ℤ inc *ℤ pos j) → IsInside n (to_z w64 at)
inside n place j at inc w e here i = subst (IsInside n) (sym (here ∙ ap (λ z. pos place +ℤ z *ℤ pos j) e)) i

pub loop-j-init : goal.loop-j-init
loop-j-init g c = record {
  here = to_z-of_z w64 c.from-at.result (record { sfits = c.from-at.type_inv }) ∙ c.from-at.ensures ∙ from_first c.args.place (to_z w32 (of_z w32 c.args.inc));
  many = refl;
  packed = c.requires.packed;
  left = refl;
}

pub overflow_cast-at : goal.overflow_cast-at
overflow_cast-at g c =
    let i : IsInside (length c.args.cells.now) (to_z w64 c.loop-j.at-bits) = inside (length c.args.cells.now) c.args.place c.loop-j.j c.loop-j.at-bits c.args.inc (to_z w32 (of_z w32 c.args.inc)) (to_z-of_z w32 c.args.inc c.ranges.inc) c.loop-j.invariant.here (c.requires.inside c.loop-j.j c.loop-j-test.true) in
    place_fits _ i.place

pub offset_bounds-cells-at : goal.offset_bounds-cells-at
offset_bounds-cells-at g c =
    let i : IsInside (length c.args.cells.now) (to_z w64 c.loop-j.at-bits) = inside (length c.args.cells.now) c.args.place c.loop-j.j c.loop-j.at-bits c.args.inc (to_z w32 (of_z w32 c.args.inc)) (to_z-of_z w32 c.args.inc c.ranges.inc) c.loop-j.invariant.here (c.requires.inside c.loop-j.j c.loop-j-test.true) in
    let p : ℕ = unsigned_abs (to_z w64 c.loop-j.at-bits) in
    let low : p < 1048576 = place_narrow _ i.place in
    let thin : g.row.N ≤ 8 = g.met.T.PackedType.narrow in
    record { fits = omega (arith, mul-le-mul {n₁ = p} {m₁ = g.row.N} {n₂ = 1048576} {m₂ = 8} (omega arith) thin) }

pub bounds-cells-at : goal.bounds-cells-at
bounds-cells-at g c =
    let i : IsInside (length c.args.cells.now) (to_z w64 c.loop-j.at-bits) = inside (length c.args.cells.now) c.args.place c.loop-j.j c.loop-j.at-bits c.args.inc (to_z w32 (of_z w32 c.args.inc)) (to_z-of_z w32 c.args.inc c.ranges.inc) c.loop-j.invariant.here (c.requires.inside c.loop-j.j c.loop-j-test.true) in
    omega (arith, inside_below _ _ i, c.loop-j.invariant.many)

pub overflow_add-at : goal.overflow_add-at
overflow_add-at g c =
    let i : IsInside (length c.args.cells.now) (to_z w64 c.loop-j.at-bits) = inside (length c.args.cells.now) c.args.place c.loop-j.j c.loop-j.at-bits c.args.inc (to_z w32 (of_z w32 c.args.inc)) (to_z-of_z w32 c.args.inc c.ranges.inc) c.loop-j.invariant.here (c.requires.inside c.loop-j.j c.loop-j-test.true) in
    let by : c.from-at-in-loop-j.result ≡ to_z w32 (of_z w32 c.args.inc) = c.from-at-in-loop-j.ensures in
    let back : to_z w64 (of_z w64 c.from-at-in-loop-j.result) ≡ c.args.inc = to_z-of_z w64 c.from-at-in-loop-j.result (record { sfits = c.from-at-in-loop-j.type_inv }) ∙ by ∙ to_z-of_z w32 c.args.inc c.ranges.inc in
    subst (λ (z : ℤ). FitsSigned w64 (to_z w64 c.loop-j.at-bits +ℤ z)) (sym back) (next_fits (to_z w64 c.loop-j.at-bits) c.args.inc i.place c.ranges.inc)

pub loop-j-preserved : goal.loop-j-preserved
loop-j-preserved g c =
    let t : Ty = g.T.PackedType.ty in
    let n : ℕ = c.args.count in
    let inc : ℤ = to_z w32 (of_z w32 c.args.inc) in
    let z : ℤ = to_z w64 c.loop-j.at-bits in
    let p : ℕ = unsigned_abs z in
    let number : ℤ = to_z w64 (of_z w64 c.args.number) in
    let i : IsInside (length c.args.cells.now) z = inside (length c.args.cells.now) c.args.place c.loop-j.j c.loop-j.at-bits c.args.inc (to_z w32 (of_z w32 c.args.inc)) (to_z-of_z w32 c.args.inc c.ranges.inc) c.loop-j.invariant.here (c.requires.inside c.loop-j.j c.loop-j-test.true) in
    let below : p < length c.loop-j.cells = omega (arith, inside_below _ _ i, c.loop-j.invariant.many) in
    let back : to_z w64 (of_z w64 c.from-at-in-loop-j.result) ≡ inc = to_z-of_z w64 c.from-at-in-loop-j.result (record { sfits = c.from-at-in-loop-j.type_inv }) ∙ c.from-at-in-loop-j.ensures in
    let on : ℕ → Option ℕ = λ j. Some (unsigned_abs (pos c.args.place +ℤ inc *ℤ pos j)) in
    let ps : List (Option ℕ) = map on (range_with_len 0 n) in
    let long : length ps ≡ n = length-map-range_with_len on 0 n in
    let at : get_or ps c.loop-j.j None ≡ Some p = get_or-map-range_with_len on 0 n c.loop-j.j c.loop-j.j None c.loop-j-test.true (omega arith) ∙ ap (λ y. Some (unsigned_abs y)) (sym c.loop-j.invariant.here) in
    let fits : FitsSigned w64 (z +ℤ to_z w64 (of_z w64 c.from-at-in-loop-j.result)) = overflow_add-at g c in
    record {
      here = to_z-of_z w64 (z +ℤ to_z w64 (of_z w64 c.from-at-in-loop-j.result)) fits ∙ ap₂ ◌+ℤ◌ c.loop-j.invariant.here back ∙ one_further c.args.place c.loop-j.j inc;
      many = length-set c.loop-j.cells p c.update_cell.new.cell ∙ c.loop-j.invariant.many;
      packed = set_packed t c.loop-j.cells p (value_with g.O.KnownOp.op t number (number_of t (get_or c.loop-j.cells p []))) c.update_cell.new.cell (value_in_range c.wrapping_laws.ensures g.O.KnownOp.op t number (number_of t (get_or c.loop-j.cells p []))) c.update_cell.ensures c.loop-j.invariant.packed;
      left = cell_changed c.wrapping_laws.ensures g.O.KnownOp.op t number ps c.loop-j.cells p c.loop-j.j c.update_cell.new.cell (change (value_with g.O.KnownOp.op t number) ps (map (number_of t) c.args.cells.now)) (omega (arith, long, c.loop-j-test.true)) below at c.update_cell.ensures c.loop-j.invariant.left;
    }

pub returns-clause-packed : goal.returns-clause-packed
returns-clause-packed g c = c.loop-j.invariant.packed

pub returns-clause-value : goal.returns-clause-value
returns-clause-value g c =
    let t : Ty = g.T.PackedType.ty in
    let n : ℕ = c.args.count in
    let f : ℤ → ℤ → ℤ = value_with g.O.KnownOp.op t in
    let number : ℤ = to_z w64 (of_z w64 c.args.number) in
    let inc : ℤ = to_z w32 (of_z w32 c.args.inc) in
    let long : length (stepped c.args.place inc n) ≡ n = length-map-range_with_len (λ j. Some (unsigned_abs (pos c.args.place +ℤ inc *ℤ pos j))) 0 n in
    sym (change_done (f number) (stepped c.args.place inc n) (map (number_of t) c.loop-j.cells) c.loop-j.j (omega (arith, long))) ∙ c.loop-j.invariant.left
    ∙ ap₂ (λ (m y : ℤ). change (f m) (stepped c.args.place y n) (map (number_of t) c.args.cells.now)) (to_z-of_z w64 c.args.number c.ranges.number) (to_z-of_z w32 c.args.inc c.ranges.inc)
