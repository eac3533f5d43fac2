-- One number more of each of the four.
use Rattle.std.proofs.Common.{◌≡◌, ◌≤◌, ℕ, ℤ, List, pos, ◌+ℤ◌, ◌*ℤ◌, length, get_or, arith, ap, sym, subst, ◌∙◌, to_z, of_z}
use Rattle.std.proofs.lemmas.Int.{to_z-of_z}
use Rattle.std.proofs.lemmas.List.{length-map}
use Rattle.std.specs.Int.{w32, w64}
use Rattle.std.specs.Int.RustNames.{unsigned_abs}
use Rattle.pdl_numbers.specs.Bytes.{number_of}
use Rattle.pdl_numbers.specs.Reads.{IsInside}
use Rattle.pdl_numbers.proofs.PlaceLists.{each_more}
use Rattle.pdl_numbers.proofs.reads.read_side_by_side.Goals as goal

pub number_after-requires-in-loop-j-2 : goal.number_after-requires-in-loop-j-2
number_after-requires-in-loop-j-2 g c =
    let thin : g.row.N ≤ 8 = g.met.T.PackedType.narrow in
    let all : length c.cells-cells.result.now ≡ length c.args.numbers.now = sym (length-map c.cells-cells.result.now (number_of g.T.PackedType.ty)) ∙ ap (λ (xs : List ℤ). length xs) c.cells-cells.ensures in
    let inc : to_z w32 (of_z w32 c.args.inc) ≡ c.args.inc = to_z-of_z w32 c.args.inc c.ranges.inc in (
      omega (arith, thin),
      (
        omega arith,
        subst (λ (z : ℤ). IsInside (length c.cells-cells.result.now) (pos c.args.third +ℤ z *ℤ pos c.loop-j.j)) (sym inc)
            (subst (λ (k : ℕ). IsInside k (pos c.args.third +ℤ c.args.inc *ℤ pos c.loop-j.j)) (sym all) (c.requires.c_inside c.loop-j.j (omega arith))),
      ),
    )

pub number_after-requires-in-loop-j-3 : goal.number_after-requires-in-loop-j-3
number_after-requires-in-loop-j-3 g c =
    let thin : g.row.N ≤ 8 = g.met.T.PackedType.narrow in
    let all : length c.cells-cells.result.now ≡ length c.args.numbers.now = sym (length-map c.cells-cells.result.now (number_of g.T.PackedType.ty)) ∙ ap (λ (xs : List ℤ). length xs) c.cells-cells.ensures in
    let inc : to_z w32 (of_z w32 c.args.inc) ≡ c.args.inc = to_z-of_z w32 c.args.inc c.ranges.inc in (
      omega (arith, thin),
      (
        omega arith,
        subst (λ (z : ℤ). IsInside (length c.cells-cells.result.now) (pos c.args.fourth +ℤ z *ℤ pos c.loop-j.j)) (sym inc)
            (subst (λ (k : ℕ). IsInside k (pos c.args.fourth +ℤ c.args.inc *ℤ pos c.loop-j.j)) (sym all) (c.requires.d_inside c.loop-j.j (omega arith))),
      ),
    )

pub loop-j-preserved : goal.loop-j-preserved
loop-j-preserved g c =
    let inc : ℤ = to_z w32 (of_z w32 c.args.inc) in
    let is : ℕ → ℕ → ℤ → Type 0 = λ place k x. x ≡ get_or c.args.numbers.now (unsigned_abs (pos place +ℤ inc *ℤ pos k)) (pos 0) in
    record {
      a = each_more (is c.args.first) c.loop-j.a c.loop-j.j _ (omega arith)
          (to_z-of_z w64 c.number_after.result (record { sfits = c.number_after.type_inv }) ∙ c.number_after.ensures ∙ ap (λ (xs : List ℤ). get_or xs (unsigned_abs (pos c.args.first +ℤ inc *ℤ pos c.loop-j.j)) (pos 0)) c.cells-cells.ensures)
          c.loop-j.invariant.a;
      b = each_more (is c.args.second) c.loop-j.b c.loop-j.j _ (omega arith)
          (to_z-of_z w64 c.number_after-in-loop-j.result (record { sfits = c.number_after-in-loop-j.type_inv }) ∙ c.number_after-in-loop-j.ensures ∙ ap (λ (xs : List ℤ). get_or xs (unsigned_abs (pos c.args.second +ℤ inc *ℤ pos c.loop-j.j)) (pos 0)) c.cells-cells.ensures)
          c.loop-j.invariant.b;
      c = each_more (is c.args.third) c.loop-j.c c.loop-j.j _ (omega arith)
          (to_z-of_z w64 c.number_after-in-loop-j-2.result (record { sfits = c.number_after-in-loop-j-2.type_inv }) ∙ c.number_after-in-loop-j-2.ensures ∙ ap (λ (xs : List ℤ). get_or xs (unsigned_abs (pos c.args.third +ℤ inc *ℤ pos c.loop-j.j)) (pos 0)) c.cells-cells.ensures)
          c.loop-j.invariant.c;
      d = each_more (is c.args.fourth) c.loop-j.d c.loop-j.j _ (omega arith)
          (to_z-of_z w64 c.number_after-in-loop-j-3.result (record { sfits = c.number_after-in-loop-j-3.type_inv }) ∙ c.number_after-in-loop-j-3.ensures ∙ ap (λ (xs : List ℤ). get_or xs (unsigned_abs (pos c.args.fourth +ℤ inc *ℤ pos c.loop-j.j)) (pos 0)) c.cells-cells.ensures)
          c.loop-j.invariant.d;
    }
