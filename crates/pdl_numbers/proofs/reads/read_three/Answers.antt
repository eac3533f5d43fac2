-- Each of the three numbers stands at its place.
use Rattle.std.proofs.Common.{◌≡◌, ◌≤◌, ◌<◌, ℕ, ℤ, List, pos, ◌+ℤ◌, ◌*ℤ◌, length, map, set, get_or, arith, ap, ap₂, sym, subst, ◌∙◌, to_z, of_z}
use Rattle.std.proofs.lemmas.Int.{to_z-of_z}
use Rattle.std.proofs.lemmas.List.{length-map, length-set}
use Rattle.std.specs.Int.{w32, w64}
use Rattle.std.specs.Int.RustNames.{unsigned_abs}
use Rattle.pdl_numbers.specs.Bytes.{number_of}
use Rattle.pdl_numbers.specs.Reads.{IsInside}
use Rattle.pdl_numbers.proofs.PlaceLists.{each_more}
use Rattle.pdl_numbers.proofs.reads.read_three.Goals as goal

-- three numbers that are as their places want them
three_set : (P : ℕ → ℤ → Type 0) (ns : List ℤ) (a b d : ℤ) → length ns ≡ 3 → P 0 a → P 1 b → P 2 d
    → (k : ℕ) → k < length ns → P k (get_or (set (set (set ns 0 a) 1 b) 2 d) k (pos 0))
three_set P ns a b d three first second third k h =
    let one : length (set ns 0 a) ≡ 3 = length-set ns 0 a ∙ three in
    let two : length (set (set ns 0 a) 1 b) ≡ 3 = length-set (set ns 0 a) 1 b ∙ one in
    each_more P (set (set ns 0 a) 1 b) 2 d (omega (arith, two)) third
    (each_more P (set ns 0 a) 1 b (omega (arith, one)) second
    (each_more P ns 0 a (omega (arith, three)) first (λ j low. absurd (omega (arith, low)))))
    k (omega (arith, h, three))

pub number_after-requires-3 : goal.number_after-requires-3
number_after-requires-3 g c =
    let thin : g.row.N ≤ 8 = g.met.T.PackedType.narrow in
    let all : length c.cells-cells.result.now ≡ length c.args.numbers.now = sym (length-map c.cells-cells.result.now (number_of g.T.PackedType.ty)) ∙ ap (λ (xs : List ℤ). length xs) c.cells-cells.ensures in
    let inc : to_z w32 (of_z w32 c.args.inc) ≡ c.args.inc = to_z-of_z w32 c.args.inc c.ranges.inc in (
      omega (arith, thin),
      (
        omega arith,
        subst (λ (z : ℤ). IsInside (length c.cells-cells.result.now) (pos c.args.place +ℤ z *ℤ pos 2)) (sym inc)
            (subst (λ (k : ℕ). IsInside k (pos c.args.place +ℤ c.args.inc *ℤ pos 2)) (sym all) (c.requires.inside 2 (omega (arith, c.requires.three)))),
      ),
    )

pub returns : goal.returns
returns g c =
    let inc : to_z w32 (of_z w32 c.args.inc) ≡ c.args.inc = to_z-of_z w32 c.args.inc c.ranges.inc in
    let is : ℕ → ℤ → Type 0 = λ k x. x ≡ get_or c.args.numbers.now (unsigned_abs (pos c.args.place +ℤ c.args.inc *ℤ pos k)) (pos 0) in
    let there : (k : ℕ) → get_or (map (number_of g.T.PackedType.ty) c.cells-cells.result.now) (unsigned_abs (pos c.args.place +ℤ to_z w32 (of_z w32 c.args.inc) *ℤ pos k)) (pos 0)
    ≡ get_or c.args.numbers.now (unsigned_abs (pos c.args.place +ℤ c.args.inc *ℤ pos k)) (pos 0) =
    λ k. ap₂ (λ (xs : List ℤ) (z : ℤ). get_or xs (unsigned_abs (pos c.args.place +ℤ z *ℤ pos k)) (pos 0)) c.cells-cells.ensures inc in
    three_set is c.args.into.now _ _ _ c.requires.three
    (to_z-of_z w64 c.number_after.result (record { sfits = c.number_after.type_inv }) ∙ c.number_after.ensures ∙ there 0)
    (to_z-of_z w64 c.number_after-2.result (record { sfits = c.number_after-2.type_inv }) ∙ c.number_after-2.ensures ∙ there 1)
    (to_z-of_z w64 c.number_after-3.result (record { sfits = c.number_after-3.type_inv }) ∙ c.number_after-3.ensures ∙ there 2)
