-- The rows of so many places stand side by side, or are one row.
use Rattle.std.proofs.Common.{◌≡◌, ℕ, ◌+◌, ◌*◌, ◌/◌, ◌%◌, ◌<◌, ◌≤◌, ◌≢◌, ℤ, List, length, map, take, drop, arith, inl, inr, ap, sym, ◌∙◌}
use Rattle.std.proofs.lemmas.List.{length-take-le}
use Rattle.std.proofs.Math.Nat.{add-mul, div-one, mod-lt, mul-le-mul}
use Rattle.pdl_elem.specs.Numbers.{wrapped}
use Rattle.pdl_reduce.specs.Blocks.{nth_block}
use Rattle.pdl_reduce.proofs.ReductionResults.{row_inside}
use Rattle.pdl_reduce.proofs.BlockShortRows.{next_row, same_row, same_turn}
use Rattle.pdl_reduce.proofs.sums.read_rows.Goals as goal

-- where each place has the next row, a place's row is what is left of it
row_of : (place times rows : ℕ) → times ≡ 1 → place / times % rows ≡ place % rows
row_of place times rows e = ap (λ (t : ℕ). place / t % rows) e ∙ ap (λ (n : ℕ). n % rows) (div-one place)

rows_inside : (row places rows size total : ℕ) → row + places ≤ rows → total ≡ rows * size → row * size + places * size ≤ total
rows_inside row places rows size total h all =
    omega (arith, all, mul-le-mul {n₁ = row + places} {m₁ = size} {n₂ = rows} {m₂ = size} h (omega arith), add-mul row places size)

pub read_wrapped-requires-else-turn-ne1 : goal.read_wrapped-requires-else-turn-ne1
read_wrapped-requires-else-turn-ne1 c =
    let size : ℕ = c.args.size in
    let rows : ℕ = c.args.turn.rows in
    let few : c.args.place % rows + c.args.places ≤ rows = c.requires.rows_left c.if-turn-ne1.false.0 c.if-turn-ne1.false.1 in
    omega (
      arith,
      length-take-le (c.args.places * size) c.args.room.now c.requires.room,
      ap (λ (n : ℕ). n * size) (row_of c.args.place c.args.turn.times rows c.if-turn-ne1.false.1),
      rows_inside (c.args.place % rows) c.args.places rows size (length c.args.from.now.elems) few c.requires.all,
    )

pub returns-then-turn-ne1-clause-rows : goal.returns-then-turn-ne1-clause-rows
returns-then-turn-ne1-clause-rows c = λ j h.
    let es : List ℤ = c.args.from.now.elems in
    let size : ℕ = c.args.size in
    let rows : ℕ = c.args.turn.rows in
    let times : ℕ = c.args.turn.times in
    let row : ℕ = c.args.place / times % rows in
    let part : List ℤ = c.read_wrapped.new.into in
    let room : size ≤ length c.args.room.now = omega (arith, c.requires.room, mul-le-mul {n₁ = 1} {m₁ = size} {n₂ = c.args.places} {m₂ = size} (omega (arith, c.requires.some)) (omega arith)) in
    let is : part ≡ map (wrapped c.args.ty) (take size (drop (row * size) es)) =
    c.read_wrapped.ensures ∙ ap (λ (n : ℕ). map (wrapped c.args.ty) (take n (drop (row * size) es))) (length-take-le size c.args.room.now room) in
    let fits : row * size + size ≤ length es = omega (arith, c.requires.all, row_inside row rows size (mod-lt (c.args.place / times) c.requires.rows)) in
    let stays : rows ≢ 1 → c.args.place % times + j < times = λ more. elim c.if-turn-ne1.either [
      | inl one ↦ absurd (more one)
      | inr both ↦ omega (arith, h, c.requires.row_left both.0 both.1)
    ] in
    same_row c.args.ty es part (drop size c.args.room.now) size row j fits is ∙ ap (nth_block c.args.ty size es) (same_turn c.args.place j times rows stays)

pub returns-else-turn-ne1-clause-rows : goal.returns-else-turn-ne1-clause-rows
returns-else-turn-ne1-clause-rows c = λ j h.
    let es : List ℤ = c.args.from.now.elems in
    let size : ℕ = c.args.size in
    let rows : ℕ = c.args.turn.rows in
    let times : ℕ = c.args.turn.times in
    let place : ℕ = c.args.place in
    let first : ℕ = place / times % rows * size in
    let few : place % rows + c.args.places ≤ rows = c.requires.rows_left c.if-turn-ne1.false.0 c.if-turn-ne1.false.1 in
    let n : ℕ = length (take (c.args.places * size) c.args.room.now) in
    let long : n ≡ c.args.places * size = length-take-le (c.args.places * size) c.args.room.now c.requires.room in
    let start : first ≡ place % rows * size = ap (λ (m : ℕ). m * size) (row_of place times rows c.if-turn-ne1.false.1) in
    let fits : first + n ≤ length es = omega (arith, long, start, rows_inside (place % rows) c.args.places rows size (length es) few c.requires.all) in
    next_row c.args.ty es c.read_wrapped-else-turn-ne1.new.into (drop (c.args.places * size) c.args.room.now) size c.args.places first rows place j n long start few h c.requires.rows fits c.read_wrapped-else-turn-ne1.ensures
    ∙ ap (nth_block c.args.ty size es) (sym (row_of (place + j) times rows c.if-turn-ne1.false.1))
