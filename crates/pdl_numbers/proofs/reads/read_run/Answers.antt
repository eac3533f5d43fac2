-- A run of neighbours is a part of the numbers, and one that goes nowhere has one number.
use Rattle.std.proofs.Common.{◌≡◌, ◌+◌, ◌-◌, ◌<◌, ℕ, ℤ, pos, ◌+ℤ◌, ◌*ℤ◌, length, get_or, arith, ap, sym, ◌∙◌, to_z, FitsSigned}
use Rattle.std.proofs.lemmas.Int.{ints, to_z-of_z}
use Rattle.std.specs.Int.{w32, w64}
use Rattle.std.specs.Int.RustNames.{unsigned_abs}
use Rattle.pdl_numbers.specs.Reads.{IsInside}
use Rattle.pdl_numbers.proofs.PlaceLists.{block_at}
use Rattle.pdl_numbers.proofs.reads.read_run.Goals as goal

-- the place so many neighbours on
beside : (z : ℤ) (place j : ℕ) → z ≡ pos 1 → pos (place + j) ≡ pos place +ℤ z *ℤ pos j
beside z place j e = omega (arith, ints, ap (λ y. y *ℤ pos j) e)

pub read_from-requires : goal.read_from-requires
read_from-requires g c =
    let one : c.args.inc ≡ pos 1 = c.requires.beside c.if-at_once.true in
    let last : ℕ = length c.args.into.now - 1 in
    let i : IsInside (length c.args.numbers.now) (pos c.args.place +ℤ c.args.inc *ℤ pos last) = c.requires.inside last (omega (arith, c.requires.some c.if-at_once.true)) in
    let within : c.args.place + last < length c.args.numbers.now = omega (arith, ints, i.high, beside c.args.inc c.args.place last one) in
    (omega arith, omega arith)

pub returns-then-at_once : goal.returns-then-at_once
returns-then-at_once g c =
    let one : c.args.inc ≡ pos 1 = c.requires.beside c.if-at_once.true in
    λ j h.
    block_at c.args.numbers.now c.read_from.new.into c.args.place (length c.args.into.now) j c.read_from.ensures h
    ∙ ap (λ (z : ℤ). get_or c.args.numbers.now (unsigned_abs z) (pos 0)) (beside c.args.inc c.args.place j one)

-- the place without any increment
stays : (z : ℤ) (place j : ℕ) → z ≡ pos 0 → pos place ≡ pos place +ℤ z *ℤ pos j
stays z place j e = omega (arith, ints, ap (λ y. y *ℤ pos j) e)

pub returns-then-into-gt0 : goal.returns-then-into-gt0
returns-then-into-gt0 g c =
    let zero : c.args.inc ≡ pos 0 = sym (to_z-of_z w32 c.args.inc c.ranges.inc) ∙ ap (to_z w32) c.if-inc-eq0.true in
    let f : FitsSigned w64 c.get.result = record { sfits = c.get.type_inv } in
    λ j h.
    c.repeat_number.ensures j h ∙ to_z-of_z w64 c.get.result f ∙ c.get.ensures.value
    ∙ ap (λ (z : ℤ). get_or c.args.numbers.now (unsigned_abs z) (pos 0)) (stays c.args.inc c.args.place j zero)

pub get-requires : goal.get-requires
get-requires g c =
    let zero : c.args.inc ≡ pos 0 = sym (to_z-of_z w32 c.args.inc c.ranges.inc) ∙ ap (to_z w32) c.if-inc-eq0.true in
    let i : IsInside (length c.args.numbers.now) (pos c.args.place +ℤ c.args.inc *ℤ pos 0) = c.requires.inside 0 c.if-into-gt0.true in
    let within : c.args.place < length c.args.numbers.now = omega (arith, ints, i.high, stays c.args.inc c.args.place 0 zero) in
    (omega arith, within)
