-- Where a triple puts what is written through it.
use Rattle.std.specs.Prelude.{ℕ, ◌+◌, ℤ, pos, ◌+ℤ◌, ◌*ℤ◌, unsigned_abs, List, map, Option, Some}
use Rattle.std.specs.List.{range_with_len}
use Rattle.pdl_shape.specs.Triple.{Triple}
use Rattle.pdl_numbers.specs.Shown.{place_at}

-- so many places from one on, each so far after the one before
abbrev pub stepped : (place : ℕ) → (inc : ℤ) → (count : ℕ) → List (Option ℕ)
stepped place inc count =
    map (λ j. Some (unsigned_abs (pos place +ℤ inc *ℤ pos j))) (range_with_len 0 count)

-- so many places from one on, side by side
abbrev pub onward : (first count : ℕ) → List (Option ℕ)
onward first count = map (λ p. Some (first + p)) (range_with_len 0 count)

-- the places that a triple shows at so many positions from one on
abbrev pub placed_from : Triple → (first count : ℕ) → List (Option ℕ)
placed_from t first count = map (λ p. Some (place_at t (first + p))) (range_with_len 0 count)
