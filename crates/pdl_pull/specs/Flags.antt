-- The bits of words, as flags of numbers.
use Rattle.std.specs.Prelude.{ℕ, ◌/◌, ◌%◌, ◌==◌, Bool, List, map, slice_index}
use Rattle.std.specs.Int.{bit_at}
use Rattle.std.specs.List.{range_with_len}

-- the bit of the number n in words of 64 bits: those of the first word come first, from its lowest
abbrev pub bit_of : (words : List ℕ) → (n : ℕ) → Bool
bit_of words n = bit_at (slice_index words (n / 64)) (n % 64) == 1

-- the bits of the numbers below a count
unfoldable pub flags_of : (words : List ℕ) → (count : ℕ) → List Bool
flags_of words count = map (bit_of words) (range_with_len 0 count)
