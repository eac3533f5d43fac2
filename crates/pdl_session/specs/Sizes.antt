-- Sizes as code checks them: one that is too large for any array is cut to 32 bits.
use Rattle.std.specs.Prelude.{ℕ, ℤ, pos, negsuc, nat_lt, if◌then◌else◌, Option, Some, None}

-- a size, or the largest number of 32 bits for a larger one
abbrev pub clamped_size : ℤ → Option ℕ
clamped_size (pos n) = Some (if nat_lt 4294967295 n then 4294967295 else n)
clamped_size (negsuc n) = None
