-- Numbers that count from the end.
use Rattle.std.specs.Prelude.{ℕ, suc, ◌-◌, nat_lt, if◌then◌else◌, ℤ, pos, negsuc, Option, Some, None}

-- the one of n places that a number stands for: one below 0 counts from the end, and
-- there may be no such place (PDL::Slices)
abbrev pub from_end : (number : ℤ) → (n : ℕ) → Option ℕ
from_end (pos k) n = if nat_lt k n then Some k else None
from_end (negsuc k) n = if nat_lt k n then Some (n - suc k) else None
