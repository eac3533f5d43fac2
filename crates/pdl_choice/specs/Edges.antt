-- The edges of a dimension: which numbers are coordinates in it, and what stands for the others.
use Rattle.std.specs.Prelude.{◌<◌, IsTrue, ℕ, ◌-◌, nat_lt, nat_le, min, max, ◌+◌, ◌==◌, Bool, false, not, if◌then◌else◌, Option, Some, None, ℤ, pos, negsuc}
use Rattle.std.specs.Int.{int_rem_euclid}
use Rattle.pdl_choice.specs.declared.edges.Edge.{Edge}
use Rattle.pdl_choice.specs.declared.edges.Edge.TheVariants.{Refuse, Zero, Nearest, Periodic}

-- the number itself, and 0 for one below 0
abbrev pub from_zero : ℤ → ℕ
from_zero (pos z) = z
from_zero (negsuc z) = 0

-- whether a number is a coordinate in a dimension of size n
abbrev pub is_within : ℕ → ℤ → Bool
is_within n (pos z) = nat_lt z n
is_within n (negsuc z) = false

-- the coordinate that a number stands for in a dimension of size n, or nothing (PDL::Slices, range)
abbrev pub edge_coordinate : Edge → ℕ → ℤ → Option ℕ
edge_coordinate Refuse n z = Some (from_zero z)
edge_coordinate Zero n z = (if is_within n z then Some (from_zero z) else None)
edge_coordinate Nearest n z = Some (min (from_zero z) (n - 1))
edge_coordinate Periodic n z = Some (from_zero (int_rem_euclid z (pos n)))

-- whether n numbers from v on are all coordinates in a dimension of size n; a
-- size of 0 looks at one
abbrev pub is_window_within : ℕ → ℕ → ℤ → Bool
is_window_within n size (pos v) = nat_le (v + max size 1) n
is_window_within n size (negsuc v) = false

-- whether an edge refuses a window of this size that begins at v in a dimension of size n
abbrev pub edge_refuses : Edge → (dim size : ℕ) → (begin : ℤ) → Bool
edge_refuses Refuse n size v = not (is_window_within n size v)
edge_refuses Zero n size v = false
edge_refuses Nearest n size v = n == 0
edge_refuses Periodic n size v = n == 0

-- a number that an edge can place in a dimension of size n
abbrev pub CanPlace : Edge → ℕ → ℤ → Type 0
CanPlace Refuse n z = IsTrue (is_within n z)
CanPlace Zero n z = Unit {0}
CanPlace Nearest n z = 0 < n
CanPlace Periodic n z = 0 < n

-- at how many coordinates of a dimension of size n a window of this size may begin and lie inside; a
-- size of 0 looks at one
abbrev pub start_count : (dim size : ℕ) → ℕ
start_count n size = n - (size - 1)
