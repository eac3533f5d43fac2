-- What each argument of a slice takes of one dimension of the parent (PDL::Slices).
use Rattle.std.specs.Prelude.{ℕ, suc, ◌+◌, ◌-◌, ◌*◌, ◌/◌, Bool, true, false, not, ◌&&◌, ◌==◌, nat_le, if◌then◌else◌, List, [], ◌∷◌, map, get_or, drop, ℤ, pos, negsuc, nat_abs, Option, Some, None, is_none, option_map, option_and_then}
use Rattle.pdl_shape.specs.Counting.{from_end}
use Rattle.pdl_slices.specs.declared.SliceArg.{SliceArg}
use Rattle.pdl_slices.specs.declared.SliceArg.TheVariants.{Whole, One, Dropped, Dummy, Span}

-- The coordinate along one dimension of the parent: the first one and so many steps,
-- in a dimension of that size; or always this one, without a dimension; or a new dimension of that
-- size, without a coordinate.
pub data Line : Type 0 where
  kept : (first : ℕ) (step : ℤ) (size : ℕ) → Line
  lost : (first : ℕ) → Line
  added : (size : ℕ) → Line

-- the step is negative
abbrev pub falls : Option ℤ → Bool
falls None = false
falls (Some (pos s)) = false
falls (Some (negsuc s)) = true

-- how far apart two places are
abbrev pub distance : ℕ → ℕ → ℕ
distance a b = (a - b) + (b - a)

-- the step leads from a towards b, or they are the same
abbrev pub leads : ℕ → ℕ → ℤ → Bool
leads a b (pos s) = nat_le a b
leads a b (negsuc s) = nat_le b a

-- from a to b, both included; without a step it is 1 or -1, and a step that leads
-- away from b takes nothing
abbrev pub span_line : ℕ → ℕ → Option ℤ → Line
span_line a b None = kept a (if nat_le a b then pos 1 else negsuc 0) (distance a b + 1)
span_line a b (Some s) = kept a s (if leads a b s then distance a b / nat_abs s + 1 else 0)

-- a step isn't 0
abbrev pub is_step : Option ℤ → Bool
is_step None = true
is_step (Some s) = not (nat_abs s == 0)

-- an end of a span, or the end that a missing one stands for
abbrev pub end_of : Option ℤ → ℕ → ℕ → Option ℕ
end_of None missing n = Some missing
end_of (Some k) missing n = from_end k n

-- a span in a dimension of size n: missing ends are the first and the last place in the
-- direction of the step, and without both a dimension of size 0 has none
abbrev pub spanned : (from to step : Option ℤ) → (size : ℕ) → Option Line
spanned from to step n =
    if is_none from && is_none to && (n == 0) then Some (kept 0 (pos 1) 0)
    else option_and_then (λ a. option_map (λ b. span_line a b step)
    (end_of to (if falls step then 0 else n - 1) n))
    (end_of from (if falls step then n - 1 else 0) n)

-- what an argument takes of a dimension of size n, or nothing where a number is out of range
abbrev pub line_of : SliceArg → ℕ → Option Line
line_of Whole n = Some (kept 0 (pos 1) n)
line_of (One k) n = option_map (λ f. kept f (pos 1) 1) (from_end k n)
line_of (Dropped k) n = option_map lost (from_end k n)
line_of (Dummy m) n = Some (added m)
line_of (Span from to step) n = spanned from to step n

-- a line before others, if all are in range
abbrev pub line_cons : Option Line → Option (List Line) → Option (List Line)
line_cons (Some l) (Some ls) = Some (l ∷ ls)
line_cons (Some l) None = None
line_cons None ls = None

-- each argument but a new dimension takes the next dimension of the parent, one of
-- size 1 past the last, and dimensions without an argument are whole
abbrev pub lines_of : List SliceArg → List ℕ → Option (List Line)
lines_of [] ds = Some (map (λ d. kept 0 (pos 1) d) ds)
lines_of (Dummy m ∷ args) ds = line_cons (Some (added m)) (lines_of args ds)
lines_of (arg ∷ args) [] = line_cons (line_of arg 1) (lines_of args [])
lines_of (arg ∷ args) (d ∷ ds) = line_cons (line_of arg d) (lines_of args ds)

-- the sizes of the lines' dimensions
abbrev pub line_sizes : List Line → List ℕ
line_sizes [] = []
line_sizes (kept first step size ∷ ls) = size ∷ line_sizes ls
line_sizes (lost first ∷ ls) = line_sizes ls
line_sizes (added size ∷ ls) = size ∷ line_sizes ls

-- first + step * c
abbrev pub stepped : ℕ → ℤ → ℕ → ℕ
stepped first (pos s) c = first + s * c
stepped first (negsuc s) c = first - suc s * c

-- the parent's coordinates for coordinates of the lines' dimensions
abbrev pub line_sources : List Line → List ℕ → List ℕ
line_sources [] cs = []
line_sources (kept first step size ∷ ls) cs = stepped first step (get_or cs 0 0)
    ∷ line_sources ls (drop 1 cs)
line_sources (lost first ∷ ls) cs = first ∷ line_sources ls cs
line_sources (added size ∷ ls) cs = line_sources ls (drop 1 cs)
