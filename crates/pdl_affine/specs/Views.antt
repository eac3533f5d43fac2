-- The affine views (PDL::Slices): for each transformation the dimensions of the view, or
-- the first refusal, and the parent's coordinates for the view's. No line has an
-- offset or an increment.
use Rattle.std.specs.Prelude.{ℕ, ◌-◌, Bool, true, false, not, ◌&&◌, ◌||◌, ◌==◌, nat_lt, nat_le, if◌then◌else◌, List, [], ◌∷◌, ◌++◌, map, length, get_or, take, drop, replicate, filter, swap, insert, remove, position, ℤ, pos, negsuc, Option, Some, None, option_map, option_and_then, unwrap_or, Result, Ok, Err}
use Rattle.std.specs.List.{list_any, list_all, range_with_len}
use Rattle.pdl_shape.specs.Clump.{clump_count, clump_sizes, clump_source}
use Rattle.pdl_shape.specs.Counting.{from_end}
use Rattle.pdl_shape.specs.Limits.{checked_dims}
use Rattle.pdl_shape.specs.Refusals.{Refusal, bad_dimension, out_of_range, too_many_dims, too_large}
use Rattle.pdl_affine.specs.declared.Affine.{Affine}
use Rattle.pdl_affine.specs.declared.Affine.TheVariants as affine
use Rattle.pdl_affine.specs.declared.PlanFault.{PlanFault}
use Rattle.pdl_affine.specs.declared.PlanFault.TheVariants.{BadDimension, OutOfRange, TooManyDims, TooLarge, NoMemory}
use Rattle.pdl_slices.specs.declared.SliceArg.{SliceArg}
use Rattle.pdl_slices.specs.declared.SliceArg.TheVariants.{Whole, One, Dropped, Dummy, Span}
use Rattle.pdl_affine.specs.Slicing.{Line, is_step, lines_of, line_sizes, line_sources}

-- a transformation whose numbers are resolved against the parent's dimensions
pub data Form : Type 0 where
  sliced : (lines : List Line) → Form
  exchanged : (a b : ℕ) → Form
  shifted : (a b : ℕ) → Form
  arranged : (order : List ℕ) → Form
  inserted : (place size : ℕ) → Form
  diagonal : (listed : List ℕ) → Form
  squeezed : Form
  clumped : (count : ℕ) → Form

-- the dimensions of these numbers, or nothing where there is no such dimension
abbrev pub all_counted : List ℤ → ℕ → Option (List ℕ)
all_counted [] n = Some []
all_counted (k ∷ ks) n = option_and_then (λ i. option_map (λ is. i ∷ is) (all_counted ks n))
    (from_end k n)

-- the number is in the list
abbrev pub lists : List ℕ → ℕ → Bool
lists is i = list_any (λ j. j == i) is

-- no number stands twice
abbrev pub is_distinct : List ℕ → Bool
is_distinct [] = true
is_distinct (i ∷ is) = not (lists is i) && is_distinct is

-- each of n dimensions stands there once
abbrev pub is_arrangement : List ℕ → ℕ → Bool
is_arrangement is n = (length is == n) && list_all (λ i. lists is i) (range_with_len 0 n)

-- all of these dimensions have one size
abbrev pub are_same_size : List ℕ → List ℕ → Bool
are_same_size [] ds = true
are_same_size (i ∷ is) ds = list_all (λ j. get_or ds j 0 == get_or ds i 0) is

-- where a new dimension goes among n: a negative place counts from one past the last
abbrev pub new_place : ℤ → ℕ → Option ℕ
new_place (pos p) n = Some p
new_place (negsuc k) n = if nat_le k n then Some (n - k) else None

-- the form, or this refusal where there is none
abbrev pub or_refusal : Refusal → Option Form → Result Form Refusal
or_refusal refusal None = Err refusal
or_refusal refusal (Some form) = Ok form

-- the form, if the test holds
abbrev pub when : Bool → Form → Option Form
when true form = Some form
when false form = None

abbrev pub inserted_at : Option ℕ → ℤ → Option Form
inserted_at None size = None
inserted_at (Some p) (pos m) = Some (inserted p m)
inserted_at (Some p) (negsuc m) = None

-- the transformation on a parent of these dimensions, or the refusal of its numbers
abbrev pub resolved : Affine → List ℕ → Result Form Refusal
resolved (affine.Slice args) ds = or_refusal out_of_range (option_map sliced (lines_of args ds))
resolved (affine.Xchg a b) ds =
    or_refusal bad_dimension (option_and_then (λ i. option_map (λ j.
    exchanged i j) (from_end b (length ds))) (from_end a (length ds)))
resolved (affine.Mv a b) ds =
    or_refusal bad_dimension (option_and_then (λ i. option_map (λ j.
    shifted i j) (from_end b (length ds))) (from_end a (length ds)))
resolved (affine.Reorder order) ds =
    or_refusal bad_dimension (option_and_then (λ is.
    when (is_arrangement is (length ds)) (arranged is)) (all_counted order (length ds)))
resolved (affine.Dummy place size) ds =
    or_refusal bad_dimension (inserted_at (new_place place (length ds)) size)
resolved (affine.Diagonal listed) ds =
    or_refusal bad_dimension (option_and_then (λ is.
    when (is_distinct is && are_same_size is ds) (diagonal is))
    (all_counted listed (length ds)))
resolved affine.Squeeze ds = Ok squeezed
resolved (affine.Clump count) ds = or_refusal bad_dimension
    (option_map clumped (clump_count count (length ds)))

-- the dimension of a diagonal that stands for this one: the lowest listed one for each listed one
abbrev pub lowest_of : List ℕ → ℕ
lowest_of [] = 0
lowest_of (i ∷ []) = i
lowest_of (i ∷ j ∷ is) = lower i (lowest_of (j ∷ is)) where
  lower : ℕ → ℕ → ℕ
  lower a b = if nat_le a b then a else b

-- the dimensions below n that a diagonal keeps: those that aren't listed, and the lowest that is
abbrev pub kept_dims : List ℕ → ℕ → List ℕ
kept_dims is n = filter (λ i. not (lists is i) || (i == lowest_of is)) (range_with_len 0 n)

-- the coordinate 0 at each dimension of size 1, and the others in order
abbrev pub unsqueezed : List ℕ → List ℕ → List ℕ
unsqueezed [] cs = []
unsqueezed (d ∷ ds) cs = if d == 1 then 0 ∷ unsqueezed ds cs
    else get_or cs 0 0 ∷ unsqueezed ds (drop 1 cs)

-- the sizes of the view on a parent of these dimensions
abbrev pub sizes : Form → List ℕ → List ℕ
sizes (sliced lines) ds = line_sizes lines
sizes (exchanged a b) ds = swap ds a b
sizes (shifted a b) ds = insert (remove ds a) b (get_or ds a 0)
sizes (arranged order) ds = map (λ i. get_or ds i 0) order
sizes (inserted p m) ds = insert (ds ++ replicate (p - length ds) 1) p m
sizes (diagonal is) ds = map (λ i. get_or ds i 0) (kept_dims is (length ds))
sizes squeezed ds = filter (λ d. not (d == 1)) ds
sizes (clumped n) ds = clump_sizes n ds

-- the parent's coordinates for coordinates of the view
abbrev pub form_source : Form → List ℕ → List ℕ → List ℕ
form_source (sliced lines) ds cs = take (length ds) (line_sources lines cs)
form_source (exchanged a b) ds cs = swap cs a b
form_source (shifted a b) ds cs = insert (remove cs b) a (get_or cs b 0)
form_source (arranged order) ds cs =
    map (λ i. get_or cs (unwrap_or (position (λ j. j == i) order) 0) 0)
    (range_with_len 0 (length ds))
form_source (inserted p m) ds cs = take (length ds) (remove cs p)
form_source (diagonal is) ds cs =
    map (λ i. get_or cs (length (kept_dims is (if lists is i then lowest_of is else i))) 0)
    (range_with_len 0 (length ds))
form_source squeezed ds cs = unsqueezed ds cs
form_source (clumped n) ds cs = clump_source n ds cs

abbrev pub form_dims : Result Form Refusal → List ℕ → Result (List ℕ) Refusal
form_dims (Err refusal) ds = Err refusal
form_dims (Ok form) ds = checked_dims (sizes form ds)

-- the dimensions of the view that a transformation makes on a parent of these
-- dimensions, or the first refusal
abbrev pub dims : Affine → List ℕ → Result (List ℕ) Refusal
dims trans ds = form_dims (resolved trans ds) ds

-- the parent's coordinates for coordinates of the view
abbrev pub source : Affine → List ℕ → List ℕ → List ℕ
source trans ds cs = source_by (resolved trans ds) where
  source_by : Result Form Refusal → List ℕ
  source_by (Err refusal) = []
  source_by (Ok form) = form_source form ds cs

-- the refusal that a fault names, if it names one
abbrev pub refusal_of : PlanFault → Option Refusal
refusal_of BadDimension = Some bad_dimension
refusal_of OutOfRange = Some out_of_range
refusal_of TooManyDims = Some too_many_dims
refusal_of TooLarge = Some too_large
refusal_of NoMemory = None

-- the span's step isn't 0
abbrev pub steps_on : SliceArg → Bool
steps_on Whole = true
steps_on (One n) = true
steps_on (Dropped n) = true
steps_on (Dummy n) = true
steps_on (Span from to step) = is_step step

-- no span has the step 0, and a diagonal lists a dimension
abbrev pub is_well_formed : Affine → Bool
is_well_formed (affine.Slice args) = list_all steps_on args
is_well_formed (affine.Xchg a b) = true
is_well_formed (affine.Mv a b) = true
is_well_formed (affine.Reorder order) = true
is_well_formed (affine.Dummy place size) = true
is_well_formed (affine.Diagonal listed) = nat_lt 0 (length listed)
is_well_formed affine.Squeeze = true
is_well_formed (affine.Clump count) = true
