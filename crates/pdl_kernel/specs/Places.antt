-- Where the numbers of arguments lie: in flat buffers, by strides. Each argument is a window on its
-- buffer: that of an input by any strides, that of another one in order.
use Rattle.std.specs.Prelude.{◌≡◌, ◌≤◌, ℕ, ◌+◌, ◌*◌, ◌==◌, ℤ, pos, Bool, true, false, if◌then◌else◌, List, [], ◌∷◌, map, length, get_or, take, drop, replicate, slice_get, slice_set, Option, Some, None, option_map, option_and_then, All}
use Rattle.std.specs.List.{range_with_len}
use Rattle.pdl_elem.specs.declared.Ty.{Ty}
use Rattle.pdl_elem.specs.declared.Ty.TheVariants.{Byte}
use Rattle.pdl_elem.specs.Numbers.{wrapped}
use Rattle.pdl_shape.specs.Shape.{dims_limit, extent_limit, size_of, coordinates_of}
use Rattle.pdl_buf.specs.declared.made.Made.{Made}
use Rattle.pdl_sig.specs.declared.Role.{Role}
use Rattle.pdl_sig.specs.declared.Role.TheVariants.{Input, Temp}
use Rattle.pdl_kernel.specs.declared.axes.Axis.{Axis}
use Rattle.pdl_kernel.specs.Meaning.{coordinates_in, within}

-- an argument: its core dimensions, its strides along the broadcast dimensions, all its elements,
-- and the place of the first one that is seen
pub record Window : Type 0 where
  pub role : Role
  pub ty : Ty
  pub axes : List Axis
  pub outer : List ℕ
  pub elems : List ℤ
  pub start : ℕ

-- the sizes of dimensions, and their strides
abbrev pub sizes_of : List Axis → List ℕ
sizes_of axes = map (λ a. a.size) axes

abbrev pub strides_of : List Axis → List ℕ
strides_of axes = map (λ a. a.stride) axes

-- the strides times the coordinates
abbrev pub dot : (strides coordinates : List ℕ) → ℕ
dot [] cs = 0
dot (s ∷ strides) [] = 0
dot (s ∷ strides) (c ∷ cs) = s * c + dot strides cs

-- the strides of an array, n for the first dimension: nowhere along a size of 1
abbrev pub strides_from : ℕ → (sizes : List ℕ) → List ℕ
strides_from n [] = []
strides_from n (d ∷ ds) = (if d == 1 then 0 else n) ∷ strides_from (n * d) ds

-- dimensions of these sizes, with these strides; nowhere where a stride is missing
abbrev pub axes_of : (sizes strides : List ℕ) → List Axis
axes_of [] ss = []
axes_of (d ∷ ds) ss = record { size = d; stride = get_or ss 0 0 } ∷ axes_of ds (drop 1 ss)

-- the place of indices in a buffer, from q on, where each is from 0 to its size less 1
abbrev pub found : List Axis → (indices : List ℤ) → ℕ → Option ℕ
found axes is q =
    option_map (λ cs. q + dot (strides_of axes) cs) (coordinates_in (sizes_of axes) is)

-- the place that an index further along a dimension leads to, where it is in range
abbrev pub moved_along : Option Axis → (index : ℤ) → ℕ → Option ℕ
moved_along None i q = None
moved_along (Some a) i q = option_map (λ j. q + a.stride * j) (within i a.size)

abbrev pub moved : List Axis → (dimension : ℕ) → (index : ℤ) → Option ℕ → Option ℕ
moved axes k i q = option_and_then (moved_along (slice_get axes k) i) q

-- whether code may write an argument of this role
abbrev pub is_written : Role → Bool
is_written Input = false
is_written _ = true

-- no window at all
abbrev pub blank : Window
blank = record { role = Input; ty = Byte; axes = []; outer = []; elems = []; start = 0 }

-- how many elements a window shows
abbrev pub count_of : Window → ℕ
count_of w = size_of (sizes_of w.axes)

-- the elements that it shows, in order of position
abbrev pub element_seen : Window → (position : ℕ) → ℤ
element_seen w p =
    get_or w.elems (w.start + dot (strides_of w.axes) (coordinates_of (sizes_of w.axes) p)) (pos 0)

-- the argument as code sees it
abbrev pub array_seen : Window → Made
array_seen w = record {
  ty = w.ty;
  dims = sizes_of w.axes;
  elems = map (element_seen w) (range_with_len 0 (count_of w));
}

-- dimensions whose elements lie in order
abbrev pub AreInOrder : List Axis → Type 0
AreInOrder axes = strides_of axes ≡ strides_from 1 (sizes_of axes)

-- a stride within the largest buffer
abbrev pub IsSmall : Axis → Type 0
IsSmall a = a.stride ≤ extent_limit

-- small strides, few along broadcast dimensions, a place that a sum of strides can have; and what
-- code may write lies in order
pub record IsSound (w : Window) : Type 0 where
  pub small : All IsSmall w.axes
  pub few_outer : length w.outer ≤ dims_limit
  pub small_outer : All (λ n. n ≤ extent_limit) w.outer
  pub start_below : w.start ≤ 1152921504606846976
  pub in_order : is_written w.role ≡ true → AreInOrder w.axes

-- a window with a number, wrapped to its type, at a place of the buffer
abbrev pub put_in : Window → (place : ℕ) → ℤ → Window
put_in w p x = record w { elems = slice_set w.elems p (wrapped w.ty x) }

-- what code can't change of a window: all but the elements that it shows
pub record Rest : Type 0 where
  pub role : Role
  pub ty : Ty
  pub axes : List Axis
  pub outer : List ℕ
  pub start : ℕ
  pub room : ℕ
  pub before : List ℤ
  pub behind : List ℤ

abbrev pub before_of : Window → List ℤ
before_of w = if is_written w.role then take w.start w.elems else w.elems

abbrev pub behind_of : Window → List ℤ
behind_of w = if is_written w.role then drop (w.start + count_of w) w.elems else []

abbrev pub rest_of : Window → Rest
rest_of w = record {
  role = w.role;
  ty = w.ty;
  axes = w.axes;
  outer = w.outer;
  start = w.start;
  room = length w.elems;
  before = before_of w;
  behind = behind_of w;
}

-- what code may write lies within its buffer
abbrev pub IsWhole : Rest → Type 0
IsWhole r = is_written r.role ≡ true → r.start + size_of (sizes_of r.axes) ≤ r.room

-- what neither code nor another broadcast place changes of an argument
pub record Kind : Type 0 where
  pub role : Role
  pub axes : List Axis

abbrev pub kind_of : Rest → Kind
kind_of r = record { role = r.role; axes = r.axes }

-- the elements with which a place begins: a temporary's are 0
abbrev pub cleared : Role → List ℤ → List ℤ
cleared Temp es = replicate (length es) (pos 0)
cleared _ es = es

-- at broadcast coordinates
abbrev pub begun_at : (coordinates : List ℕ) → Window → Window
begun_at bs w = record w { elems = cleared w.role w.elems; start = dot w.outer bs }
