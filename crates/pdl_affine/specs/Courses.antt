-- The forms of the code, as those of the definition. It is a step of the proof: what is
-- promised stands in Views and Windows.
use Rattle.std.specs.Prelude.{◌≡◌, ◌<◌, ◌≤◌, ◌==◌, nat_le, nat_lt, not, filter, zip, if◌then◌else◌, IsTrue, ℕ, zero, suc, ◌+◌, ◌-◌, max, List, [], ◌∷◌, map, take, length, get_or, ◌++◌, option_map, ℤ, pos, All, ◌+ℤ◌, ◌*ℤ◌, Option, Result, Ok, Err}
use Rattle.pdl_affine.specs.declared.Affine.{Affine}
use Rattle.pdl_affine.specs.declared.PlanFault.{PlanFault}
use Rattle.pdl_slices.specs.declared.SliceArg.{SliceArg}
use Rattle.pdl_slices.specs.declared.SliceArg.TheVariants.{Dummy}
use Rattle.pdl_affine.specs.declared.forms.Taken.{Taken}
use Rattle.pdl_affine.specs.declared.forms.Taken.TheVariants.{Kept, Lost, Added}
use Rattle.pdl_shape.specs.Limits.{checked_dims}
use Rattle.pdl_shape.specs.Refusals.{Refusal, Refuses}
use Rattle.pdl_shape.specs.Shape.{IsWithin, extent_limit}
use Rattle.pdl_affine.specs.Slicing as slicing
use Rattle.pdl_affine.specs.declared.forms.Form.TheVariants as forms
use Rattle.pdl_affine.specs.declared.forms.Course.{Course}
use Rattle.pdl_affine.specs.Views.{Form, sliced, exchanged, shifted, arranged, inserted, diagonal, squeezed, clumped, lists, lowest_of, kept_dims, is_arrangement, are_same_size, resolved, sizes, form_source, refusal_of, dims}

-- what an argument takes, as a line of the definition
abbrev pub line_of_taken : Taken → slicing.Line
line_of_taken (Kept first step size) = slicing.kept first step size
line_of_taken (Lost first) = slicing.lost first
line_of_taken (Added size) = slicing.added size

-- what arguments take, as lines of the definition
abbrev pub lines_of_taken : List Taken → List slicing.Line
lines_of_taken ts = map line_of_taken ts

-- a form of the code, as one of the definition
abbrev pub seen_form : forms.the_data → Form
seen_form (forms.Sliced taken) = sliced (lines_of_taken taken.items)
seen_form (forms.Exchanged a b) = exchanged a b
seen_form (forms.Shifted a b) = shifted a b
seen_form (forms.Arranged order) = arranged order.items
seen_form (forms.Inserted place size) = inserted place size
seen_form (forms.Diagonal listed) = diagonal listed.items
seen_form forms.Squeezed = squeezed
seen_form (forms.Clumped count) = clumped count

-- what the numbers of a transformation resolve to; `NoMemory` may come at any
abbrev pub Resolves : Result Form Refusal → Result forms.the_data PlanFault → Type 0
Resolves wanted (Ok form) = wanted ≡ Ok (seen_form form)
Resolves wanted (Err fault) = Refuses wanted (refusal_of fault)

-- dimensions within the limits, or the refusal; `NoMemory` may come at any
abbrev pub Limits : Result (List ℕ) Refusal → Result (List ℕ) PlanFault → Type 0
Limits wanted (Ok ms) = wanted ≡ Ok ms
Limits wanted (Err fault) = Refuses wanted (refusal_of fault)

-- a plan's form and dimensions are those of its transformation
pub record IsPlanned (trans : Affine) (ds ms : List ℕ) (form : forms.the_data) : Type 0 where
  pub resolves : resolved trans ds ≡ Ok (seen_form form)
  pub makes : dims trans ds ≡ Ok ms

-- no dimension is larger than an array may be
abbrev pub AreSmall : List ℕ → Type 0
AreSmall ds = All (λ d. d ≤ extent_limit) ds

-- the size that an argument takes: the first one, or 1 past the last
abbrev pub size_for : SliceArg → List ℕ → ℕ
size_for (Dummy m) ds = 1
size_for arg [] = 1
size_for arg (d ∷ ds) = d

-- the sizes after an argument
abbrev pub sizes_after : SliceArg → List ℕ → List ℕ
sizes_after (Dummy m) ds = ds
sizes_after arg [] = []
sizes_after arg (d ∷ ds) = ds

-- dimensions without an argument, whole
abbrev pub wholes : List ℕ → List slicing.Line
wholes ds = map (λ d. slicing.kept 0 (pos 1) d) ds

-- lines before those of others, if all are in range
abbrev pub lines_before : List slicing.Line → Option (List slicing.Line) →
    Option (List slicing.Line)
lines_before ls others = option_map (λ rest. ls ++ rest) others

-- places before those of other numbers, if all are there
abbrev pub places_before : List ℕ → Option (List ℕ) → Option (List ℕ)
places_before is others = option_map (λ rest. is ++ rest) others

-- the dimensions that a form speaks of are there
abbrev pub Stands : forms.the_data → ℕ → Type 0
Stands (forms.Sliced taken) n = Unit {0}
Stands (forms.Exchanged a b) n = (a < n) × (b < n)
Stands (forms.Shifted a b) n = (a < n) × (b < n)
Stands (forms.Arranged order) n = Unit {0}
Stands (forms.Inserted place size) n = Unit {0}
Stands (forms.Diagonal listed) n = Unit {0}
Stands forms.Squeezed n = Unit {0}
Stands (forms.Clumped count) n = count ≤ n

-- the limit that refuses the sizes of a form; `NoMemory` may come at any
abbrev pub IsLimit : Form → List ℕ → PlanFault → Type 0
IsLimit form ds fault = Refuses (checked_dims (sizes form ds)) (refusal_of fault)

-- the sizes with 1 in place of 0
abbrev pub filled : List ℕ → List ℕ
filled ds = map (λ d. max d 1) ds

-- the coordinate along a course
abbrev pub coordinate : Course → List ℕ → ℤ
coordinate t cs = pos t.first +ℤ (t.step *ℤ pos (get_or cs t.along 0))

-- what a line takes lies in a dimension of size d, and there is nothing where that is empty
pub record Fits (first : ℕ) (step : ℤ) (m d : ℕ) : Type 0 where
  pub line : (c : ℕ) → c < max m 1 → pos (slicing.stepped first step c)
      ≡ pos first +ℤ (step *ℤ pos c)
  pub small : (c : ℕ) → c < max m 1 → slicing.stepped first step c < max d 1
  pub empty : d ≡ 0 → m ≡ 0

-- lines that fit dimensions of these sizes, all of them
abbrev pub FitAll : List slicing.Line → List ℕ → Type 0
FitAll [] [] = Unit {0}
FitAll [] (d ∷ ds) = ⊥
FitAll (slicing.kept first step m ∷ ls) [] = FitAll ls []
FitAll (slicing.kept first step m ∷ ls) (d ∷ ds) = Fits first step m d × FitAll ls ds
FitAll (slicing.lost first ∷ ls) [] = FitAll ls []
FitAll (slicing.lost first ∷ ls) (d ∷ ds) = (first < d) × FitAll ls ds
FitAll (slicing.added m ∷ ls) ds = FitAll ls ds

-- the form is one of dimensions of these sizes
abbrev pub IsSound : Form → List ℕ → Type 0
IsSound (sliced lines) ds = FitAll lines ds
IsSound (exchanged a b) ds = (a < length ds) × (b < length ds)
IsSound (shifted a b) ds = (a < length ds) × (b < length ds)
IsSound (arranged order) ds = IsTrue (is_arrangement order (length ds))
IsSound (inserted p m) ds = Unit {0}
IsSound (diagonal is) ds = All (λ i. i < length ds) is × IsTrue (are_same_size is ds)
IsSound squeezed ds = Unit {0}
IsSound (clumped n) ds = n ≤ length ds

-- a form other than a clump
abbrev pub IsStraight : Form → Type 0
IsStraight (sliced lines) = Unit {0}
IsStraight (exchanged a b) = Unit {0}
IsStraight (shifted a b) = Unit {0}
IsStraight (arranged order) = Unit {0}
IsStraight (inserted p m) = Unit {0}
IsStraight (diagonal is) = Unit {0}
IsStraight squeezed = Unit {0}
IsStraight (clumped n) = ⊥

-- a course of the parent's dimension i
pub record IsCourse (form : Form) (ds : List ℕ) (i : ℕ) (t : Course) : Type 0 where
  pub line : (cs : List ℕ) → IsWithin (filled (sizes form ds)) cs →
      pos (get_or (form_source form ds cs) i 0) ≡ coordinate t cs
  pub small : (cs : List ℕ) → IsWithin (filled (sizes form ds)) cs →
      get_or (form_source form ds cs) i 0 < max (get_or ds i 0) 1
  pub empty : (cs : List ℕ) → IsWithin (sizes form ds) cs → 0 < get_or ds i 0

-- a course for each dimension of the parent
pub record AreCourses (form : Form) (ds : List ℕ) (ts : List Course) : Type 0 where
  pub count : length ts ≡ length ds
  pub each : (i : ℕ) (t : Course) → i < length ds → IsCourse form ds i (get_or ts i t)

-- the whole of a dimension, by that of the view
abbrev pub full_course : ℕ → Course
full_course a = record { first = 0; step = pos 1; along = a }

-- one element of a dimension
abbrev pub still : ℕ → Course
still f = record { first = f; step = pos 0; along = 0 }

-- where dimension i goes with a and b in each other's place
abbrev pub exchanged_to : ℕ → ℕ → ℕ → ℕ
exchanged_to a b i = if i == a then b else (if i == b then a else i)

-- where it goes when one is put in at p, or taken out at a
abbrev pub past : ℕ → ℕ → ℕ
past p i = if nat_lt i p then i else i + 1

abbrev pub before : ℕ → ℕ → ℕ
before a i = if nat_lt i a then i else i - 1

abbrev pub shifted_to : ℕ → ℕ → ℕ → ℕ
shifted_to a b i = if i == a then b else past b (before a i)

-- where it goes among the dimensions that a diagonal keeps
abbrev pub diagonal_to : List ℕ → ℕ → ℕ
diagonal_to is i = length (kept_dims is (if lists is i then lowest_of is else i))

-- where it goes without those of size 1
abbrev pub squeezed_to : List ℕ → ℕ → ℕ
squeezed_to ds i = length (filter (λ d. not (d == 1)) (take i ds))

-- the course that lines have along the parent's dimension i, after so many dimensions of the view
abbrev pub course_at : List slicing.Line → ℕ → ℕ → Course
course_at [] i a = still 0
course_at (slicing.added m ∷ ls) i a = course_at ls i (a + 1)
course_at (slicing.lost first ∷ ls) zero a = still first
course_at (slicing.lost first ∷ ls) (suc i) a = course_at ls i a
course_at (slicing.kept first step m ∷ ls) zero a = record { first = first; step = step; along = a }
course_at (slicing.kept first step m ∷ ls) (suc i) a = course_at ls i (a + 1)

-- the increments times the first coordinates
abbrev pub begun : List ℤ → List Course → ℤ
begun [] ts = pos 0
begun (x ∷ xs) [] = pos 0
begun (x ∷ xs) (t ∷ ts) = (x *ℤ pos t.first) +ℤ begun xs ts

-- how far the place moves with one step along dimension j of the view
abbrev pub gathered : List ℤ → List Course → ℕ → ℤ
gathered [] ts j = pos 0
gathered (x ∷ xs) [] j = pos 0
gathered (x ∷ xs) (t ∷ ts) j = (x *ℤ (if t.along == j then t.step else pos 0)) +ℤ gathered xs ts j

-- an increment, or 0 along a size of 0 or 1
abbrev pub counting : ℤ → ℕ → ℤ
counting z d = if nat_le d 1 then pos 0 else z

-- the increments, with 0 along the sizes of 0 and 1
abbrev pub counted_incs : List ℤ → List ℕ → List ℤ
counted_incs [] ds = []
counted_incs (x ∷ xs) [] = []
counted_incs (x ∷ xs) (d ∷ ds) = counting x d ∷ counted_incs xs ds

-- the increment of a clump that joins: that along the first size that isn't 1
abbrev pub first_inc : List ℤ → List ℕ → ℤ
first_inc [] ds = pos 0
first_inc (x ∷ xs) [] = pos 0
first_inc (x ∷ xs) (d ∷ ds) = if d == 1 then first_inc xs ds else x

-- increments beside their sizes, without sizes of 1
abbrev pub others : List ℤ → List ℕ → List (ℤ × ℕ)
others xs ds = filter (λ p. not (p.1 == 1)) (zip xs ds)
