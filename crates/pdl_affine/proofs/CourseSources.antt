-- Where what a form's courses stand for lies.
use Rattle.std.proofs.Common.{◌≡◌, ℕ, zero, suc, ◌<◌, max, List, [], ◌∷◌, map, length, get_or, ℤ, pos, ◌+ℤ◌, ◌≤ℤ◌, refl, sym, ap, ◌∙◌, subst, arith, zero-add, unsigned_abs}
use Rattle.std.specs.List.{range_with_len}
use Rattle.std.proofs.lemmas.Int.{ints}
use Rattle.std.proofs.lemmas.List.{length-map, get_or-map}
use Rattle.std.proofs.lemmas.List.FromFn.{length-map-range_with_len, get_or-map-range_with_len}
use Rattle.std.proofs.Math.IntN.{+ℤ_assoc}
use Rattle.pdl_shape.specs.Laws.{PositionLaws}
use Rattle.pdl_shape.specs.Shape.{IsWithin, extent_limit}
use Rattle.pdl_shape.specs.Triple.{Triple, IsTriple, moved, spread}
use Rattle.pdl_affine.specs.declared.forms.Course.{Course}
use Rattle.pdl_affine.specs.Views.{Form, sizes, form_source}
use Rattle.pdl_affine.specs.Windows.{form_place}
use Rattle.pdl_affine.specs.Courses.{filled, begun, gathered, AreCourses}
use Rattle.pdl_affine.proofs.CourseMoves.{led-parts, moved-led, moved_apart}
use Rattle.pdl_affine.proofs.WindowPlaces.{Runs, filled_within, inc_small}

-- coordinates below each size
pub within_each : (ds cs : List ℕ) → length cs ≡ length ds → ((i : ℕ) → i < length ds → get_or cs i 0 < get_or ds i 0) → IsWithin ds cs
within_each [] [] n each = tt
within_each [] (c ∷ cs) n each = absurd (omega arith)
within_each (d ∷ ds) [] n each = absurd (omega arith)
within_each (d ∷ ds) (c ∷ cs) n each = (each 0 (omega arith), within_each ds cs (omega arith) (λ i lt. each (suc i) (omega arith)))

pub at_within : (ds cs : List ℕ) (i : ℕ) → IsWithin ds cs → i < length ds → get_or cs i 0 < get_or ds i 0
at_within [] cs i w h = absurd (omega arith)
at_within (d ∷ ds) [] i w h = absurd w
at_within (d ∷ ds) (c ∷ cs) zero w h = w.0
at_within (d ∷ ds) (c ∷ cs) (suc i) w h = at_within ds cs i w.1 (omega arith)

-- places of coordinates that agree along each increment
moved_same : (xs : List ℤ) (ps qs : List ℕ) → ((i : ℕ) → i < length xs → get_or ps i 0 ≡ get_or qs i 0) → moved xs ps ≡ moved xs qs
moved_same [] ps qs each = refl
moved_same (x ∷ xs) [] [] each = refl
moved_same (x ∷ xs) (p ∷ ps) [] each = rw (each 0 (omega arith), moved_same xs ps [] (λ i h. each (suc i) (omega arith)), none xs) (omega (arith, ints)) where
  none : (xs : List ℤ) → moved xs [] ≡ pos 0
  none [] = refl
  none (x ∷ xs) = refl
moved_same (x ∷ xs) [] (q ∷ qs) each = rw (sym (each 0 (omega arith)), sym (moved_same xs [] qs (λ i h. each (suc i) (omega arith))), none xs) (omega (arith, ints)) where
  none : (xs : List ℤ) → moved xs [] ≡ pos 0
  none [] = refl
  none (x ∷ xs) = refl
moved_same (x ∷ xs) (p ∷ ps) (q ∷ qs) each = rw (each 0 (omega arith), moved_same xs ps qs (λ i h. each (suc i) (omega arith))) refl

-- the parent's coordinates, one for each dimension
abbrev pub each_of : ℕ → List ℕ → List ℕ
each_of n ps = map (λ i. get_or ps i 0) (range_with_len 0 n)

moved_each : (xs : List ℤ) (n : ℕ) (ps : List ℕ) → length xs ≡ n → moved xs ps ≡ moved xs (each_of n ps)
moved_each xs n ps h = moved_same xs ps (each_of n ps) (λ i lt. sym (get_or-map-range_with_len (λ i. get_or ps i 0) 0 n i i 0 (omega arith) (omega arith)))

each_within : (ds ps : List ℕ) → ((i : ℕ) → i < length ds → get_or ps i 0 < get_or ds i 0) → IsWithin ds (each_of (length ds) ps)
each_within ds ps below =
    within_each ds (each_of (length ds) ps) (length-map-range_with_len (λ i. get_or ps i 0) 0 (length ds))
    (λ i lt. subst (λ n. n < get_or ds i 0) (sym (get_or-map-range_with_len (λ i. get_or ps i 0) 0 (length ds) i i 0 lt (omega arith))) (below i lt))

length_filled : (ds : List ℕ) → length (filled ds) ≡ length ds
length_filled ds = length-map ds (λ d. max d 1)

source_filled : (form : Form) (ds : List ℕ) (ts : List Course) (cs : List ℕ) → AreCourses form ds ts → IsWithin (filled (sizes form ds)) cs → IsWithin (filled ds) (each_of (length ds) (form_source form ds cs))
source_filled form ds ts cs a w =
    let t : Course = record { first = 0; step = pos 0; along = 0 } in
    subst (λ n. IsWithin (filled ds) (each_of n (form_source form ds cs))) (length_filled ds)
    (each_within (filled ds) (form_source form ds cs) (λ i lt.
    let inside : i < length ds = omega (arith, length_filled ds, lt) in
    subst (λ m. get_or (form_source form ds cs) i 0 < m) (sym (get_or-map (λ d. max d 1) ds i 0 0 inside)) ((a.each i t inside).small cs w)))

source_within : (form : Form) (ds : List ℕ) (ts : List Course) (cs : List ℕ) → AreCourses form ds ts → IsWithin (sizes form ds) cs → IsWithin ds (each_of (length ds) (form_source form ds cs))
source_within form ds ts cs a w =
    let t : Course = record { first = 0; step = pos 0; along = 0 } in
    each_within ds (form_source form ds cs) (λ i lt.
    let at = a.each i t lt in
    let small : get_or (form_source form ds cs) i 0 < max (get_or ds i 0) 1 = at.small cs (filled_within (sizes form ds) cs w) in
    let some : 0 < get_or ds i 0 = at.empty cs w in
    omega (arith, small, some))

-- a form's places run along its courses
pub courses_run : PositionLaws → (form : Form) (over : Triple) (ts : List Course) → IsTriple over → AreCourses form over.dims ts
    → Runs over (form_place form over) (sizes form over.dims) (pos over.offset +ℤ begun over.incs ts) (map (gathered over.incs ts) (range_with_len 0 (length (sizes form over.dims))))
courses_run laws form over ts o a = record {
  paired = length-map-range_with_len (gathered over.incs ts) 0 (length (sizes form over.dims));
  line = λ cs w.
      ap (λ z. pos over.offset +ℤ z)
      (moved-led over.incs ts (form_source form over.dims cs) cs (a.count ∙ sym o.paired) (λ i t lt. (a.each i t (omega (arith, o.paired))).line cs w)
      ∙ led-parts over.incs ts cs (length (sizes form over.dims)) (laws.as_many _ cs w ∙ length_filled (sizes form over.dims)))
      ∙ sym (+ℤ_assoc (pos over.offset) (begun over.incs ts) _);
  near = λ cs es v w.
      let n = moved_apart over.incs over.dims (each_of (length over.dims) (form_source form over.dims cs)) (each_of (length over.dims) (form_source form over.dims es)) (source_filled form over.dims ts cs a v) (source_filled form over.dims ts es a w) in
      apart (pos over.offset) _ _ _ _ (spread over.incs over.dims) (moved_each over.incs (length over.dims) (form_source form over.dims cs) o.paired) (moved_each over.incs (length over.dims) (form_source form over.dims es) o.paired) n;
  inside = λ cs w. (each_of (length over.dims) (form_source form over.dims cs), source_within form over.dims ts cs a w, ap (λ z. pos over.offset +ℤ z) (moved_each over.incs (length over.dims) (form_source form over.dims cs) o.paired));
  triple = o;
} where
  apart : (o p q p' q' : ℤ) (n : ℕ) → p ≡ p' → q ≡ q' → p' ≤ℤ (q' +ℤ pos n) → (o +ℤ p) ≤ℤ ((o +ℤ q) +ℤ pos n)
  apart o p q p' q' n h k l = omega (arith, ints)

-- a view over what its parent is shown over: the courses that are found, and the place of the first element
pub record Composing (form : Form) (over : Triple) (ds : List ℕ) (place : ℤ) (ts : List Course) : Type 0 where
  pub triple : IsTriple over
  pub courses : AreCourses form over.dims ts
  pub place_is : place ≡ pos over.offset +ℤ begun over.incs ts
  pub sized : ds ≡ sizes form over.dims

pub composing : (form : Form) (over : Triple) (ds parent : List ℕ) (place : ℤ) (ts us : List Course) → IsTriple over → AreCourses form parent ts → parent ≡ over.dims → us ≡ ts
    → place ≡ pos over.offset +ℤ begun over.incs us → ds ≡ sizes form over.dims → Composing form over ds place ts
composing form over ds parent place ts us triple courses parent_is same place_is sized = record {
  triple = triple;
  courses = let P : List ℕ → Type 0 = λ es. AreCourses form es ts in subst P parent_is courses;
  place_is = place_is ∙ ap (λ vs. pos over.offset +ℤ begun over.incs vs) same;
  sized = sized;
}

-- its places run from there by the gathered increments
pub composing_run : PositionLaws → (form : Form) (over : Triple) (ds : List ℕ) (place : ℤ) (ts us : List Course) → Composing form over ds place ts → us ≡ ts
    → Runs over (form_place form over) ds place (map (gathered over.incs us) (range_with_len 0 (length ds)))
composing_run laws form over ds place ts us c same =
    let run = courses_run laws form over ts c.triple c.courses in
    let P : List Course → Type 0 = λ vs. Runs over (form_place form over) ds place (map (gathered over.incs vs) (range_with_len 0 (length ds))) in
    let Q : List ℕ → Type 0 = λ es. Runs over (form_place form over) es (pos over.offset +ℤ begun over.incs ts) (map (gathered over.incs ts) (range_with_len 0 (length es))) in
    let R : ℤ → Type 0 = λ z. Runs over (form_place form over) ds z (map (gathered over.incs ts) (range_with_len 0 (length ds))) in
    subst P (sym same) (subst R (sym c.place_is) (subst Q (sym c.sized) run))

-- the gathered increments that count are small
pub gathered_small : PositionLaws → (form : Form) (over : Triple) (ds : List ℕ) (place : ℤ) (ts us : List Course) → Composing form over ds place ts → us ≡ ts
    → (i : ℕ) → i < length ds → 1 < get_or ds i 0 → unsigned_abs (gathered over.incs us i) < extent_limit
gathered_small laws form over ds place ts us c same i h big =
    subst (λ z. unsigned_abs z < extent_limit) (get_or-map-range_with_len (gathered over.incs us) 0 (length ds) i i (pos 0) h (zero-add i))
    (inc_small over (form_place form over) ds place (map (gathered over.incs us) (range_with_len 0 (length ds))) (composing_run laws form over ds place ts us c same) i h big)
