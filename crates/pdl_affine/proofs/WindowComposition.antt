-- What composed triples show.
use Rattle.std.proofs.Common.{◌≡◌, ℕ, zero, suc, ◌+◌, ◌*◌, ◌<◌, Bool, true, false, if◌then◌else◌, List, [], ◌∷◌, ◌++◌, length, take, drop, get_or, ℤ, Some, None, Result, Ok, Err, refl, sym, ap, ◌∙◌, subst, arith}
use Rattle.std.proofs.lemmas.List.{take-append-drop}
use Rattle.pdl_shape.specs.Laws.{PositionLaws}
use Rattle.pdl_shape.specs.Refusals.{Refusal}
use Rattle.pdl_shape.specs.Shape.{IsWithin, position_of, coordinates_of, size_of}
use Rattle.pdl_shape.specs.Triple.{IsTriple, Triple, place_of}
use Rattle.pdl_affine.specs.declared.Affine.{Affine}
use Rattle.pdl_affine.specs.declared.forms.Course.{Course}
use Rattle.pdl_affine.specs.Courses.{IsSound, IsStraight, IsCourse}
use Rattle.pdl_affine.specs.Laws.{IsViewOver, ComposedShowViews, UncomposedAreInOrder}
use Rattle.pdl_affine.specs.Views.{Form, sliced, exchanged, shifted, arranged, inserted, diagonal, squeezed, clumped, resolved, sizes, form_source, form_dims, dims, source}
use Rattle.pdl_affine.specs.Windows.{Shows, is_window, windowed, composed, form_place, triple_showing}
use Rattle.pdl_affine.proofs.ViewClumps.{clump_run, length-coordinates}
use Rattle.pdl_affine.proofs.ViewPlaces.{checked_is}
use Rattle.pdl_affine.proofs.ViewPicks.{exchanged_course, shifted_course, arranged_course, inserted_course, diagonal_course, squeezed_course}
use Rattle.pdl_affine.proofs.WindowPlaces.{Runs, shown-is, shows, is_triple}
use Rattle.pdl_affine.proofs.SlicingCourses.{sliced_course}
use Rattle.pdl_affine.proofs.ViewForms.{resolved_sound, true_is}
use Rattle.pdl_affine.proofs.CourseSources.{courses_run}

-- a list of courses, where there is one at each place
gather_courses : (n : ℕ) (P : ℕ → Course → Type 0) → ((i : ℕ) → i < n → (t : Course) × P i t) → (ts : List Course) × (length ts ≡ n) × ((i : ℕ) (t : Course) → i < n → P i (get_or ts i t))
gather_courses zero P f = ([], refl, λ i t h. absurd (omega arith))
gather_courses (suc n) P f =
    let head = f 0 (omega arith) in
    let rest = gather_courses n (λ i t. P (suc i) t) (λ i h. f (suc i) (omega arith)) in
    (head.0 ∷ rest.0, ap suc rest.1, each head.0 rest.0 head.1 rest.2) where
      each : (t : Course) (ts : List Course) → P 0 t → ((i : ℕ) (u : Course) → i < n → P (suc i) (get_or ts i u)) → (i : ℕ) (u : Course) → i < suc n → P i (get_or (t ∷ ts) i u)
      each t ts a g zero u h = a
      each t ts a g (suc i) u h = g i u (omega arith)

-- each form but a clump has courses
course_of : PositionLaws → (form : Form) (ds : List ℕ) (i : ℕ) → IsSound form ds → IsStraight form → i < length ds → (t : Course) × IsCourse form ds i t
course_of laws (sliced ls) ds i s u h = (_, sliced_course laws ls ds i s h)
course_of laws (exchanged a b) ds i s u h = (_, exchanged_course laws ds a b i s.0 s.1 h)
course_of laws (shifted a b) ds i s u h = (_, shifted_course laws ds a b i s.0 s.1 h)
course_of laws (arranged order) ds i s u h = (_, arranged_course laws ds order i s h)
course_of laws (inserted p m) ds i s u h = (_, inserted_course laws ds p m i h)
course_of laws (diagonal is) ds i s u h = (_, diagonal_course laws ds is i s.0 (true_is _ s.1) h)
course_of laws squeezed ds i s u h = (_, squeezed_course laws ds i h)
course_of laws (clumped n) ds i s u h = absurd u

-- the places of a view that has a triple run in steps
pub record Steps (form : Form) (over : Triple) : Type 0 where
  pub start : ℤ
  pub steps : List ℤ
  pub run : Runs over (form_place form over) (sizes form over.dims) start steps

steps_of : (form : Form) (over : Triple) (start : ℤ) (steps : List ℤ) → Runs over (form_place form over) (sizes form over.dims) start steps → Steps form over
steps_of form over start steps run = record { start = start; steps = steps; run = run }

straight_runs : PositionLaws → (form : Form) (over : Triple) → IsTriple over → IsSound form over.dims → IsStraight form → Steps form over
straight_runs laws form over o s u =
    let ts = gather_courses (length over.dims) (λ i t. IsCourse form over.dims i t) (λ i h. course_of laws form over.dims i s u h) in
    steps_of form over _ _ (courses_run laws form over ts.0 o (record { count = ts.1; each = λ i t h. ts.2 i t h }))

window_runs : PositionLaws → (form : Form) (over : Triple) → IsTriple over → IsSound form over.dims → is_window form over ≡ true → Steps form over
window_runs laws (sliced ls) over o s w = straight_runs laws (sliced ls) over o s tt
window_runs laws (exchanged a b) over o s w = straight_runs laws (exchanged a b) over o s tt
window_runs laws (shifted a b) over o s w = straight_runs laws (shifted a b) over o s tt
window_runs laws (arranged order) over o s w = straight_runs laws (arranged order) over o s tt
window_runs laws (inserted p m) over o s w = straight_runs laws (inserted p m) over o s tt
window_runs laws (diagonal is) over o s w = straight_runs laws (diagonal is) over o s tt
window_runs laws squeezed over o s w = straight_runs laws squeezed over o s tt
window_runs laws (clumped n) over o s w = steps_of (clumped n) over _ _ (clump_run laws n over o s w)

-- what is shown over a triple
record IsShown (form : Form) (over t : Triple) : Type 0 where
  dims_are : t.dims ≡ sizes form over.dims
  triple : IsTriple t
  shows_form : Shows t (form_place form over)

run_shows : PositionLaws → (form : Form) (over : Triple) → Steps form over → IsShown form over (triple_showing (form_place form over) (sizes form over.dims))
run_shows laws form over r =
    let P : Triple → Type 0 = λ t. IsShown form over t in
    subst P (sym (shown-is over (form_place form over) (sizes form over.dims) r.start r.steps r.run)) (record {
      dims_are = refl;
      triple = is_triple laws over (form_place form over) (sizes form over.dims) r.start r.steps r.run;
      shows_form = shows laws over (form_place form over) (sizes form over.dims) r.start r.steps r.run;
    })

windowed_by : PositionLaws → (form : Form) (over t : Triple) → IsTriple over → IsSound form over.dims → (b : Bool) → is_window form over ≡ b
    → (if b then Some (triple_showing (form_place form over) (sizes form over.dims)) else None) ≡ Some t → IsShown form over t
windowed_by laws form over t o s false e h = cc
windowed_by laws form over t o s true e h =
    let same : triple_showing (form_place form over) (sizes form over.dims) ≡ t = cc in
    let P : Triple → Type 0 = λ x. IsShown form over x in
    subst P same (run_shows laws form over (window_runs laws form over o s e))

composed_by : PositionLaws → (trans : Affine) (over t : Triple) (ds : List ℕ) (r : Result Form Refusal) → IsTriple over → resolved trans over.dims ≡ r
    → dims trans over.dims ≡ Ok ds → composed trans over ≡ Some t → IsViewOver trans over t
composed_by laws trans over t ds (Err e) o r d h = (let none : composed trans over ≡ None = rw r refl in let z : None ≡ Some t = sym none ∙ h in cc)
composed_by laws trans over t ds (Ok form) o r d h =
    let form_h : windowed form over ≡ Some t = (let is : composed trans over ≡ windowed form over = rw r refl in sym is ∙ h) in
    let form_d : form_dims (Ok form) over.dims ≡ Ok ds = (let is : dims trans over.dims ≡ form_dims (Ok form) over.dims = ap (λ x. form_dims x over.dims) r in sym is ∙ d) in
    let y : IsShown form over t = windowed_by laws form over t o (resolved_sound trans over.dims form r) (is_window form over) refl form_h in
    record {
      fits = d ∙ ap Ok (sym (checked_is (sizes form over.dims) ds form_d) ∙ sym y.dims_are);
      triple = y.triple;
      shows = λ cs w. y.shows_form cs w ∙ (let is : source trans over.dims cs ≡ form_source form over.dims cs = rw r refl in ap (place_of over) (sym is));
    }

pub composed_show_views : PositionLaws → ComposedShowViews
composed_show_views laws = λ trans over t ds o d h. composed_by laws trans over t ds (resolved trans over.dims) o refl d h

-- the position of coordinates one after the other
position_append : (xs ys cs bs : List ℕ) → length cs ≡ length xs → position_of (xs ++ ys) (cs ++ bs) ≡ position_of xs cs + size_of xs * position_of ys bs
position_append [] ys [] bs h = omega arith
position_append [] ys (c ∷ cs) bs h = absurd (omega arith)
position_append (x ∷ xs) ys [] bs h = absurd (omega arith)
position_append (x ∷ xs) ys (c ∷ cs) bs h = rw (position_append xs ys cs bs (omega arith)) (omega arith)

clump_order : PositionLaws → (n : ℕ) (ds cs : List ℕ) → IsWithin (sizes (clumped n) ds) cs → position_of ds (form_source (clumped n) ds cs) ≡ position_of (sizes (clumped n) ds) cs
clump_order laws n ds [] w = absurd w
clump_order laws n ds (c ∷ cs) w =
    let xs : List ℕ = take n ds in
    let whole : xs ++ drop n ds ≡ ds = take-append-drop n ds in
    ap (λ zs. position_of zs (coordinates_of (take n ds) c ++ cs)) (sym whole)
    ∙ position_append (take n ds) (drop n ds) (coordinates_of (take n ds) c) cs (length-coordinates (take n ds) c)
    ∙ ap (λ p. p + size_of (take n ds) * position_of (drop n ds) cs) (laws.position_again (take n ds) c w.0)

-- a form without a triple is a clump
windowless : PositionLaws → (form : Form) (over : Triple) (cs : List ℕ) → windowed form over ≡ None → IsWithin (sizes form over.dims) cs → position_of over.dims (form_source form over.dims cs) ≡ position_of (sizes form over.dims) cs
windowless laws (sliced ls) over cs h w = cc
windowless laws (exchanged a b) over cs h w = cc
windowless laws (shifted a b) over cs h w = cc
windowless laws (arranged order) over cs h w = cc
windowless laws (inserted p m) over cs h w = cc
windowless laws (diagonal is) over cs h w = cc
windowless laws squeezed over cs h w = cc
windowless laws (clumped n) over cs h w = clump_order laws n over.dims cs w

uncomposed_by : PositionLaws → (trans : Affine) (over : Triple) (ds cs : List ℕ) (r : Result Form Refusal) → resolved trans over.dims ≡ r
    → dims trans over.dims ≡ Ok ds → composed trans over ≡ None → IsWithin ds cs → position_of over.dims (source trans over.dims cs) ≡ position_of ds cs
uncomposed_by laws trans over ds cs (Err e) r d h w = (let no : dims trans over.dims ≡ Err e = ap (λ x. form_dims x over.dims) r in let z : Err e ≡ Ok ds = sym no ∙ d in cc)
uncomposed_by laws trans over ds cs (Ok form) r d h w =
    let form_h : windowed form over ≡ None = (let is : composed trans over ≡ windowed form over = rw r refl in sym is ∙ h) in
    let form_d : form_dims (Ok form) over.dims ≡ Ok ds = (let is : dims trans over.dims ≡ form_dims (Ok form) over.dims = ap (λ x. form_dims x over.dims) r in sym is ∙ d) in
    let same : sizes form over.dims ≡ ds = checked_is (sizes form over.dims) ds form_d in
    let is : source trans over.dims cs ≡ form_source form over.dims cs = rw r refl in
    let P : List ℕ → Type 0 = λ ms. IsWithin ms cs in
    ap (position_of over.dims) is ∙ windowless laws form over cs form_h (subst P (sym same) w) ∙ ap (λ ms. position_of ms cs) same

pub uncomposed_are_in_order : PositionLaws → UncomposedAreInOrder
uncomposed_are_in_order laws = λ trans over ds cs d h w. uncomposed_by laws trans over ds cs (resolved trans over.dims) refl d h w
