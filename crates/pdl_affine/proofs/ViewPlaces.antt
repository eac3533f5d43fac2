-- The coordinates that a view's own come from lie within its parent.
use Rattle.std.proofs.Common.{◌≡◌, ℕ, ◌+◌, ◌-◌, ◌<◌, ◌≤◌, List, [], ◌∷◌, ◌++◌, length, drop, get_or, replicate, insert, remove, Result, Ok, Err, refl, sym, ap, ◌∙◌, subst, arith, length-append, length-take-le}
use Rattle.std.proofs.lemmas.List.{length-replicate}
use Rattle.std.proofs.lemmas.List.FromFn.{length-map-range_with_len}
use Rattle.std.proofs.lemmas.List.Edits.{length-swap, length-insert, length-remove}
use Rattle.std.proofs.lemmas.Bool.Decides.{nat_tests}
use Rattle.pdl_shape.specs.Laws.{PositionLaws}
use Rattle.pdl_shape.specs.Limits.{checked_dims}
use Rattle.pdl_shape.specs.Refusals.{Refusal}
use Rattle.pdl_shape.specs.Shape.{IsWithin}
use Rattle.pdl_affine.specs.declared.Affine.{Affine}
use Rattle.pdl_affine.specs.Courses.{IsSound, IsCourse, FitAll}
use Rattle.pdl_affine.specs.Laws.{SourcesLieWithin}
use Rattle.pdl_affine.specs.Slicing.{Line, kept, lost, added, line_sources}
use Rattle.pdl_affine.specs.Views.{Form, sliced, exchanged, shifted, arranged, inserted, diagonal, squeezed, clumped, resolved, sizes, form_source, form_dims, source, unsqueezed}
use Rattle.pdl_affine.proofs.ViewClumps.{clump_within}
use Rattle.pdl_affine.proofs.ViewPicks.{exchanged_course, shifted_course, arranged_course, inserted_course, diagonal_course, squeezed_course}
use Rattle.pdl_affine.proofs.SlicingCourses.{sliced_course}
use Rattle.pdl_affine.proofs.ViewForms.{resolved_sound, true_is}
use Rattle.pdl_affine.proofs.WindowPlaces.{filled_within}
use Rattle.pdl_affine.proofs.CourseSources.{at_within, within_each}

-- the coordinate along a course lies in its dimension
course_within : (form : Form) (ds cs : List ℕ) (i : ℕ) (t : _) → IsCourse form ds i t → IsWithin (sizes form ds) cs → get_or (form_source form ds cs) i 0 < get_or ds i 0
course_within form ds cs i t c w = omega (arith, c.small cs (filled_within (sizes form ds) cs w), c.empty cs w)

-- there are as many as the parent has dimensions
lines_enough : (ls : List Line) (ds cs : List ℕ) → FitAll ls ds → length ds ≤ length (line_sources ls cs)
lines_enough [] [] cs f = omega arith
lines_enough [] (d ∷ ds) cs f = absurd f
lines_enough (kept first step m ∷ ls) [] cs f = omega arith
lines_enough (kept first step m ∷ ls) (d ∷ ds) cs f = omega (arith, lines_enough ls ds (drop 1 cs) f.1)
lines_enough (lost first ∷ ls) [] cs f = omega arith
lines_enough (lost first ∷ ls) (d ∷ ds) cs f = omega (arith, lines_enough ls ds cs f.1)
lines_enough (added m ∷ ls) ds cs f = lines_enough ls ds (drop 1 cs) f

length_unsqueezed : (ds cs : List ℕ) → length (unsqueezed ds cs) ≡ length ds
length_unsqueezed [] cs = refl
length_unsqueezed (d ∷ ds) cs = grind (arith, nat_tests, length_unsqueezed ds cs, length_unsqueezed ds (drop 1 cs))

length_source : PositionLaws → (form : Form) (ds cs : List ℕ) → IsSound form ds → length cs ≡ length (sizes form ds) → IsWithin (sizes form ds) cs → length (form_source form ds cs) ≡ length ds
length_source laws (sliced ls) ds cs s n w = length-take-le (length ds) (line_sources ls cs) (lines_enough ls ds cs s)
length_source laws (exchanged a b) ds cs s n w = length-swap cs a b ∙ n ∙ length-swap ds a b
length_source laws (shifted a b) ds cs s n w =
    let less : length (remove ds a) + 1 ≡ length ds = length-remove ds a s.0 in
    let long : length (insert (remove ds a) b (get_or ds a 0)) ≡ length (remove ds a) + 1 = length-insert (remove ds a) b (get_or ds a 0) (omega (arith, less, s.1)) in
    let shorter : length (remove cs b) + 1 ≡ length cs = length-remove cs b (omega (arith, n, long, less, s.1)) in
    length-insert (remove cs b) a (get_or cs b 0) (omega (arith, shorter, n, long, less, s.0)) ∙ shorter ∙ n ∙ long ∙ less
length_source laws (arranged order) ds cs s n w = length-map-range_with_len _ 0 (length ds)
length_source laws (inserted p m) ds cs s n w =
    let xs : List ℕ = ds ++ replicate (p - length ds) 1 in
    let count : length xs ≡ length ds + (p - length ds) = length-append ds (replicate (p - length ds) 1) ∙ ap (λ n. length ds + n) (length-replicate (p - length ds) 1) in
    let long : length (insert xs p m) ≡ length xs + 1 = length-insert xs p m (omega (arith, count)) in
    length-take-le (length ds) (remove cs p) (omega (arith, length-remove cs p (omega (arith, n, long, count)), n, long, count))
length_source laws (diagonal is) ds cs s n w = length-map-range_with_len _ 0 (length ds)
length_source laws squeezed ds cs s n w = length_unsqueezed ds cs
length_source laws (clumped k) ds cs s n w = laws.as_many ds (form_source (clumped k) ds cs) (clump_within laws k ds cs w)

form_within : PositionLaws → (form : Form) (ds cs : List ℕ) → IsSound form ds → IsWithin (sizes form ds) cs → IsWithin ds (form_source form ds cs)
form_within laws form ds cs s w = within_each ds (form_source form ds cs) (length_source laws form ds cs s (laws.as_many (sizes form ds) cs w) w) (λ i h. each form i s w h) where
  each : (form : Form) (i : ℕ) → IsSound form ds → IsWithin (sizes form ds) cs → i < length ds → get_or (form_source form ds cs) i 0 < get_or ds i 0
  each (sliced ls) i s w h = course_within (sliced ls) ds cs i _ (sliced_course laws ls ds i s h) w
  each (exchanged a b) i s w h = course_within (exchanged a b) ds cs i _ (exchanged_course laws ds a b i s.0 s.1 h) w
  each (shifted a b) i s w h = course_within (shifted a b) ds cs i _ (shifted_course laws ds a b i s.0 s.1 h) w
  each (arranged order) i s w h = course_within (arranged order) ds cs i _ (arranged_course laws ds order i s h) w
  each (inserted p m) i s w h = course_within (inserted p m) ds cs i _ (inserted_course laws ds p m i h) w
  each (diagonal is) i s w h = course_within (diagonal is) ds cs i _ (diagonal_course laws ds is i s.0 (true_is _ s.1) h) w
  each squeezed i s w h = course_within squeezed ds cs i _ (squeezed_course laws ds i h) w
  each (clumped k) i s w h = at_within ds (form_source (clumped k) ds cs) i (clump_within laws k ds cs w) h

pub checked_is : (ms ds : List ℕ) → checked_dims ms ≡ Ok ds → ms ≡ ds
checked_is ms ds h = grind (arith, nat_tests, h)

sources_by : PositionLaws → (trans : Affine) (parent ds cs : List ℕ) (r : Result Form Refusal) → resolved trans parent ≡ r → form_dims r parent ≡ Ok ds → IsWithin ds cs → IsWithin parent (source trans parent cs)
sources_by laws trans parent ds cs (Err refusal) e h w = cc
sources_by laws trans parent ds cs (Ok form) e h w =
    let P : List ℕ → Type 0 = λ ms. IsWithin ms cs in
    rw e (form_within laws form parent cs (resolved_sound trans parent form e) (subst P (sym (checked_is (sizes form parent) ds h)) w))

pub sources_lie_within : PositionLaws → SourcesLieWithin
sources_lie_within laws = λ trans parent ds cs h w. sources_by laws trans parent ds cs (resolved trans parent) refl h w
