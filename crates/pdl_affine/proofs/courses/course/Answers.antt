use Rattle.std.proofs.Common.{sym, ap, subst, ◌∙◌, unwrap_or, position, ◌==◌}
use Rattle.pdl_affine.specs.declared.forms.Form.TheVariants as forms
use Rattle.pdl_affine.specs.Views.{sliced, exchanged, shifted, arranged, inserted, diagonal, squeezed}
use Rattle.pdl_affine.specs.Courses.{lines_of_taken, seen_form, IsSound, IsCourse, course_at, full_course, diagonal_to}
use Rattle.pdl_affine.proofs.ViewPicks.{exchanged_course, shifted_course, arranged_course, inserted_course, diagonal_course, squeezed_course}
use Rattle.pdl_affine.proofs.SlicingCourses.{sliced_course}
use Rattle.pdl_affine.proofs.ViewForms.{true_is}
use Rattle.pdl_affine.proofs.courses.course.Goals as goal

pub returns-in-Sliced : goal.returns-in-Sliced
returns-in-Sliced c =
    let P : forms.the_data → Type 0 = λ f. IsSound (seen_form f) c.args.parent.now → IsCourse (seen_form f) c.args.parent.now c.args.dimension c.sliced.result in
    subst P (sym c.in-Sliced.is) (λ sound.
    subst (IsCourse (sliced (lines_of_taken c.in-Sliced.taken.items)) c.args.parent.now c.args.dimension) (sym (c.sliced.ensures ∙ ap (λ ts. course_at (lines_of_taken ts) c.args.dimension 0) c.deref.ensures.value))
    (sliced_course c.shape_laws.ensures.positions (lines_of_taken c.in-Sliced.taken.items) c.args.parent.now c.args.dimension sound c.requires.inside)) c.requires.sound

pub returns-in-Exchanged : goal.returns-in-Exchanged
returns-in-Exchanged c =
    let P : forms.the_data → Type 0 = λ f. IsSound (seen_form f) c.args.parent.now → IsCourse (seen_form f) c.args.parent.now c.args.dimension c.full_course.result in
    subst P (sym c.in-Exchanged.is) (λ sound.
    subst (IsCourse (exchanged c.in-Exchanged.a c.in-Exchanged.b) c.args.parent.now c.args.dimension) (sym (c.full_course.ensures ∙ ap full_course c.exchanged.ensures))
    (exchanged_course c.shape_laws.ensures.positions c.args.parent.now c.in-Exchanged.a c.in-Exchanged.b c.args.dimension sound.0 sound.1 c.requires.inside)) c.requires.sound

pub returns-in-Shifted : goal.returns-in-Shifted
returns-in-Shifted c =
    let P : forms.the_data → Type 0 = λ f. IsSound (seen_form f) c.args.parent.now → IsCourse (seen_form f) c.args.parent.now c.args.dimension c.full_course-in-Shifted.result in
    subst P (sym c.in-Shifted.is) (λ sound.
    subst (IsCourse (shifted c.in-Shifted.a c.in-Shifted.b) c.args.parent.now c.args.dimension) (sym (c.full_course-in-Shifted.ensures ∙ ap full_course c.shifted.ensures))
    (shifted_course c.shape_laws.ensures.positions c.args.parent.now c.in-Shifted.a c.in-Shifted.b c.args.dimension sound.0 sound.1 c.requires.inside)) c.requires.sound

pub returns-in-Arranged : goal.returns-in-Arranged
returns-in-Arranged c =
    let P : forms.the_data → Type 0 = λ f. IsSound (seen_form f) c.args.parent.now → IsCourse (seen_form f) c.args.parent.now c.args.dimension c.full_course-in-Arranged.result in
    subst P (sym c.in-Arranged.is) (λ sound.
    subst (IsCourse (arranged c.in-Arranged.order.items) c.args.parent.now c.args.dimension)
    (sym (c.full_course-in-Arranged.ensures ∙ ap full_course (c.arranged.ensures ∙ ap (λ is. unwrap_or (position (λ j. j == c.args.dimension) is) 0) c.deref-in-Arranged.ensures.value)))
    (arranged_course c.shape_laws.ensures.positions c.args.parent.now c.in-Arranged.order.items c.args.dimension sound c.requires.inside)) c.requires.sound

pub returns-in-Inserted : goal.returns-in-Inserted
returns-in-Inserted c =
    let P : forms.the_data → Type 0 = λ f. IsCourse (seen_form f) c.args.parent.now c.args.dimension c.full_course-in-Inserted.result in
    subst P (sym c.in-Inserted.is)
    (subst (IsCourse (inserted c.in-Inserted.place c.in-Inserted.size) c.args.parent.now c.args.dimension) (sym (c.full_course-in-Inserted.ensures ∙ ap full_course c.past.ensures))
    (inserted_course c.shape_laws.ensures.positions c.args.parent.now c.in-Inserted.place c.in-Inserted.size c.args.dimension c.requires.inside))

pub returns-in-Diagonal : goal.returns-in-Diagonal
returns-in-Diagonal c =
    let P : forms.the_data → Type 0 = λ f. IsSound (seen_form f) c.args.parent.now → IsCourse (seen_form f) c.args.parent.now c.args.dimension c.full_course-in-Diagonal.result in
    subst P (sym c.in-Diagonal.is) (λ sound.
    subst (IsCourse (diagonal c.in-Diagonal.listed.items) c.args.parent.now c.args.dimension)
    (sym (c.full_course-in-Diagonal.ensures ∙ ap full_course (c.diagonal_to.ensures ∙ ap (λ is. diagonal_to is c.args.dimension) c.deref-in-Diagonal.ensures.value)))
    (diagonal_course c.shape_laws.ensures.positions c.args.parent.now c.in-Diagonal.listed.items c.args.dimension sound.0 (true_is _ sound.1) c.requires.inside)) c.requires.sound

pub returns-in-Squeezed : goal.returns-in-Squeezed
returns-in-Squeezed c =
    let P : forms.the_data → Type 0 = λ f. IsCourse (seen_form f) c.args.parent.now c.args.dimension c.squeezed.result in
    subst P (sym c.in-Squeezed.is) (subst (IsCourse squeezed c.args.parent.now c.args.dimension) (sym c.squeezed.ensures) (squeezed_course c.shape_laws.ensures.positions c.args.parent.now c.args.dimension c.requires.inside))
