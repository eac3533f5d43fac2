use Rattle.std.proofs.Common.{◌∙◌, ap, sym, subst, nat_abs, ◌==◌, if◌then◌else◌, rules}
use mir.Syntax.{w128}
use mir.Val.{SFits}
use Rattle.std.proofs.lemmas.Int.{to_z-of_z}
use Rattle.pdl_shape.specs.Shape.{size_of}
use Rattle.pdl_shape.specs.Triple.{Triple, IsPlace}
use Rattle.pdl_affine.specs.Windows.{Shows, LiesIn, form_place}
use Rattle.pdl_affine.specs.Courses.{seen_form}
use Rattle.pdl_affine.proofs.WindowPlaces.{start_place, made_triple, made_shown, made_shows, made_lies}
use Rattle.pdl_affine.proofs.CourseSources.{composing, composing_run, gathered_small}
use Rattle.pdl_affine.proofs.composing.straight.Goals as goal

pub counted_incs-incs-requires : goal.counted_incs-incs-requires
counted_incs-incs-requires c =
    let made = composing (seen_form c.args.form.now) c.args.over.now c.args.dims.now c.over.inside.dims c.first_place-place.result c.list_courses.new.courses.items c.as_slice.result.now
    c.first_place-place.ensures.triple c.list_courses.ensures (ap (λ t. t.dims) c.over.view_is) c.as_slice.ensures c.first_place-place.ensures.value c.requires.sized in
    record { narrow = gathered_small c.shape_laws.ensures.positions _ _ _ _ _ c.as_slice-2.result.now made c.as_slice-2.ensures }

pub counted_offset-requires : goal.counted_offset-requires
counted_offset-requires c =
    let made = composing (seen_form c.args.form.now) c.args.over.now c.args.dims.now c.over.inside.dims c.first_place-place.result c.list_courses.new.courses.items c.as_slice.result.now
    c.first_place-place.ensures.triple c.list_courses.ensures (ap (λ t. t.dims) c.over.view_is) c.as_slice.ensures c.first_place-place.ensures.value c.requires.sized in
    let fits : SFits w128 c.first_place-place.result = search rules in
    λ some. subst IsPlace (sym (to_z-of_z w128 c.first_place-place.result fits))
    (start_place _ _ c.args.dims.now c.first_place-place.result _ (composing_run c.shape_laws.ensures.positions _ _ _ _ _ c.as_slice-2.result.now made c.as_slice-2.ensures) some)

pub triple_of-requires : goal.triple_of-requires
triple_of-requires c =
    let made = composing (seen_form c.args.form.now) c.args.over.now c.args.dims.now c.over.inside.dims c.first_place-place.result c.list_courses.new.courses.items c.as_slice.result.now
    c.first_place-place.ensures.triple c.list_courses.ensures (ap (λ t. t.dims) c.over.view_is) c.as_slice.ensures c.first_place-place.ensures.value c.requires.sized in
    let fits : SFits w128 c.first_place-place.result = search rules in
    made_triple c.shape_laws.ensures.positions _ _ c.args.dims.now c.first_place-place.result _ c.counted_offset.result c.as_slice-3.result.now (composing_run c.shape_laws.ensures.positions _ _ _ _ _ c.as_slice-2.result.now made c.as_slice-2.ensures)
    (c.counted_offset.ensures ∙ ap (λ z. if size_of c.args.dims.now == 0 then 0 else nat_abs z) (to_z-of_z w128 c.first_place-place.result fits)) (c.as_slice-3.ensures ∙ c.counted_incs-incs.ensures)

pub returns-clause-shown : goal.returns-clause-shown
returns-clause-shown c =
    let made = composing (seen_form c.args.form.now) c.args.over.now c.args.dims.now c.over.inside.dims c.first_place-place.result c.list_courses.new.courses.items c.as_slice.result.now
    c.first_place-place.ensures.triple c.list_courses.ensures (ap (λ t. t.dims) c.over.view_is) c.as_slice.ensures c.first_place-place.ensures.value c.requires.sized in
    let fits : SFits w128 c.first_place-place.result = search rules in
    c.triple_of.ensures
    ∙ made_shown _ _ c.args.dims.now c.first_place-place.result _ c.counted_offset.result c.as_slice-3.result.now (composing_run c.shape_laws.ensures.positions _ _ _ _ _ c.as_slice-2.result.now made c.as_slice-2.ensures)
    (c.counted_offset.ensures ∙ ap (λ z. if size_of c.args.dims.now == 0 then 0 else nat_abs z) (to_z-of_z w128 c.first_place-place.result fits)) (c.as_slice-3.ensures ∙ c.counted_incs-incs.ensures)

pub returns-clause-shows : goal.returns-clause-shows
returns-clause-shows c =
    let made = composing (seen_form c.args.form.now) c.args.over.now c.args.dims.now c.over.inside.dims c.first_place-place.result c.list_courses.new.courses.items c.as_slice.result.now
    c.first_place-place.ensures.triple c.list_courses.ensures (ap (λ t. t.dims) c.over.view_is) c.as_slice.ensures c.first_place-place.ensures.value c.requires.sized in
    let fits : SFits w128 c.first_place-place.result = search rules in
    let P : Triple → Type 0 = λ t. Shows t (form_place (seen_form c.args.form.now) c.args.over.now) in
    subst P (sym c.triple_of.ensures)
    (made_shows c.shape_laws.ensures.positions _ _ c.args.dims.now c.first_place-place.result _ c.counted_offset.result c.as_slice-3.result.now (composing_run c.shape_laws.ensures.positions _ _ _ _ _ c.as_slice-2.result.now made c.as_slice-2.ensures)
    (c.counted_offset.ensures ∙ ap (λ z. if size_of c.args.dims.now == 0 then 0 else nat_abs z) (to_z-of_z w128 c.first_place-place.result fits)) (c.as_slice-3.ensures ∙ c.counted_incs-incs.ensures))

pub returns-clause-inside : goal.returns-clause-inside
returns-clause-inside c =
    let made = composing (seen_form c.args.form.now) c.args.over.now c.args.dims.now c.over.inside.dims c.first_place-place.result c.list_courses.new.courses.items c.as_slice.result.now
    c.first_place-place.ensures.triple c.list_courses.ensures (ap (λ t. t.dims) c.over.view_is) c.as_slice.ensures c.first_place-place.ensures.value c.requires.sized in
    let fits : SFits w128 c.first_place-place.result = search rules in
    let P : Triple → Type 0 = λ t. LiesIn t c.args.over.now in
    subst P (sym c.triple_of.ensures)
    (made_lies c.shape_laws.ensures.positions _ _ c.args.dims.now c.first_place-place.result _ c.counted_offset.result c.as_slice-3.result.now (composing_run c.shape_laws.ensures.positions _ _ _ _ _ c.as_slice-2.result.now made c.as_slice-2.ensures)
    (c.counted_offset.ensures ∙ ap (λ z. if size_of c.args.dims.now == 0 then 0 else nat_abs z) (to_z-of_z w128 c.first_place-place.result fits)) (c.as_slice-3.ensures ∙ c.counted_incs-incs.ensures))
