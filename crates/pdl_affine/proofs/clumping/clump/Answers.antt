use Rattle.std.proofs.Common.{◌∙◌, ap, sym, subst, nat_abs, pos, ◌==◌, if◌then◌else◌, rules}
use mir.Syntax.{w128}
use mir.Val.{SFits}
use Rattle.std.proofs.lemmas.Int.{to_z-of_z}
use Rattle.pdl_shape.specs.Shape.{size_of}
use Rattle.pdl_shape.specs.Triple.{Triple, IsPlace}
use Rattle.pdl_affine.specs.Views.{clumped}
use Rattle.pdl_affine.specs.Windows.{Shows, LiesIn, form_place}
use Rattle.pdl_affine.proofs.WindowPlaces.{start_place, made_triple, made_shown, made_shows, made_lies}
use Rattle.pdl_affine.proofs.ViewClumps.{clump_run_at, clump_window}
use Rattle.pdl_affine.proofs.clumping.clump.Goals as goal

pub counted_offset-offset-requires : goal.counted_offset-offset-requires
counted_offset-offset-requires c =
    let wide : SFits w128 c.from.result = search rules in
    λ some. subst IsPlace (sym (to_z-of_z w128 c.from.result wide ∙ c.from.ensures ∙ ap (λ t. pos t.offset) c.over.view_is))
    (start_place _ _ c.args.dims.now _ _
    (clump_run_at c.shape_laws.ensures.positions c.args.count c.args.over.now c.args.dims.now c.joined_incs-incs.ensures.triple c.requires.within c.if-not-joins.ensures c.requires.sized) some)

pub triple_of-requires : goal.triple_of-requires
triple_of-requires c =
    let wide : SFits w128 c.from.result = search rules in
    let offset = c.counted_offset-offset.ensures
    ∙ ap (λ z. if size_of c.args.dims.now == 0 then 0 else nat_abs z) (to_z-of_z w128 c.from.result wide ∙ c.from.ensures)
    ∙ ap (λ t. if size_of c.args.dims.now == 0 then 0 else t.offset) c.over.view_is in
    made_triple c.shape_laws.ensures.positions _ _ c.args.dims.now _ _ c.counted_offset-offset.result c.as_slice.result.now
    (clump_run_at c.shape_laws.ensures.positions c.args.count c.args.over.now c.args.dims.now c.joined_incs-incs.ensures.triple c.requires.within c.if-not-joins.ensures c.requires.sized)
    offset (c.as_slice.ensures ∙ c.joined_incs-incs.ensures.incs)

pub returns-clause-window : goal.returns-clause-window
returns-clause-window c =
    let wide : SFits w128 c.from.result = search rules in
    let offset = c.counted_offset-offset.ensures
    ∙ ap (λ z. if size_of c.args.dims.now == 0 then 0 else nat_abs z) (to_z-of_z w128 c.from.result wide ∙ c.from.ensures)
    ∙ ap (λ t. if size_of c.args.dims.now == 0 then 0 else t.offset) c.over.view_is in
    clump_window c.args.count c.args.over.now c.triple_of.result c.args.dims.now c.if-not-joins.ensures c.requires.sized
    (c.triple_of.ensures
    ∙ made_shown _ _ c.args.dims.now _ _ c.counted_offset-offset.result c.as_slice.result.now
    (clump_run_at c.shape_laws.ensures.positions c.args.count c.args.over.now c.args.dims.now c.joined_incs-incs.ensures.triple c.requires.within c.if-not-joins.ensures c.requires.sized)
    offset (c.as_slice.ensures ∙ c.joined_incs-incs.ensures.incs))

pub returns-clause-shows : goal.returns-clause-shows
returns-clause-shows c =
    let wide : SFits w128 c.from.result = search rules in
    let offset = c.counted_offset-offset.ensures
    ∙ ap (λ z. if size_of c.args.dims.now == 0 then 0 else nat_abs z) (to_z-of_z w128 c.from.result wide ∙ c.from.ensures)
    ∙ ap (λ t. if size_of c.args.dims.now == 0 then 0 else t.offset) c.over.view_is in
    let P : Triple → Type 0 = λ t. Shows t (form_place (clumped c.args.count) c.args.over.now) in
    subst P (sym c.triple_of.ensures)
    (made_shows c.shape_laws.ensures.positions _ _ c.args.dims.now _ _ c.counted_offset-offset.result c.as_slice.result.now
    (clump_run_at c.shape_laws.ensures.positions c.args.count c.args.over.now c.args.dims.now c.joined_incs-incs.ensures.triple c.requires.within c.if-not-joins.ensures c.requires.sized)
    offset (c.as_slice.ensures ∙ c.joined_incs-incs.ensures.incs))

pub returns-clause-inside : goal.returns-clause-inside
returns-clause-inside c =
    let wide : SFits w128 c.from.result = search rules in
    let offset = c.counted_offset-offset.ensures
    ∙ ap (λ z. if size_of c.args.dims.now == 0 then 0 else nat_abs z) (to_z-of_z w128 c.from.result wide ∙ c.from.ensures)
    ∙ ap (λ t. if size_of c.args.dims.now == 0 then 0 else t.offset) c.over.view_is in
    let P : Triple → Type 0 = λ t. LiesIn t c.args.over.now in
    subst P (sym c.triple_of.ensures)
    (made_lies c.shape_laws.ensures.positions _ _ c.args.dims.now _ _ c.counted_offset-offset.result c.as_slice.result.now
    (clump_run_at c.shape_laws.ensures.positions c.args.count c.args.over.now c.args.dims.now c.joined_incs-incs.ensures.triple c.requires.within c.if-not-joins.ensures c.requires.sized)
    offset (c.as_slice.ensures ∙ c.joined_incs-incs.ensures.incs))
