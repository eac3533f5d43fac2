-- The places of a row are those of a run, on both sides.
use Rattle.std.proofs.Common.{◌≡◌, List, ℕ, pos, get_or, refl, arith, ap, ap₂, subst, ◌+◌, ◌≤◌, ◌%◌, ◌∙◌, to_z, of_z}
use Rattle.std.proofs.lemmas.Int.{to_z-of_z}
use Rattle.std.specs.Int.{w32}
use Rattle.std.specs.Prelude.{Option}
use Rattle.pdl_shape.specs.Places.{read, write}
use Rattle.pdl_shape.specs.Shape.{size_of}
use Rattle.pdl_numbers.proofs.ReadRuns.{run_fits}
use Rattle.pdl_numbers.proofs.WriteRuns.{row_run}
use Rattle.pdl_numbers.proofs.copies.copy_row.Goals as goal

pub copy_run-requires : goal.copy_run-requires
copy_run-requires g c =
    let inc : to_z w32 (of_z w32 c.inc_along-inc.result) ≡ get_or c.args.to.now.incs 0 (pos 0) = to_z-of_z w32 c.inc_along-inc.result (record { sfits = c.inc_along-inc.type_inv }) ∙ c.inc_along-inc.ensures in
    let step : to_z w32 (of_z w32 c.inc_along-step.result) ≡ get_or c.args.shown.now.incs 0 (pos 0) = to_z-of_z w32 c.inc_along-step.result (record { sfits = c.inc_along-step.type_inv }) ∙ c.inc_along-step.ensures in
    let wide : get_or c.args.to.now.dims 0 1 ≡ get_or c.args.shown.now.dims 0 1 = ap (λ (ds : List ℕ). get_or ds 0 1) c.requires.same_dims in
    let many : size_of c.args.to.now.dims ≡ size_of c.args.shown.now.dims = ap size_of c.requires.same_dims in (
      omega arith,
      (
        c.requires.some,
        (
          omega arith,
          (
            λ j h.
                run_fits c.shape_laws.ensures.positions c.args.to.now c.args.numbers.now c.args.numbers.now c.place_of-place.result (to_z w32 (of_z w32 c.inc_along-inc.result)) c.args.position j (get_or c.args.to.now.dims 0 1) c.place_of-place.ensures.sound c.requires.reaches refl c.place_of-place.ensures.place inc refl (omega arith) (omega arith),
            λ j h.
                run_fits c.shape_laws.ensures.positions c.args.shown.now c.args.from.now c.args.from.now c.place_of-first.result (to_z w32 (of_z w32 c.inc_along-step.result)) c.args.position j (get_or c.args.to.now.dims 0 1) c.place_of-first.ensures.sound c.requires.from_reaches refl c.place_of-first.ensures.place step wide (omega (arith, many)) (omega arith),
          ),
        ),
      ),
    )

pub returns : goal.returns
returns g c =
    let inc : to_z w32 (of_z w32 c.inc_along-inc.result) ≡ get_or c.args.to.now.incs 0 (pos 0) = to_z-of_z w32 c.inc_along-inc.result (record { sfits = c.inc_along-inc.type_inv }) ∙ c.inc_along-inc.ensures in
    let step : to_z w32 (of_z w32 c.inc_along-step.result) ≡ get_or c.args.shown.now.incs 0 (pos 0) = to_z-of_z w32 c.inc_along-step.result (record { sfits = c.inc_along-step.type_inv }) ∙ c.inc_along-step.ensures in
    let wide : get_or c.args.to.now.dims 0 1 ≡ get_or c.args.shown.now.dims 0 1 = ap (λ (ds : List ℕ). get_or ds 0 1) c.requires.same_dims in
    let many : size_of c.args.to.now.dims ≡ size_of c.args.shown.now.dims = ap size_of c.requires.same_dims in
    let across : c.args.position % get_or c.args.shown.now.dims 0 1 + c.args.count ≤ get_or c.args.shown.now.dims 0 1 = subst (λ w. c.args.position % w + c.args.count ≤ w) wide c.requires.row in
    let r = row_run c.shape_laws.ensures.positions c.args.to.now c.place_of-place.result (to_z w32 (of_z w32 c.inc_along-inc.result)) c.args.position c.args.count c.place_of-place.ensures.sound c.place_of-place.ensures.place inc (omega arith) (omega arith) in
    let s = row_run c.shape_laws.ensures.positions c.args.shown.now c.place_of-first.result (to_z w32 (of_z w32 c.inc_along-step.result)) c.args.position c.args.count c.place_of-first.ensures.sound c.place_of-first.ensures.place step (omega (arith, many)) across in
    c.copy_run.ensures ∙ ap₂ (λ (ps qs : List (Option ℕ)). write ps (read qs c.args.from.now) c.args.numbers.now) r.same s.same
