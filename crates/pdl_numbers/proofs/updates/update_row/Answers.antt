use Rattle.std.proofs.Common.{◌≡◌, List, ℕ, pos, get_or, refl, arith, ap, ◌∙◌, to_z, of_z}
use Rattle.std.proofs.lemmas.Int.{to_z-of_z}
use Rattle.std.specs.Int.{w32}
use Rattle.std.specs.Prelude.{Option}
use Rattle.pdl_numbers.specs.Updates.{change, updated}
use Rattle.pdl_numbers.proofs.ReadRuns.{run_fits}
use Rattle.pdl_numbers.proofs.WriteRuns.{row_run}
use Rattle.pdl_numbers.proofs.updates.update_row.Goals as goal

pub update_run-requires : goal.update_run-requires
update_run-requires g c =
    let inc : to_z w32 (of_z w32 c.inc_along.result) ≡ get_or c.args.triple.now.incs 0 (pos 0) = to_z-of_z w32 c.inc_along.result (record { sfits = c.inc_along.type_inv }) ∙ c.inc_along.ensures in (
      omega arith,
      (
        c.requires.suits,
        (
          c.requires.some,
          (
            omega arith,
            λ j h.
                run_fits c.shape_laws.ensures.positions c.args.triple.now c.args.numbers.now c.args.numbers.now c.place_of-place.result (to_z w32 (of_z w32 c.inc_along.result)) c.args.position j (get_or c.args.triple.now.dims 0 1) c.place_of-place.ensures.sound c.requires.reaches refl c.place_of-place.ensures.place inc refl (omega arith) (omega arith),
          ),
        ),
      ),
    )

pub returns : goal.returns
returns g c =
    let inc : to_z w32 (of_z w32 c.inc_along.result) ≡ get_or c.args.triple.now.incs 0 (pos 0) = to_z-of_z w32 c.inc_along.result (record { sfits = c.inc_along.type_inv }) ∙ c.inc_along.ensures in
    let r = row_run c.shape_laws.ensures.positions c.args.triple.now c.place_of-place.result (to_z w32 (of_z w32 c.inc_along.result)) c.args.position c.args.count c.place_of-place.ensures.sound c.place_of-place.ensures.place inc (omega arith) (omega arith) in
    c.update_run.ensures ∙ ap (λ (ps : List (Option ℕ)). change (updated g.T.PackedType.ty c.args.update) ps c.args.numbers.now) r.same
