-- What is left of a row.
use Rattle.std.proofs.Common.{◌≡◌, pos, get_or, refl, arith, ◌∙◌, to_z, of_z}
use Rattle.std.proofs.lemmas.Int.{to_z-of_z}
use Rattle.std.specs.Int.{w32}
use Rattle.pdl_numbers.proofs.ReadRuns.{run_fits, run_element}
use Rattle.pdl_numbers.proofs.reads.read_row.Goals as goal

pub read_run-requires : goal.read_run-requires
read_run-requires g c =
    let inc : to_z w32 (of_z w32 c.inc_along-inc.result) ≡ get_or c.args.triple.now.incs 0 (pos 0) = to_z-of_z w32 c.inc_along-inc.result (record { sfits = c.inc_along-inc.type_inv }) ∙ c.inc_along-inc.ensures in (
      omega arith,
      (
        c.are_at_once.ensures.beside,
        (
          c.are_at_once.ensures.some,
          (
            omega arith,
            λ j h.
                run_fits c.shape_laws.ensures.positions c.args.triple.now c.args.numbers.now c.args.numbers.now c.place_of-place.result (to_z w32 (of_z w32 c.inc_along-inc.result)) c.args.position j (get_or c.args.triple.now.dims 0 1) c.place_of-place.ensures.sound c.requires.reaches refl c.place_of-place.ensures.place inc refl (omega arith) (omega arith),
          ),
        ),
      ),
    )

pub returns : goal.returns
returns g c =
    let inc : to_z w32 (of_z w32 c.inc_along-inc.result) ≡ get_or c.args.triple.now.incs 0 (pos 0) = to_z-of_z w32 c.inc_along-inc.result (record { sfits = c.inc_along-inc.type_inv }) ∙ c.inc_along-inc.ensures in
    λ j h. c.read_run.ensures j h
    ∙ run_element c.shape_laws.ensures.positions c.args.triple.now c.args.numbers.now c.args.numbers.now c.place_of-place.result (to_z w32 (of_z w32 c.inc_along-inc.result)) c.args.position j (get_or c.args.triple.now.dims 0 1) c.place_of-place.ensures.sound c.requires.reaches refl c.place_of-place.ensures.place inc refl (omega arith) (omega arith)
