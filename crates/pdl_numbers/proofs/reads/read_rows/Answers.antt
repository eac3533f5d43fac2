-- One row more.
use Rattle.std.proofs.Common.{◌≡◌, ◌+◌, ◌-◌, ◌*◌, ◌<◌, ◌≤◌, ◌+ℤ◌, ◌*ℤ◌, ℕ, ℤ, pos, length, length-take, length-drop, get_or, refl, arith, ap, sym, subst, ◌∙◌, to_z, of_z}
use Rattle.std.proofs.lemmas.Int.{to_z-of_z}
use Rattle.std.proofs.Math.Nat.{add-mul, mul-le-mul}
use Rattle.std.specs.Int.{w32}
use Rattle.pdl_numbers.specs.Reads.{HasRead}
use Rattle.pdl_numbers.specs.Shown.{place_at}
use Rattle.pdl_numbers.proofs.ReadRuns.{IsRow, row_is, run_fits, run_element, read_more, place_narrow, natural_place}
use Rattle.pdl_numbers.proofs.reads.read_rows.Goals as goal
use borrow.Rule.Slice.PartMut.{put_mid}

pub place_after-at-requires-clause-steps : goal.place_after-at-requires-clause-steps
place_after-at-requires-clause-steps g c =
    let step : to_z w32 (of_z w32 c.inc_along-step.result) ≡ get_or c.args.triple.now.incs 1 (pos 0) = to_z-of_z w32 c.inc_along-step.result (record { sfits = c.inc_along-step.type_inv }) ∙ c.inc_along-step.ensures in
    let row : IsRow c.args.triple.now c.args.position c.loop-row.row (length c.args.into.now) (get_or c.args.triple.now.dims 0 1) (pos c.place_of-place.result +ℤ to_z w32 (of_z w32 c.inc_along-step.result) *ℤ pos c.loop-row.row) =
    row_is c.shape_laws.ensures.positions c.args.triple.now (length c.args.numbers.now) c.args.position c.loop-row.row c.args.rows (length c.args.into.now) c.place_of-place.result (to_z w32 (of_z w32 c.inc_along-step.result)) c.place_of-place.ensures.sound c.requires.reaches c.requires.small c.place_of-place.ensures.place step c.loop-row-test.true c.requires.count c.requires.within c.requires.some c.requires.start c.requires.plane in
    row.small

pub place_after-at-requires-clause-place : goal.place_after-at-requires-clause-place
place_after-at-requires-clause-place g c =
    let step : to_z w32 (of_z w32 c.inc_along-step.result) ≡ get_or c.args.triple.now.incs 1 (pos 0) = to_z-of_z w32 c.inc_along-step.result (record { sfits = c.inc_along-step.type_inv }) ∙ c.inc_along-step.ensures in
    let row : IsRow c.args.triple.now c.args.position c.loop-row.row (length c.args.into.now) (get_or c.args.triple.now.dims 0 1) (pos c.place_of-place.result +ℤ to_z w32 (of_z w32 c.inc_along-step.result) *ℤ pos c.loop-row.row) =
    row_is c.shape_laws.ensures.positions c.args.triple.now (length c.args.numbers.now) c.args.position c.loop-row.row c.args.rows (length c.args.into.now) c.place_of-place.result (to_z w32 (of_z w32 c.inc_along-step.result)) c.place_of-place.ensures.sound c.requires.reaches c.requires.small c.place_of-place.ensures.place step c.loop-row-test.true c.requires.count c.requires.within c.requires.some c.requires.start c.requires.plane in
    row.place

pub overflow_cast-at : goal.overflow_cast-at
overflow_cast-at g c =
    let step : to_z w32 (of_z w32 c.inc_along-step.result) ≡ get_or c.args.triple.now.incs 1 (pos 0) = to_z-of_z w32 c.inc_along-step.result (record { sfits = c.inc_along-step.type_inv }) ∙ c.inc_along-step.ensures in
    let row : IsRow c.args.triple.now c.args.position c.loop-row.row (length c.args.into.now) (get_or c.args.triple.now.dims 0 1) (pos c.place_of-place.result +ℤ to_z w32 (of_z w32 c.inc_along-step.result) *ℤ pos c.loop-row.row) =
    row_is c.shape_laws.ensures.positions c.args.triple.now (length c.args.numbers.now) c.args.position c.loop-row.row c.args.rows (length c.args.into.now) c.place_of-place.result (to_z w32 (of_z w32 c.inc_along-step.result)) c.place_of-place.ensures.sound c.requires.reaches c.requires.small c.place_of-place.ensures.place step c.loop-row-test.true c.requires.count c.requires.within c.requires.some c.requires.start c.requires.plane in
    record { fits = omega (arith, c.place_after-at.ensures, place_narrow _ row.place) }

pub read_run-requires : goal.read_run-requires
read_run-requires g c =
    let step : to_z w32 (of_z w32 c.inc_along-step.result) ≡ get_or c.args.triple.now.incs 1 (pos 0) = to_z-of_z w32 c.inc_along-step.result (record { sfits = c.inc_along-step.type_inv }) ∙ c.inc_along-step.ensures in
    let row : IsRow c.args.triple.now c.args.position c.loop-row.row (length c.args.into.now) (get_or c.args.triple.now.dims 0 1) (pos c.place_of-place.result +ℤ to_z w32 (of_z w32 c.inc_along-step.result) *ℤ pos c.loop-row.row) =
    row_is c.shape_laws.ensures.positions c.args.triple.now (length c.args.numbers.now) c.args.position c.loop-row.row c.args.rows (length c.args.into.now) c.place_of-place.result (to_z w32 (of_z w32 c.inc_along-step.result)) c.place_of-place.ensures.sound c.requires.reaches c.requires.small c.place_of-place.ensures.place step c.loop-row-test.true c.requires.count c.requires.within c.requires.some c.requires.start c.requires.plane in
    let inc : to_z w32 (of_z w32 c.inc_along-inc.result) ≡ get_or c.args.triple.now.incs 0 (pos 0) = to_z-of_z w32 c.inc_along-inc.result (record { sfits = c.inc_along-inc.type_inv }) ∙ c.inc_along-inc.ensures in
    let at : c.place_after-at.result ≡ place_at c.args.triple.now (c.args.position + c.loop-row.row * get_or c.args.triple.now.dims 0 1) = c.place_after-at.ensures ∙ natural_place _ _ row.is in
    let wide : c.size_along-width.result ≡ get_or c.args.triple.now.dims 0 1 = c.size_along-width.ensures.size in (
      omega arith,
      (
        c.are_at_once-at_once.ensures.beside,
        (
          λ t. omega (arith, c.are_at_once-at_once.ensures.some t, length-take {A = ℤ}, length-drop {A = ℤ}),
          (
            omega (arith, wide, row.fits, c.requires.small, c.requires.within, length-take {A = ℤ}, length-drop {A = ℤ}),
            λ j h.
                let few : j < get_or c.args.triple.now.dims 0 1 = omega (arith, wide, length-take {A = ℤ}, length-drop {A = ℤ}) in
                run_fits c.shape_laws.ensures.positions c.args.triple.now c.args.numbers.now c.args.numbers.now c.place_after-at.result (to_z w32 (of_z w32 c.inc_along-inc.result)) (c.args.position + c.loop-row.row * get_or c.args.triple.now.dims 0 1) j (get_or c.args.triple.now.dims 0 1) c.place_of-place.ensures.sound c.requires.reaches refl at inc refl (omega (arith, row.fits, c.requires.within)) (omega (arith, row.starts)),
          ),
        ),
      ),
    )

pub loop-row-preserved : goal.loop-row-preserved
loop-row-preserved g c =
    let step : to_z w32 (of_z w32 c.inc_along-step.result) ≡ get_or c.args.triple.now.incs 1 (pos 0) = to_z-of_z w32 c.inc_along-step.result (record { sfits = c.inc_along-step.type_inv }) ∙ c.inc_along-step.ensures in
    let row : IsRow c.args.triple.now c.args.position c.loop-row.row (length c.args.into.now) (get_or c.args.triple.now.dims 0 1) (pos c.place_of-place.result +ℤ to_z w32 (of_z w32 c.inc_along-step.result) *ℤ pos c.loop-row.row) =
    row_is c.shape_laws.ensures.positions c.args.triple.now (length c.args.numbers.now) c.args.position c.loop-row.row c.args.rows (length c.args.into.now) c.place_of-place.result (to_z w32 (of_z w32 c.inc_along-step.result)) c.place_of-place.ensures.sound c.requires.reaches c.requires.small c.place_of-place.ensures.place step c.loop-row-test.true c.requires.count c.requires.within c.requires.some c.requires.start c.requires.plane in
    let inc : to_z w32 (of_z w32 c.inc_along-inc.result) ≡ get_or c.args.triple.now.incs 0 (pos 0) = to_z-of_z w32 c.inc_along-inc.result (record { sfits = c.inc_along-inc.type_inv }) ∙ c.inc_along-inc.ensures in
    let at : c.place_after-at.result ≡ place_at c.args.triple.now (c.args.position + c.loop-row.row * get_or c.args.triple.now.dims 0 1) = c.place_after-at.ensures ∙ natural_place _ _ row.is in
    let wide : c.size_along-width.result ≡ get_or c.args.triple.now.dims 0 1 = c.size_along-width.ensures.size in
    let w : ℕ = c.size_along-width.result in
    let next : c.loop-row.row * w + w ≡ (c.loop-row.row + 1) * get_or c.args.triple.now.dims 0 1 =
    omega (arith, add-mul c.loop-row.row 1 (get_or c.args.triple.now.dims 0 1), ap (λ (k : ℕ). c.loop-row.row * k + k) wide) in
    let before : HasRead c.args.triple.now c.args.numbers.now c.args.position (c.loop-row.row * w) c.loop-row.into =
    subst (λ (k : ℕ). HasRead c.args.triple.now c.args.numbers.now c.args.position (c.loop-row.row * k) c.loop-row.into) (sym wide) c.loop-row.invariant in
    let same : c.args.position + c.loop-row.row * get_or c.args.triple.now.dims 0 1 ≡ c.args.position + c.loop-row.row * w = ap (λ (k : ℕ). c.args.position + c.loop-row.row * k) (sym wide) in
    let fits : c.loop-row.row * w + w ≤ length c.args.into.now = omega (arith, row.fits, ap (λ (k : ℕ). c.loop-row.row * k + k) wide) in
    subst (λ (k : ℕ). HasRead c.args.triple.now c.args.numbers.now c.args.position k (put_mid (c.loop-row.row * w) (c.loop-row.row * w + w - c.loop-row.row * w) c.loop-row.into c.read_run.new.into)) next
    (read_more c.args.triple.now c.args.numbers.now c.loop-row.into c.read_run.new.into c.args.position (c.loop-row.row * w) w (c.loop-row.row * w + w - c.loop-row.row * w) (omega arith) (omega (arith, fits)) (omega (arith, fits, length-take {A = ℤ}, length-drop {A = ℤ})) before
    (λ j h. c.read_run.ensures j (omega (arith, fits, length-take {A = ℤ}, length-drop {A = ℤ}))
    ∙ run_element c.shape_laws.ensures.positions c.args.triple.now c.args.numbers.now c.args.numbers.now c.place_after-at.result (to_z w32 (of_z w32 c.inc_along-inc.result)) (c.args.position + c.loop-row.row * get_or c.args.triple.now.dims 0 1) j (get_or c.args.triple.now.dims 0 1) c.place_of-place.ensures.sound c.requires.reaches refl at inc refl (omega (arith, wide, row.fits, c.requires.within)) (omega (arith, wide, row.starts))
    ∙ ap (λ (k : ℕ). get_or c.args.numbers.now (place_at c.args.triple.now (k + j)) (pos 0)) same))

pub returns : goal.returns
returns g c k h = c.loop-row.invariant k (omega (arith, c.requires.count, c.loop-row-test.false, mul-le-mul {n₁ = c.args.rows} {m₁ = get_or c.args.triple.now.dims 0 1} {n₂ = c.loop-row.row} {m₂ = get_or c.args.triple.now.dims 0 1} (omega arith) (omega arith)))
