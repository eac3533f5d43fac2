-- The four rows begin where the triple shows their first elements, and are read one behind another.
use Rattle.std.proofs.Common.{◌≡◌, ℕ, ◌++◌, length, get_or, arith, sym, subst, ◌∙◌, to_z, of_z}
use Rattle.std.proofs.lemmas.Int.{to_z-of_z}
use Rattle.std.specs.Int.{w32}
use Rattle.pdl_numbers.specs.Reads.{HasRead}
use Rattle.pdl_numbers.proofs.ReadRuns.{FourRows, row_of, row_inside, row_there, no_step, four_rows, place_narrow}
use Rattle.pdl_numbers.proofs.reads.read_four_rows.Goals as goal

pub place_after-second-requires-clause-place : goal.place_after-second-requires-clause-place
place_after-second-requires-clause-place g c =
    let f : FourRows c.args.triple.now c.args.numbers.now c.args.position (length c.args.into.now) c.place_of-first.result (to_z w32 (of_z w32 c.inc_along-step.result)) (to_z w32 (of_z w32 c.inc_along-inc.result)) = record {
      laws = c.shape_laws.ensures.positions;
      sound = c.place_of-first.ensures.sound;
      reaches = c.requires.reaches;
      small = c.requires.small;
      first = c.place_of-first.ensures.place;
      along = to_z-of_z w32 c.inc_along-step.result (record { sfits = c.inc_along-step.type_inv }) ∙ c.inc_along-step.ensures;
      across = to_z-of_z w32 c.inc_along-inc.result (record { sfits = c.inc_along-inc.type_inv }) ∙ c.inc_along-inc.ensures;
      counted = c.requires.count;
      within = c.requires.within;
      some = c.requires.some;
      starts = c.requires.start;
      plane = c.requires.plane;
    } in
    (row_of c.args.triple.now c.args.numbers.now c.args.position (length c.args.into.now) c.place_of-first.result _ _ f 1 (omega arith)).place

pub overflow_cast-second : goal.overflow_cast-second
overflow_cast-second g c =
    let f : FourRows c.args.triple.now c.args.numbers.now c.args.position (length c.args.into.now) c.place_of-first.result (to_z w32 (of_z w32 c.inc_along-step.result)) (to_z w32 (of_z w32 c.inc_along-inc.result)) = record {
      laws = c.shape_laws.ensures.positions;
      sound = c.place_of-first.ensures.sound;
      reaches = c.requires.reaches;
      small = c.requires.small;
      first = c.place_of-first.ensures.place;
      along = to_z-of_z w32 c.inc_along-step.result (record { sfits = c.inc_along-step.type_inv }) ∙ c.inc_along-step.ensures;
      across = to_z-of_z w32 c.inc_along-inc.result (record { sfits = c.inc_along-inc.type_inv }) ∙ c.inc_along-inc.ensures;
      counted = c.requires.count;
      within = c.requires.within;
      some = c.requires.some;
      starts = c.requires.start;
      plane = c.requires.plane;
    } in
    record { fits = omega (arith, c.place_after-second.ensures, place_narrow _ (row_of c.args.triple.now c.args.numbers.now c.args.position (length c.args.into.now) c.place_of-first.result _ _ f 1 (omega arith)).place) }

pub place_after-third-requires-clause-place : goal.place_after-third-requires-clause-place
place_after-third-requires-clause-place g c =
    let f : FourRows c.args.triple.now c.args.numbers.now c.args.position (length c.args.into.now) c.place_of-first.result (to_z w32 (of_z w32 c.inc_along-step.result)) (to_z w32 (of_z w32 c.inc_along-inc.result)) = record {
      laws = c.shape_laws.ensures.positions;
      sound = c.place_of-first.ensures.sound;
      reaches = c.requires.reaches;
      small = c.requires.small;
      first = c.place_of-first.ensures.place;
      along = to_z-of_z w32 c.inc_along-step.result (record { sfits = c.inc_along-step.type_inv }) ∙ c.inc_along-step.ensures;
      across = to_z-of_z w32 c.inc_along-inc.result (record { sfits = c.inc_along-inc.type_inv }) ∙ c.inc_along-inc.ensures;
      counted = c.requires.count;
      within = c.requires.within;
      some = c.requires.some;
      starts = c.requires.start;
      plane = c.requires.plane;
    } in
    (row_of c.args.triple.now c.args.numbers.now c.args.position (length c.args.into.now) c.place_of-first.result _ _ f 2 (omega arith)).place

pub overflow_cast-third : goal.overflow_cast-third
overflow_cast-third g c =
    let f : FourRows c.args.triple.now c.args.numbers.now c.args.position (length c.args.into.now) c.place_of-first.result (to_z w32 (of_z w32 c.inc_along-step.result)) (to_z w32 (of_z w32 c.inc_along-inc.result)) = record {
      laws = c.shape_laws.ensures.positions;
      sound = c.place_of-first.ensures.sound;
      reaches = c.requires.reaches;
      small = c.requires.small;
      first = c.place_of-first.ensures.place;
      along = to_z-of_z w32 c.inc_along-step.result (record { sfits = c.inc_along-step.type_inv }) ∙ c.inc_along-step.ensures;
      across = to_z-of_z w32 c.inc_along-inc.result (record { sfits = c.inc_along-inc.type_inv }) ∙ c.inc_along-inc.ensures;
      counted = c.requires.count;
      within = c.requires.within;
      some = c.requires.some;
      starts = c.requires.start;
      plane = c.requires.plane;
    } in
    record { fits = omega (arith, c.place_after-third.ensures, place_narrow _ (row_of c.args.triple.now c.args.numbers.now c.args.position (length c.args.into.now) c.place_of-first.result _ _ f 2 (omega arith)).place) }

pub place_after-fourth-requires-clause-place : goal.place_after-fourth-requires-clause-place
place_after-fourth-requires-clause-place g c =
    let f : FourRows c.args.triple.now c.args.numbers.now c.args.position (length c.args.into.now) c.place_of-first.result (to_z w32 (of_z w32 c.inc_along-step.result)) (to_z w32 (of_z w32 c.inc_along-inc.result)) = record {
      laws = c.shape_laws.ensures.positions;
      sound = c.place_of-first.ensures.sound;
      reaches = c.requires.reaches;
      small = c.requires.small;
      first = c.place_of-first.ensures.place;
      along = to_z-of_z w32 c.inc_along-step.result (record { sfits = c.inc_along-step.type_inv }) ∙ c.inc_along-step.ensures;
      across = to_z-of_z w32 c.inc_along-inc.result (record { sfits = c.inc_along-inc.type_inv }) ∙ c.inc_along-inc.ensures;
      counted = c.requires.count;
      within = c.requires.within;
      some = c.requires.some;
      starts = c.requires.start;
      plane = c.requires.plane;
    } in
    (row_of c.args.triple.now c.args.numbers.now c.args.position (length c.args.into.now) c.place_of-first.result _ _ f 3 (omega arith)).place

pub overflow_cast-fourth : goal.overflow_cast-fourth
overflow_cast-fourth g c =
    let f : FourRows c.args.triple.now c.args.numbers.now c.args.position (length c.args.into.now) c.place_of-first.result (to_z w32 (of_z w32 c.inc_along-step.result)) (to_z w32 (of_z w32 c.inc_along-inc.result)) = record {
      laws = c.shape_laws.ensures.positions;
      sound = c.place_of-first.ensures.sound;
      reaches = c.requires.reaches;
      small = c.requires.small;
      first = c.place_of-first.ensures.place;
      along = to_z-of_z w32 c.inc_along-step.result (record { sfits = c.inc_along-step.type_inv }) ∙ c.inc_along-step.ensures;
      across = to_z-of_z w32 c.inc_along-inc.result (record { sfits = c.inc_along-inc.type_inv }) ∙ c.inc_along-inc.ensures;
      counted = c.requires.count;
      within = c.requires.within;
      some = c.requires.some;
      starts = c.requires.start;
      plane = c.requires.plane;
    } in
    record { fits = omega (arith, c.place_after-fourth.ensures, place_narrow _ (row_of c.args.triple.now c.args.numbers.now c.args.position (length c.args.into.now) c.place_of-first.result _ _ f 3 (omega arith)).place) }

pub read_side_by_side-requires : goal.read_side_by_side-requires
read_side_by_side-requires g c =
    let f : FourRows c.args.triple.now c.args.numbers.now c.args.position (length c.args.into.now) c.place_of-first.result (to_z w32 (of_z w32 c.inc_along-step.result)) (to_z w32 (of_z w32 c.inc_along-inc.result)) = record {
      laws = c.shape_laws.ensures.positions;
      sound = c.place_of-first.ensures.sound;
      reaches = c.requires.reaches;
      small = c.requires.small;
      first = c.place_of-first.ensures.place;
      along = to_z-of_z w32 c.inc_along-step.result (record { sfits = c.inc_along-step.type_inv }) ∙ c.inc_along-step.ensures;
      across = to_z-of_z w32 c.inc_along-inc.result (record { sfits = c.inc_along-inc.type_inv }) ∙ c.inc_along-inc.ensures;
      counted = c.requires.count;
      within = c.requires.within;
      some = c.requires.some;
      starts = c.requires.start;
      plane = c.requires.plane;
    } in
    let wide : length c.split_at_mut-a.result.0.now ≡ get_or c.args.triple.now.dims 0 1 = omega (arith, c.size_along-width.ensures.size, c.requires.count) in (
      omega arith,
      (
        omega (arith, wide, c.requires.count, c.requires.within, c.requires.small),
        (
          omega (arith, wide, c.size_along-width.ensures.size, c.requires.count),
          (
            omega (arith, wide, c.size_along-width.ensures.size, c.requires.count),
            (
              omega (arith, wide, c.size_along-width.ensures.size, c.requires.count),
              (row_inside c.args.triple.now c.args.numbers.now c.args.position (length c.args.into.now) c.place_of-first.result _ _ f 0 c.place_of-first.result _ (omega arith) (no_step c.place_of-first.result (to_z w32 (of_z w32 c.inc_along-step.result))) wide, (row_inside c.args.triple.now c.args.numbers.now c.args.position (length c.args.into.now) c.place_of-first.result _ _ f 1 c.place_after-second.result _ (omega arith) c.place_after-second.ensures wide, (row_inside c.args.triple.now c.args.numbers.now c.args.position (length c.args.into.now) c.place_of-first.result _ _ f 2 c.place_after-third.result _ (omega arith) c.place_after-third.ensures wide, row_inside c.args.triple.now c.args.numbers.now c.args.position (length c.args.into.now) c.place_of-first.result _ _ f 3 c.place_after-fourth.result _ (omega arith) c.place_after-fourth.ensures wide))),
            ),
          ),
        ),
      ),
    )

pub returns : goal.returns
returns g c =
    let f : FourRows c.args.triple.now c.args.numbers.now c.args.position (length c.args.into.now) c.place_of-first.result (to_z w32 (of_z w32 c.inc_along-step.result)) (to_z w32 (of_z w32 c.inc_along-inc.result)) = record {
      laws = c.shape_laws.ensures.positions;
      sound = c.place_of-first.ensures.sound;
      reaches = c.requires.reaches;
      small = c.requires.small;
      first = c.place_of-first.ensures.place;
      along = to_z-of_z w32 c.inc_along-step.result (record { sfits = c.inc_along-step.type_inv }) ∙ c.inc_along-step.ensures;
      across = to_z-of_z w32 c.inc_along-inc.result (record { sfits = c.inc_along-inc.type_inv }) ∙ c.inc_along-inc.ensures;
      counted = c.requires.count;
      within = c.requires.within;
      some = c.requires.some;
      starts = c.requires.start;
      plane = c.requires.plane;
    } in
    let wide : length c.split_at_mut-a.result.0.now ≡ get_or c.args.triple.now.dims 0 1 = omega (arith, c.size_along-width.ensures.size, c.requires.count) in
    let w : ℕ = get_or c.args.triple.now.dims 0 1 in
    subst (λ (n : ℕ). HasRead c.args.triple.now c.args.numbers.now c.args.position n (c.read_side_by_side.new.a ++ (c.read_side_by_side.new.b ++ (c.read_side_by_side.new.c ++ c.read_side_by_side.new.d)))) (sym c.requires.count)
    (four_rows c.args.triple.now c.args.numbers.now c.read_side_by_side.new.a c.read_side_by_side.new.b c.read_side_by_side.new.c c.read_side_by_side.new.d c.args.position w (omega (arith, wide)) (omega (arith, wide, c.size_along-width.ensures.size, c.requires.count)) (omega (arith, wide, c.size_along-width.ensures.size, c.requires.count))
    (row_there c.args.triple.now c.args.numbers.now c.read_side_by_side.new.a c.args.position (length c.args.into.now) c.place_of-first.result _ _ f 0 c.place_of-first.result _ (omega arith) (no_step c.place_of-first.result (to_z w32 (of_z w32 c.inc_along-step.result))) wide c.read_side_by_side.ensures.a_value)
    (row_there c.args.triple.now c.args.numbers.now c.read_side_by_side.new.b c.args.position (length c.args.into.now) c.place_of-first.result _ _ f 1 c.place_after-second.result _ (omega arith) c.place_after-second.ensures wide c.read_side_by_side.ensures.b_value)
    (row_there c.args.triple.now c.args.numbers.now c.read_side_by_side.new.c c.args.position (length c.args.into.now) c.place_of-first.result _ _ f 2 c.place_after-third.result _ (omega arith) c.place_after-third.ensures wide c.read_side_by_side.ensures.c_value)
    (row_there c.args.triple.now c.args.numbers.now c.read_side_by_side.new.d c.args.position (length c.args.into.now) c.place_of-first.result _ _ f 3 c.place_after-fourth.result _ (omega arith) c.place_after-fourth.ensures wide c.read_side_by_side.ensures.d_value))
