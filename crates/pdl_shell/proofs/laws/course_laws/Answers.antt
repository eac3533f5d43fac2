use Rattle.pdl_shell.proofs.laws.course_laws.Goals as goal

pub returns : goal.returns
returns c =
    let slots = c.slot_laws.ensures in
    let runs = c.run_laws.ensures in
    record {
      keeps = slots.keeps;
      leaves = slots.leaves;
      none = slots.none;
      beside = slots.beside;
      twice = slots.twice;
      quiet = slots.quiet;
      below = slots.below;
      below_twice = slots.below_twice;
      told_long = slots.told_long;
      long = slots.long;
      ended_one = slots.ended_one;
      told_twice = c.telling_laws.ensures.twice;
      each = c.telling_laws.ensures.each;
      joins = c.telling_laws.ensures.joined;
      ended = runs.ended;
      printed = runs.printed;
      told = runs.told;
      none_comes = runs.none_comes;
      refused = runs.refused;
      given = runs.refused_in_a_run;
      rising = runs.rising;
    }
