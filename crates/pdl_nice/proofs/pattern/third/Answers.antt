use Rattle.std.proofs.Common.{[], ◌∷◌, sym, ◌∙◌, ap, arith}
use Rattle.std.specs.Prelude.{codes, not}
use Rattle.pdl_nice.specs.Reading.{read}
use Rattle.pdl_nice.specs.Ends.{range}
use Rattle.pdl_nice.proofs.AddingLemmas.{one_added}
use Rattle.pdl_nice.proofs.ReadingRanges.{front_is}
use Rattle.pdl_nice.proofs.NiceInner.{range_value}
use Rattle.pdl_nice.proofs.ReadingParts.{no_cut, cut_at, no_third, third_colon, third_nothing, third_star, third_value}
use Rattle.pdl_nice.proofs.pattern.third.Goals as goal

pub returns-in_default-clause-read : goal.returns-in_default-clause-read
returns-in_default-clause-read c ws same =
    no_third ws c.args.from (no_cut ws c.args.looks.now c.args.from c.bar.result same c.requires.within c.bar.ensures.at c.in_default.is)

pub returns-then-is_colon-clause-read : goal.returns-then-is_colon-clause-read
returns-then-is_colon-clause-read c ws same =
    third_colon ws c.args.looks.now c.args.from c.in-Some.at
    (cut_at ws c.args.looks.now c.args.from c.in-Some.at c.bar.result same c.requires.within c.bar.ensures.at c.in-Some.is c.in-Some.ensures.within.1)
    (sym c.is_colon.ensures ∙ c.if-is_colon.true)

pub returns-then-from-at-clause-read : goal.returns-then-from-at-clause-read
returns-then-from-at-clause-read c ws same =
    third_nothing ws c.args.looks.now c.args.from c.in-Some.at
    (cut_at ws c.args.looks.now c.args.from c.in-Some.at c.bar.result same c.requires.within c.bar.ensures.at c.in-Some.is c.in-Some.ensures.within.1)
    (sym c.is_colon.ensures ∙ c.if-is_colon.false) c.if-from-at.true

pub returns-then-is_star-clause-read : goal.returns-then-is_star-clause-read
returns-then-is_star-clause-read c ws same =
    let le = c.in-Some.ensures.within.0 in
    let lt = c.in-Some.ensures.within.1 in
    let ne = c.if-from-at.false in
    third_star ws c.args.looks.now c.args.from c.in-Some.at
    (cut_at ws c.args.looks.now c.args.from c.in-Some.at c.bar.result same c.requires.within c.bar.ensures.at c.in-Some.is lt)
    (sym c.is_colon.ensures ∙ c.if-is_colon.false)
    (front_is ws c.args.looks.now c.args.from c.in-Some.at same (omega (arith, ne, le)) (omega (arith, lt)))
    (sym c.is_star.ensures ∙ c.if-is_star.true)

pub returns-clause-read : goal.returns-clause-read
returns-clause-read c ws same =
    let le = c.in-Some.ensures.within.0 in
    let lt = c.in-Some.ensures.within.1 in
    let ne = c.if-from-at.false in
    let x = cut_at ws c.args.looks.now c.args.from c.in-Some.at c.bar.result same c.requires.within c.bar.ensures.at c.in-Some.is lt in
    record {
      what = read (codes "#") (range ws c.args.from c.in-Some.at ∷ []);
      is = third_value ws c.args.looks.now c.args.from c.in-Some.at x (sym c.is_colon.ensures ∙ c.if-is_colon.false)
          (range_value ws c.args.looks.now c.args.from c.in-Some.at same (omega (arith, ne, le)) (omega (arith, lt))
          (ap not (sym c.is_star.ensures ∙ c.if-is_star.false)) x.level);
      adds = one_added ws c.args.from c.in-Some.at c.args.from c.in-Some.at (codes "#") c.args.into.now.items c.push_value.new.into.items
          c.args.values.now.items c.push_value.new.values.items c.in_ok-push_value.ensures.pattern c.in_ok-push_value.ensures.values
          (omega arith, omega (arith, ne, le), omega arith);
    }
