use Rattle.std.proofs.Common.{[], ◌∷◌, sym, ◌∙◌, arith}
use Rattle.std.specs.Prelude.{codes}
use Rattle.pdl_nice.specs.Reading.{read}
use Rattle.pdl_nice.specs.Ends.{range}
use Rattle.pdl_nice.proofs.AddingLemmas.{nothing_added, one_added}
use Rattle.pdl_nice.proofs.ReadingRanges.{front_is, part_nothing, star_first, value_first}
use Rattle.pdl_nice.proofs.pattern.part.Goals as goal

pub returns-then-from-to : goal.returns-then-from-to
returns-then-from-to c ws l lv = record {
  what = read [] [];
  is = part_nothing ws c.args.from c.args.to c.if-from-to.true;
  adds = nothing_added ws c.args.from c.args.to c.args.into.now.items c.args.values.now.items;
}

pub returns-then-is_star : goal.returns-then-is_star
returns-then-is_star c ws l lv =
    let ne = c.if-from-to.false in
    let le = c.requires.in_order in
    star_first ws c.args.looks.now c.args.from c.args.to
    (front_is ws c.args.looks.now c.args.from c.args.to l (omega (arith, ne, le)) c.requires.within)
    (sym c.is_star.ensures ∙ c.if-is_star.true)

pub returns : goal.returns
returns c ws l lv =
    let ne = c.if-from-to.false in
    let le = c.requires.in_order in
    record {
      what = read (codes "#") (range ws c.args.from c.args.to ∷ []);
      is = value_first ws c.args.looks.now c.args.from c.args.to
          (front_is ws c.args.looks.now c.args.from c.args.to l (omega (arith, ne, le)) c.requires.within)
          (sym c.is_star.ensures ∙ c.if-is_star.false) lv;
      adds = one_added ws c.args.from c.args.to c.args.from c.args.to (codes "#") c.args.into.now.items c.push_value.new.into.items
          c.args.values.now.items c.push_value.new.values.items c.in_ok-push_value.ensures.pattern c.in_ok-push_value.ensures.values
          (omega arith, omega (arith, ne, le), omega arith);
    }
