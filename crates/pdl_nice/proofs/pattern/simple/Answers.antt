use Rattle.std.proofs.Common.{◌+◌, ◌-◌, [], ◌∷◌, sym, ◌∙◌, ap, arith}
use Rattle.std.specs.Prelude.{codes}
use Rattle.pdl_nice.specs.Reading.{read, part_of, simple_of}
use Rattle.pdl_nice.specs.Ends.{range}
use Rattle.pdl_nice.specs.Adding.{only, AddsOf}
use Rattle.pdl_nice.proofs.Options.{if_ok_map}
use Rattle.pdl_nice.proofs.AddingLemmas.{nothing_added, one_added}
use Rattle.pdl_nice.proofs.ReadingRanges.{front_is}
use Rattle.pdl_nice.proofs.NiceInner.{simple_nothing, dropped_simple, dropped_lies, value_simple, star_adds, star_behind}
use Rattle.pdl_nice.proofs.pattern.simple.Goals as goal

pub returns-then-from-to : goal.returns-then-from-to
returns-then-from-to c ws l lv = record {
  what = read [] [];
  is = simple_nothing ws c.args.from c.args.to c.if-from-to.true;
  adds = nothing_added ws c.args.from c.args.to c.args.into.now.items c.args.values.now.items;
}

pub returns-then-is_dropped : goal.returns-then-is_dropped
returns-then-is_dropped c ws l lv =
    let ne = c.if-from-to.false in
    let le = c.requires.in_order in
    let inner = c.is_dropped.ensures ws l ∙ ap (λ b. only b (range ws (c.args.from + 1) (c.args.to - 1))) c.if-is_dropped.true in
    record {
      what = read (codes "(#)") (range ws (c.args.from + 1) (c.args.to - 1) ∷ []);
      is = dropped_simple ws c.args.looks.now c.args.from c.args.to (range ws (c.args.from + 1) (c.args.to - 1))
          (front_is ws c.args.looks.now c.args.from c.args.to l (omega (arith, ne, le)) c.requires.within)
          (sym c.is_star.ensures ∙ c.if-is_star.false) inner;
      adds = one_added ws c.args.from c.args.to (c.args.from + 1) (c.args.to - 1) (codes "(#)") c.args.into.now.items c.push_dropped.new.into.items
          c.args.values.now.items c.push_dropped.new.values.items c.in_ok-push_dropped.ensures.pattern c.in_ok-push_dropped.ensures.values
          (dropped_lies ws c.args.from c.args.to inner);
    }

pub returns : goal.returns
returns c ws l lv =
    let ne = c.if-from-to.false in
    let le = c.requires.in_order in
    record {
      what = read (codes "#") (range ws c.args.from c.args.to ∷ []);
      is = value_simple ws c.args.looks.now c.args.from c.args.to
          (front_is ws c.args.looks.now c.args.from c.args.to l (omega (arith, ne, le)) c.requires.within)
          (sym c.is_star.ensures ∙ c.if-is_star.false) lv
          (c.is_dropped.ensures ws l ∙ ap (λ b. only b (range ws (c.args.from + 1) (c.args.to - 1))) c.if-is_dropped.false);
      adds = one_added ws c.args.from c.args.to c.args.from c.args.to (codes "#") c.args.into.now.items c.push_value.new.into.items
          c.args.values.now.items c.push_value.new.values.items c.in_ok-push_value.ensures.pattern c.in_ok-push_value.ensures.values
          (omega arith, omega (arith, ne, le), omega arith);
    }

pub returns-then-is_star : goal.returns-then-is_star
returns-then-is_star c =
    let ne = c.if-from-to.false in
    let le = c.requires.in_order in
    if_ok_map c.part.result
    (λ found. AddsOf part_of found c.args.looks.now (c.args.from + 1) c.args.to c.push.new.into.items c.part.new.into.items c.args.values.now.items c.part.new.values.items)
    (λ found. AddsOf simple_of found c.args.looks.now c.args.from c.args.to c.args.into.now.items c.part.new.into.items c.args.values.now.items c.part.new.values.items)
    (λ found h ws l lv.
    let f = front_is ws c.args.looks.now c.args.from c.args.to l (omega (arith, ne, le)) c.requires.within in
    let s = sym c.is_star.ensures ∙ c.if-is_star.true in
    star_adds ws c.args.looks.now c.args.from c.args.to found c.args.into.now.items c.push.new.into.items c.part.new.into.items
    c.args.values.now.items c.part.new.values.items f s c.in_ok-push.ensures
    (h ws l (star_behind ws c.args.looks.now c.args.from c.args.to f s lv)))
    c.part.ensures
