use Rattle.std.proofs.Common.{◌+◌, length, drop, sym, ◌∙◌}
use Rattle.pdl_nice.specs.Reading.{part_of}
use Rattle.pdl_nice.specs.Ends.{range}
use Rattle.pdl_nice.specs.Adding.{AddsBehind, third_at, second_at}
use Rattle.pdl_nice.proofs.ReadingParts.{no_cut, cut_at, no_second, second_no_part, second_part, second_third, spans, LiesBehind, if_ok_both, none_read, some_read}
use Rattle.pdl_nice.proofs.pattern.second.Goals as goal

pub returns-in_default-clause-read : goal.returns-in_default-clause-read
returns-in_default-clause-read c ws same =
    no_second ws c.args.from (no_cut ws c.args.looks.now c.args.from c.bar.result same c.requires.within c.bar.ensures.at c.in_default.is)

pub returns-then-not-branch-clause-read : goal.returns-then-not-branch-clause-read
returns-then-not-branch-clause-read c ws same =
    let x = cut_at ws c.args.looks.now c.args.from c.in-Some.at c.bar.result same c.requires.within c.bar.ensures.at c.in-Some.is c.in-Some.ensures.within.1 in
    second_no_part ws c.args.looks.now c.args.from c.in-Some.at x
    (none_read c.in_ok-part.field-0 ws c.args.from c.in-Some.at c.args.into.now.items c.part.new.into.items c.args.values.now.items c.part.new.values.items
    (part_of (range ws c.args.from c.in-Some.at)) c.if-not-branch.true (c.in_ok-part.ensures ws same x.level))

pub returns-then-not-is_colon-clause-read : goal.returns-then-not-is_colon-clause-read
returns-then-not-is_colon-clause-read c ws same =
    let x = cut_at ws c.args.looks.now c.args.from c.in-Some.at c.bar.result same c.requires.within c.bar.ensures.at c.in-Some.is c.in-Some.ensures.within.1 in
    let p = some_read c.in_ok-part.field-0 ws c.args.from c.in-Some.at c.args.into.now.items c.part.new.into.items c.args.values.now.items c.part.new.values.items
    (part_of (range ws c.args.from c.in-Some.at)) c.if-not-branch.false (c.in_ok-part.ensures ws same x.level) in
    record {
      what = p.what;
      is = second_part ws c.args.looks.now c.args.from c.in-Some.at p.what x p.is (sym c.is_colon.ensures ∙ c.if-not-is_colon.true);
      adds = p.adds;
    }

pub returns-clause-read : goal.returns-clause-read
returns-clause-read c =
    if_ok_both c.third.result
    (λ end. AddsBehind third_at end c.args.looks.now (c.in-Some.at + 1) c.push.new.into.items c.third.new.into.items c.part.new.values.items c.third.new.values.items)
    (λ end. LiesBehind (c.in-Some.at + 1) (length c.args.looks.now) end)
    (λ end. AddsBehind second_at end c.args.looks.now c.args.from c.args.into.now.items c.third.new.into.items c.args.values.now.items c.third.new.values.items)
    (λ end h lie ws same.
    let x = cut_at ws c.args.looks.now c.args.from c.in-Some.at c.bar.result same c.requires.within c.bar.ensures.at c.in-Some.is c.in-Some.ensures.within.1 in
    let p = some_read c.in_ok-part.field-0 ws c.args.from c.in-Some.at c.args.into.now.items c.part.new.into.items c.args.values.now.items c.part.new.values.items
    (part_of (range ws c.args.from c.in-Some.at)) c.if-not-branch.false (c.in_ok-part.ensures ws same x.level) in
    spans ws c.args.from c.in-Some.at (length c.args.looks.now) c.args.into.now.items c.part.new.into.items c.push.new.into.items c.third.new.into.items
    c.args.values.now.items c.part.new.values.items c.third.new.values.items p.what end (second_at (drop c.args.from ws)) (third_at (drop (c.in-Some.at + 1) ws))
    c.in-Some.ensures.within.0 p.adds c.in_ok-push.ensures lie
    (second_third ws c.args.looks.now c.args.from c.in-Some.at p.what x p.is (sym c.is_colon.ensures ∙ c.if-not-is_colon.false)) (h ws same))
    c.third.ensures.read c.third.ensures.within
