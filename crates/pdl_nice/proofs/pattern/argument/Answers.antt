use Rattle.std.proofs.Common.{◌+◌, length, drop, sym, ◌∙◌}
use Rattle.pdl_nice.specs.Reading.{part_of, simple_of, argument_at}
use Rattle.std.specs.Prelude.{Some, None}
use Rattle.pdl_nice.specs.Ends.{range}
use Rattle.pdl_nice.specs.Adding.{AddsBehind, second_at}
use Rattle.pdl_nice.proofs.ReadingParts.{no_cut, cut_at, no_argument, argument_no_part, argument_parts, argument_simple, spans, LiesBehind, if_ok_both, none_read, some_read}
use Rattle.pdl_nice.proofs.pattern.argument.Goals as goal

pub returns-in_default-clause-read : goal.returns-in_default-clause-read
returns-in_default-clause-read c ws same =
    no_argument ws c.args.from (no_cut ws c.args.looks.now c.args.from c.bar.result same c.requires.within c.bar.ensures.at c.in_default.is)

pub returns-then-not-branch-clause-read : goal.returns-then-not-branch-clause-read
returns-then-not-branch-clause-read c ws same =
    let x = cut_at ws c.args.looks.now c.args.from c.in-Some.at c.bar.result same c.requires.within c.bar.ensures.at c.in-Some.is c.in-Some.ensures.within.1 in
    argument_simple ws c.args.looks.now c.args.from c.in-Some.at None x (sym c.is_colon.ensures ∙ c.if-not-is_colon.true)
    (none_read c.in_ok-simple.field-0 ws c.args.from c.in-Some.at c.args.into.now.items c.simple.new.into.items c.args.values.now.items c.simple.new.values.items
    (simple_of (range ws c.args.from c.in-Some.at)) c.if-not-branch.true (c.in_ok-simple.ensures ws same x.level))

pub returns-then-not-is_colon-clause-read : goal.returns-then-not-is_colon-clause-read
returns-then-not-is_colon-clause-read c ws same =
    let x = cut_at ws c.args.looks.now c.args.from c.in-Some.at c.bar.result same c.requires.within c.bar.ensures.at c.in-Some.is c.in-Some.ensures.within.1 in
    let p = some_read c.in_ok-simple.field-0 ws c.args.from c.in-Some.at c.args.into.now.items c.simple.new.into.items c.args.values.now.items c.simple.new.values.items
    (simple_of (range ws c.args.from c.in-Some.at)) c.if-not-branch.false (c.in_ok-simple.ensures ws same x.level) in
    record {
      what = p.what;
      is = argument_simple ws c.args.looks.now c.args.from c.in-Some.at (Some p.what) x (sym c.is_colon.ensures ∙ c.if-not-is_colon.true) p.is;
      adds = p.adds;
    }

pub returns-then-not-branch-2-clause-read : goal.returns-then-not-branch-2-clause-read
returns-then-not-branch-2-clause-read c ws same =
    let x = cut_at ws c.args.looks.now c.args.from c.in-Some.at c.bar.result same c.requires.within c.bar.ensures.at c.in-Some.is c.in-Some.ensures.within.1 in
    argument_no_part ws c.args.looks.now c.args.from c.in-Some.at x (sym c.is_colon.ensures ∙ c.if-not-is_colon.false)
    (none_read c.in_ok-part.field-0 ws c.args.from c.in-Some.at c.args.into.now.items c.part.new.into.items c.args.values.now.items c.part.new.values.items
    (part_of (range ws c.args.from c.in-Some.at)) c.if-not-branch-2.true (c.in_ok-part.ensures ws same x.level))

pub returns-clause-read : goal.returns-clause-read
returns-clause-read c =
    if_ok_both c.second.result
    (λ end. AddsBehind second_at end c.args.looks.now (c.in-Some.at + 1) c.push.new.into.items c.second.new.into.items c.part.new.values.items c.second.new.values.items)
    (λ end. LiesBehind (c.in-Some.at + 1) (length c.args.looks.now) end)
    (λ end. AddsBehind argument_at end c.args.looks.now c.args.from c.args.into.now.items c.second.new.into.items c.args.values.now.items c.second.new.values.items)
    (λ end h lie ws same.
    let x = cut_at ws c.args.looks.now c.args.from c.in-Some.at c.bar.result same c.requires.within c.bar.ensures.at c.in-Some.is c.in-Some.ensures.within.1 in
    let p = some_read c.in_ok-part.field-0 ws c.args.from c.in-Some.at c.args.into.now.items c.part.new.into.items c.args.values.now.items c.part.new.values.items
    (part_of (range ws c.args.from c.in-Some.at)) c.if-not-branch-2.false (c.in_ok-part.ensures ws same x.level) in
    spans ws c.args.from c.in-Some.at (length c.args.looks.now) c.args.into.now.items c.part.new.into.items c.push.new.into.items c.second.new.into.items
    c.args.values.now.items c.part.new.values.items c.second.new.values.items p.what end (argument_at (drop c.args.from ws)) (second_at (drop (c.in-Some.at + 1) ws))
    c.in-Some.ensures.within.0 p.adds c.in_ok-push.ensures lie
    (argument_parts ws c.args.looks.now c.args.from c.in-Some.at p.what x (sym c.is_colon.ensures ∙ c.if-not-is_colon.false) p.is) (h ws same))
    c.second.ensures.read c.second.ensures.within
