use Rattle.std.proofs.Common.{length, drop, sym, ◌∙◌, arith}
use Rattle.pdl_nice.specs.Reading.{argument_at}
use Rattle.pdl_nice.proofs.ReadingParts.{front_read, no_front_read, lies_there}
use Rattle.pdl_nice.proofs.ReadingRounds.{passed_none, passed_more, passed_last, passed_nothing}
use Rattle.pdl_nice.proofs.pattern.arguments.Goals as goal

pub argument-init : goal.argument-init
argument-init c = record {
  behind = omega arith;
  within = c.requires.within;
  passed = λ ws same. passed_none ws c.args.from c.args.into.now.items c.args.values.now.items;
}

pub returns-in_default-clause-read : goal.returns-in_default-clause-read
returns-in_default-clause-read c ws same =
    passed_nothing ws c.args.from c.argument.at c.args.into.now.items c.argument.into.items c.args.values.now.items c.argument.values.items
    (c.argument.invariant.passed ws same)
    (no_front_read c.in_ok-end.field-0 ws c.argument.at c.argument.into.items c.argument-in-argument.new.into.items c.argument.values.items
    c.argument-in-argument.new.values.items (argument_at (drop c.argument.at ws)) c.in_default.is (c.in_ok-end.ensures.read ws same))

pub returns-then-not-is_comma-clause-read : goal.returns-then-not-is_comma-clause-read
returns-then-not-is_comma-clause-read c ws same =
    let lie = lies_there c.in_ok-end.field-0 c.in-Some.end c.argument.at (length c.args.looks.now) c.in-Some.is c.in_ok-end.ensures.within in
    passed_last ws c.args.looks.now c.args.from c.argument.at c.in-Some.end c.args.into.now.items c.argument.into.items c.argument-in-argument.new.into.items
    c.args.values.now.items c.argument.values.items c.argument-in-argument.new.values.items same lie.1 c.argument.invariant.behind lie.0
    (c.argument.invariant.passed ws same)
    (front_read c.in_ok-end.field-0 c.in-Some.end ws c.argument.at c.argument.into.items c.argument-in-argument.new.into.items c.argument.values.items
    c.argument-in-argument.new.values.items (argument_at (drop c.argument.at ws)) c.in-Some.is (c.in_ok-end.ensures.read ws same))
    (sym c.is_comma.ensures ∙ c.if-not-is_comma.true)

pub argument-preserved : goal.argument-preserved
argument-preserved c =
    let lie = lies_there c.in_ok-end.field-0 c.in-Some.end c.argument.at (length c.args.looks.now) c.in-Some.is c.in_ok-end.ensures.within in
    let low = lie.0 in
    let high = lie.1 in
    let behind = c.argument.invariant.behind in
    record {
      behind = omega (arith, low, behind);
      within = omega (arith, high);
      passed = λ ws same. passed_more ws c.args.looks.now c.args.from c.argument.at c.in-Some.end c.args.into.now.items c.argument.into.items
          c.argument-in-argument.new.into.items c.push.new.into.items c.args.values.now.items c.argument.values.items
          c.argument-in-argument.new.values.items same lie.1 behind lie.0 (c.argument.invariant.passed ws same)
          (front_read c.in_ok-end.field-0 c.in-Some.end ws c.argument.at c.argument.into.items c.argument-in-argument.new.into.items c.argument.values.items
          c.argument-in-argument.new.values.items (argument_at (drop c.argument.at ws)) c.in-Some.is (c.in_ok-end.ensures.read ws same))
          (sym c.is_comma.ensures ∙ c.if-not-is_comma.false) c.in_ok-push.ensures;
    }
