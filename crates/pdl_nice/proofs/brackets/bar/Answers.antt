use Rattle.std.proofs.Common.{get_or, sym, ◌∙◌, arith}
use Rattle.pdl_nice.proofs.EndBars.{here, unclosed, past, stopped, next, ended}
use Rattle.pdl_nice.proofs.brackets.bar.Goals as goal

pub returns-then-is_bar-clause-at : goal.returns-then-is_bar-clause-at
returns-then-is_bar-clause-at c =
    sym (here c.args.looks.now c.loop-at.at c.loop-at-test.true (sym c.is_bar.ensures ∙ c.if-is_bar.true)) ∙ c.loop-at.invariant.same

pub returns-then-is_bar-clause-within : goal.returns-then-is_bar-clause-within
returns-then-is_bar-clause-within c = (c.loop-at.invariant.behind, c.loop-at-test.true)

pub returns-then-end-eq0-clause-at : goal.returns-then-end-eq0-clause-at
returns-then-end-eq0-clause-at c =
    let known = c.requires.known c.loop-at.at c.loop-at.invariant.behind c.loop-at-test.true in
    sym (unclosed c.args.looks.now c.loop-at.at c.in-Some.field-0 c.loop-at-test.true (sym c.opened.ensures ∙ c.in-Some.is) (sym c.if-end-eq0.true ∙ known))
    ∙ c.loop-at.invariant.same

pub loop-at-preserved-in-Some : goal.loop-at-preserved-in-Some
loop-at-preserved-in-Some c =
    let known = c.requires.known c.loop-at.at c.loop-at.invariant.behind c.loop-at-test.true in
    let on = past c.args.looks.now c.loop-at.at (get_or c.args.ends.now c.loop-at.at 0) c.in-Some.field-0 c.loop-at-test.true
    (sym c.opened.ensures ∙ c.in-Some.is) known c.if-end-eq0.false in
    let above = on.above in
    let behind = c.loop-at.invariant.behind in
    record { behind = omega (arith, above, behind); within = on.within; same = on.same ∙ c.loop-at.invariant.same }

pub loop-at-smaller-in-Some : goal.loop-at-smaller-in-Some
loop-at-smaller-in-Some c =
    let known = c.requires.known c.loop-at.at c.loop-at.invariant.behind c.loop-at-test.true in
    let on = past c.args.looks.now c.loop-at.at (get_or c.args.ends.now c.loop-at.at 0) c.in-Some.field-0 c.loop-at-test.true
    (sym c.opened.ensures ∙ c.in-Some.is) known c.if-end-eq0.false in
    let above = on.above in
    let lt = c.loop-at-test.true in
    omega (arith, above, lt)

pub returns-in-Some-closed-clause-at : goal.returns-in-Some-closed-clause-at
returns-in-Some-closed-clause-at c =
    sym (stopped c.args.looks.now c.loop-at.at c.in-Some-closed.field-0 c.loop-at-test.true (sym c.is_bar.ensures ∙ c.if-is_bar.false)
    (sym c.closed.ensures ∙ c.in-Some-closed.is)) ∙ c.loop-at.invariant.same

pub loop-at-preserved : goal.loop-at-preserved
loop-at-preserved c =
    let lt = c.loop-at-test.true in
    let behind = c.loop-at.invariant.behind in
    record {
      behind = omega (arith, behind);
      within = omega (arith, lt);
      same = next c.args.looks.now c.loop-at.at lt (sym c.is_bar.ensures ∙ c.if-is_bar.false) (sym c.opened.ensures ∙ c.in_default.is)
          (sym c.closed.ensures ∙ c.in_default-closed.is) ∙ c.loop-at.invariant.same;
    }

pub returns-clause-at : goal.returns-clause-at
returns-clause-at c =
    let no = c.loop-at-test.false in
    sym (ended c.args.looks.now c.loop-at.at (omega (arith, no))) ∙ c.loop-at.invariant.same
