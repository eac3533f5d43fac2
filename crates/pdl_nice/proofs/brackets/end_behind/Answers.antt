use Rattle.std.proofs.Common.{get_or, sym, ◌∙◌, ap, arith}
use Rattle.pdl_nice.proofs.EndLemmas.{unclosed_inside, past_inside, closed_here, closed_wrongly, not_here, at_end, same_side, other_side}
use Rattle.std.specs.Prelude.{Some}
use Rattle.pdl_nice.proofs.brackets.end_behind.Goals as goal

pub returns-then-end-eq0 : goal.returns-then-end-eq0
returns-then-end-eq0 c =
    let known = c.requires.known c.loop-at.at c.loop-at.invariant.further c.loop-at-test.true in
    sym (unclosed_inside c.args.looks.now c.loop-at.at c.args.side c.in-Some.field-0 c.loop-at-test.true (sym c.opened.ensures ∙ c.in-Some.is)
    (sym c.if-end-eq0.true ∙ known)) ∙ c.loop-at.invariant.same

pub loop-at-preserved-in-Some : goal.loop-at-preserved-in-Some
loop-at-preserved-in-Some c =
    let known = c.requires.known c.loop-at.at c.loop-at.invariant.further c.loop-at-test.true in
    let past = past_inside c.args.looks.now c.loop-at.at (get_or c.args.ends.now c.loop-at.at 0) c.args.side c.in-Some.field-0 c.loop-at-test.true
    (sym c.opened.ensures ∙ c.in-Some.is) known c.if-end-eq0.false in
    let above = past.above in
    let further = c.loop-at.invariant.further in
    record { within = past.within; same = past.same ∙ c.loop-at.invariant.same; further = omega (arith, above, further) }

pub returns-then-eq : goal.returns-then-eq
returns-then-eq c =
    let same = same_side c.in-Some-closed.kind c.args.side (sym c.eq.ensures ∙ c.if-eq.true) in
    sym (closed_here c.args.looks.now c.loop-at.at c.args.side c.loop-at-test.true (sym c.closed.ensures ∙ (c.in-Some-closed.is ∙ ap (λ s. Some s) same)))
    ∙ c.loop-at.invariant.same

pub returns-else-eq : goal.returns-else-eq
returns-else-eq c =
    let other = other_side c.in-Some-closed.kind c.args.side (sym c.eq.ensures ∙ c.if-eq.false) in
    sym (closed_wrongly c.args.looks.now c.loop-at.at c.args.side c.in-Some-closed.kind c.loop-at-test.true (sym c.closed.ensures ∙ c.in-Some-closed.is) other)
    ∙ c.loop-at.invariant.same

pub loop-at-preserved : goal.loop-at-preserved
loop-at-preserved c =
    let further = c.loop-at.invariant.further in
    let lt = c.loop-at-test.true in
    record {
      within = omega (arith, lt);
      same = not_here c.args.looks.now c.loop-at.at c.args.side lt (sym c.opened.ensures ∙ c.in_default.is) (sym c.closed.ensures ∙ c.in_default-closed.is)
          ∙ c.loop-at.invariant.same;
      further = omega (arith, further);
    }

pub returns : goal.returns
returns c =
    let no = c.loop-at-test.false in
    sym (at_end c.args.looks.now c.loop-at.at c.args.side (omega (arith, no))) ∙ c.loop-at.invariant.same
