use Rattle.std.proofs.Common.{sym, ◌∙◌}
use Rattle.pdl_nice.proofs.LookTokens.{nice_from_second, nice_here, nice_later, nice_nowhere}
use Rattle.pdl_nice.proofs.looks.looks_nice.Goals as goal

pub loop-at-init : goal.loop-at-init
loop-at-init c = nice_from_second c.args.text.now c.args.tokens.now

pub returns-then-begins_part : goal.returns-then-begins_part
returns-then-begins_part c =
    sym (nice_here c.args.text.now c.args.tokens.now c.loop-at.at c.loop-at-test.true (sym c.begins_part.ensures ∙ c.if-begins_part.true)) ∙ c.loop-at.invariant

pub loop-at-preserved : goal.loop-at-preserved
loop-at-preserved c =
    nice_later c.args.text.now c.args.tokens.now c.loop-at.at c.loop-at-test.true (sym c.begins_part.ensures ∙ c.if-begins_part.false) ∙ c.loop-at.invariant

pub returns : goal.returns
returns c = sym (nice_nowhere c.args.text.now c.args.tokens.now c.loop-at.at c.loop-at-test.false) ∙ c.loop-at.invariant
