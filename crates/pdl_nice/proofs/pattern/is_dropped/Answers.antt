use Rattle.std.proofs.Common.{◌+◌, [], drop, ◌∙◌, refl, sym, ap}
use Rattle.pdl_nice.specs.Ends.{bar_len, further}
use Rattle.pdl_nice.specs.Nice.{is_open}
use Rattle.pdl_lemmas.specs.Options.{some_inj, none_some}
use Rattle.pdl_nice.proofs.Options.{false_true}
use Rattle.pdl_nice.proofs.NiceInner.{not_dropped, told}
use Rattle.pdl_nice.proofs.pattern.is_dropped.Goals as goal

pub returns-in-None : goal.returns-in-None
returns-in-None c ws same =
    not_dropped ws c.args.looks.now c.args.from c.args.to c.bar.result same c.requires.in_order c.requires.within c.bar.ensures.at
    (λ d. none_some (sym c.in-None.is ∙ d.bar))

pub returns-then-not-is_open : goal.returns-then-not-is_open
returns-then-not-is_open c ws same =
    not_dropped ws c.args.looks.now c.args.from c.args.to (further (c.args.from + 1) (bar_len [] (drop (c.args.from + 1) c.args.looks.now)))
    same c.requires.in_order c.requires.within refl
    (λ d. false_true (sym c.if-not-is_open.true ∙ (c.is_open.ensures ∙ ap is_open d.opening)))

pub returns-then-at-to : goal.returns-then-at-to
returns-then-at-to c ws same =
    not_dropped ws c.args.looks.now c.args.from c.args.to c.bar.result same c.requires.in_order c.requires.within c.bar.ensures.at
    (λ d. c.if-at-to.true (some_inj (sym c.in-Some.is ∙ d.bar) ∙ d.last))

pub returns-else-at-to : goal.returns-else-at-to
returns-else-at-to c ws same =
    told ws c.args.looks.now c.args.from c.args.to c.in-Some.at c.bar.result same c.requires.in_order c.requires.within
    (sym c.is_open.ensures ∙ c.if-not-is_open.false) c.bar.ensures.at c.in-Some.is c.if-at-to.false c.is_value_in_brackets.result c.is_value_in_brackets.ensures
