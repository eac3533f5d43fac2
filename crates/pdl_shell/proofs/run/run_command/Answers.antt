use Rattle.std.proofs.Common.{◌≡◌, Some, sym, ap, refl, ◌∙◌}
use Rattle.pdl_shell.specs.declared.words.Command.{Command}
use Rattle.pdl_shell.specs.declared.words.Command.TheVariants.{Run, Generate}
use Rattle.pdl_shell.proofs.AnswersWhole.{answered_by, read_for_a_run}
use Rattle.pdl_shell.proofs.run.run_command.Goals as goal

pub returns-in-Some-Run-clause-answered : goal.returns-in-Some-Run-clause-answered
returns-in-Some-Run-clause-answered g c =
    let known = rw c.in-Some-Run.is at c.in-Some-Run.field-0-is in
    let asked : c.args.asked ≡ Some (Run c.in-Some-Run.keep_going) = c.in-Some-Run.is ∙ ap (λ (x : Command). Some x) known in
    answered_by _ _ (sym asked) _ _ refl _ _ _ c.run_script.ensures

pub returns-in-Some-Run-clause-unread : goal.returns-in-Some-Run-clause-unread
returns-in-Some-Run-clause-unread g c unread =
    let known = rw c.in-Some-Run.is at c.in-Some-Run.field-0-is in
    let asked : c.args.asked ≡ Some (Run c.in-Some-Run.keep_going) = c.in-Some-Run.is ∙ ap (λ (x : Command). Some x) known in
    absurd (read_for_a_run _ _ asked unread)

pub returns-in-Some-Run-clause-unwatched : goal.returns-in-Some-Run-clause-unwatched
returns-in-Some-Run-clause-unwatched g c unread =
    let known = rw c.in-Some-Run.is at c.in-Some-Run.field-0-is in
    let asked : c.args.asked ≡ Some (Run c.in-Some-Run.keep_going) = c.in-Some-Run.is ∙ ap (λ (x : Command). Some x) known in
    absurd (read_for_a_run _ _ asked unread)

pub returns-in-Some-Run-clause-unrefused : goal.returns-in-Some-Run-clause-unrefused
returns-in-Some-Run-clause-unrefused g c unread =
    let known = rw c.in-Some-Run.is at c.in-Some-Run.field-0-is in
    let asked : c.args.asked ≡ Some (Run c.in-Some-Run.keep_going) = c.in-Some-Run.is ∙ ap (λ (x : Command). Some x) known in
    absurd (read_for_a_run _ _ asked unread)

pub returns-in-Some-Generate-clause-answered : goal.returns-in-Some-Generate-clause-answered
returns-in-Some-Generate-clause-answered g c =
    let known = rw c.in-Some-Generate.is at c.in-Some-Generate.field-0-is in
    let asked : c.args.asked ≡ Some (Generate c.in-Some-Generate.keep_going c.in-Some-Generate.rounds) = c.in-Some-Generate.is ∙ ap (λ (x : Command). Some x) known in
    answered_by _ _ (sym asked) _ _ (sym c.requires.none) _ _ _ (c.summarize.ensures _ _ _)

pub returns-in-Some-Generate-clause-unread : goal.returns-in-Some-Generate-clause-unread
returns-in-Some-Generate-clause-unread g c unread = refl

pub returns-in-Some-Generate-clause-unwatched : goal.returns-in-Some-Generate-clause-unwatched
returns-in-Some-Generate-clause-unwatched g c unread = refl

pub returns-in-Some-Generate-clause-unrefused : goal.returns-in-Some-Generate-clause-unrefused
returns-in-Some-Generate-clause-unrefused g c unread = c.requires.none

pub returns-in-None-clause-answered : goal.returns-in-None-clause-answered
returns-in-None-clause-answered g c = answered_by _ _ (sym c.in-None.is) _ _ (sym c.requires.none) _ _ _ (c.usage.ensures _ _ _)

pub returns-in-None-clause-unread : goal.returns-in-None-clause-unread
returns-in-None-clause-unread g c unread = refl

pub returns-in-None-clause-unwatched : goal.returns-in-None-clause-unwatched
returns-in-None-clause-unwatched g c unread = refl

pub returns-in-None-clause-unrefused : goal.returns-in-None-clause-unrefused
returns-in-None-clause-unrefused g c unread = c.requires.none
