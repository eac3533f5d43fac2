use Rattle.std.proofs.Common.{◌≡◌, [], ◌∷◌}
use Rattle.pdl_shell.specs.Marks.{mark_of}
use Rattle.pdl_shell.specs.Pace.{behind, marks_left}
use Rattle.pdl_shell.proofs.PaceCarried.{ok_then, err_then, finishes_ended, finishes_none, finishes_mark, finishes_short}
use Rattle.pdl_shell.proofs.runner.Runner.run_last.Goals as goal

pub returns-then-self-clause-finishes : goal.returns-then-self-clause-finishes
returns-then-self-clause-finishes g c = finishes_ended c.course_laws.ensures c.args.is_cut c.args.self.now _ c.if-self.true

pub returns-in-None-clause-finishes : goal.returns-in-None-clause-finishes
returns-in-None-clause-finishes g c = finishes_none c.args.is_cut c.args.self.now c.last.new.self _ c.in-None.ensures.mark c.in-None.ensures.rest

pub returns-in-Some-clause-finishes : goal.returns-in-Some-clause-finishes
returns-in-Some-clause-finishes g c =
    let last : mark_of c.in-Some.mark ∷ [] ≡ marks_left (behind c.args.is_cut) c.args.self.now.cutter [] = c.in-Some.ensures.mark in
    ok_then c.run.result (λ ran. finishes_mark c.args.is_cut c.args.self.now c.last.new.self c.run.new.self (mark_of c.in-Some.mark) _ _
    c.if-self.false last c.in-Some.ensures.rest ran) c.run.ensures.ran

pub returns-in-Some-clause-stops : goal.returns-in-Some-clause-stops
returns-in-Some-clause-stops g c =
    let last : mark_of c.in-Some.mark ∷ [] ≡ marks_left (behind c.args.is_cut) c.args.self.now.cutter [] = c.in-Some.ensures.mark in
    err_then c.run.result (λ stop ran. finishes_short c.args.is_cut c.args.self.now c.last.new.self (mark_of c.in-Some.mark) _ stop _ _
    c.if-self.false last c.in-Some.ensures.rest ran) c.run.ensures.short
