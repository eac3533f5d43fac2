use Rattle.std.proofs.Common.{Some, get_or, sym, refl, ap, ◌∙◌, subst}
use Rattle.std.proofs.Math.Seq.{take_all}
use Rattle.std.proofs.lemmas.Result.{IfErr-weaker}
use Rattle.pdl_slices.specs.SliceReading.{run, finished, stage_after, kind_of, first_stage}
use Rattle.pdl_slices.specs.Collected.{Takes, Ends}
use Rattle.pdl_slices.proofs.SliceReadingEndings.{bad_byte, bad_end}
use Rattle.pdl_slices.proofs.SliceReadingOutcomes.{at_next, takes_none, ends_none, ends_args, verdict_reads}
use Rattle.pdl_slices.proofs.read_slice.Goals as goal

pub loop-at-init : goal.loop-at-init
loop-at-init c = (first_stage, (refl, c.new-reader.ensures))

pub loop-at-preserved : goal.loop-at-preserved
loop-at-preserved c =
    let at = c.loop-at.invariant in
    at_next c.args.text.now c.loop-at.at at.0 c.take.new.self c.loop-at-test.true at.1.0
    (subst (λ b. Takes b (stage_after at.0 (kind_of (get_or c.args.text.now c.loop-at.at 0))) c.take.new.self) c.if-not-branch.false (c.in_ok-take.ensures at.0 at.1.1))

pub returns-then-not-branch-clause-refused : goal.returns-then-not-branch-clause-refused
returns-then-not-branch-clause-refused c _ =
    let at = c.loop-at.invariant in
    bad_byte c.args.text.now c.loop-at.at at.0 c.loop-at-test.true at.1.0
    (takes_none (stage_after at.0 (kind_of (get_or c.args.text.now c.loop-at.at 0))) c.take.new.self (subst (λ b. Takes b (stage_after at.0 (kind_of (get_or c.args.text.now c.loop-at.at 0))) c.take.new.self) c.if-not-branch.true (c.in_ok-take.ensures at.0 at.1.1)))

pub returns-then-not-branch-2-clause-refused : goal.returns-then-not-branch-2-clause-refused
returns-then-not-branch-2-clause-refused c _ =
    let at = c.loop-at.invariant in
    bad_end c.args.text.now at.0 (ap (run (Some first_stage)) (sym (take_all c.loop-at.at c.args.text.now c.loop-at-test.false)) ∙ at.1.0)
    (ends_none _ c.end.new.self (subst (λ b. Ends b (finished at.0) c.end.new.self) c.if-not-branch-2.true (c.in_ok-end.ensures at.0 at.1.1)))

pub returns : goal.returns
returns c =
    let at = c.loop-at.invariant in
    let ended = ends_args _ c.end.new.self (subst (λ b. Ends b (finished at.0) c.end.new.self) c.if-not-branch-2.false (c.in_ok-end.ensures at.0 at.1.1)) in
    let answers = verdict_reads c.args.text.now at.0 ended.0 c.verdict.result
    (ap (run (Some first_stage)) (sym (take_all c.loop-at.at c.args.text.now c.loop-at-test.false)) ∙ at.1.0) ended.1.0
    (c.verdict.ensures ended.0 ended.1.1) in
    record { read = answers.0; refused = IfErr-weaker c.verdict.result _ _ (λ fault why named. why) answers.1 }
