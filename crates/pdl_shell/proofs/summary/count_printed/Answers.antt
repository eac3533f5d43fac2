use Rattle.std.proofs.Common.{◌≡◌, [], Some, refl, ap, ◌∙◌}
use Rattle.pdl_shell.specs.declared.status.Status.TheVariants.{Done, ScriptFault}
use Rattle.pdl_shell.specs.Generated.{generated_script}
use Rattle.pdl_shell.proofs.HeadlineLemmas.{unwatched_printed}
use Rattle.pdl_shell.proofs.summary.count_printed.Goals as goal

pub returns-in-Done : goal.returns-in-Done
returns-in-Done c =
    let script = generated_script c.args.rounds in
    let held : Some c.new-source.result.left ≡ Some script = ap (λ s. Some s.left) c.new-source.ensures ∙ ap (λ xs. Some xs) c.in_ok-script.ensures in
    unwatched_printed _ c.new-nobody.result.items c.new-nobody.ensures.items Done c.args.keep_going c.run_script.new.refused script _ _ [] c.run_script.new.sink.bytes tt (c.in-Done.ensures.model script (λ _. held))
    (ap (λ s. Some s.bytes) c.new-printed.ensures) refl

pub returns-in-ScriptFault : goal.returns-in-ScriptFault
returns-in-ScriptFault c =
    let script = generated_script c.args.rounds in
    let held : Some c.new-source.result.left ≡ Some script = ap (λ s. Some s.left) c.new-source.ensures ∙ ap (λ xs. Some xs) c.in_ok-script.ensures in
    unwatched_printed _ c.new-nobody.result.items c.new-nobody.ensures.items ScriptFault c.args.keep_going c.run_script.new.refused script _ _ [] c.run_script.new.sink.bytes tt (c.in-ScriptFault.ensures.model script (λ _. held))
    (ap (λ s. Some s.bytes) c.new-printed.ensures) refl
