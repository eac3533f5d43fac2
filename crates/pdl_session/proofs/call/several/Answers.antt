use Rattle.std.proofs.Common.{List, Result, sym, ap, subst, ◌∙◌}
use Rattle.pdl_buf.specs.declared.made.Made.{Made}
use Rattle.pdl_machine.specs.declared.fault.Fault.{Fault}
use Rattle.pdl_machine.specs.Builtin.{builtin_of}
use Rattle.pdl_scope.specs.Answers.{AnswersAs}
use Rattle.pdl_session.specs.Arguments.{all_seen_of}
use Rattle.pdl_session.proofs.ArgumentCallees.{kernel_several}
use Rattle.pdl_session.proofs.call.several.Goals as goal

pub returns-in-None-clause-value : goal.returns-in-None-clause-value
returns-in-None-clause-value g c =
    let seen = all_seen_of c.args.scope.now.arrays c.args.given.now in
    subst (λ (o : Result (List Made) Fault). AnswersAs (λ ms. ms.items) o c.kernel_outputs.result) (sym (kernel_several c.args.scope.now.names c.args.name.now c.args.wanted seen (ap builtin_of (sym c.bytes.ensures) ∙ sym c.builtin_named.ensures ∙ c.in-None.is))) c.kernel_outputs.ensures.value
