use Rattle.std.proofs.Common.{◌≡◌, true, Ok, sym, ap, ap₂, subst, ◌∙◌}
use Rattle.pdl_machine.specs.Kernels.{can_name, kernel_of, texts_of, defined}
use Rattle.pdl_machine.specs.Names.{KernelTexts}
use Rattle.pdl_scope.specs.Answers.{IsFault}
use Rattle.pdl_session.proofs.KernelDefinitions.{definition_refused, definition_made}
use Rattle.pdl_session.proofs.ScopeFacts.{handed_on}
use Rattle.pdl_session.proofs.defining.kernel_defined.Goals as goal

pub returns-in_err-kernel : goal.returns-in_err-kernel
returns-in_err-kernel c =
    let f = c.args.name.now in
    let fault = c.in_err-kernel.field-0.0 in
    let named : can_name f ≡ true = sym c.can_name.ensures ∙ c.if-not-can_name.false in
    let read : texts_of c.bytes.result.now c.bytes-2.result.now ≡ texts_of c.args.signature.now c.args.code.now = ap₂ texts_of c.bytes.ensures c.bytes-2.ensures in
    handed_on (λ k. k) (defined f c.args.signature.now c.args.code.now) fault c.from_residual.result c.from_residual.ensures.1
    (definition_refused f c.args.signature.now c.args.code.now fault named (subst (λ (t : KernelTexts). IsFault (kernel_of t) fault) read c.in_err-kernel.ensures))

pub returns : goal.returns
returns c =
    let f = c.args.name.now in
    let named : can_name f ≡ true = sym c.can_name.ensures ∙ c.if-not-can_name.false in
    let read : texts_of c.bytes.result.now c.bytes-2.result.now ≡ texts_of c.args.signature.now c.args.code.now = ap₂ texts_of c.bytes.ensures c.bytes-2.ensures in
    let same : c.new.result ≡ texts_of c.args.signature.now c.args.code.now = c.new.ensures ∙ ap₂ texts_of c.in_ok-signature.ensures.cases c.in_ok-code.ensures.cases in
    definition_made f c.args.signature.now c.args.code.now c.in_ok-kernel.kernel named (ap kernel_of (sym read) ∙ c.in_ok-kernel.ensures)
    ∙ ap Ok (sym same)
