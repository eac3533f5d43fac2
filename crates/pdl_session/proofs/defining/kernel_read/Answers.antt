use Rattle.pdl_machine.specs.Kernels.{kernel_of, texts_of}
use Rattle.pdl_scope.specs.Faults.{of_signature, of_code}
use Rattle.pdl_session.proofs.KernelDefinitions.{signature_refused, code_refused, texts_read}
use Rattle.pdl_session.proofs.ScopeFacts.{handed_on}
use Rattle.pdl_session.proofs.defining.kernel_read.Goals as goal

pub returns-in_err-signature : goal.returns-in_err-signature
returns-in_err-signature c =
    let fault = c.in_err-signature.field-0.0 in
    handed_on (λ k. k) (kernel_of (texts_of c.args.signature.now c.args.code.now)) (of_signature fault) c.from_residual.result c.from_residual.ensures.1
    (signature_refused c.args.signature.now c.args.code.now fault c.signature_meaning.ensures c.in_err-signature.ensures.refused)

pub returns-in_err-read_kernel : goal.returns-in_err-read_kernel
returns-in_err-read_kernel c =
    let fault = c.in_err-read_kernel.field-0.0 in
    handed_on (λ k. k) (kernel_of (texts_of c.args.signature.now c.args.code.now)) (of_code fault) c.from_residual-in_err-read_kernel.result c.from_residual-in_err-read_kernel.ensures.1
    (code_refused c.args.signature.now c.args.code.now c.in_ok-signature.signature fault c.signature_meaning.ensures c.in_ok-signature.ensures.read c.in_err-read_kernel.ensures.refused)

pub returns : goal.returns
returns c =
    texts_read c.args.signature.now c.args.code.now c.in_ok-signature.signature c.in_ok-read_kernel.field-0 c.signature_meaning.ensures c.in_ok-signature.ensures.read c.in_ok-read_kernel.ensures.read
