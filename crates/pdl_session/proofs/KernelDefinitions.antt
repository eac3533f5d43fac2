-- Definitions of kernels, from what their texts mean.
use Rattle.std.proofs.Common.{◌≡◌, ℕ, Bool, true, List, Result, Ok, Err, ap, sym, subst, ◌∙◌}
use Rattle.std.specs.Prelude.{if◌then◌else◌}
use Rattle.pdl_sig.specs.declared.Signature.{Signature}
use Rattle.pdl_sig.specs.declared.SigFault.{SigFault}
use Rattle.pdl_sig.specs.declared.SigFault.TheVariants.{BadText, TooManyNames, TwiceNamed, NoOutput, OpenSize, NoMemory}
use Rattle.pdl_sig.specs.Meaning.{TextsHaveOneMeaning}
use Rattle.pdl_sig.specs.Refusals.{Signs, IsFaultOf}
use Rattle.pdl_code.specs.Tree.{Code}
use Rattle.pdl_code.specs.Meaning.{code_in, IsFault as IsCodeFault}
use Rattle.pdl_code.specs.declared.fault.KernelFault.{KernelFault}
use Rattle.pdl_code.specs.declared.fault.KernelFault.TheVariants as code
use Rattle.pdl_kernel.specs.Kernels.{Kernel, kernel_by, kernel_in}
use Rattle.pdl_machine.specs.declared.fault.Fault.{Fault}
use Rattle.pdl_machine.specs.declared.fault.Fault.TheVariants.{WrongArguments}
use Rattle.pdl_machine.specs.Kernels.{can_name, signature_fault, kernel_fault, kernel_of, texts_of, defined}
use Rattle.pdl_machine.specs.Names.{KernelTexts}
use Rattle.pdl_machine.specs.Refused.{or_named}
use Rattle.pdl_machine.specs.Then.{and_then}
use Rattle.pdl_scope.specs.declared.fault.ScopeFault.{ScopeFault}
use Rattle.pdl_scope.specs.Answers.{IsFault}
use Rattle.pdl_scope.specs.Faults.{of_signature, of_code}
use Rattle.pdl_session.proofs.ScopeFacts.{first_fault}

-- what two texts are read as, by what the signature's text means
abbrev by_signature : List ℕ → Result Signature SigFault → Result Kernel Fault
by_signature text signature = and_then (or_named signature_fault signature) (λ s. or_named kernel_fault (kernel_in s text))

abbrev by_code : Signature → Result Code KernelFault → Result Kernel Fault
by_code s code = or_named kernel_fault (kernel_by s code)

pub signature_refused : (signature text : List ℕ) (fault : SigFault) → TextsHaveOneMeaning → IsFaultOf signature fault → IsFault (kernel_of (texts_of signature text)) (of_signature fault)
signature_refused signature text BadText means h = ap (by_signature text) ((means signature (Err BadText)).1 h)
signature_refused signature text TooManyNames means h = ap (by_signature text) ((means signature (Err TooManyNames)).1 h)
signature_refused signature text TwiceNamed means h = ap (by_signature text) ((means signature (Err TwiceNamed)).1 h)
signature_refused signature text NoOutput means h = ap (by_signature text) ((means signature (Err NoOutput)).1 h)
signature_refused signature text OpenSize means h = ap (by_signature text) ((means signature (Err OpenSize)).1 h)
signature_refused signature text NoMemory means h = tt

signed : (signature text : List ℕ) (s : Signature) → TextsHaveOneMeaning → Signs s signature → kernel_of (texts_of signature text) ≡ by_code s (code_in s text)
signed signature text s means signs = ap (by_signature text) ((means signature (Ok s)).1 signs)

pub code_refused : (signature text : List ℕ) (s : Signature) (fault : KernelFault) → TextsHaveOneMeaning → Signs s signature → IsCodeFault (code_in s text) fault
    → IsFault (kernel_of (texts_of signature text)) (of_code fault)
code_refused signature text s code.TooDeep means signs h = signed signature text s means signs ∙ ap (by_code s) h
code_refused signature text s code.BadText means signs h = signed signature text s means signs ∙ ap (by_code s) h
code_refused signature text s (code.UnknownArgument at) means signs h = signed signature text s means signs ∙ ap (by_code s) h
code_refused signature text s (code.WriteToInput at) means signs h = signed signature text s means signs ∙ ap (by_code s) h
code_refused signature text s (code.UnknownDim at) means signs h = signed signature text s means signs ∙ ap (by_code s) h
code_refused signature text s (code.NestedSame at) means signs h = signed signature text s means signs ∙ ap (by_code s) h
code_refused signature text s code.NoMemory means signs h = tt

pub texts_read : (signature text : List ℕ) (s : Signature) (k : Kernel) → TextsHaveOneMeaning → Signs s signature → kernel_in s text ≡ Ok k → kernel_of (texts_of signature text) ≡ Ok k
texts_read signature text s k means signs h = signed signature text s means signs ∙ ap (or_named kernel_fault) h

-- a definition, by what its texts are read as and by whether a kernel may have the name
abbrev by_name : KernelTexts → Result Kernel Fault → Bool → Result KernelTexts Fault
by_name texts kernel named = if named then and_then kernel (λ k. Ok texts) else Err WrongArguments

pub definition_refused : (f signature text : List ℕ) (e : ScopeFault) → can_name f ≡ true → IsFault (kernel_of (texts_of signature text)) e → IsFault (defined f signature text) e
definition_refused f signature text e named h =
    let texts = texts_of signature text in
    subst (λ b. IsFault (by_name texts (kernel_of texts) b) e) (sym named) (first_fault (kernel_of texts) (λ k. Ok texts) e h)

pub definition_made : (f signature text : List ℕ) (k : Kernel) → can_name f ≡ true → kernel_of (texts_of signature text) ≡ Ok k → defined f signature text ≡ Ok (texts_of signature text)
definition_made f signature text k named h =
    let texts = texts_of signature text in
    ap (by_name texts (kernel_of texts)) named ∙ ap (λ x. by_name texts x true) h
