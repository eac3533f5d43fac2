-- Kernels: operations that a script defines by a signature and code, and what a call
-- of one gives (PDL::PP).
use Rattle.std.specs.Prelude.{ℕ, ◌==◌, Bool, ◌&&◌, List, length, map, Option, Some, None, is_none, if◌then◌else◌, Result, Ok, Err}
use Rattle.std.specs.List.{filter}
use Rattle.pdl_buf.specs.declared.made.Made.{Made}
use Rattle.pdl_code.specs.declared.fault.KernelFault.{KernelFault}
use Rattle.pdl_kernel.specs.Call.{PlacedFault, called}
use Rattle.pdl_kernel.specs.Kernels.{Kernel, kernel_in}
use Rattle.pdl_kernel.specs.declared.faults.Fault.{Fault as CodeFault}
use Rattle.pdl_kernel.specs.declared.faults.Fault.TheVariants.{DivideByZero as Divides, IndexOutOfRange as PastTheEnd}
use Rattle.pdl_lex.specs.Tokens.{is_word}
use Rattle.pdl_elem.specs.Tables.{found_in}
use Rattle.pdl_lexemes.specs.Lexing.{keywords}
use Rattle.pdl_sig.specs.Given.{shape_of}
use Rattle.pdl_sig.specs.declared.SigFault.{SigFault}
use Rattle.pdl_sig.specs.declared.Signature.{Signature}
use Rattle.pdl_sig.specs.Meaning.{signature_in}
use Rattle.pdl_sig.specs.Resolution.{Unresolved, arg_count, core_mismatch, broadcast_mismatch, stretched_in_out, too_many_dims, too_large, too_much_work, is_output, resolution}
use Rattle.pdl_machine.specs.declared.fault.Fault.{Fault}
use Rattle.pdl_machine.specs.declared.fault.Fault.TheVariants.{WrongArguments, BadSignature, BadKernel, Mismatch, TooManyDims, TooLarge, TooMuchWork, OutOfRange, DivideByZero}
use Rattle.pdl_machine.specs.Builtin.{builtin_of}
use Rattle.pdl_machine.specs.Names.{KernelTexts}
use Rattle.pdl_machine.specs.Then.{and_then, or_fault, all_of}
use Rattle.pdl_machine.specs.Refused.{or_named}
use Rattle.pdl_machine.specs.Outcome.{array, string, type_word, Seen}

-- the fault that names why arguments don't resolve: sizes that don't fit together are a mismatch
abbrev pub resolve_fault : Unresolved → Fault
resolve_fault arg_count = WrongArguments
resolve_fault core_mismatch = Mismatch
resolve_fault broadcast_mismatch = Mismatch
resolve_fault stretched_in_out = Mismatch
resolve_fault too_many_dims = TooManyDims
resolve_fault too_large = TooLarge
resolve_fault too_much_work = TooMuchWork

-- the fault that names a fault of code, at whatever place
abbrev pub code_fault : CodeFault → Fault
code_fault Divides = DivideByZero
code_fault PastTheEnd = OutOfRange

abbrev pub run_fault : PlacedFault → Fault
run_fault found = code_fault found.fault

-- the array that an argument is
abbrev pub array_seen : Seen → Option Made
array_seen (array m) = Some m
array_seen (string t) = None
array_seen (type_word ty) = None

-- how many outputs a call has
abbrev pub outputs_count : Signature → ℕ
outputs_count signature = length (filter (λ a. is_output a.role) signature.args)

abbrev pub signature_fault : SigFault → Fault
signature_fault fault = BadSignature

abbrev pub kernel_fault : KernelFault → Fault
kernel_fault fault = BadKernel

-- the kernel that two texts are read as, or why they are none: the signature comes first
abbrev pub kernel_of : KernelTexts → Result Kernel Fault
kernel_of texts =
    and_then (or_named signature_fault (signature_in texts.signature)) (λ s.
    or_named kernel_fault (kernel_in s texts.code))

-- what a kernel gives for arrays
abbrev pub called_on : Kernel → List Made → Result (List Made) Fault
called_on k given =
    and_then (or_named resolve_fault (resolution k.signature (map shape_of given))) (λ resolved.
    or_named run_fault (called k resolved given))

-- what a kernel gives for arrays where so many outputs are wanted
abbrev pub outputs_by : (wanted : ℕ) → List Made → Kernel → Result (List Made) Fault
outputs_by wanted given k =
    if outputs_count k.signature == wanted then called_on k given else Err WrongArguments

-- what the call of the kernel of two texts gives, of which so many outputs are wanted
abbrev pub kernel_outputs : KernelTexts → (wanted : ℕ) → List Seen → Result (List Made) Fault
kernel_outputs texts wanted given =
    and_then (or_fault WrongArguments (all_of array_seen given)) (λ arrays.
    and_then (kernel_of texts) (outputs_by wanted arrays))

-- whether a kernel may have this name: a word that is no built-in call and none of the
-- words that name no call
abbrev pub can_name : List ℕ → Bool
can_name f = is_word f && is_none (found_in keywords f) && is_none (builtin_of f)

abbrev pub texts_of : (signature code : List ℕ) → KernelTexts
texts_of signature code = record { signature = signature; code = code }

-- the texts of a kernel that a definition gives, or why it is refused
abbrev pub defined : (name signature code : List ℕ) → Result KernelTexts Fault
defined f signature code =
    if can_name f then and_then (kernel_of (texts_of signature code)) (λ k.
    Ok (texts_of signature code))
    else Err WrongArguments
