-- The meaning of a signature's text as a function. The law `signature_meaning` says that it is the
-- grammar with its refusals.
use Rattle.std.specs.Prelude.{◌≡◌, ◌↔◌, ℕ, List, Option, Some, None, Result, Ok, Err}
use Rattle.pdl_sig.specs.declared.Signature.{Signature}
use Rattle.pdl_sig.specs.declared.SigFault.{SigFault}
use Rattle.pdl_sig.specs.declared.SigFault.TheVariants.{BadText, NoMemory}
use Rattle.pdl_sig.specs.declared.written.WrittenArg.{WrittenArg}
use Rattle.pdl_sig.specs.SignatureReading.{read_args}
use Rattle.pdl_sig.specs.Refusals.{Signs, IsFaultOf, signature_of, refusal_of}

-- the first refusal, or else the signature
abbrev pub judged : Option SigFault → Signature → Result Signature SigFault
judged None signature = Ok signature
judged (Some fault) signature = Err fault

-- the signature of the arguments that were read, if any
abbrev pub meant_by : Option (List WrittenArg) → Result Signature SigFault
meant_by None = Err BadText
meant_by (Some args) = judged (refusal_of args) (signature_of args)

-- the signature of a text, or why it has none
unfoldable pub signature_in : (text : List ℕ) → Result Signature SigFault
signature_in text = meant_by (read_args text)

-- what a text means: a signature that it spells, or its first refusal
abbrev pub Means : List ℕ → Result Signature SigFault → Type 0
Means text (Ok signature) = Signs signature text
Means text (Err NoMemory) = ⊥
Means text (Err fault) = IsFaultOf text fault

-- the answer for a text is exactly what it means
abbrev pub TextsHaveOneMeaning : Type 0
TextsHaveOneMeaning =
    (text : List ℕ) (answer : Result Signature SigFault)
    → (signature_in text ≡ answer) ↔ Means text answer
