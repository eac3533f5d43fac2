-- The meaning of a text as kernel code, as a function.
use Rattle.std.specs.Prelude.{◌≡◌, ℕ, if◌then◌else◌, List, Option, Some, None, Result, Err}
use Rattle.pdl_sig.specs.declared.Signature.{Signature}
use Rattle.pdl_code.specs.declared.fault.KernelFault.{KernelFault}
use Rattle.pdl_code.specs.declared.fault.KernelFault.TheVariants.{TooDeep, BadText, NoMemory}
use Rattle.pdl_code.specs.Depth.{is_too_deep}
use Rattle.pdl_code.specs.Lexing.{Lexed, lexed}
use Rattle.pdl_code.specs.Tree.{RawCode, Code}
use Rattle.pdl_code.specs.CodeReading.{read_code}
use Rattle.pdl_code.specs.Refused.{answer, code_code, code_declares, code_wrongs}
use Rattle.pdl_code.specs.Scope.{top}

-- what the tokens spell, where each byte belongs to a token or is a blank
abbrev pub spelled_by : Lexed → Option RawCode
spelled_by l = if l.whole then read_code l.lexemes else None

-- code whose names stand as they are: a declared word is a dimension or a visible local, or else
-- some name is refused, or else it is code
abbrev pub judged : Signature → List ℕ → RawCode → Result Code KernelFault
judged signature text raw =
    if code_declares text signature top raw then Err BadText
    else answer (code_wrongs text signature top raw) (code_code text signature top raw)

abbrev pub meant_by : Signature → List ℕ → Option RawCode → Result Code KernelFault
meant_by signature text None = Err BadText
meant_by signature text (Some raw) = judged signature text raw

-- the code of a text, or why it has none
unfoldable pub code_in : Signature → (text : List ℕ) → Result Code KernelFault
code_in signature text =
    if is_too_deep (lexed text).lexemes then Err TooDeep
    else meant_by signature text (spelled_by (lexed text))

-- a fault is the one that is wanted; `NoMemory` may come at any text
abbrev pub IsFault : Result Code KernelFault → KernelFault → Type 0
IsFault wanted NoMemory = Unit {0}
IsFault wanted fault = wanted ≡ Err fault
