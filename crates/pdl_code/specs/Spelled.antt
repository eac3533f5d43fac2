-- What a text means by the grammar: the code that it spells, or its first refusal. The law
-- `code_meaning` says that `code_in` is it.
use Rattle.std.specs.Prelude.{◌≡◌, ◌↔◌, ℕ, true, false, List, [], ◌∷◌, Result, Ok, Err}
use Rattle.pdl_sig.specs.declared.Signature.{Signature}
use Rattle.pdl_code.specs.declared.fault.KernelFault.{KernelFault}
use Rattle.pdl_code.specs.declared.fault.KernelFault.TheVariants.{TooDeep, BadText, NoMemory}
use Rattle.pdl_code.specs.Depth.{is_too_deep}
use Rattle.pdl_code.specs.Grammar.{SpellsBlock, some_code}
use Rattle.pdl_code.specs.Lexing.{lexed}
use Rattle.pdl_code.specs.Meaning.{code_in}
use Rattle.pdl_code.specs.Tree.{RawCode, Code}
use Rattle.pdl_code.specs.Refused.{code_code, code_declares, code_wrongs}
use Rattle.pdl_code.specs.Scope.{top}

-- a text is tokens and blanks, and its tokens spell this code, in which names stand as they are
pub record Spelled (raw : RawCode) (text : List ℕ) : Type 0 where
  pub whole : (lexed text).whole ≡ true
  pub tokens : SpellsBlock (some_code raw) (lexed text).lexemes []

-- it isn't too deep either, and each word that it declares is neither a
-- dimension nor a visible local
pub record Stands (signature : Signature) (raw : RawCode) (text : List ℕ) : Type 0 where
  pub within : is_too_deep (lexed text).lexemes ≡ false
  pub spelled : Spelled raw text
  pub declared : code_declares text signature top raw ≡ false

-- no name is refused, and this is the code
pub record Codes (signature : Signature) (code : Code) (text : List ℕ) : Type 0 where
  pub raw : RawCode
  pub stands : Stands signature raw text
  pub known : code_wrongs text signature top raw ≡ []
  pub is : code ≡ code_code text signature top raw

-- this is the first name that is refused
pub record Refuses (signature : Signature) (fault : KernelFault) (text : List ℕ) : Type 0 where
  pub raw : RawCode
  pub stands : Stands signature raw text
  pub others : List KernelFault
  pub first : code_wrongs text signature top raw ≡ fault ∷ others

-- it isn't too deep, and declares a refused word in whatever it spells, if it spells code at all
pub record IsBad (signature : Signature) (text : List ℕ) : Type 0 where
  pub within : is_too_deep (lexed text).lexemes ≡ false
  pub refused : (raw : RawCode) → Spelled raw text → code_declares text signature top raw ≡ true

-- what a text means
abbrev pub Means : Signature → List ℕ → Result Code KernelFault → Type 0
Means signature text (Ok code) = Codes signature code text
Means signature text (Err TooDeep) = is_too_deep (lexed text).lexemes ≡ true
Means signature text (Err BadText) = IsBad signature text
Means signature text (Err NoMemory) = ⊥
Means signature text (Err fault) = Refuses signature fault text

-- the answer for a text is exactly what it means
abbrev pub TextsHaveOneMeaning : Type 0
TextsHaveOneMeaning =
    (signature : Signature) (text : List ℕ) (answer : Result Code KernelFault)
    → (code_in signature text ≡ answer) ↔ Means signature text answer

-- there is one way to read a text
abbrev pub TextsHaveOneReading : Type 0
TextsHaveOneReading = (text : List ℕ) (raw other : RawCode) → Spelled raw text →
    Spelled other text → raw ≡ other
