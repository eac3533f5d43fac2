-- What the definitions promise. Each is the contract of a public function.
use Rattle.std.specs.Prelude.{◌≡◌, ◌↔◌, ℕ, ◌≤◌, false, List, length, Some, Result, Ok}
use Rattle.pdl_lex.specs.Limits.{statement_limit}
use Rattle.pdl_lex.specs.declared.Token.{Token}
use Rattle.pdl_lex.specs.Tokens.{toks}
use Rattle.pdl_lex.specs.Written.{Written, written}
use Rattle.pdl_nice.specs.declared.looks.Before.TheVariants.{Other as another}
use Rattle.pdl_nice.specs.Nice.{Becomes, has_nice}
use Rattle.pdl_nice.specs.Reading.{plain_tokens}
use Rattle.pdl_nice.specs.Plain.{NiceRefusal, AreFlat, Means, plain_text, plain_of}

-- `plain_tokens` is exactly what tokens become
abbrev pub TokensBecome : Type 0
TokensBecome = (ws us : List Written) → (plain_tokens ws ≡ Some us) ↔ Becomes another ws us

-- tokens become one thing at most
abbrev pub OneResult : Type 0
OneResult = (ws us vs : List Written) → Becomes another ws us → Becomes another ws vs → us ≡ vs

-- `plain_text` answers exactly what is meant
abbrev pub TextsHavePlain : Type 0
TextsHavePlain = (ws : List Written) (end : List ℕ) (answer : Result (List ℕ) NiceRefusal) →
    (plain_text ws end ≡ answer) ↔ Means ws end answer

-- a text without nice parts is its own plain text, unless its brackets go too deep or it is longer
-- than a statement
abbrev pub TextsStay : Type 0
TextsStay = (text : List ℕ) (ts : List Token) → toks text ≡ Ok ts →
    has_nice another (written text 0 ts) ≡ false → AreFlat (written text 0 ts) →
    length text ≤ statement_limit → plain_of text ts ≡ Ok text
