-- The plain text of tokens, or the first of three refusals.
use Rattle.std.specs.Prelude.{◌≡◌, ℕ, ◌<◌, ◌≤◌, nat_lt, true, false, if◌then◌else◌, List, length, Option, Some, None, Result, Ok, Err}
use Rattle.pdl_lex.specs.Limits.{statement_limit}
use Rattle.pdl_lex.specs.declared.Token.{Token}
use Rattle.pdl_lex.specs.Written.{Written, text_of, written, end_behind}
use Rattle.pdl_lex.specs.Brackets.{no_brackets, go_deep}
use Rattle.pdl_nice.specs.declared.NiceFault.{NiceFault}
use Rattle.pdl_nice.specs.declared.NiceFault.TheVariants.{TooDeep, Syntax, TooLong, NoMemory}
use Rattle.pdl_nice.specs.declared.looks.Before.TheVariants.{Other as another}
use Rattle.pdl_nice.specs.Nice.{Becomes}
use Rattle.pdl_nice.specs.Reading.{plain_tokens}

-- why a text has no plain text
pub data NiceRefusal : Type 0 where
  too_deep : NiceRefusal
  not_nice : NiceRefusal
  too_long : NiceRefusal

-- never more than 64 brackets are open at once
abbrev pub AreFlat : List Written → Type 0
AreFlat ws = go_deep no_brackets ws ≡ false

-- tokens become others, whose text is this
pub record HasPlain (ws : List Written) (end text : List ℕ) : Type 0 where
  pub flat : AreFlat ws
  pub after : List Written
  pub becomes : Becomes another ws after
  pub text_is : text ≡ text_of after end

-- What NiceSlice makes of tokens and what stands behind the last one: the text of what the tokens
-- become; else too deep where more than 64 brackets are open; else not nice where they become
-- nothing; else too long where that text is longer than a statement.
abbrev pub Means : List Written → (end : List ℕ) → Result (List ℕ) NiceRefusal → Type 0
Means ws end (Ok text) = HasPlain ws end text × (length text ≤ statement_limit)
Means ws end (Err too_deep) = go_deep no_brackets ws ≡ true
Means ws end (Err not_nice) = AreFlat ws × ((us : List Written) → Becomes another ws us → ⊥)
Means ws end (Err too_long) =
    (text : List ℕ) × HasPlain ws end text × (statement_limit < length text)

abbrev pub within_limit : List ℕ → Result (List ℕ) NiceRefusal
within_limit text = if nat_lt statement_limit (length text) then Err too_long else Ok text

abbrev pub text_or : List ℕ → Option (List Written) → Result (List ℕ) NiceRefusal
text_or end None = Err not_nice
text_or end (Some us) = within_limit (text_of us end)

unfoldable pub plain_text : List Written → (end : List ℕ) → Result (List ℕ) NiceRefusal
plain_text ws end = if go_deep no_brackets ws then Err too_deep else text_or end (plain_tokens ws)

-- the plain text of a text with these tokens, or the first refusal
abbrev pub plain_of : List ℕ → List Token → Result (List ℕ) NiceRefusal
plain_of text ts = plain_text (written text 0 ts) (end_behind text 0 ts)

-- the refusal that a fault names; `NoMemory` names none
abbrev pub refusal_of : NiceFault → Option NiceRefusal
refusal_of TooDeep = Some too_deep
refusal_of Syntax = Some not_nice
refusal_of TooLong = Some too_long
refusal_of NoMemory = None
