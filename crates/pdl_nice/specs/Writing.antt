-- What is written for tokens, place by place. Only private functions speak of this.
use Rattle.std.specs.Prelude.{◌≡◌, ℕ, zero, suc, Bool, true, false, List, [], ◌∷◌, ◌++◌, drop, option_map, option_and_then, Option, Some, None, codes, slice_index_or as get_or}
use Rattle.pdl_lex.specs.declared.Token.{Token}
use Rattle.pdl_lex.specs.Written.{Written, text_of, written}
use Rattle.pdl_nice.specs.declared.looks.Before.{Before}
use Rattle.pdl_nice.specs.declared.looks.Before.TheVariants.{Name as a_name, Arrow as an_arrow, Other as another}
use Rattle.pdl_nice.specs.Nice.{nice_word, trimmed, is_value}
use Rattle.pdl_nice.specs.Reading.{become}
use Rattle.pdl_nice.specs.Ends.{no_token}

-- where the token before a place ends, if tokens begin behind another place
abbrev pub end_before : (start : ℕ) → List Token → (at : ℕ) → ℕ
end_before start ts zero = start
end_before start [] (suc at) = start
end_before start (t ∷ ts) (suc at) = end_before t.to ts at

-- the token at a place, as it is written
abbrev pub token_there : List ℕ → List Token → (at : ℕ) → Written
token_there text ts at = get_or (written text 0 ts) at no_token

-- a text behind another one, if there is any
abbrev pub onto : List ℕ → Option (List ℕ) → Option (List ℕ)
onto front text = option_map (λ more. front ++ more) text

-- what is written is this text behind what was, if there is any
abbrev pub Writes : Bool → (old new : List ℕ) → Option (List ℕ) → Type 0
Writes true old new text = onto old text ≡ Some new
Writes false old new text = text ≡ None

-- the text of what tokens become
abbrev pub text_behind : Before → List Written → Option (List ℕ)
text_behind b ws = option_map (λ us. text_of us []) (become b ws)

-- the text of what an expression becomes, from its first token on
abbrev pub value_text : List Written → Option (List ℕ)
value_text e = option_map (λ u. text_of (trimmed u) []) (become another e)

-- the texts of expressions, each behind a comma
abbrev pub values_text : List (List Written) → Option (List ℕ)
values_text [] = Some []
values_text (e ∷ es) = option_and_then (λ text. onto (44 ∷ text) (values_text es)) (value_text e)

-- what stands before the pattern, behind the gap of the bracket
abbrev pub head : Before → List ℕ
head a_name = codes "->" ++ nice_word ++ codes "(\""
head an_arrow = nice_word ++ codes "(\""
head another = nice_word ++ codes "(\""

-- each is an expression
abbrev pub AllValues : List (List Written) → Type 0
AllValues [] = Unit {0}
AllValues (e ∷ es) = (is_value e ≡ true) × AllValues es

-- a nice part is written up to a place, and what stands behind it is still to be written
pub record WritesPart (ws : List Written) (b : Before) (at end : ℕ) (old new : List ℕ) :
    Type 0 where
  pub part : List ℕ
  pub written : new ≡ old ++ part
  pub rest : text_behind b (drop at ws) ≡ onto part (text_behind another (drop end ws))

-- that, or it becomes nothing
abbrev pub WritesNice : (end : Option ℕ) → List Written → Before → (at : ℕ) → (old new : List ℕ) →
    Type 0
WritesNice (Some end) ws b at old new = WritesPart ws b at end old new
WritesNice None ws b at old new = text_behind b (drop at ws) ≡ None
