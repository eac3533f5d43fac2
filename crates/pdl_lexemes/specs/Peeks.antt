-- What stands at the front of lexemes, each with what follows it.
use Rattle.std.specs.Prelude.{ℕ, ℤ, neg_ℤ, List, [], ◌∷◌, Bool, true, false, Option, Some, None, option_map, option_and_then, if◌then◌else◌}
use Rattle.pdl_elem.specs.declared.BinaryOp.TheVariants.{Sub}
use Rattle.pdl_elem.specs.declared.UnaryOp.{UnaryOp}
use Rattle.pdl_elem.specs.declared.UnaryOp.TheVariants.{Neg}
use Rattle.pdl_elem.specs.declared.Ty.{Ty}
use Rattle.pdl_lexemes.specs.declared.AssignOp.{AssignOp}
use Rattle.pdl_lexemes.specs.declared.Span.{Span}
use Rattle.pdl_lexemes.specs.declared.WordKind.{WordKind}
use Rattle.pdl_lexemes.specs.declared.WordKind.TheVariants.{OfType, View as IsView}
use Rattle.pdl_lexemes.specs.declared.Keyword.{Keyword as AnyKeyword}
use Rattle.pdl_lexemes.specs.declared.Keyword.TheVariants.{Reshape}
use Rattle.pdl_lexemes.specs.declared.Lexeme.{Lexeme}
use Rattle.pdl_lexemes.specs.declared.Lexeme.TheVariants.{Name, Keyword, Word, Number, Quoted, Open, Close, Equals, Arrow, FatArrow, Assign, Operator, Prefix}
use Rattle.pdl_lexemes.specs.contracts.LexemePartialEq.TheImpl as lexeme
use Rattle.pdl_lexemes.specs.contracts.WordKindPartialEq.TheImpl as word_kind
use Rattle.pdl_lexemes.specs.Lists.{signed}

-- what is read from the front, and what follows it
abbrev pub Read : Type 0 → Type 0
Read A = Option (A × List Lexeme)

-- what follows this lexeme
abbrev pub after : Lexeme → List Lexeme → Option (List Lexeme)
after sign [] = None
after sign (t ∷ ts) = if lexeme.ghosts.eq sign t then Some ts else None

-- what follows an arrow and this word
abbrev pub after_keyword : AnyKeyword → List Lexeme → Option (List Lexeme)
after_keyword word ts = option_and_then (after (Keyword word)) (after Arrow ts)

abbrev pub after_reshape : List Lexeme → Option (List Lexeme)
after_reshape ts = option_and_then (after Open) (after_keyword Reshape ts)

-- what follows the names of a list binding
abbrev pub after_names : List Lexeme → Option (List Lexeme)
after_names ts = option_and_then (after Equals) (after Close ts)

-- what follows a word of this kind and `=>`; without them, all
abbrev pub after_label : WordKind → List Lexeme → List Lexeme
after_label label (Word kind v ∷ FatArrow ∷ ts) =
    if word_kind.ghosts.eq label kind then ts else Word kind v ∷ FatArrow ∷ ts
after_label label ts = ts

-- a number token
abbrev pub number_at : List Lexeme → Read ℤ
number_at (Number n ∷ ts) = option_map (λ z. (z, ts)) (signed n)
number_at _ = None

-- a number with its sign
abbrev pub minus_step : List Lexeme → Option (List Lexeme) → Read ℤ
minus_step ts None = number_at ts
minus_step ts (Some us) = option_map (λ x. (neg_ℤ x.0, x.1)) (number_at us)

abbrev pub signed_number_at : List Lexeme → Read ℤ
signed_number_at ts = minus_step ts (after (Operator Sub) ts)

-- a prefix operator
abbrev pub prefix_at : List Lexeme → Read UnaryOp
prefix_at (Prefix op ∷ ts) = Some (op, ts)
prefix_at (Operator Sub ∷ ts) = Some (Neg, ts)
prefix_at _ = None

-- a word behind an arrow
abbrev pub word_at : List Lexeme → Read Span
word_at (Word kind w ∷ ts) = Some (w, ts)
word_at _ = None

abbrev pub method_at : List Lexeme → Read Span
method_at ts = option_and_then word_at (after Arrow ts)

-- a type word that calls nothing
abbrev pub type_step : Ty → List Lexeme → Option (List Lexeme) → Read Ty
type_step ty ts None = Some (ty, ts)
type_step ty ts (Some us) = None

abbrev pub type_at : List Lexeme → Read Ty
type_at (Word (OfType ty) w ∷ ts) = type_step ty ts (after Open ts)
type_at _ = None

abbrev pub quoted_at : List Lexeme → Read Span
quoted_at (Quoted w ∷ ts) = Some (w, ts)
quoted_at _ = None

abbrev pub name_at : List Lexeme → Read Span
name_at (Name w ∷ ts) = Some (w, ts)
name_at _ = None

-- a view word behind an arrow
abbrev pub view_word : List Lexeme → Read Span
view_word (Word IsView w ∷ ts) = Some (w, ts)
view_word _ = None

abbrev pub view_at : List Lexeme → Read Span
view_at ts = option_and_then view_word (after Arrow ts)

abbrev pub assign_at : List Lexeme → Read AssignOp
assign_at (Assign op ∷ ts) = Some (op, ts)
assign_at _ = None

-- a number at the end
abbrev pub slot_at : List Lexeme → Option ℕ
slot_at (Number n ∷ []) = option_map (λ z. n) (signed n)
slot_at _ = None

-- whether what is left is `["(" ")"]`
abbrev pub is_brackets : List Lexeme → Bool
is_brackets [] = true
is_brackets (Open ∷ Close ∷ []) = true
is_brackets _ = false

-- whether a word that may name a call comes first
abbrev pub begins_word : List Lexeme → Bool
begins_word (Word kind w ∷ ts) = true
begins_word _ = false
