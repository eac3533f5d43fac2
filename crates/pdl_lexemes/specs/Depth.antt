-- The checks on lexemes that look at no grammar: how deep brackets are, how many operators there
-- are, how large numbers are.
use Rattle.std.specs.Prelude.{ℕ, pred, ◌+◌, nat_lt, nat_eq, List, [], ◌∷◌, Bool, true, false, Option, Some, None, if◌then◌else◌}
use Rattle.std.specs.List.{list_any}
use Rattle.pdl_lex.specs.Limits.{bracket_limit}
use Rattle.pdl_lexemes.specs.declared.checks.Counts.{Counts}
use Rattle.pdl_lexemes.specs.declared.checks.TheConstants.{MOST_OPERATORS}
use Rattle.pdl_lexemes.specs.declared.Lexeme.{Lexeme}
use Rattle.pdl_lexemes.specs.declared.Lexeme.TheVariants.{Number, Open, Close, OpenSquare, CloseSquare, Arrow, Operator, Prefix}
use Rattle.pdl_lexemes.specs.ListReading.{ReadPart, list_read}
use Rattle.pdl_lexemes.specs.Limits.{number_limit}
use Rattle.pdl_lexemes.specs.Squares.{square_limit}

-- one more operator, where no square bracket is open
abbrev pub with_operator : Counts → Counts
with_operator c = if nat_eq c.square 0 then record c { operators = c.operators + 1 } else c

-- the counts behind one more lexeme: a closing bracket takes one away, not below 0
abbrev pub counted_to : Counts → Lexeme → Counts
counted_to c Open = record c { round = c.round + 1 }
counted_to c Close = record c { round = pred c.round }
counted_to c OpenSquare = record c { square = c.square + 1 }
counted_to c CloseSquare = record c { square = pred c.square }
counted_to c Arrow = with_operator c
counted_to c (Operator op) = with_operator c
counted_to c (Prefix op) = with_operator c
counted_to c _ = c

-- at most so many operators stand outside square brackets
abbrev pub operator_limit : ℕ
operator_limit = MOST_OPERATORS

-- more than 64 brackets open at once, more than 16 square ones, or more than 256 operators
abbrev pub is_beyond : Counts → Bool
is_beyond c = if nat_lt bracket_limit (c.round + c.square) then true
    else (if nat_lt square_limit c.square then true else nat_lt operator_limit c.operators)

-- whether that is so behind some lexeme
abbrev pub goes_beyond : Counts → List Lexeme → Bool
goes_beyond c [] = false
goes_beyond c (t ∷ ts) = if is_beyond (counted_to c t) then true
    else goes_beyond (counted_to c t) ts

abbrev pub no_counts : Counts
no_counts = record { round = 0; square = 0; operators = 0 }

abbrev pub is_too_deep : List Lexeme → Bool
is_too_deep ts = goes_beyond no_counts ts

abbrev pub is_large : Lexeme → Bool
is_large (Number n) = nat_lt number_limit n
is_large _ = false

-- whether a number is above the greatest number of a text
abbrev pub has_large : List Lexeme → Bool
has_large ts = list_any is_large ts

abbrev pub is_arrow : Lexeme → Bool
is_arrow Arrow = true
is_arrow _ = false

-- whether an arrow is among them
abbrev pub has_arrow : List Lexeme → Bool
has_arrow ts = list_any is_arrow ts

-- whether a list that is read is ragged
abbrev pub without_shape : Option (List ℕ) → Bool
without_shape None = true
without_shape (Some sizes) = false

abbrev pub reads_ragged : Option ReadPart → Bool
reads_ragged None = false
reads_ragged (Some p) = without_shape p.shape

-- whether some list literal among the lexemes is ragged
abbrev pub ragged_in : List Lexeme → Bool
ragged_in [] = false
ragged_in (t ∷ ts) = if reads_ragged (list_read (t ∷ ts)) then true else ragged_in ts
