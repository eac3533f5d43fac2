-- How deep kernel code is, by its tokens alone.
use Rattle.std.specs.Prelude.{pred, ◌+◌, nat_lt, List, [], ◌∷◌, Bool, true, false, ◌||◌, if◌then◌else◌}
use Rattle.pdl_lex.specs.Limits.{bracket_limit}
use Rattle.pdl_lexemes.specs.Depth.{operator_limit}
use Rattle.pdl_code.specs.declared.depth.Counts.{Counts}
use Rattle.pdl_code.specs.declared.lexeme.Lexeme.{Lexeme}
use Rattle.pdl_code.specs.declared.lexeme.Lexeme.TheVariants.{Open, Close, BlockOpen, BlockClose, Semicolon, Arrow, Operator, Prefix}

-- the counts behind one more token: a closing bracket takes one away, not below 0; `;`, `%{` and
-- `%}` begin the operators anew
abbrev pub counted_to : Counts → Lexeme → Counts
counted_to c Open = record c { round = c.round + 1 }
counted_to c (Close at) = record c { round = pred c.round }
counted_to c BlockOpen = record c { block = c.block + 1; operators = 0 }
counted_to c BlockClose = record c { block = pred c.block; operators = 0 }
counted_to c Semicolon = record c { operators = 0 }
counted_to c Arrow = record c { operators = c.operators + 1 }
counted_to c (Operator op) = record c { operators = c.operators + 1 }
counted_to c (Prefix op) = record c { operators = c.operators + 1 }
counted_to c _ = c

-- more than 64 of `(` and `%{` open at once, or more than 256 operators
abbrev pub is_beyond : Counts → Bool
is_beyond c =
    nat_lt bracket_limit (c.round + c.block) || nat_lt operator_limit c.operators

-- whether that is so behind some token
abbrev pub goes_beyond : Counts → List Lexeme → Bool
goes_beyond c [] = false
goes_beyond c (t ∷ ts) =
    if is_beyond (counted_to c t) then true else goes_beyond (counted_to c t) ts

abbrev pub no_counts : Counts
no_counts = record { round = 0; block = 0; operators = 0 }

abbrev pub is_too_deep : List Lexeme → Bool
is_too_deep ts = goes_beyond no_counts ts
