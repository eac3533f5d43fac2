-- How deep square brackets are from some place of a statement on.
use Rattle.std.specs.Prelude.{◌≡◌, ◌≤◌, ℕ, suc, pred, nat_lt, List, [], ◌∷◌, length, Bool, true, false, Option, Some, None, if◌then◌else◌}
use Rattle.pdl_lex.specs.Limits.{statement_limit}
use Rattle.pdl_lexemes.specs.declared.checks.TheConstants.{MOST_SQUARE}
use Rattle.pdl_lexemes.specs.declared.Lexeme.{Lexeme}
use Rattle.pdl_lexemes.specs.declared.Lexeme.TheVariants.{OpenSquare, CloseSquare}

-- at most so many square brackets are open at once
abbrev pub square_limit : ℕ
square_limit = MOST_SQUARE

-- whether more than 16 square brackets are open at once behind some lexeme, where
-- k are open at the start
abbrev pub goes_too_deep : ℕ → List Lexeme → Bool
goes_too_deep k [] = false
goes_too_deep k (OpenSquare ∷ ts) =
    if nat_lt square_limit (suc k) then true else goes_too_deep (suc k) ts
goes_too_deep k (CloseSquare ∷ ts) = goes_too_deep (pred k) ts
goes_too_deep k (_ ∷ ts) = goes_too_deep k ts

-- no more lexemes than a statement has bytes, and no square brackets that are too deep
pub record AreFew (ts : List Lexeme) : Type 0 where
  pub small : length ts ≤ statement_limit
  pub shallow : goes_too_deep 0 ts ≡ false

-- a first element and what follows it, as one list
abbrev pub joined : {A : Type 0} → Option (A × List A) → List A
joined None = []
joined (Some x) = x.0 ∷ x.1
