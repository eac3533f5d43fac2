-- How many brackets are open at the tokens of a text.
use Rattle.std.specs.Prelude.{ℕ, suc, pred, ◌+◌, nat_lt, Bool, true, false, if◌then◌else◌, List, [], ◌∷◌, codes, bytes_eq}
use Rattle.pdl_lex.specs.declared.TokenKind.{TokenKind}
use Rattle.pdl_lex.specs.declared.TokenKind.TheVariants.{Name, Word, Number, Str, Sign}
use Rattle.pdl_lex.specs.Limits.{bracket_limit}
use Rattle.pdl_lex.specs.Written.{Written}

-- how many round ones and how many square ones
pub record Brackets : Type 0 where
  pub round : ℕ
  pub square : ℕ

abbrev pub no_brackets : Brackets
no_brackets = record { round = 0; square = 0 }

-- those behind a sign: a closing bracket takes one of its kind away, not below 0
abbrev pub behind_sign : Brackets → List ℕ → Brackets
behind_sign now bytes =
    if bytes_eq bytes (codes "(") then record now { round = suc now.round }
    else (if bytes_eq bytes (codes ")") then record now { round = pred now.round }
    else (if bytes_eq bytes (codes "[") then record now { square = suc now.square }
    else (if bytes_eq bytes (codes "]") then record now { square = pred now.square }
    else now)))

abbrev pub behind_kind : Brackets → TokenKind → List ℕ → Brackets
behind_kind now Name bytes = now
behind_kind now Word bytes = now
behind_kind now Number bytes = now
behind_kind now Str bytes = now
behind_kind now Sign bytes = behind_sign now bytes

-- those behind a token
unfoldable pub behind_token : Brackets → Written → Brackets
behind_token now w = behind_kind now w.kind w.bytes

-- whether more than 64 are open at some token
unfoldable pub go_deep : Brackets → List Written → Bool
go_deep now [] = false
go_deep now (w ∷ ws) =
    if nat_lt bracket_limit ((behind_token now w).round + (behind_token now w).square) then true
    else go_deep (behind_token now w) ws
