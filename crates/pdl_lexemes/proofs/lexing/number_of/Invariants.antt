use Rattle.std.proofs.Common.{◌≡◌, ◌≤◌, ◌+◌, take, fold, ℕ}
use Rattle.pdl_lexemes.specs.Lexing.{with_digit}
use Rattle.pdl_lexemes.specs.Limits.{number_limit}
use Rattle.pdl_lexemes.proofs.lexing.number_of.Given as goal

pub record Read (n value : ℕ) : Type 0 where
  pub same : n ≡ value
  pub most : n ≤ number_limit + 1

abbrev pub invariant-loop-digit : goal.invariant-loop-digit
invariant-loop-digit l = Read l.n (fold with_digit 0 (take l.digit-index l.digits))
