use Rattle.std.proofs.Common.{◌≡◌, ◌≤◌, ℕ, Bool, drop}
use Rattle.pdl_lexemes.specs.Depth.{goes_beyond, no_counts}
use Rattle.pdl_lexemes.proofs.checks.is_too_deep.Given as goal

-- what is left goes beyond as the whole does, and no count is above the index
pub record Counted (here all : Bool) (round square operators index : ℕ) : Type 0 where
  pub same : here ≡ all
  pub round_within : round ≤ index
  pub square_within : square ≤ index
  pub operators_within : operators ≤ index

abbrev pub invariant-loop-lexeme : goal.invariant-loop-lexeme
invariant-loop-lexeme l =
    Counted (goes_beyond l.counts (drop l.lexeme-index l.tokens)) (goes_beyond no_counts l.tokens)
    l.counts.round l.counts.square l.counts.operators l.lexeme-index
