use Rattle.std.proofs.Common.{◌≡◌, ◌≤◌, ℕ, Bool, drop}
use Rattle.pdl_code.specs.Depth.{goes_beyond, no_counts}
use Rattle.pdl_code.proofs.depth.is_too_deep.Given as goal

-- what is left goes beyond as the whole does, and no count is beyond so far
pub record Counted (here all : Bool) (round block operators : ℕ) : Type 0 where
  pub same : here ≡ all
  pub round_within : round ≤ 64
  pub block_within : block ≤ 64
  pub operators_within : operators ≤ 256

abbrev pub invariant-loop-lexeme : goal.invariant-loop-lexeme
invariant-loop-lexeme l =
    Counted (goes_beyond l.counts (drop l.lexeme-index l.tokens)) (goes_beyond no_counts l.tokens) l.counts.round l.counts.block l.counts.operators
