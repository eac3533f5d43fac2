use Rattle.std.proofs.Common.{◌≡◌, ℕ, ◌+◌, ◌-◌, ◌*◌, ◌≤◌, ◌++◌, List, length, drop}
use Rattle.pdl_lex.specs.Written.{Written, written}
use Rattle.pdl_nice.specs.declared.looks.Before.{Before}
use Rattle.pdl_nice.specs.Adding.{shown}
use Rattle.pdl_nice.specs.Writing.{onto, text_behind, values_text}
use Rattle.pdl_nice.proofs.writing.+writing.Given as goal

-- what a call has left: four times its tokens, and a rest by which the functions that hand on all of
-- them stand in the order in which they call each other
abbrev pub decreases-write_nice : goal.decreases-write_nice
decreases-write_nice l = 4 * (length l.tokens.now - l.at)

abbrev pub decreases-write_tokens : goal.decreases-write_tokens
decreases-write_tokens l = 4 * (length l.tokens.now - l.from) + 1

abbrev pub decreases-write_value : goal.decreases-write_value
decreases-write_value l = 4 * (length l.tokens.now - l.from) + 2

abbrev pub decreases-write_values : goal.decreases-write_values
decreases-write_values l = 4 * (l.to - l.from) + 3

-- what the tokens before a place become is written
pub record Reached (ws : List Written) (from at : ℕ) (b now : Before) (old new : List ℕ) (before after : List (ℕ × ℕ)) : Type 0 where
  pub behind : from ≤ at
  pub within : at ≤ length ws
  pub kept : after ≡ before
  pub done : List ℕ
  pub written : new ≡ old ++ done
  pub rest : text_behind b (drop from ws) ≡ onto done (text_behind now (drop at ws))

abbrev pub invariant-write_tokens-loop-at : goal.invariant-write_tokens-loop-at
invariant-write_tokens-loop-at l =
    Reached (written l.text 0 l.tokens) l.from l.at l.initial.behind l.behind l.initial.into.items l.into.items l.initial.values.items l.values.items

abbrev pub decreases-write_tokens-loop-at : goal.decreases-write_tokens-loop-at
decreases-write_tokens-loop-at l = length l.tokens - l.at

-- the expressions before one are written
pub record Shown (ws : List Written) (first j : ℕ) (old new : List ℕ) (before after : List (ℕ × ℕ)) : Type 0 where
  pub kept : after ≡ before
  pub done : List ℕ
  pub written : new ≡ old ++ done
  pub rest : values_text (shown ws (drop first before)) ≡ onto done (values_text (shown ws (drop j before)))

abbrev pub invariant-write_values-loop-j : goal.invariant-write_values-loop-j
invariant-write_values-loop-j l =
    Shown (written l.text 0 l.tokens) l.first l.j l.initial.into.items l.into.items l.initial.values.items l.values.items
