use Rattle.std.proofs.Common.{◌≡◌, ℕ, ◌-◌, ◌≤◌, List, length, map}
use Rattle.pdl_lex.specs.Written.{Written}
use Rattle.pdl_nice.specs.declared.looks.Look.{Look}
use Rattle.pdl_nice.specs.Looks.{look}
use Rattle.pdl_nice.proofs.ReadingRounds.{Passed}
use Rattle.pdl_nice.proofs.pattern.arguments.Given as goal

-- the arguments before a place were read
pub record Reached (looks : List Look) (from at : ℕ) (b0 b1 : List ℕ) (o0 o1 : List (ℕ × ℕ)) : Type 0 where
  pub behind : from ≤ at
  pub within : at ≤ length looks
  pub passed : (ws : List Written) → map look ws ≡ looks → Passed ws from at b0 b1 o0 o1

abbrev pub invariant-argument : goal.invariant-argument
invariant-argument l = Reached l.looks l.from l.at l.initial.into.items l.into.items l.initial.values.items l.values.items

abbrev pub decreases-argument : goal.decreases-argument
decreases-argument l = length l.looks - l.at
