-- The corners before this one are listed, or have their places.
use Rattle.std.proofs.Common.{◌≡◌, ◌⊎◌, ◌<◌, ◌≤◌, ℕ, All, get_or, length}
use Rattle.std.specs.List.{Any}
use Rattle.pdl_shape.specs.Shape.{extent_limit}
use Rattle.pdl_choice.specs.Rounds.{StandsAt, numbers_at}
use Rattle.pdl_choice.proofs.corners.place_numbers.Given as goal

abbrev pub invariant-loop-number : goal.invariant-loop-number
invariant-loop-number l = record {
  small : All (λ base. base ≤ extent_limit) l.bases;
  numbers : All (λ q. q < l.corners) l.beyond.items;
  each : (q : ℕ) → q < l.number → Any (λ b. b ≡ q) l.beyond.items ⊎ StandsAt l.parent l.starts (numbers_at l.ind (length l.starts) q) (get_or l.bases q 0);
}
