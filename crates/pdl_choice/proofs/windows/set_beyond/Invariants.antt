-- The corners listed before this one have their places, and the others those of before.
use Rattle.std.proofs.Common.{◌≡◌, ◌⊎◌, ◌-◌, ◌<◌, ℕ, get_or, length, None}
use Rattle.pdl_choice.specs.Rounds.{numbers_at, placed}
use Rattle.pdl_choice.proofs.windows.set_beyond.Given as goal

abbrev pub invariant-loop-number : goal.invariant-loop-number
invariant-loop-number l = record {
  set : (k : ℕ) → k < l.number-index → get_or l.places (get_or l.beyond k 0) None ≡ placed l.edge l.parent (numbers_at l.ind (length l.at - 1) (get_or l.beyond k 0)) l.at;
  others : (q : ℕ) → get_or l.places q None ≡ placed l.edge l.parent (numbers_at l.ind (length l.at - 1) q) l.at ⊎ get_or l.places q None ≡ get_or l.fn.places q None;
}
