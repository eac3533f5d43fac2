use Rattle.std.proofs.Common.{◌≡◌, ℕ, pos, ◌<◌, length, get_or}
use Rattle.std.specs.Prelude.{None}
use Rattle.pdl_shape.specs.Places.{element_at}
use Rattle.pdl_numbers.specs.Shown.{shown_through}
use Rattle.pdl_numbers.proofs.packed.Packed.gather.Given as goal

-- the numbers before i are those at their positions
abbrev pub invariant-loop-i : goal.invariant-loop-i
invariant-loop-i g l = record {
  count : length l.self ≡ length l.positions;
  done : (k : ℕ) → k < l.i → get_or l.self k (pos 0) ≡ element_at (shown_through l.placement l.from) (get_or l.positions k None);
}
