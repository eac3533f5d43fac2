-- The numbers before this one lie below their starts, and are placed.
use Rattle.std.proofs.Common.{ℕ, ◌+◌, ◌<◌, IsTrue, get_or, length, pos, replicate}
use Rattle.pdl_choice.specs.declared.edges.Edge.TheVariants.{Zero}
use Rattle.pdl_choice.specs.Edges.{is_within}
use Rattle.pdl_choice.proofs.RoundsStrides.{Placing}
use Rattle.pdl_choice.proofs.corners.inner_place.Given as goal

abbrev pub invariant-loop-number : goal.invariant-loop-number
invariant-loop-number l = record {
  inside : (j : ℕ) → j < l.number → IsTrue (is_within (get_or l.starts j 0) (get_or l.corner j (pos 0)));
  placing : Placing l.number l.place l.stride Zero l.parent l.corner (replicate (length l.corner + 1) 0);
}
