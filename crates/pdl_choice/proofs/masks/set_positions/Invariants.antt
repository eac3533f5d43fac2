use Rattle.std.proofs.Common.{◌≡◌}
use Rattle.pdl_choice.proofs.WhereLists.{which_below}
use Rattle.pdl_choice.proofs.masks.set_positions.Given as goal

abbrev pub invariant-loop-place : goal.invariant-loop-place
invariant-loop-place l = l.places.items ≡ which_below l.mask l.place
