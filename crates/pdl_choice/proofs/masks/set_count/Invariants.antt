use Rattle.std.proofs.Common.{◌≡◌, ◌≤◌, length}
use Rattle.pdl_choice.proofs.WhereLists.{which_below}
use Rattle.pdl_choice.proofs.masks.set_count.Given as goal

abbrev pub invariant-loop-number : goal.invariant-loop-number
invariant-loop-number l = (l.count ≤ l.number-index) × (l.count ≡ length (which_below l.mask l.number-index))
