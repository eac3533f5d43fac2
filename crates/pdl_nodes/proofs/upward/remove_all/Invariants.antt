use Rattle.std.proofs.Common.{◌∷◌, drop}
use Rattle.pdl_nodes.proofs.upward.remove_all.Given as goal
use Rattle.pdl_nodes.proofs.HoldsRemoved.{IsRemoving}

abbrev pub invariant-loop-start : goal.invariant-loop-start
invariant-loop-start l = IsRemoving l.fn.table l.fn.holds l.table l.holds (l.id ∷ drop l.start-index l.loose) (l.id ∷ l.loose)
