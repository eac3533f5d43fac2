use Rattle.std.proofs.Common.{drop}
use Rattle.pdl_nodes.proofs.upward.let_all.Given as goal
use Rattle.pdl_nodes.proofs.HoldsLetGo.{IsLetting}

abbrev pub invariant-loop-start : goal.invariant-loop-start
invariant-loop-start l = IsLetting l.table l.fn.holds l.holds (drop l.start-index l.loose) l.id
