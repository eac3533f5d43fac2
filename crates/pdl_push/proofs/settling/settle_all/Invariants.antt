use Rattle.std.proofs.Common.{◌∷◌, drop}
use Rattle.pdl_nodes.specs.Holds.{stands}
use Rattle.pdl_push.proofs.SettledAll.{IsSettling}
use Rattle.pdl_push.proofs.settling.settle_all.Given as goal

abbrev pub invariant-loop-start : goal.invariant-loop-start
invariant-loop-start g l = IsSettling (stands l.holds) l.fn.table l.table (l.id ∷ drop l.start-index l.loose) (l.id ∷ l.loose) l.fn.steps l.steps
