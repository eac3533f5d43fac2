use Rattle.std.proofs.Common.{◌≡◌, ◌++◌, map, drop}
use Rattle.pdl_sig.specs.Refusals.{numbered}
use Rattle.pdl_sig.proofs.naming.all_numbered.Given as goal

abbrev pub invariant-loop-arg : goal.invariant-loop-arg
invariant-loop-arg l = l.found.items ++ map (numbered l.names) (drop l.arg-index l.args) ≡ map (numbered l.names) l.args
