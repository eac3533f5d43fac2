use Rattle.std.proofs.Common.{◌≡◌, ◌++◌, map, drop}
use Rattle.pdl_sig.specs.Refusals.{fixed_in}
use Rattle.pdl_sig.proofs.naming.all_fixed.Given as goal

abbrev pub invariant-loop-name : goal.invariant-loop-name
invariant-loop-name l = l.found.items ++ map (fixed_in l.args) (drop l.name-index l.names) ≡ map (fixed_in l.args) l.names
