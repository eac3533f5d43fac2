use Rattle.std.proofs.Common.{◌≡◌, ◌++◌, drop}
use Rattle.pdl_sig.specs.Resolution.{core}
use Rattle.pdl_sig.proofs.cores.add_core.Given as goal

abbrev pub invariant-loop-place : goal.invariant-loop-place
invariant-loop-place l = l.found.items ++ core (drop l.place l.dims) (drop l.place l.sizes) ≡ l.initial.found.items ++ core l.dims l.sizes
