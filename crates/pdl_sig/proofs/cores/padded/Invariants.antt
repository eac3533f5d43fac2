use Rattle.std.proofs.Common.{◌≡◌, ◌++◌, drop}
use Rattle.pdl_sig.specs.Resolution.{padded}
use Rattle.pdl_sig.proofs.cores.padded.Given as goal

abbrev pub invariant-loop-place : goal.invariant-loop-place
invariant-loop-place l = l.found.items ++ padded (drop l.place l.dims) (drop l.place l.sizes) ≡ padded l.dims l.sizes
