use Rattle.std.proofs.Common.{◌≡◌, ◌++◌, drop}
use Rattle.pdl_sig.specs.Resolution.{sizes_from}
use Rattle.pdl_sig.proofs.cores.named_sizes.Given as goal

abbrev pub invariant-loop-number : goal.invariant-loop-number
invariant-loop-number l = l.sizes.items ++ sizes_from l.cores l.number (drop l.number l.fixed) ≡ sizes_from l.cores 0 l.fixed
