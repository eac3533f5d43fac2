use Rattle.std.proofs.Common.{◌≡◌, drop}
use Rattle.std.specs.Prelude.{nat_eq}
use Rattle.pdl_sig.specs.Refusals.{has_twice}
use Rattle.pdl_sig.proofs.refusing.has_dim_twice.Given as goal

abbrev pub invariant-loop-place : goal.invariant-loop-place
invariant-loop-place l = has_twice nat_eq (drop l.place l.dims) ≡ has_twice nat_eq l.dims
