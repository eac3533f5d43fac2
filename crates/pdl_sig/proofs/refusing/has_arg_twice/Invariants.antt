use Rattle.std.proofs.Common.{◌≡◌, drop}
use Rattle.pdl_sig.specs.Refusals.{has_twice, has_one_name}
use Rattle.pdl_sig.proofs.refusing.has_arg_twice.Given as goal

abbrev pub invariant-loop-place : goal.invariant-loop-place
invariant-loop-place l = has_twice has_one_name (drop l.place l.args) ≡ has_twice has_one_name l.args
