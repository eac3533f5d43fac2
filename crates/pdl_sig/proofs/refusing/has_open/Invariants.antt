use Rattle.std.proofs.Common.{◌≡◌, drop}
use Rattle.pdl_sig.specs.Refusals.{has_open}
use Rattle.pdl_sig.proofs.refusing.has_open.Given as goal

abbrev pub invariant-loop-number : goal.invariant-loop-number
invariant-loop-number l = has_open l.args l.number (drop l.number l.fixed) ≡ has_open l.args 0 l.fixed
