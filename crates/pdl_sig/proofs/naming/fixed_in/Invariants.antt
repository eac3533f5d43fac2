use Rattle.std.proofs.Common.{◌≡◌, drop}
use Rattle.pdl_sig.specs.Refusals.{fixed_in}
use Rattle.pdl_sig.proofs.naming.fixed_in.Given as goal

abbrev pub invariant-loop-arg : goal.invariant-loop-arg
invariant-loop-arg l = fixed_in (drop l.arg-index l.args) l.word ≡ fixed_in l.args l.word
