use Rattle.std.proofs.Common.{◌≡◌, drop}
use Rattle.pdl_sig.specs.Refusals.{fixed_among}
use Rattle.pdl_sig.proofs.naming.fixed_among.Given as goal

abbrev pub invariant-loop-dim : goal.invariant-loop-dim
invariant-loop-dim l = fixed_among l.word (drop l.dim-index l.dims) ≡ fixed_among l.word l.dims
