use Rattle.std.proofs.Common.{◌≡◌, drop}
use Rattle.pdl_code.specs.TreeOf.{indices_of}
use Rattle.pdl_code.specs.Join.{join}
use Rattle.pdl_code.specs.Refused.{looped}
use Rattle.pdl_code.proofs.resolve.with_loops.Given as goal

abbrev pub invariant-loop-k : goal.invariant-loop-k
invariant-loop-k l = join (indices_of l.found.items) (looped (drop l.k l.dims) l.k l.given) ≡ join (indices_of l.fn.found.items) (looped l.dims 0 l.given)
