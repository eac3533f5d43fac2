use Rattle.std.proofs.Common.{◌≡◌, ◌++◌, map, drop}
use Rattle.pdl_sig.specs.declared.written.WrittenDim.{WrittenDim}
use Rattle.pdl_sig.specs.Refusals.{number_of}
use Rattle.pdl_sig.proofs.naming.numbers.Given as goal

abbrev pub invariant-loop-dim : goal.invariant-loop-dim
invariant-loop-dim l = l.found.items ++ map (λ (d : WrittenDim). number_of l.names d.name) (drop l.dim-index l.dims) ≡ map (λ (d : WrittenDim). number_of l.names d.name) l.dims
