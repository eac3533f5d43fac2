use Rattle.std.proofs.Common.{◌≡◌, ◌≤◌, length, drop}
use Rattle.pdl_sig.specs.Refusals.{dim_names_limit, names_after}
use Rattle.pdl_sig.proofs.naming.add_names.Given as goal

abbrev pub invariant-loop-dim : goal.invariant-loop-dim
invariant-loop-dim l = record {
  same : names_after l.names.items (drop l.dim-index l.dims) ≡ names_after l.initial.names.items l.dims;
  bound : length l.initial.names.items ≤ dim_names_limit → length l.names.items ≤ dim_names_limit;
}
