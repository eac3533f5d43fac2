use Rattle.std.proofs.Common.{◌≡◌, ◌≤◌, [], length, drop}
use Rattle.pdl_sig.specs.Refusals.{all_names, dim_names_limit}
use Rattle.pdl_sig.proofs.naming.all_names.Given as goal

abbrev pub invariant-loop-arg : goal.invariant-loop-arg
invariant-loop-arg l = record {
  same : all_names l.names.items (drop l.arg-index l.args) ≡ all_names [] l.args;
  bound : length l.names.items ≤ dim_names_limit;
}
