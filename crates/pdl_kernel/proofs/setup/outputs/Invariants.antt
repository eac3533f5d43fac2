use Rattle.std.proofs.Common.{◌≡◌, ◌++◌, drop, length}
use Rattle.pdl_kernel.specs.Setup.{outputs_in}
use Rattle.pdl_kernel.proofs.setup.outputs.Given as goal

abbrev pub invariant-loop-shape : goal.invariant-loop-shape
invariant-loop-shape l = record {
  count : length l.arguments.items ≡ length (drop l.shape-index l.shapes);
  same : l.outputs.items ++ outputs_in (drop l.shape-index l.shapes) l.arguments.items ≡ outputs_in l.shapes l.fn.arguments.items;
}
