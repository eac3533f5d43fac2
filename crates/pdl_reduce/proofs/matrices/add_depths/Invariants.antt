-- Each number of the row has its sum over the depths before this one.
use Rattle.std.proofs.Common.{◌*◌}
use Rattle.pdl_reduce.specs.Blocks.{HasSums}
use Rattle.pdl_reduce.proofs.matrices.add_depths.Given as goal

abbrev pub invariant-loop-q : goal.invariant-loop-q
invariant-loop-q l = HasSums l.sizes l.left l.right (4 * l.q) l.i l.row

abbrev pub invariant-loop-k : goal.invariant-loop-k
invariant-loop-k l = HasSums l.sizes l.left l.right l.k l.i l.row
