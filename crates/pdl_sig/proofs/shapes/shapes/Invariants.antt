use Rattle.std.proofs.Common.{◌≡◌, ◌++◌, drop}
use Rattle.pdl_sig.specs.Resolution.{shapes}
use Rattle.pdl_sig.proofs.shapes.shapes.Given as goal

abbrev pub invariant-loop-arg : goal.invariant-loop-arg
invariant-loop-arg l = l.found.items ++ shapes l.sizes l.broadcast (drop l.arg-index l.args) l.left ≡ shapes l.sizes l.broadcast l.args l.fn.given
