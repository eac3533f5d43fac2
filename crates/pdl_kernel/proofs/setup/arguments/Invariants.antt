use Rattle.std.proofs.Common.{◌≡◌, ◌++◌, drop, map}
use Rattle.pdl_kernel.specs.Call.{with_given}
use Rattle.pdl_kernel.specs.Setup.{window_of}
use Rattle.pdl_kernel.proofs.setup.arguments.Given as goal

abbrev pub invariant-loop-k : goal.invariant-loop-k
invariant-loop-k l = l.arguments.items ++ map (window_of l.resolved) (with_given (drop l.k l.args) l.given.items) ≡ map (window_of l.resolved) (with_given l.args l.fn.given.items)
