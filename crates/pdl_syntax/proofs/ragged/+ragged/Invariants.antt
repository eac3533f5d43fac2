use Rattle.std.proofs.Common.{◌≡◌, ◌+◌, drop}
use Rattle.pdl_syntax.specs.Tree.{none}
use Rattle.pdl_syntax.specs.TreeOf.{tree_of, args_of, argument_of}
use Rattle.pdl_syntax.specs.Ragged.{are_ragged}
use Rattle.pdl_syntax.proofs.TreeOfWalks.{weight, weights}
use Rattle.pdl_syntax.proofs.ragged.+ragged.Given as goal

abbrev pub decreases-is_ragged : goal.decreases-is_ragged
decreases-is_ragged l = weight (tree_of l.value.now)

abbrev pub decreases-are_ragged : goal.decreases-are_ragged
decreases-are_ragged l = weights (args_of l.args.now none) + 1

abbrev pub decreases-is_ragged_arg : goal.decreases-is_ragged_arg
decreases-is_ragged_arg l = weights (argument_of l.arg.now none)

abbrev pub invariant-are_ragged-loop-arg : goal.invariant-are_ragged-loop-arg
invariant-are_ragged-loop-arg l = are_ragged (args_of l.args none) ≡ are_ragged (args_of (drop l.arg-index l.args) none)
