use Rattle.std.proofs.Common.{◌+◌}
use Rattle.pdl_syntax.specs.Tree.{none}
use Rattle.pdl_syntax.specs.TreeOf.{tree_of, args_of, argument_of}
use Rattle.pdl_syntax.proofs.TreeOfWalks.{weight, weights}
use Rattle.pdl_syntax.proofs.formula.+formula.Given as goal

abbrev pub decreases-is_formula : goal.decreases-is_formula
decreases-is_formula l = weight (tree_of l.value.now)

abbrev pub decreases-is_one_formula : goal.decreases-is_one_formula
decreases-is_one_formula l = weights (args_of l.args.now none) + 1

abbrev pub decreases-is_formula_arg : goal.decreases-is_formula_arg
decreases-is_formula_arg l = weights (argument_of l.arg.now none)
