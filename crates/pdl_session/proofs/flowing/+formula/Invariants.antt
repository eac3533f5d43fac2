use Rattle.std.proofs.Common.{◌+◌}
use Rattle.pdl_syntax.specs.Tree.{none}
use Rattle.pdl_syntax.specs.TreeOf.{tree_of, args_of, argument_of}
use Rattle.pdl_session.proofs.ArgumentEvals.{weight, weights}
use Rattle.pdl_session.proofs.flowing.+formula.Given as goal

abbrev pub decreases-formula_of : goal.decreases-formula_of
decreases-formula_of l = weight (tree_of l.value.now)

abbrev pub decreases-operand_of : goal.decreases-operand_of
decreases-operand_of l = weights (args_of l.args.now none) + 1

abbrev pub decreases-argument_formula : goal.decreases-argument_formula
decreases-argument_formula l = weights (argument_of l.arg.now none)
