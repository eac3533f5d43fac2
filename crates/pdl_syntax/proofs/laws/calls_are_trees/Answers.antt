use Rattle.pdl_syntax.proofs.TreeLemmas.{tree_of_call}
use Rattle.pdl_syntax.proofs.laws.calls_are_trees.Goals as goal

pub returns : goal.returns
returns c = tree_of_call
