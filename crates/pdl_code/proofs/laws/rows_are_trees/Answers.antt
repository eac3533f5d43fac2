use Rattle.pdl_code.proofs.TreeRows.{step_of_if, step_of_loop, tree_of_access}
use Rattle.pdl_code.proofs.laws.rows_are_trees.Goals as goal

pub returns : goal.returns
returns c = record { access = tree_of_access; repeat = step_of_loop; choose = step_of_if }
