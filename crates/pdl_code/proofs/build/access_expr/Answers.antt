use Rattle.pdl_code.proofs.TreeRows.{tree_of_access}
use Rattle.pdl_code.proofs.build.access_expr.Goals as goal

pub returns : goal.returns
returns g c = tree_of_access c.args.argument c.args.given
