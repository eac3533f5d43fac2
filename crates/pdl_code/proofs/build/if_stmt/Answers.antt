use Rattle.pdl_code.proofs.TreeRows.{step_of_if}
use Rattle.pdl_code.proofs.build.if_stmt.Goals as goal

pub returns : goal.returns
returns g c = step_of_if c.args.e c.args.whole c.args.other
