use Rattle.pdl_shell.proofs.TwoStatementRuns.{worked_statuses}
use Rattle.pdl_shell.proofs.laws.worked_statuses.Goals as goal

pub returns : goal.returns
returns c = worked_statuses c.telling_laws.ensures.each
