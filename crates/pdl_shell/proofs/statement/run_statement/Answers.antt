use Rattle.pdl_shell.proofs.RanLemmas.{leaves_step, served_step}
use Rattle.pdl_shell.proofs.statement.run_statement.Goals as goal

pub returns-clause-ran : goal.returns-clause-ran
returns-clause-ran g c =
    let e = c.step_over.ensures in leaves_step c.step_over.result _ _ _ _ _ _ _ c.requires.empty e.ok e.fault e.kept e.unprinted e.untold

pub returns-clause-served : goal.returns-clause-served
returns-clause-served g c =
    let e = c.step_over.ensures in served_step c.step_over.result _ _ _ _ c.requires.served e.served e.kept e.untold
