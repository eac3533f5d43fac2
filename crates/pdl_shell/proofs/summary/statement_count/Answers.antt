use Rattle.std.proofs.Common.{sym, ◌∙◌, ap, ◌+◌}
use Rattle.pdl_shell.proofs.GeneratedCount.{statement_count-some}
use Rattle.pdl_shell.proofs.summary.statement_count.Goals as goal

pub returns-else-rounds-eq0 : goal.returns-else-rounds-eq0
returns-else-rounds-eq0 c =
    let laws = c.joining_laws.ensures in
    ap (λ n. n + 2) c.from.ensures
    ∙ sym (statement_count-some laws.statements laws.blanks laws.parts laws.digits c.args.rounds c.if-rounds-eq0.false)
