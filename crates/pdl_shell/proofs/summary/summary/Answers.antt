use Rattle.std.proofs.Common.{◌∙◌, ap, length, sum}
use Rattle.pdl_shell.proofs.SummaryTexts.{sums_up}
use Rattle.pdl_shell.proofs.summary.summary.Goals as goal

pub returns : goal.returns
returns c =
    sums_up _ _ _ _ _ _ c.statement_count-statements.ensures (c.count-bytes.ensures ∙ ap length c.in_ok-printed.ensures) (c.sum-sum.ensures ∙ ap sum c.in_ok-printed.ensures)
    c.in_ok-line.ensures.ok
