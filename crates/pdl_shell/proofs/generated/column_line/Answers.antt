use Rattle.std.specs.Prelude.{codes, decimal}
use Rattle.std.proofs.Common.{◌∙◌}
use Rattle.pdl_machine.specs.Step.{newline}
use Rattle.pdl_shell.proofs.SummaryTexts.{parts_of_six}
use Rattle.pdl_shell.proofs.generated.column_line.Goals as goal

pub returns : goal.returns
returns c =
    c.in_ok-line.ensures.ok ∙ parts_of_six (codes "$a->slice(\"") (decimal c.args.column) (codes ",:\") += ") (decimal c.args.number) (codes ";") newline
