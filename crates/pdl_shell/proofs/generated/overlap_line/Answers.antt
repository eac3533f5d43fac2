use Rattle.std.specs.Prelude.{codes, decimal}
use Rattle.std.proofs.Common.{◌∙◌}
use Rattle.pdl_machine.specs.Step.{newline}
use Rattle.pdl_shell.proofs.SummaryTexts.{parts_of_four}
use Rattle.pdl_shell.proofs.generated.overlap_line.Goals as goal

pub returns : goal.returns
returns c = c.in_ok-line.ensures.ok ∙ parts_of_four (codes "$v .= $a->slice(\"0:5,0:3\") + ") (decimal c.args.number) (codes ";") newline
