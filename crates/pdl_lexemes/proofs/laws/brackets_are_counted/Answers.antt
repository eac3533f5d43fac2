use Rattle.pdl_lexemes.proofs.LexingBrackets.{brackets_are_counted}
use Rattle.pdl_lexemes.proofs.laws.brackets_are_counted.Goals as goal

pub returns : goal.returns
returns c = brackets_are_counted
