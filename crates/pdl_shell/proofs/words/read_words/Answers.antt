use Rattle.pdl_shell.proofs.CommandWords.{command_of-many}
use Rattle.pdl_shell.proofs.words.read_words.Goals as goal

pub returns-in_default : goal.returns-in_default
returns-in_default c = command_of-many c.args.words.now c.in_default.len_at_least
