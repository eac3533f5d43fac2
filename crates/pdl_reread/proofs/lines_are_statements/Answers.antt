use Rattle.pdl_reread.proofs.ScriptCuts as cut
use Rattle.pdl_reread.proofs.lines_are_statements.Goals as goal

pub returns : goal.returns
returns c =
    cut.lines_are_statements c.joining_laws.ensures.parts c.joining_laws.ensures.statements c.joining_laws.ensures.blanks
    c.written_laws.ensures.strings c.type_words_are_words.ensures
