-- What a mark in the code means.
use Rattle.pdl_lex.specs.Pieces.{Mark as MarkOfScript, statement, script_too_long}
use Rattle.pdl_shell.specs.declared.mark.Mark.{Mark}
use Rattle.pdl_shell.specs.declared.mark.Mark.TheVariants.{Statement, ScriptTooLong}

abbrev pub mark_of : Mark → MarkOfScript
mark_of (Statement piece) = statement piece
mark_of (ScriptTooLong line) = script_too_long line
