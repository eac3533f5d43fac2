use Rattle.pdl_lex.proofs.JoiningLemmas.{statements_join, blanks_join, parts_join, digits_stay}
use Rattle.pdl_lex.proofs.laws.joining_laws.Goals as goal

pub returns-clause-statements : goal.returns-clause-statements
returns-clause-statements c = statements_join

pub returns-clause-blanks : goal.returns-clause-blanks
returns-clause-blanks c = blanks_join

pub returns-clause-parts : goal.returns-clause-parts
returns-clause-parts c = parts_join

pub returns-clause-digits : goal.returns-clause-digits
returns-clause-digits c = digits_stay
