use Rattle.pdl_world.proofs.BreakLawBelow.{below_laws, looks_follow}
use Rattle.pdl_world.proofs.WorldBreaks.{formulas_break, refused_break}
use Rattle.pdl_world.proofs.breaking_laws.Goals as goal

pub returns-clause-formulas : goal.returns-clause-formulas
returns-clause-formulas c = formulas_break

pub returns-clause-refused : goal.returns-clause-refused
returns-clause-refused c = refused_break

pub returns-clause-follow : goal.returns-clause-follow
returns-clause-follow c = λ w v ds k p t s h n. looks_follow w v _ k p t s h n

pub returns-clause-below : goal.returns-clause-below
returns-clause-below c = below_laws
