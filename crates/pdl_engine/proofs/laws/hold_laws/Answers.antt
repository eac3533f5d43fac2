use Rattle.pdl_engine.proofs.HoldLawUnwritten.{left, unwritten}
use Rattle.pdl_engine.proofs.HoldLawLemmas.{counted, held, one_less, one_more, stay, uncounted}
use Rattle.pdl_engine.proofs.laws.hold_laws.Goals as goal

pub returns-clause-more : goal.returns-clause-more
returns-clause-more c = one_more

pub returns-clause-less : goal.returns-clause-less
returns-clause-less c = one_less

pub returns-clause-staying : goal.returns-clause-staying
returns-clause-staying c = stay

pub returns-clause-held : goal.returns-clause-held
returns-clause-held c = counted

pub returns-clause-counted : goal.returns-clause-counted
returns-clause-counted c = held

pub returns-clause-others : goal.returns-clause-others
returns-clause-others c = uncounted

pub returns-clause-unwritten : goal.returns-clause-unwritten
returns-clause-unwritten c = unwritten c.sweep_laws.ensures.kept

pub returns-clause-waiting : goal.returns-clause-waiting
returns-clause-waiting c = left
