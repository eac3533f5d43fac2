use Rattle.pdl_machine.proofs.RunSoFar.{so_far-front, so_far-printed, so_far-told, so_far-grows, so_far-all}
use Rattle.pdl_machine.proofs.reading.so_far_laws.Goals as goal

pub returns-clause-goes_on : goal.returns-clause-goes_on
returns-clause-goes_on c = so_far-front c.settled_laws.ensures.begin c.settled_laws.ensures.stay

pub returns-clause-printed : goal.returns-clause-printed
returns-clause-printed c = so_far-printed c.settled_laws.ensures.begin c.settled_laws.ensures.stay

pub returns-clause-told : goal.returns-clause-told
returns-clause-told c = so_far-told c.settled_laws.ensures.begin c.settled_laws.ensures.stay

pub returns-clause-grows : goal.returns-clause-grows
returns-clause-grows c = so_far-grows c.settled_laws.ensures.begin c.settled_laws.ensures.stay

pub returns-clause-all : goal.returns-clause-all
returns-clause-all c = so_far-all
