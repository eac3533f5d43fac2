use Rattle.pdl_machine.proofs.StepQuiet.{only_assignments_tell, growing_tells_the_same}
use Rattle.pdl_machine.proofs.RunPresence.{steps_give_none, steps_keep_there}
use Rattle.pdl_machine.proofs.StepNotices.{either_text_or_notices}
use Rattle.pdl_machine.proofs.WatchLemmas.{attached_trimmed}
use Rattle.pdl_machine.proofs.laws.watching_laws.Goals as goal

pub returns-clause-assignments : goal.returns-clause-assignments
returns-clause-assignments c = only_assignments_tell (record {
  older = c.growth_laws.ensures.older;
  older_elements = c.growth_laws.ensures.older_elements;
  older_paths = c.growth_laws.ensures.older_paths;
  new_live = c.growth_laws.ensures.live;
  cuts = c.cut_laws.ensures.elements;
  cut_numbers = c.cut_laws.ensures.numbers;
  reshapes = c.reshape_laws.ensures.others;
  unchanged = c.change_laws.ensures;
})

pub returns-clause-growing : goal.returns-clause-growing
returns-clause-growing c = growing_tells_the_same c.growth_laws.ensures.older c.growth_laws.ensures.older_elements

pub returns-clause-none_comes : goal.returns-clause-none_comes
returns-clause-none_comes c = steps_give_none c.slot_laws.ensures.below

pub returns-clause-there : goal.returns-clause-there
returns-clause-there c = steps_keep_there

pub returns-clause-either : goal.returns-clause-either
returns-clause-either c = either_text_or_notices (record {
  older = c.growth_laws.ensures.older;
  older_elements = c.growth_laws.ensures.older_elements;
  older_paths = c.growth_laws.ensures.older_paths;
  new_live = c.growth_laws.ensures.live;
  cuts = c.cut_laws.ensures.elements;
  cut_numbers = c.cut_laws.ensures.numbers;
  reshapes = c.reshape_laws.ensures.others;
  unchanged = c.change_laws.ensures;
})

pub returns-clause-trimmed : goal.returns-clause-trimmed
returns-clause-trimmed c = attached_trimmed
