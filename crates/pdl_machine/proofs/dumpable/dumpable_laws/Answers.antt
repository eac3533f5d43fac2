use Rattle.pdl_machine.proofs.DumpableLawSteps.{effects_keep_spelled}
use Rattle.pdl_machine.proofs.DumpableViews.{shown_made}
use Rattle.pdl_machine.proofs.DumpableLawTidied.{empty_is_dumpable, tidied_are_dumpable, numbers_are_unspelled}
use Rattle.pdl_machine.proofs.dumpable.dumpable_laws.Goals as goal

pub returns-clause-empty : goal.returns-clause-empty
returns-clause-empty c = empty_is_dumpable

pub returns-clause-keeps : goal.returns-clause-keeps
returns-clause-keeps c = effects_keep_spelled (record { cuts = c.cut_laws.ensures.sound; wraps = c.wrapping_laws.ensures })

pub returns-clause-tidied : goal.returns-clause-tidied
returns-clause-tidied c = tidied_are_dumpable (record { sweeps = c.sweep_laws.ensures.sound; seen = c.sweep_laws.ensures.seen })

pub returns-clause-numbers : goal.returns-clause-numbers
returns-clause-numbers c = numbers_are_unspelled

pub returns-clause-shown : goal.returns-clause-shown
returns-clause-shown c = shown_made c.cut_laws.ensures.sound
