use Rattle.pdl_watch.specs.Watched.{told_more}
use Rattle.pdl_watch.specs.Slots.{ended_where}
use Rattle.pdl_watch.proofs.SlotsUnchanged.{below_self, below_trans}
use Rattle.pdl_watch.proofs.SlotLemmas.{none_changed, changed_long, stops_short, ends_told_short}
use Rattle.pdl_watch.proofs.SlotsEmptied.{quiet_none, same_told, present_told, present_left, none_emptied, ended_emptied, emptied_told, emptied_twice, emptied_long, told_open, emptied_open}
use Rattle.pdl_watch.proofs.SlotCounts.{stops_one, ends_one, ended_one}
use Rattle.pdl_watch.proofs.laws.slot_laws.Goals as goal

pub returns-clause-stops : goal.returns-clause-stops
returns-clause-stops c = stops_short

pub returns-clause-ends : goal.returns-clause-ends
returns-clause-ends c = ends_told_short

pub returns-clause-quiet : goal.returns-clause-quiet
returns-clause-quiet c = quiet_none

pub returns-clause-same : goal.returns-clause-same
returns-clause-same c = same_told

pub returns-clause-keeps : goal.returns-clause-keeps
returns-clause-keeps c = present_told

pub returns-clause-leaves : goal.returns-clause-leaves
returns-clause-leaves c = present_left

pub returns-clause-none : goal.returns-clause-none
returns-clause-none c = none_emptied

pub returns-clause-ended : goal.returns-clause-ended
returns-clause-ended c = ended_emptied

pub returns-clause-beside : goal.returns-clause-beside
returns-clause-beside c = emptied_told

pub returns-clause-twice : goal.returns-clause-twice
returns-clause-twice c = emptied_twice

pub returns-clause-long : goal.returns-clause-long
returns-clause-long c = emptied_long

pub returns-clause-told_open : goal.returns-clause-told_open
returns-clause-told_open c = told_open

pub returns-clause-open : goal.returns-clause-open
returns-clause-open c = emptied_open

pub returns-clause-told_long : goal.returns-clause-told_long
returns-clause-told_long c = changed_long told_more

pub returns-clause-stops_one : goal.returns-clause-stops_one
returns-clause-stops_one c = stops_one

pub returns-clause-ends_one : goal.returns-clause-ends_one
returns-clause-ends_one c = ends_one

pub returns-clause-ended_one : goal.returns-clause-ended_one
returns-clause-ended_one c = ended_one

pub returns-clause-below : goal.returns-clause-below
returns-clause-below c = below_self

pub returns-clause-below_twice : goal.returns-clause-below_twice
returns-clause-below_twice c = below_trans

pub returns-clause-nothing : goal.returns-clause-nothing
returns-clause-nothing c = none_changed ended_where
