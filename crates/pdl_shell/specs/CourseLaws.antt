-- What the course of a run rests on.
use Rattle.pdl_watch.specs.Slots.{TellsTwice}
use Rattle.pdl_watch.specs.SlotLaws.{EachIsToldItsOwn, EachIsJoined, TellingKeepsAll, EmptyingLeaves, NoneIsEmptied, EmptyingAndTelling, EmptiedTwice, QuietTellsNone, BelowItself, BelowTwice, TellingKeepsLength, EmptyingKeepsLength, EndingMissesOne}
use Rattle.pdl_machine.specs.RunLaws.{EndedStays, PrintedStays, ToldStays, NoneComes, RefusedStay, RefusedAreGiven, RefusedRise}

-- the laws of slots and of runs that every step of a run is proved by
pub record Laws : Type 0 where
  pub keeps : TellingKeepsAll
  pub leaves : EmptyingLeaves
  pub none : NoneIsEmptied
  pub beside : EmptyingAndTelling
  pub twice : EmptiedTwice
  pub quiet : QuietTellsNone
  pub below : BelowItself
  pub below_twice : BelowTwice
  pub told_long : TellingKeepsLength
  pub long : EmptyingKeepsLength
  pub ended_one : EndingMissesOne
  pub told_twice : TellsTwice
  pub each : EachIsToldItsOwn
  pub joins : EachIsJoined
  pub ended : EndedStays
  pub printed : PrintedStays
  pub told : ToldStays
  pub none_comes : NoneComes
  pub refused : RefusedStay
  pub given : RefusedAreGiven
  pub rising : RefusedRise
