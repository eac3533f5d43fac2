-- What holds of slots that are told, ended and emptied.
use Rattle.std.specs.Prelude.{◌≡◌, ℕ, Bool, false, Option, None, option_map, List, [], ◌++◌, length, slice_set}
use Rattle.pdl_watch.specs.Watched.{told_more}
use Rattle.pdl_watch.specs.declared.notice.Notice.{Notice}
use Rattle.pdl_watch.specs.Slots.{Slots, slot, all_told, all_ended, joined, notices_of, IsQuiet, present_in, emptied, IsBelow, AreOpen, ToldShort, StopsInTurn, EndedShort, EndsShort, OneMissed}

-- the watcher of each slot is told the notices of that slot
abbrev pub EachIsToldItsOwn : Type 0
EachIsToldItsOwn = (ss : Slots) (all : List (List Notice)) (k : ℕ) →
    slot (all_told ss all) k ≡ option_map (told_more (notices_of all k)) (slot ss k)

-- the notices of a slot, and then more of that slot
abbrev pub EachIsJoined : Type 0
EachIsJoined = (xs ys : List (List Notice)) (k : ℕ) →
    notices_of (joined xs ys) k ≡ notices_of xs k ++ notices_of ys k

-- telling that stopped at a failure stopped each slot at a front of its notices
abbrev pub StopsAreShort : Type 0
StopsAreShort = (ss : Slots) (all : List (List Notice)) (now : Slots) →
    StopsInTurn ss all now → ToldShort ss all now

-- so did finishing the watcher of one slot, whatever there was to tell
abbrev pub EndsAreShort : Type 0
EndsAreShort = (ss : Slots) (k : ℕ) (all : List (List Notice)) (now : Slots) →
    EndsShort ss k now → ToldShort ss all now

-- a failure raises the count of one watcher alone
abbrev pub StopsMissOne : Type 0
StopsMissOne = (ss : Slots) (all : List (List Notice)) (now : Slots) →
    StopsInTurn ss all now → OneMissed ss now

abbrev pub EndsMissOne : Type 0
EndsMissOne = (ss : Slots) (k : ℕ) (now : Slots) → EndsShort ss k now → OneMissed ss now

abbrev pub EndingMissesOne : Type 0
EndingMissesOne = (ss : Slots) (watches : List (Option ℕ)) (now : Slots) →
    EndedShort ss watches now → OneMissed ss now

-- where no slot has notices none is told
abbrev pub QuietTellsNone : Type 0
QuietTellsNone = (ss : Slots) (all : List (List Notice)) → IsQuiet all → all_told ss all ≡ ss

-- the notices of each slot are all that counts
abbrev pub SameAreTold : Type 0
SameAreTold = (ss : Slots) (xs ys : List (List Notice)) →
    ((k : ℕ) → notices_of xs k ≡ notices_of ys k) → all_told ss xs ≡ all_told ss ys

-- telling takes no watcher away, and emptying leaves just those that are present
abbrev pub TellingKeepsAll : Type 0
TellingKeepsAll = (ss : Slots) (all : List (List Notice)) →
    present_in (all_told ss all) ≡ present_in ss

abbrev pub EmptyingLeaves : Type 0
EmptyingLeaves = (ss : Slots) (ps : List Bool) → IsBelow ps (present_in ss) →
    present_in (emptied ss ps) ≡ ps

-- emptying where all are present changes nothing
abbrev pub NoneIsEmptied : Type 0
NoneIsEmptied = (ss : Slots) → emptied ss (present_in ss) ≡ ss

-- a slot without a watcher is one that isn't present
abbrev pub EndedIsEmptied : Type 0
EndedIsEmptied = (ss : Slots) (k : ℕ) →
    slice_set ss k None ≡ emptied ss (slice_set (present_in ss) k false)

-- a slot that is emptied is the same, told before that or not
abbrev pub EmptyingAndTelling : Type 0
EmptyingAndTelling = (ss : Slots) (ps : List Bool) (all : List (List Notice)) →
    all_told (emptied ss ps) all ≡ emptied (all_told ss all) ps

-- emptied twice, of fewer the second time, is emptied once
abbrev pub EmptiedTwice : Type 0
EmptiedTwice = (ss : Slots) (ps qs : List Bool) → IsBelow qs ps →
    emptied (emptied ss ps) qs ≡ emptied ss qs

-- slots are below themselves, and below those that others are below
abbrev pub BelowItself : Type 0
BelowItself = (ps : List Bool) → IsBelow ps ps

abbrev pub BelowTwice : Type 0
BelowTwice = (rs qs ps : List Bool) → IsBelow rs qs → IsBelow qs ps → IsBelow rs ps

-- where no slot is attached no watcher is finished
abbrev pub NothingEnds : Type 0
NothingEnds = (ss : Slots) → all_ended ss [] ≡ ss

-- there are as many slots as before
abbrev pub TellingKeepsLength : Type 0
TellingKeepsLength = (ss : Slots) (all : List (List Notice)) →
    length (all_told ss all) ≡ length ss

abbrev pub EmptyingKeepsLength : Type 0
EmptyingKeepsLength = (ss : Slots) (ps : List Bool) → length (emptied ss ps) ≡ length ss

-- none of them is finished by it
abbrev pub TellingKeepsOpen : Type 0
TellingKeepsOpen = (ss : Slots) (all : List (List Notice)) → AreOpen ss → AreOpen (all_told ss all)

abbrev pub EmptyingKeepsOpen : Type 0
EmptyingKeepsOpen = (ss : Slots) (ps : List Bool) → AreOpen ss → AreOpen (emptied ss ps)
