-- What one hold more or less changes, which arrays are counted as held, and where letting go writes
-- nothing back.
use Rattle.std.specs.Prelude.{◌≡◌, ℕ, ◌+◌, ◌-◌, ◌<◌, ◌==◌, if◌then◌else◌, ℤ, Bool, true, false, List, Some, is_some}
use Rattle.pdl_elem.specs.declared.Ty.{Ty}
use Rattle.pdl_world.specs.Sound.{IsSound}
use Rattle.pdl_world.specs.Swept.{Has, is_listed, sweep}
use Rattle.pdl_world.specs.World.{World, look, root}
use Rattle.pdl_nodes.specs.Staying.{staying}
use Rattle.pdl_engine.specs.Held.{AreApart, count_at, one_more_at, one_less_at, held_among, holders, written_back}
use Rattle.pdl_engine.specs.Reading.{KeepsViews}
use Rattle.pdl_engine.specs.State.{State, IsLazy, waiting_at}

-- one hold more of v, which has holds, counts once more of v, and of no other
abbrev pub OneMoreCounts : Type 0
OneMoreCounts =
    (hs : List (ℕ × ℕ)) (v u : ℕ) → is_listed (holders hs) v ≡ true
    → count_at (one_more_at hs v) u ≡ count_at hs u + (if v == u then 1 else 0)

-- one hold less of v counts once less of v, and of no other
abbrev pub OneLessCounts : Type 0
OneLessCounts =
    (hs : List (ℕ × ℕ)) (v u : ℕ)
    → count_at (one_less_at hs v) u ≡ count_at hs u - (if v == u then 1 else 0)

-- what stays is counted as before, and nothing else is counted
abbrev pub StayingCount : Type 0
StayingCount =
    (t : ℕ → Bool) (hs : List (ℕ × ℕ)) (u : ℕ)
    → count_at (staying t hs) u ≡ (if t u then count_at hs u else 0)

-- an array with a count above 0 is among those that are held
abbrev pub CountedAreHeld : Type 0
CountedAreHeld =
    (hs : List (ℕ × ℕ)) (u : ℕ) → 0 < count_at hs u → is_listed (held_among hs) u ≡ true

-- what is held is counted, where no number stands twice
abbrev pub HeldAreCounted : Type 0
HeldAreCounted =
    (hs : List (ℕ × ℕ)) (u : ℕ) → AreApart (holders hs) → is_listed (held_among hs) u ≡ true
    → 0 < count_at hs u

-- what has no holds isn't counted
abbrev pub OthersDontCount : Type 0
OthersDontCount =
    (hs : List (ℕ × ℕ)) (u : ℕ) → is_listed (holders hs) u ≡ false → count_at hs u ≡ 0

-- where no view goes, letting go writes nothing back
abbrev pub NothingIsWritten : Type 0
NothingIsWritten =
    (s : State) (held : List ℕ) → IsSound s.world → IsLazy s
    → KeepsViews s.world (sweep s.world held)
    → written_back s (sweep s.world held) (sweep s.world held) ≡ 0

-- nor where each view is left whose elements wait for one of these roots
abbrev pub WhatWaitsIsLeft : Type 0
WhatWaitsIsLeft =
    (s : State) (new part : World)
    → ((r b : ℕ) (ty : Ty) (ds : List ℕ) (es : List ℤ) → Has part r (root ty ds es)
    → waiting_at s.pending r ≡ Some b → is_some (look new b) ≡ true)
    → written_back s new part ≡ 0
