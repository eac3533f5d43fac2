-- How often arrays are held, and what calls leave that cut arrays or let them go.
use Rattle.std.specs.Prelude.{◌≡◌, ◌≢◌, ℕ, ◌+◌, ◌-◌, ◌==◌, nat_lt, if◌then◌else◌, true, false, List, [], ◌∷◌, map, Option, Some, None, is_some}
use Rattle.pdl_world.specs.Paths.{root_of}
use Rattle.pdl_world.specs.Sound.{IsLive}
use Rattle.pdl_world.specs.Swept.{is_listed, sweep}
use Rattle.pdl_world.specs.World.{World, look, root, view}
use Rattle.pdl_nodes.specs.Going.{goes_from}
use Rattle.pdl_nodes.specs.Staying.{staying, stays_from}
use Rattle.pdl_engine.specs.State.{State, OthersWait, is_fresh, waiting, waiting_at, waiting_size}

-- how often v is held
abbrev pub count_at : List (ℕ × ℕ) → ℕ → ℕ
count_at [] v = 0
count_at ((k, n) ∷ hs) v = if k == v then n else count_at hs v

-- with one hold more of v
abbrev pub one_more_at : List (ℕ × ℕ) → ℕ → List (ℕ × ℕ)
one_more_at [] v = []
one_more_at ((k, n) ∷ hs) v = (k, if k == v then n + 1 else n) ∷ one_more_at hs v

-- with one hold less of v
abbrev pub one_less_at : List (ℕ × ℕ) → ℕ → List (ℕ × ℕ)
one_less_at [] v = []
one_less_at ((k, n) ∷ hs) v = (k, if k == v then n - 1 else n) ∷ one_less_at hs v

-- the arrays that are held
abbrev pub held_among : List (ℕ × ℕ) → List ℕ
held_among [] = []
held_among ((k, n) ∷ hs) = if nat_lt 0 n then k ∷ held_among hs else held_among hs

-- the arrays that have holds, be it none
abbrev pub holders : List (ℕ × ℕ) → List ℕ
holders hs = map (λ h. h.0) hs

-- no number stands twice
abbrev pub AreApart : List ℕ → Type 0
AreApart [] = Unit {0}
AreApart (k ∷ ks) = (is_listed ks k ≡ false) × AreApart ks

-- each array has holds, be it none, and nothing else has
abbrev pub AllHaveHolds : State → Type 0
AllHaveHolds s = (v : ℕ) → is_listed (holders s.holds) v ≡ is_some (look s.world v)

-- the holds of the arrays of this world
abbrev pub holds_left : World → List (ℕ × ℕ) → List (ℕ × ℕ)
holds_left w hs = staying (λ k. is_some (look w k)) hs

-- the family of v was changed alone: arrays are held as before; those whose root isn't v now, also
-- of the family that v had, can be lent that could be; and in other families what waited waits
pub record ChangesFamily (old : State) (v : ℕ) (new : State) : Type 0 where
  pub holds : new.holds ≡ old.holds
  pub next : new.next ≡ old.next
  pub others :
      (u : ℕ) → IsLive old.world u → root_of new.world u ≢ v → is_fresh old u ≡ true
      → is_fresh new u ≡ true
  pub waits : OthersWait old v new

-- wherever the arrays of the family of v are now, nothing waits
abbrev pub FamilyIsSettled : (old : State) (v : ℕ) (new : State) → Type 0
FamilyIsSettled old v new =
    (u : ℕ) → IsLive old.world u → root_of old.world u ≡ root_of old.world v → waiting new u ≡ None

-- what waits, if that view isn't in the world
abbrev pub gone_from : World → Option ℕ → Option ℕ
gone_from w o = goes_from (λ v. is_some (look w v)) o

-- what waits, if that view is in the world
abbrev pub left_from : World → Option ℕ → Option ℕ
left_from w o = stays_from (λ v. is_some (look w v)) o

-- how many elements wait in views that are gone from the new world, in the families of these of its
-- roots
abbrev pub written_back : State → (new part : World) → ℕ
written_back s new [] = 0
written_back s new ((k, root ty ds es) ∷ w) =
    waiting_size s (gone_from new (waiting_at s.pending k)) + written_back s new w
written_back s new ((k, view p t) ∷ w) = written_back s new w

-- one hold of v was taken back: what no held array reaches by parents is gone, and all else is
-- held, can be lent and waits as before
pub record IsReleased (old : State) (v : ℕ) (new : State) : Type 0 where
  pub world : new.world ≡ sweep old.world (held_among (one_less_at old.holds v))
  pub holds : new.holds ≡ holds_left new.world (one_less_at old.holds v)
  pub next : new.next ≡ old.next
  pub stay : (u : ℕ) → IsLive new.world u → is_fresh old u ≡ true → is_fresh new u ≡ true
  pub waits : (u : ℕ) → IsLive new.world u → waiting new u ≡ left_from new.world (waiting old u)
