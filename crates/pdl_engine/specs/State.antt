-- What kept arrays are seen as, and how calls change that.
use Rattle.std.specs.Prelude.{◌≡◌, ℕ, ◌+◌, ◌==◌, if◌then◌else◌, Bool, true, false, List, [], ◌∷◌, sum_by, All, Option, Some, None}
use Rattle.pdl_buf.specs.Window.{Window}
use Rattle.pdl_shape.specs.Shape.{size_of}
use Rattle.pdl_world.specs.Paths.{path, root_of}
use Rattle.pdl_world.specs.Sound.{IsLive}
use Rattle.pdl_world.specs.Swept.{is_listed}
use Rattle.pdl_world.specs.World.{World, ArrayDef, dims_in, ty_in, elements, has_repeats, places_in}
pub use Rattle.pdl_world.specs.Windows.{base}
use Rattle.pdl_nodes.specs.Owed.{owed, size_if}
use Rattle.pdl_push.specs.Targets.{target_of}

-- The world of arrays; those that can be lent; per root the view whose buffer waits to be written
-- back; how often each array is held; and the number of the next array.
pub record State : Type 0 where
  pub world : World
  pub fresh : List ℕ
  pub pending : List (ℕ × ℕ)
  pub holds : List (ℕ × ℕ)
  pub next : ℕ

-- no arrays, of which the first one will have the number 0
abbrev pub no_arrays : State
no_arrays = record { world = []; fresh = []; pending = []; holds = []; next = 0 }

-- the array can be lent
abbrev pub is_fresh : State → ℕ → Bool
is_fresh s v = is_listed s.fresh v

-- each array that can be lent can be lent still
abbrev pub StayFresh : (old new : State) → Type 0
StayFresh old new = (v : ℕ) → is_fresh old v ≡ true → is_fresh new v ≡ true

-- one more array, which has the next number and is held once
pub record Joins (old : State) (id : ℕ) (d : ArrayDef) (new : State) : Type 0 where
  pub number : id ≡ old.next
  pub world : new.world ≡ (id, d) ∷ old.world
  pub holds : new.holds ≡ (id, 1) ∷ old.holds
  pub pending : new.pending ≡ old.pending
  pub next : new.next ≡ old.next + 1
  pub stay : StayFresh old new

-- the same arrays, held as often
pub record SameArrays (old new : State) : Type 0 where
  pub world : new.world ≡ old.world
  pub holds : new.holds ≡ old.holds
  pub next : new.next ≡ old.next

-- each array from this one to its root can be lent
abbrev pub PathIsFresh : State → ℕ → Type 0
PathIsFresh s v = All (λ u. is_fresh s u ≡ true) (path s.world v)

-- what is shown of an array
abbrev pub shown_in : State → ℕ → Window
shown_in s v = record { ty = ty_in s.world v; dims = dims_in s.world v; elems = elements s.world v }

-- how many elements a view has that keeps its own and can't be lent
abbrev pub outdated_at : State → ℕ → ℕ
outdated_at s u =
    owed (base s.world u == u) (root_of s.world u == u) (is_fresh s u)
    (size_of (dims_in s.world u))

-- of all views on the path of v
abbrev pub outdated : State → ℕ → ℕ
outdated s v = sum_by (outdated_at s) (path s.world v)

-- the view whose elements wait in the family of root r
abbrev pub waiting_at : List (ℕ × ℕ) → ℕ → Option ℕ
waiting_at [] r = None
waiting_at ((k, v) ∷ ps) r = if k == r then Some v else waiting_at ps r

-- the view of v's family whose elements wait
abbrev pub waiting : State → ℕ → Option ℕ
waiting s v = waiting_at s.pending (root_of s.world v)

-- how many elements wait
abbrev pub waiting_size : State → Option ℕ → ℕ
waiting_size s o = size_if (dims_in s.world) o

-- the most steps that it takes to make v so that it can be lent
abbrev pub ready_steps : State → ℕ → ℕ
ready_steps s v = outdated s v + waiting_size s (waiting s v)

-- where values are put that are assigned to v: in its base, or in its root where the base has
-- repeats
abbrev pub target : World → ℕ → ℕ
target w v = target_of (has_repeats (places_in w (base w v))) (root_of w v) (base w v)

-- after an assignment to v each array that is shown by what was written can be lent
abbrev pub TargetIsFresh : (old : State) (v : ℕ) (new : State) → Type 0
TargetIsFresh old v new =
    (u : ℕ) → IsLive old.world u → root_of old.world u ≡ root_of old.world v
    → base old.world u ≡ target old.world v → is_fresh new u ≡ true

-- what waits in the family after an assignment to v: the array in which the values were put, unless
-- that is the root
abbrev pub kept_back : World → ℕ → Option ℕ
kept_back w v = if target w v == root_of w v then None else Some (target w v)

-- in v's family that waits, and in other families what waited
abbrev pub TargetWaits : (old : State) (v : ℕ) (new : State) → Type 0
TargetWaits old v new =
    (u : ℕ) → IsLive old.world u
    → waiting new u ≡ (if root_of old.world u == root_of old.world v then kept_back old.world v
    else waiting old u)

-- in other families than v's the same waits
abbrev pub OthersWait : (old : State) (v : ℕ) (new : State) → Type 0
OthersWait old v new =
    (u : ℕ) → IsLive old.world u → (root_of old.world u ≡ root_of old.world v → ⊥)
    → waiting new u ≡ waiting old u

-- the elements of b wait in the family of v: b is a view of the family, its own base and without
-- repeats, it can be lent, and so can of the family only what is shown over it
pub record AreWaiting (s : State) (v b : ℕ) : Type 0 where
  pub live : IsLive s.world b
  pub family : root_of s.world b ≡ root_of s.world v
  pub own : base s.world b ≡ b
  pub view : b ≡ root_of s.world v → ⊥
  pub once : has_repeats (places_in s.world b) ≡ false
  pub fresh : is_fresh s b ≡ true
  pub only :
      (u : ℕ) → IsLive s.world u → root_of s.world u ≡ root_of s.world v → is_fresh s u ≡ true
      → base s.world u ≡ b

-- views are lazy: an array can be lent exactly where its base can; where nothing waits in its
-- family its root can be lent; and nothing is outdated on a path that can be lent
pub record IsLazy (s : State) : Type 0 where
  pub fresh_is : (v : ℕ) → IsLive s.world v → is_fresh s v ≡ is_fresh s (base s.world v)
  pub waits : (v b : ℕ) → IsLive s.world v → waiting s v ≡ Some b → AreWaiting s v b
  pub lasts :
      (v : ℕ) → IsLive s.world v → waiting s v ≡ None → is_fresh s (root_of s.world v) ≡ true
  pub spent : (v : ℕ) → PathIsFresh s v → outdated s v ≡ 0

-- a new view that isn't its own base can be lent exactly where its parent can
abbrev pub IsLentAs : (old : State) (parent id : ℕ) (new : State) → Type 0
IsLentAs old parent id new = (base new.world id ≡ id → ⊥) → is_fresh new id ≡ is_fresh old parent
