-- What goes from arrays up, and what is left then.
use Rattle.std.specs.Prelude.{◌≡◌, ℕ, ◌+◌, ◌<◌, ◌≤◌, nat_lt, true, false, List, [], ◌∷◌, Option, Some}
use Rattle.pdl_world.specs.Cut.{has_views}
use Rattle.pdl_world.specs.Swept.{is_listed, sweep}
use Rattle.pdl_nodes.specs.Children.{children, left}
use Rattle.pdl_nodes.specs.Going.{IsLeft}
use Rattle.pdl_nodes.specs.Holds.{Counts, Beside, hold_at, is_held, stands, count, going, with_going}
use Rattle.pdl_nodes.specs.Families.{Means}
use Rattle.pdl_nodes.specs.Row.{parent_of}
use Rattle.pdl_nodes.specs.Rows.{Rows, row_at, has, reached, without}
use Rattle.pdl_nodes.specs.Staying.{staying}
use Rattle.pdl_nodes.specs.Still.{IsStill}
use Rattle.pdl_nodes.specs.Worlds.{shape, world_of}

-- all but those that are listed are held, or have views: none of them can go
abbrev pub AreTight : (listed : List ℕ) → Rows → Counts → Type 0
AreTight listed rs hs =
    (v : ℕ) → has rs v ≡ true → is_listed listed v ≡ false → is_held hs v ≡ false
    → has_views (shape rs) v ≡ true

-- of the parent, if there is one, this is done to how many views are noted
pub record IsNoted (f : ℕ → ℕ) (old new : Counts) (parent : Option ℕ) : Type 0 where
  pub here :
      (p : ℕ) → parent ≡ Some p → hold_at new p ≡ with_going (f (going old p)) (hold_at old p)
  pub others : (v : ℕ) → (parent ≡ Some v → ⊥) → hold_at new v ≡ hold_at old v

-- of each that stands the views that don't are noted
abbrev pub AreNoted : Rows → Counts → Type 0
AreNoted rs hs =
    (v : ℕ) → stands hs v ≡ true → children rs v ≡ going hs v + left rs (stands hs) v

-- and each that doesn't stand has no view that does
pub record AreMarked (rs : Rows) (hs : Counts) : Type 0 where
  pub numbers : (v : ℕ) → stands hs v ≡ true → has rs v ≡ true
  pub spent : (v : ℕ) → has rs v ≡ true → stands hs v ≡ false → left rs (stands hs) v ≡ 0
  pub noted : AreNoted rs hs

-- v stands, and neither a hold nor a view keeps it
pub record IsLoose (rs : Rows) (hs : Counts) (v : ℕ) : Type 0 where
  pub standing : stands hs v ≡ true
  pub free : is_held hs v ≡ false
  pub viewless : left rs (stands hs) v ≡ 0

-- fewer stand, each held as before, and none was held of those that don't
pub record IsFewer (old new : Counts) : Type 0 where
  pub standing : (v : ℕ) → stands new v ≡ true → stands old v ≡ true
  pub counts : (v : ℕ) → stands new v ≡ true → count new v ≡ count old v
  pub free : (v : ℕ) → stands old v ≡ true → stands new v ≡ false → is_held old v ≡ false

-- the holds of v were forgotten: it is there, and has no views; all else is held, or has views
pub record IsForgotten (rs : Rows) (hs : Counts) (v : ℕ) : Type 0 where
  pub still : IsStill rs
  pub live : has rs v ≡ true
  pub viewless : has_views (shape rs) v ≡ false
  pub beside : Beside (without v rs) hs
  pub tight : AreTight (v ∷ []) rs hs

-- what is above v stays without it: the parent, if there is one, is held, or has another view
abbrev pub GoesAlone : Rows → Counts → (v : ℕ) → Type 0
GoesAlone rs hs v =
    (p : ℕ) → parent_of (row_at rs v) ≡ Some p → is_held hs p ≡ false → 1 < children rs p

-- p is the parent of v, isn't held, and has no other view
pub record GoesWith (rs : Rows) (hs : Counts) (p v : ℕ) : Type 0 where
  pub parent : parent_of (row_at rs v) ≡ Some p
  pub free : is_held hs p ≡ false
  pub only : children rs p ≤ 1

-- a view of v goes
pub record IsParentOfGone (rs : Rows) (hs : Counts) (v : ℕ) : Type 0 where
  pub child : ℕ
  pub live : has rs child ≡ true
  pub gone : stands hs child ≡ false
  pub parent : parent_of (row_at rs child) ≡ Some v

-- each that goes, but these, has a view that goes
abbrev pub ComesFrom : (starts : List ℕ) → Rows → Counts → Type 0
ComesFrom starts rs hs =
    (v : ℕ) → has rs v ≡ true → stands hs v ≡ false → is_listed starts v ≡ false
    → IsParentOfGone rs hs v

-- those that no held array reaches don't stand now, and the others are held as before; each that
-- goes, but these, has a view that goes
pub record IsRisen (starts : List ℕ) (rs : Rows) (old new : Counts) : Type 0 where
  pub numbers : (v : ℕ) → stands new v ≡ true → has rs v ≡ true
  pub counts : (v : ℕ) → stands new v ≡ true → count new v ≡ count old v
  pub tells : (v : ℕ) → has rs v ≡ true → stands new v ≡ reached rs (is_held old) v
  pub noted : AreNoted rs new
  pub from : ComesFrom starts rs new

-- a parent's number is below its views'
abbrev pub ParentsAreOlder : Rows → Type 0
ParentsAreOlder rs =
    (v p : ℕ) → has rs v ≡ true → parent_of (row_at rs v) ≡ Some p → p < v

-- what is left are rows that were there, among them all that stand; this one is gone if it doesn't
-- stand, and so is the parent of each that is, if that doesn't
pub record IsFallen (id : ℕ) (old : Rows) (hs : Counts) (new : Rows) (gs : Counts) : Type 0 where
  pub rows : new ≡ staying (has new) old
  pub keeps : (v : ℕ) → has old v ≡ true → stands hs v ≡ true → has new v ≡ true
  pub standing : (v : ℕ) → stands gs v ≡ stands hs v
  pub counts : (v : ℕ) → count gs v ≡ count hs v
  pub first : stands hs id ≡ false → has new id ≡ false
  pub climbs :
      (c p : ℕ) → has old c ≡ true → has new c ≡ false → parent_of (row_at old c) ≡ Some p
      → stands hs p ≡ false → has new p ≡ false
  pub noted : AreNoted new gs

-- arrays are held as the counts say: those that no held one reaches are gone, what is left is held
-- as before, and none of it can go
pub record IsLetGo (old : Rows) (counts : ℕ → ℕ) (new : Rows) (gs : Counts) : Type 0 where
  pub swept :
      (held : List ℕ) → ((v : ℕ) → is_listed held v ≡ nat_lt 0 (counts v))
      → Means new (sweep (world_of old) held)
  pub left : IsLeft old new
  pub beside : Beside new gs
  pub counts_are : (v : ℕ) → has new v ≡ true → count gs v ≡ counts v
  pub tight : AreTight [] new gs
