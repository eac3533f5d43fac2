-- What is outdated, what it needs to be filled, and what filling leaves.
use Rattle.std.specs.Prelude.{◌≡◌, ◌≢◌, ℕ, List, true, false, Some, None, Option, is_some}
use Rattle.pdl_world.specs.Swept.{is_listed}
use Rattle.pdl_nodes.specs.Alike.{IsAlike, KeepsMarks, is_fresh_in}
use Rattle.pdl_nodes.specs.Changes.{or_known}
use Rattle.pdl_nodes.specs.Families.{InOrder}
use Rattle.pdl_nodes.specs.Known.{AreKnown}
use Rattle.pdl_nodes.specs.Row.{parent_of}
use Rattle.pdl_nodes.specs.Rows.{Rows, row_at, has}
use Rattle.pdl_nodes.specs.Worlds.{places_seen, IsRoot, world_of}

-- b is a base that isn't marked, in the family of the root rt, where nothing waits
pub record IsOutdated (rs : Rows) (rt b : ℕ) : Type 0 where
  pub order : InOrder rs
  pub root : IsRoot rs rt
  pub live : has rs b ≡ true
  pub own : (row_at rs b).base ≡ b
  pub root_is : (row_at rs b).root ≡ rt
  pub unmarked : (row_at rs b).mark ≡ false
  pub settled : (row_at rs rt).waiting ≡ None

-- the parent of v, if v has one, is fresh
abbrev pub ParentIsFresh : (rs : Rows) (v : ℕ) → Type 0
ParentIsFresh rs v = (p : ℕ) → parent_of (row_at rs v) ≡ Some p → is_fresh_in rs p ≡ true

-- once the places are noted that were found, if any were, those of b are known and right
pub record IsFound (rs : Rows) (b : ℕ) (found : Option (List (Option ℕ))) : Type 0 where
  pub some : is_some (or_known found (row_at rs b).places) ≡ true
  pub is :
      (ps : List (Option ℕ)) → or_known found (row_at rs b).places ≡ Some ps → ps ≡ places_seen rs b

-- the world and each array's definition are the same, no mark is lost, and the same waits
pub record IsKept (old new : Rows) : Type 0 where
  pub order : InOrder new
  pub known : AreKnown new
  pub world : world_of new ≡ world_of old
  pub alike : IsAlike old new
  pub marks : KeepsMarks old new
  pub waits : (v : ℕ) → (row_at new v).waiting ≡ (row_at old v).waiting

-- v was filled: all that is kept is, and v is marked
pub record IsFilled (old : Rows) (v : ℕ) (new : Rows) : Type 0 where
  pub kept : IsKept old new
  pub mark : (row_at new v).mark ≡ true

-- all rows stay but those of bases among these arrays that weren't marked
pub record FillsOnly (vs : List ℕ) (old new : Rows) : Type 0 where
  pub others : (u : ℕ) → is_listed vs u ≡ false → row_at new u ≡ row_at old u
  pub marked : (u : ℕ) → (row_at old u).mark ≡ true → row_at new u ≡ row_at old u
  pub shown : (u : ℕ) → (row_at old u).base ≢ u → row_at new u ≡ row_at old u
