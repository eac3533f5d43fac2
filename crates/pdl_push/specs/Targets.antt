-- Where values go that are assigned, and what an assignment leaves.
use Rattle.std.specs.Prelude.{◌≡◌, ◌+◌, ◌≤◌, ℕ, ℤ, ◌==◌, true, List, length, All, Some, None, if◌then◌else◌, Bool}
use Rattle.pdl_elem.specs.Types.{InRange}
use Rattle.pdl_shape.specs.Shape.{size_of}
use Rattle.pdl_nodes.specs.Alike.{IsAlike}
use Rattle.pdl_nodes.specs.Families.{InOrder, has_repeats}
use Rattle.pdl_nodes.specs.Known.{AreKnown}
use Rattle.pdl_world.specs.Parts.{assign_part}
use Rattle.pdl_nodes.specs.Rows.{Rows, row_at, has}
use Rattle.pdl_nodes.specs.Worlds.{world_of, places_seen}

-- the base, or the root where the base has repeats
abbrev pub target_of : (repeats : Bool) → (root base : ℕ) → ℕ
target_of repeats root base = if repeats then root else base

-- where values are put that are assigned to v: in its base, or in its root where the base has
-- repeats
abbrev pub target : (rs : Rows) (v : ℕ) → ℕ
target rs v =
    let b = (row_at rs v).base in
    target_of (has_repeats (places_seen rs b)) (row_at rs v).root b

-- of the family of v the array b alone is marked, and others are marked as before
abbrev pub MarksAlone : (b : ℕ) (old : Rows) (v : ℕ) (new : Rows) → Type 0
MarksAlone b old v new =
    (u : ℕ) → has old u ≡ true
    → (row_at new u).mark
    ≡ (if (row_at old u).root == (row_at old v).root then u == b else (row_at old u).mark)

-- of the family of v the target alone is marked, and others are marked as before
abbrev pub MarksTarget : (old : Rows) (v : ℕ) (new : Rows) → Type 0
MarksTarget old v new = MarksAlone (target old v) old v new

-- values were assigned to v: in the world, and in the family b alone is marked
pub record IsAssignedAt (b : ℕ) (old : Rows) (v first : ℕ) (vs : List ℤ) (new : Rows) : Type 0 where
  pub order : InOrder new
  pub known : AreKnown new
  pub world : world_of new ≡ assign_part (world_of old) v first vs
  pub alike : IsAlike old new
  pub marks : MarksAlone b old v new

-- and the target is
abbrev pub IsAssigned : (old : Rows) (v first : ℕ) (vs : List ℤ) (new : Rows) → Type 0
IsAssigned old v first vs new = IsAssignedAt (target old v) old v first vs new

-- rows are in order, nothing waits in the family of v, and values in its type's range fit it from a
-- position on
pub record IsWriteThrough (rs : Rows) (v first : ℕ) (vs : List ℤ) : Type 0 where
  pub order : InOrder rs
  pub known : AreKnown rs
  pub live : has rs v ≡ true
  pub settled : (row_at rs (row_at rs v).root).waiting ≡ None
  pub within : first + length vs ≤ size_of (row_at rs v).triple.dims
  pub in_range : All (InRange (row_at rs v).ty) vs

-- in v's family the target waits, unless it is the root, and in other families what waited
abbrev pub WaitsTarget : (old : Rows) (v : ℕ) (new : Rows) → Type 0
WaitsTarget old v new =
    (r : ℕ) → has old r ≡ true
    → (row_at new r).waiting
    ≡ (if r == (row_at old v).root
    then (if target old v == (row_at old v).root then None else Some (target old v))
    else (row_at old r).waiting)
