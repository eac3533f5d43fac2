-- The elements of one array that are put at the positions of another, past its base.
use Rattle.std.specs.Prelude.{◌≡◌, ◌≢◌, ℕ, ℤ, true, false, List}
use Rattle.pdl_shape.specs.Shape.{size_of}
use Rattle.pdl_world.specs.Parts.{assign_part}
use Rattle.pdl_world.specs.Sound.{IsSound}
use Rattle.pdl_nodes.specs.Alike.{IsAlike, is_fresh_in}
use Rattle.pdl_nodes.specs.Families.{InOrder}
use Rattle.pdl_nodes.specs.Known.{AreKnown}
use Rattle.pdl_nodes.specs.Rows.{Rows, has, row_at}
use Rattle.pdl_nodes.specs.Worlds.{world_of}

-- rows are in order and mean a sound world; u can be lent, is of another root than v, and has the
-- same type and as many elements
pub record CanGoThrough (rs : Rows) (v u : ℕ) : Type 0 where
  pub order : InOrder rs
  pub known : AreKnown rs
  pub sound : IsSound (world_of rs)
  pub live : has rs v ≡ true
  pub source : has rs u ≡ true
  pub fresh : is_fresh_in rs u ≡ true
  pub apart : (row_at rs u).root ≢ (row_at rs v).root
  pub same_type : (row_at rs u).ty ≡ (row_at rs v).ty
  pub count : size_of (row_at rs u).triple.dims ≡ size_of (row_at rs v).triple.dims

-- v is a view that is its own base and isn't marked
pub record IsUnmarked (rs : Rows) (v : ℕ) : Type 0 where
  pub own : (row_at rs v).base ≡ v
  pub view : (row_at rs v).root ≢ v
  pub mark : (row_at rs v).mark ≡ false

-- in other families than v's what was marked is
abbrev pub OthersStayMarked : (old : Rows) (v : ℕ) (new : Rows) → Type 0
OthersStayMarked old v new =
    (u : ℕ) → has old u ≡ true → (row_at old u).root ≢ (row_at old v).root
    → (row_at old u).mark ≡ true → (row_at new u).mark ≡ true

-- values were assigned to the first positions of v, and the world is sound; the same waits
pub record WentThrough (old : Rows) (v : ℕ) (vs : List ℤ) (new : Rows) : Type 0 where
  pub order : InOrder new
  pub known : AreKnown new
  pub world : world_of new ≡ assign_part (world_of old) v 0 vs
  pub sound : IsSound (world_of new)
  pub alike : IsAlike old new
  pub marks : OthersStayMarked old v new
  pub waits : (u : ℕ) → (row_at new u).waiting ≡ (row_at old u).waiting
