-- When the marks and the kept elements of a family are those of the world.
use Rattle.std.specs.Prelude.{◌≡◌, ℕ, true, false, length, Some, None}
use Rattle.pdl_shape.specs.Shape.{size_of}
use Rattle.pdl_shape.specs.Places.{read}
use Rattle.pdl_world.specs.World.{World}
pub use Rattle.pdl_world.specs.World.{is_among, has_repeats}
use Rattle.pdl_nodes.specs.Rows.{Rows, row_at, has}
use Rattle.pdl_nodes.specs.Worlds.{places_seen, latest, world_of, IsRoot}
use Rattle.pdl_nodes.specs.Still.{IsStill}

-- a marked array is its own base, and keeps what the world says
pub record IsMarked (rs : Rows) (b : ℕ) : Type 0 where
  pub own : (row_at rs b).base ≡ b
  pub shows : (row_at rs b).kept ≡ read (places_seen rs b) (latest rs (row_at rs b).root)
  pub flag : (row_at rs b).repeats ≡ has_repeats (places_seen rs b)

-- the elements of v wait in the family of r: v is a choice view without repeats, and alone is
-- marked
pub record IsWaiting (rs : Rows) (r v : ℕ) : Type 0 where
  pub live : has rs v ≡ true
  pub marked : (row_at rs v).mark ≡ true
  pub of_root : (row_at rs v).root ≡ r
  pub not_root : v ≡ r → ⊥
  pub once : has_repeats (places_seen rs v) ≡ false
  pub only : (u : ℕ) → (row_at rs u).mark ≡ true → (row_at rs u).root ≡ r → u ≡ v

-- the family of r is in order: each marked base keeps what the world says, and the root is marked
-- where nothing waits
pub record InFamily (rs : Rows) (r : ℕ) : Type 0 where
  pub marked : (b : ℕ) → (row_at rs b).mark ≡ true → (row_at rs b).root ≡ r → IsMarked rs b
  pub waits : (v : ℕ) → (row_at rs r).waiting ≡ Some v → IsWaiting rs r v
  pub lasts : (row_at rs r).waiting ≡ None → (row_at rs r).mark ≡ true
  pub count : length (row_at rs r).kept ≡ size_of (row_at rs r).triple.dims
  pub flat : (row_at rs r).repeats ≡ has_repeats (places_seen rs r)

pub record InOrder (rs : Rows) : Type 0 where
  pub still : IsStill rs
  pub family : (r : ℕ) → IsRoot rs r → InFamily rs r

-- the rows are in order, and mean this world
abbrev pub Means : Rows → World → Type 0
Means rs w = InOrder rs × (world_of rs ≡ w)
