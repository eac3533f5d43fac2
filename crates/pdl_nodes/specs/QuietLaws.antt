-- Laws of changes that leave what is derived of each row, within one family: an assignment,
-- writing back and filling are such changes.
use Rattle.std.specs.Prelude.{drop, ◌≡◌, ℕ, ℤ, List, true}
use Rattle.pdl_shape.specs.Places.{write}
use Rattle.pdl_world.specs.Parts.{assign_part}
use Rattle.pdl_nodes.specs.Alike.{IsAlike}
use Rattle.pdl_nodes.specs.Families.{InFamily, InOrder}
use Rattle.pdl_nodes.specs.Quiet.{IsQuiet, LeavesOthers}
use Rattle.pdl_nodes.specs.Row.{Row}
use Rattle.pdl_nodes.specs.Rows.{Rows, each, has, row_at}
use Rattle.pdl_nodes.specs.Worlds.{latest, places_seen, world_of}

pub record QuietLaws : Type 0 where
  -- rows are alike after a change that leaves what is derived
  pub is_alike : (f : ℕ → Row → Row) (rs : Rows) → IsQuiet f → IsAlike rs (each f rs)
  -- each array has the root that it had
  pub root_each :
      (f : ℕ → Row → Row) (rs : Rows) (v : ℕ) → IsQuiet f
      → (row_at (each f rs) v).root ≡ (row_at rs v).root
  -- and the root's places that it had
  pub places_each :
      (f : ℕ → Row → Row) (rs : Rows) (v : ℕ) → IsQuiet f
      → places_seen (each f rs) v ≡ places_seen rs v
  -- rows in order stay so where the change is within a family that is in order afterwards
  pub order_each :
      (rt : ℕ) (f : ℕ → Row → Row) (rs : Rows) → IsQuiet f → LeavesOthers rt f rs → InOrder rs
      → InFamily (each f rs) rt → InOrder (each f rs)
  -- and mean the same world where the elements of the family's root stay
  pub world_same :
      (rt : ℕ) (f : ℕ → Row → Row) (rs : Rows) → IsQuiet f → LeavesOthers rt f rs → InOrder rs
      → latest (each f rs) rt ≡ latest rs rt → world_of (each f rs) ≡ world_of rs
  -- or the world in which values are assigned to an array of it, where its root has these then
  pub world_assigned :
      (rt : ℕ) (f : ℕ → Row → Row) (rs : Rows) (v : ℕ) (first : ℕ) (vs : List ℤ) → IsQuiet f
      → LeavesOthers rt f rs → InOrder rs → has rs v ≡ true → (row_at rs v).root ≡ rt
      → latest (each f rs) rt ≡ write (drop first (places_seen rs v)) vs (latest rs rt)
      → world_of (each f rs) ≡ assign_part (world_of rs) v first vs
