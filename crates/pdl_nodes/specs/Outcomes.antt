-- What can be lent on a path, what is outdated, what waits, and what leaves the world as it is.
use Rattle.std.specs.Prelude.{◌≡◌, ℕ, ◌==◌, true, All, Option}
use Rattle.pdl_shape.specs.Shape.{size_of}
use Rattle.pdl_world.specs.Paths.{path}
use Rattle.pdl_nodes.specs.Owed.{owed, size_if}
use Rattle.pdl_nodes.specs.Rows.{Rows, row_at}
use Rattle.pdl_nodes.specs.Alike.{IsAlike, KeepsMarks, is_fresh_in}
use Rattle.pdl_nodes.specs.Families.{InOrder}
use Rattle.pdl_nodes.specs.Known.{AreKnown}
use Rattle.pdl_nodes.specs.Worlds.{shape, world_of}

-- each array on the path of v can be lent
abbrev pub PathIsFresh : Rows → ℕ → Type 0
PathIsFresh rs v = All (λ u. is_fresh_in rs u ≡ true) (path (shape rs) v)

-- the number of elements of a view that is its own base and isn't marked
abbrev pub outdated_at : Rows → ℕ → ℕ
outdated_at rs u =
    let r = row_at rs u in
    owed (r.base == u) (r.root == u) r.mark (size_of r.triple.dims)

-- the number of elements that wait
abbrev pub waiting_size : Rows → Option ℕ → ℕ
waiting_size rs o = size_if (λ v. (row_at rs v).triple.dims) o

-- the world is the same, and no mark is lost
pub record IsReady (old new : Rows) : Type 0 where
  pub order : InOrder new
  pub known : AreKnown new
  pub world : world_of new ≡ world_of old
  pub alike : IsAlike old new
  pub marks : KeepsMarks old new

-- what waits in the family of v
abbrev pub waiting_of : Rows → ℕ → Option ℕ
waiting_of rs v = (row_at rs (row_at rs v).root).waiting
