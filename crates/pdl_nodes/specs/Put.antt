-- Values that are put into the root or the base of an array.
use Rattle.std.specs.Prelude.{◌≡◌, ◌+◌, ◌≤◌, ℕ, ℤ, List, length, drop, map, Option, true, All}
use Rattle.pdl_elem.specs.Types.{InRange}
use Rattle.pdl_shape.specs.Places.{write}
use Rattle.pdl_shape.specs.Shape.{size_of}
use Rattle.pdl_nodes.specs.Alike.{is_fresh_in}
use Rattle.pdl_nodes.specs.Assigned.{seen}
use Rattle.pdl_nodes.specs.Changes.{kept_in}
use Rattle.pdl_nodes.specs.Families.{InOrder}
use Rattle.pdl_nodes.specs.Known.{AreKnown}
use Rattle.pdl_nodes.specs.Row.{Row, goal_of, shown_of}
use Rattle.pdl_nodes.specs.Rows.{Rows, row_at, has}
use Rattle.pdl_nodes.specs.Spots.{spots}
use Rattle.pdl_nodes.specs.Worlds.{places_seen}
use Rattle.pdl_nodes.specs.declared.node.Goal.{Goal}
use Rattle.pdl_nodes.specs.declared.node.Goal.TheVariants.{Root, Base}

-- where those of v go
abbrev pub goal_at : Goal → Rows → (v : ℕ) → ℕ
goal_at g rs v = goal_of g (shown_of v (row_at rs v))

-- the places of v there: its own in the root, or the base's positions that have one
abbrev pub places_at : Goal → Rows → (v : ℕ) → List (Option ℕ)
places_at Root rs v = places_seen rs v
places_at Base rs v = map (seen (places_seen rs (row_at rs v).base)) (spots (row_at rs v).triple)

-- what is kept there once values were put at the positions of v from one on
abbrev pub put_at : Goal → Rows → (v first : ℕ) → (values : List ℤ) → List ℤ
put_at g rs v first vs =
    write (drop first (places_at g rs v)) vs (row_at rs (goal_at g rs v)).kept

-- and each row then
abbrev pub put_in : Goal → Rows → (v first : ℕ) → (values : List ℤ) → (k : ℕ) → Row → Row
put_in g rs v first vs = kept_in (goal_at g rs v) (put_at g rs v first vs)

-- rows are in order, v can be lent, and values in its type's range fit it from a position on
pub record IsWrite (rs : Rows) (v first : ℕ) (vs : List ℤ) : Type 0 where
  pub order : InOrder rs
  pub known : AreKnown rs
  pub live : has rs v ≡ true
  pub fresh : is_fresh_in rs v ≡ true
  pub within : first + length vs ≤ size_of (row_at rs v).triple.dims
  pub in_range : All (InRange (row_at rs v).ty) vs
