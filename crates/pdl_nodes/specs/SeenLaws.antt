-- Laws of rows that are still: what the row of an array says of it.
use Rattle.std.specs.List.{range_with_len}
use Rattle.std.specs.Prelude.{◌≡◌, ◌+◌, ◌<◌, ◌≤◌, ◌∷◌, ℕ, ℤ, List, Option, Some, None, true, length, map}
use Rattle.pdl_nodes.specs.Alike.{is_fresh_in}
use Rattle.pdl_nodes.specs.Families.{InOrder}
use Rattle.pdl_nodes.specs.Known.{AreKnown}
use Rattle.pdl_nodes.specs.Outcomes.{PathIsFresh}
use Rattle.pdl_nodes.specs.Placed.{placed_by}
use Rattle.pdl_nodes.specs.Row.{Row, is_buffered, parent_of}
use Rattle.pdl_nodes.specs.Rows.{Falls, Rows, has, row_at}
use Rattle.pdl_nodes.specs.Seen.{IsSeen, IsViewAt, path_from}
use Rattle.pdl_nodes.specs.Sized.{AreSized, IsWithinLimits}
use Rattle.pdl_nodes.specs.Spots.{Below}
use Rattle.pdl_nodes.specs.Still.{IsStill}
use Rattle.pdl_nodes.specs.Worlds.{IsRoot, latest, places_seen, shape, with_elements, world_of}
use Rattle.pdl_nodes.specs.declared.origin.Layout.{Layout}
use Rattle.pdl_nodes.specs.declared.origin.Origin.TheVariants.{View}
use Rattle.pdl_shape.specs.Places.{read, write}
use Rattle.pdl_shape.specs.Shape.{size_of}
use Rattle.pdl_world.specs.Paths.{path}
use Rattle.pdl_world.specs.World.{World, elements, look, dims_in, ty_in}
use Rattle.pdl_world.specs.declared.Trans.{Trans}

pub record SeenLaws : Type 0 where
  -- the row of an array tells of it what the world does
  pub is_seen : (rs : Rows) → IsStill rs → (v : ℕ) → has rs v ≡ true → IsSeen rs v
  -- the numbers fall
  pub falls : (rs : Rows) → IsStill rs → Falls rs
  -- the root of an array is a root
  pub root_live :
      (rs : Rows) (rt v : ℕ) → IsStill rs → has rs v ≡ true → (row_at rs v).root ≡ rt
      → IsRoot rs rt
  -- a root is its own base
  pub root_own : (rs : Rows) (rt : ℕ) → IsStill rs → IsRoot rs rt → (row_at rs rt).base ≡ rt
  -- an array without a parent is its own root
  pub parentless :
      (rs : Rows) (v : ℕ) → IsStill rs → has rs v ≡ true → parent_of (row_at rs v) ≡ None
      → (row_at rs v).root ≡ v
  -- the base of an array is there
  pub base_live :
      (rs : Rows) (b v : ℕ) → IsStill rs → has rs v ≡ true → (row_at rs v).base ≡ b
      → has rs b ≡ true
  -- the parent of a view is there, and older
  pub parent_live :
      (rs : Rows) (v p : ℕ) → IsStill rs → has rs v ≡ true → parent_of (row_at rs v) ≡ Some p
      → (has rs p ≡ true) × (p < v)
  -- and has the same root
  pub parent_root :
      (rs : Rows) (v p : ℕ) → IsStill rs → has rs v ≡ true → parent_of (row_at rs v) ≡ Some p
      → (row_at rs p).root ≡ (row_at rs v).root
  -- the row of a view is derived of that of its parent
  pub view_at :
      (rs : Rows) → IsStill rs → (v p : ℕ) (t : Trans) (y : Layout) → has rs v ≡ true
      → (row_at rs v).origin ≡ View p t y → IsViewAt rs v p t y
  -- the path of an array is itself, and then the path of its parent, if it has one
  pub path_is :
      (rs : Rows) → IsStill rs → (v : ℕ) → has rs v ≡ true
      → path (shape rs) v ≡ v ∷ path_from rs (parent_of (row_at rs v))
  -- where each array on its path can be lent it can
  pub path_first :
      (rs : Rows) (v : ℕ) → IsStill rs → has rs v ≡ true → PathIsFresh rs v
      → is_fresh_in rs v ≡ true
  -- the places of an array that can be lent are those that its triple shows over what is known of
  -- its base
  pub over_known :
      (rs : Rows) (v : ℕ) → InOrder rs → AreKnown rs → has rs v ≡ true → is_fresh_in rs v ≡ true
      → placed_by (row_at rs (row_at rs v).base).places (row_at rs v).triple ≡ places_seen rs v
  -- the elements of an array are read at its places, from the latest of its root
  pub elements_are :
      (rs : Rows) (v : ℕ) → IsStill rs → has rs v ≡ true
      → elements (world_of rs) v ≡ read (places_seen rs v) (latest rs (row_at rs v).root)
  -- its type is that of the row, and so are its dimensions
  pub ty_are :
      (rs : Rows) (v : ℕ) → IsStill rs → has rs v ≡ true
      → ty_in (world_of rs) v ≡ (row_at rs v).ty
  pub dims_are :
      (rs : Rows) (v : ℕ) → IsStill rs → has rs v ≡ true
      → dims_in (world_of rs) v ≡ (row_at rs v).triple.dims
  -- at the places of a root all of a list is read that is as long
  pub root_shows :
      (rs : Rows) (r : ℕ) (es : List ℤ) → IsStill rs → IsRoot rs r
      → length es ≡ size_of (row_at rs r).triple.dims → read (places_seen rs r) es ≡ es
  -- the latest elements of a root are those that it keeps, where nothing waits
  pub latest_none :
      (rs : Rows) (r : ℕ) → (row_at rs r).waiting ≡ None → latest rs r ≡ (row_at rs r).kept
  -- and else these with what waits written into them
  pub latest_some :
      (rs : Rows) (r v : ℕ) → (row_at rs r).waiting ≡ Some v
      → latest rs r ≡ write (places_seen rs v) (row_at rs v).kept (row_at rs r).kept
  -- they are as many as it keeps
  pub length_latest : (rs : Rows) (r : ℕ) → length (latest rs r) ≡ length (row_at rs r).kept
  -- a write leaves as many elements as there were
  pub length_write :
      (ps : List (Option ℕ)) (vs es : List ℤ) → length (write ps vs es) ≡ length es
  -- a row that is marked has a buffer
  pub mark_buffered : (r : Row) → r.mark ≡ true → is_buffered r ≡ true
  -- and so has a root
  pub root_buffered :
      (rs : Rows) → IsStill rs → (v : ℕ) → has rs v ≡ true → (row_at rs v).root ≡ v
      → is_buffered (row_at rs v) ≡ true
  -- of rows that keep what their types keep each is within the limits
  pub sized_at :
      (rs : Rows) → AreSized rs → (v : ℕ) → has rs v ≡ true → IsWithinLimits (row_at rs v)
  -- a look at a world tells nothing of elements
  pub look_with : (f : ℕ → List ℤ) (w : World) (v : ℕ) → look (with_elements f w) v ≡ look w v
  -- a number of a list is below n where all are
  pub below_at :
      (n : ℕ) (g : ℕ → ℕ) (a m q : ℕ) → Below n (map g (range_with_len a m)) → a ≤ q → q < a + m
      → g q < n
