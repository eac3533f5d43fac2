-- How the layouts of all views below an array are made anew, for other dimensions of it, the oldest
-- view first.
use Rattle.std.specs.Prelude.{◌≡◌, ◌⊎◌, ℕ, ◌<◌, true, List, Option, Some, None, IsSomeAnd}
use Rattle.pdl_world.specs.BreakLaws.{IsDerivedBelow}
use Rattle.pdl_world.specs.Cut.{reshape}
use Rattle.pdl_world.specs.declared.Trans.{Trans}
use Rattle.pdl_world.specs.Paths.{path}
use Rattle.pdl_world.specs.Swept.{is_listed}
use Rattle.pdl_world.specs.World.{dims_in}
use Rattle.pdl_nodes.specs.declared.origin.Layout.{Layout}
use Rattle.pdl_nodes.specs.declared.origin.Origin.TheVariants.{View}
use Rattle.pdl_nodes.specs.Renewed.{Fits, Layouts, layout_at}
use Rattle.pdl_nodes.specs.Rows.{Rows, row_at, has}
use Rattle.pdl_nodes.specs.Sized.{HasDims}
use Rattle.pdl_nodes.specs.Worlds.{world_of}

-- the layouts of all views below v and below a bound are made, and no other
pub record IsRelaying (ls : Layouts) (rs : Rows) (v : ℕ) (ds : List ℕ) (bound : ℕ) : Type 0 where
  pub done :
      (k p : ℕ) (t : Trans) (y : Layout) → has rs k ≡ true → k < bound
      → (row_at rs k).origin ≡ View p t y → is_listed (path (world_of rs) p) v ≡ true
      → IsSomeAnd (layout_at ls k) (Fits t (dims_in (reshape (world_of rs) v ds) p))
  pub only :
      (k : ℕ) (x : Layout) → layout_at ls k ≡ Some x
      → (k ≡ v → ⊥) × ((fs : List ℕ) → HasDims x fs → IsDerivedBelow (world_of rs) v ds k fs)

-- these are the new dimensions of p: those of v where it is v, and else those of its new layout, if
-- it has one
abbrev pub AreNewDims : Layouts → (v : ℕ) → (dims : List ℕ) → (p : ℕ) → (new : Option (List ℕ)) →
    Type 0
AreNewDims ls v ds p None = (p ≡ v → ⊥) × (layout_at ls p ≡ None)
AreNewDims ls v ds p (Some es) =
    ((p ≡ v) × (es ≡ ds)) ⊎ IsSomeAnd (layout_at ls p) (λ y. HasDims y es)
