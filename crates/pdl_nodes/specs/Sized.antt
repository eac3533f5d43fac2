-- What the types of each array keep of its row.
use Rattle.std.specs.Prelude.{◌≡◌, ℕ, List, [], ◌∷◌, Option, Ok}
use Rattle.pdl_shape.specs.Places.{AllBelow, places_of}
use Rattle.pdl_shape.specs.Shape.{IsDims, size_of}
use Rattle.pdl_shape.specs.Triple.{IsTriple}
use Rattle.pdl_affine.specs.Views as affine
use Rattle.pdl_world.specs.declared.Trans.{Trans}
use Rattle.pdl_world.specs.declared.Trans.TheVariants as trans
use Rattle.pdl_world.specs.Formula.{child_dims, source}
use Rattle.pdl_nodes.specs.declared.origin.Layout.{Layout}
use Rattle.pdl_nodes.specs.declared.origin.Layout.TheVariants.{Plan, Choice}
use Rattle.pdl_nodes.specs.declared.origin.Origin.{Origin}
use Rattle.pdl_nodes.specs.declared.origin.Origin.TheVariants.{Root, View}
use Rattle.pdl_nodes.specs.Row.{Row}
use Rattle.pdl_nodes.specs.Rows.{Rows, row_at}

-- the dimensions and the parent's positions of a choice view
abbrev pub IsChosen : Trans → (parent dims : List ℕ) → (places : List (Option ℕ)) → Type 0
IsChosen t parent ds ps =
    (child_dims t parent ≡ Ok ds) × (ps ≡ places_of ds parent (source t parent))
    × AllBelow (size_of parent) ps

-- the layout is that of the transformation on a parent of these dimensions: an affine view has a
-- plan, and another view a list of places
abbrev pub IsLayout : Trans → (parent : List ℕ) → Layout → Type 0
IsLayout (trans.Affine t) parent (Plan p) = (p.trans ≡ t) × (p.parent ≡ parent)
IsLayout (trans.Affine t) parent (Choice c) = ⊥
IsLayout (trans.Index ds ind) parent (Plan p) = ⊥
IsLayout (trans.Index ds ind) parent (Choice c) =
    IsChosen (trans.Index ds ind) parent c.dims c.places
IsLayout (trans.Where ds ps) parent (Plan p) = ⊥
IsLayout (trans.Where ds ps) parent (Choice c) = IsChosen (trans.Where ds ps) parent c.dims c.places
IsLayout (trans.Range ds ind ss edge) parent (Plan p) = ⊥
IsLayout (trans.Range ds ind ss edge) parent (Choice c) =
    IsChosen (trans.Range ds ind ss edge) parent c.dims c.places

-- the dimensions of a view of this layout
abbrev pub HasDims : Layout → (dims : List ℕ) → Type 0
HasDims (Plan p) ds = affine.dims p.trans p.parent ≡ Ok ds
HasDims (Choice c) ds = ds ≡ c.dims

-- a view is laid over its parent
abbrev pub LaidFrom : Rows → Origin → Type 0
LaidFrom rs Root = Unit {0}
LaidFrom rs (View p t y) = IsLayout t (row_at rs p).triple.dims y

-- the triple shows places of a buffer, and the dimensions are within the limits
pub record IsWithinLimits (r : Row) : Type 0 where
  pub triple : IsTriple r.triple
  pub limits : IsDims r.triple.dims

-- the row is within them, and a view has its layout over its parent
pub record IsSized (rs : Rows) (r : Row) : Type 0 where
  pub within : IsWithinLimits r
  pub laid : LaidFrom rs r.origin

abbrev pub AreSized : Rows → Type 0
AreSized [] = Unit {0}
AreSized ((k, r) ∷ rs) = IsSized rs r × AreSized rs
