-- What rows mean: a world, with the elements of each root as of the last assignment.
use Rattle.std.specs.Prelude.{◌≡◌, ℕ, ℤ, true, List, [], ◌∷◌, Option, Some, None}
use Rattle.pdl_elem.specs.declared.Ty.{Ty}
use Rattle.pdl_shape.specs.Places.{write}
use Rattle.pdl_world.specs.World.{World, ArrayDef, root, view}
pub use Rattle.pdl_world.specs.World.{places_in}
use Rattle.pdl_nodes.specs.declared.origin.Origin.{Origin}
use Rattle.pdl_nodes.specs.declared.origin.Origin.TheVariants.{Root, View}
use Rattle.pdl_nodes.specs.Row.{Row}
use Rattle.pdl_nodes.specs.Rows.{Rows, row_at, has}

abbrev pub def_from : Ty → List ℕ → Origin → ArrayDef
def_from ty ds Root = root ty ds []
def_from ty ds (View p t y) = view p t

-- the record of an array, a root without its elements
abbrev pub def_of : Row → ArrayDef
def_of r = def_from r.ty r.triple.dims r.origin

-- the records alone
abbrev pub shape : Rows → World
shape [] = []
shape ((k, r) ∷ rs) = (k, def_of r) ∷ shape rs

-- the world with these elements of each root
abbrev pub with_elements : (ℕ → List ℤ) → World → World
with_elements f [] = []
with_elements f ((k, root ty ds es) ∷ w) = (k, root ty ds (f k)) ∷ with_elements f w
with_elements f ((k, view p t) ∷ w) = (k, view p t) ∷ with_elements f w

abbrev pub places_seen : Rows → ℕ → List (Option ℕ)
places_seen rs v = places_in (shape rs) v

abbrev pub latest_from : Rows → ℕ → Option ℕ → List ℤ
latest_from rs r None = (row_at rs r).kept
latest_from rs r (Some v) = write (places_seen rs v) (row_at rs v).kept (row_at rs r).kept

-- the elements of the root r: what is kept of it, with the values that wait assigned
abbrev pub latest : Rows → ℕ → List ℤ
latest rs r = latest_from rs r (row_at rs r).waiting

abbrev pub world_of : Rows → World
world_of rs = with_elements (latest rs) (shape rs)

-- r is a root
abbrev pub IsRoot : Rows → ℕ → Type 0
IsRoot rs r = (has rs r ≡ true) × ((row_at rs r).root ≡ r)
