-- What is derived of each array from the older ones: its dimensions, type, root, base and triple.
use Rattle.std.specs.Prelude.{◌≡◌, ℕ, List, [], ◌∷◌, map, true, Option, Some, None, Ok}
use Rattle.std.specs.List.{range_with_len}
use Rattle.pdl_shape.specs.Shape.{size_of}
use Rattle.pdl_shape.specs.Places.{AllBelow, places_of}
use Rattle.pdl_shape.specs.Triple.{Triple, whole_triple}
use Rattle.pdl_numbers.specs.Shown.{place_at}
use Rattle.pdl_world.specs.declared.Trans.{Trans}
use Rattle.pdl_world.specs.Formula.{child_dims, source}
use Rattle.pdl_world.specs.Windows.{over}
use Rattle.pdl_nodes.specs.declared.origin.Layout.{Layout}
use Rattle.pdl_nodes.specs.declared.origin.Layout.TheVariants.{Plan, Choice}
use Rattle.pdl_nodes.specs.declared.origin.Origin.{Origin}
use Rattle.pdl_nodes.specs.declared.origin.Origin.TheVariants.{Root, View}
use Rattle.pdl_nodes.specs.Row.{Row}
use Rattle.pdl_nodes.specs.Rows.{Rows, row_at, has, NumbersBelow}
use Rattle.pdl_nodes.specs.Spots.{spots, Below}

-- the parent's position of each position of a view that is its own base: a plan's are the parent's
-- own
abbrev pub own_places : List ℕ → Layout → List (Option ℕ)
own_places ds (Choice c) = c.places
own_places ds (Plan p) = map Some (range_with_len 0 (size_of ds))

-- the base over the parent's, where the view can be shown over that, and else itself
abbrev pub base_over : (k above : ℕ) → Option Triple → ℕ
base_over k above None = k
base_over k above (Some t) = above

abbrev pub triple_over : List ℕ → Option Triple → Triple
triple_over ds None = whole_triple ds
triple_over ds (Some t) = t

-- its elements lie in order from place 0 on
pub record IsWhole (t : Triple) : Type 0 where
  pub is : t ≡ whole_triple t.dims
  pub in_order : spots t ≡ range_with_len 0 (size_of t.dims)

-- positions ps of the parent, all of them there, are shown over the parent's base by this triple
pub record IsThroughBase (above : Triple) (ps : List (Option ℕ)) (t : Triple) : Type 0 where
  pub at : List ℕ
  pub places : ps ≡ map Some at
  pub below : Below (size_of above.dims) at
  pub shows : spots t ≡ map (place_at above) at

-- positions ps of the parent are a view's own places, and its elements lie in order
pub record IsOwn (above : Triple) (ps own : List (Option ℕ)) (ds : List ℕ) : Type 0 where
  pub places : ps ≡ own
  pub within : AllBelow (size_of above.dims) own
  pub whole : IsWhole (whole_triple ds)

-- the view's own list of places, or the triple over the parent's base, gives these positions of the
-- parent
abbrev pub IsLaid : (above : Triple) (ps : List (Option ℕ)) (own : List (Option ℕ)) (ds : List ℕ)
    → Option Triple → Type 0
IsLaid above ps own ds None = IsOwn above ps own ds
IsLaid above ps own ds (Some t) = IsThroughBase above ps t

-- the view k by t is derived of its parent
pub record IsDerived (k : ℕ) (a r : Row) (t : Trans) (y : Layout) : Type 0 where
  pub allowed : child_dims t a.triple.dims ≡ Ok r.triple.dims
  pub ty_is : r.ty ≡ a.ty
  pub root_is : r.root ≡ a.root
  pub base_is : r.base ≡ base_over k a.base (over t a.triple)
  pub triple_is : r.triple ≡ triple_over r.triple.dims (over t a.triple)
  pub laid :
      IsLaid a.triple (places_of r.triple.dims a.triple.dims (source t a.triple.dims))
      (own_places r.triple.dims y) r.triple.dims (over t a.triple)

pub record IsRootRow (k : ℕ) (r : Row) : Type 0 where
  pub root_is : r.root ≡ k
  pub base_is : r.base ≡ k
  pub whole : IsWhole r.triple

abbrev pub StillFrom : Rows → (k : ℕ) → Row → Origin → Type 0
StillFrom rs k r Root = IsRootRow k r
StillFrom rs k r (View p t y) = (has rs p ≡ true) × IsDerived k (row_at rs p) r t y

-- numbers fall, and each array is derived from the older ones
abbrev pub IsStill : Rows → Type 0
IsStill [] = Unit {0}
IsStill ((k, r) ∷ rs) = NumbersBelow k rs × StillFrom rs k r r.origin × IsStill rs
