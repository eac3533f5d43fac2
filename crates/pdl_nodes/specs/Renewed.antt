-- An array that becomes a root, by a cut or by other dimensions: each view that reaches it is
-- derived anew, and keeps nothing yet.
use Rattle.std.specs.Prelude.{◌≡◌, ℕ, ℤ, ◌==◌, if◌then◌else◌, Bool, true, false, List, [], ◌∷◌, length, Option, Some, None}
use Rattle.std.specs.Option.{unwrap_or}
use Rattle.std.specs.Ordering.{nat_cmp}
use Rattle.std.specs.Map.{lookup}
use Rattle.std.specs.BTreeMap.{is_at}
use Rattle.pdl_shape.specs.Shape.{IsDims, size_of}
use Rattle.pdl_world.specs.Cut.{reshape}
use Rattle.pdl_world.specs.declared.Trans.{Trans}
use Rattle.pdl_world.specs.Paths.{path}
use Rattle.pdl_world.specs.Swept.{is_listed}
use Rattle.pdl_world.specs.World.{dims_in}
use Rattle.pdl_nodes.specs.declared.origin.Layout.{Layout}
use Rattle.pdl_nodes.specs.declared.origin.Origin.{Origin}
use Rattle.pdl_nodes.specs.declared.origin.Origin.TheVariants.{Root, View}
use Rattle.pdl_nodes.specs.Families.{InOrder}
use Rattle.pdl_nodes.specs.Row.{Row, root_row}
use Rattle.pdl_nodes.specs.Rows.{Rows, row_at, has}
use Rattle.pdl_nodes.specs.Sized.{AreSized, HasDims, IsLayout}
use Rattle.pdl_nodes.specs.Joined.{view_row}
use Rattle.pdl_nodes.specs.Worlds.{world_of}

-- layouts that were made anew, by the numbers of their views
abbrev pub Layouts : Type 0
Layouts = List (ℕ × Layout)

-- the layout that was made anew for k, if one was
abbrev pub layout_at : (anew : Layouts) → (k : ℕ) → Option Layout
layout_at ls k = lookup (is_at (nat_cmp k)) ls

-- it, or else its own
abbrev pub laid_by : (anew : Layouts) → (k : ℕ) → (own : Layout) → Layout
laid_by ls k y = unwrap_or (layout_at ls k) y

-- a view with this layout, if one is given
abbrev pub with_layout : Origin → (anew : Option Layout) → Origin
with_layout Root new = Root
with_layout (View p t y) new = View p t (unwrap_or new y)

-- what becomes of the row of k over the older rows as they are then, in which the root v stands
abbrev pub renewed : (anew : Layouts) → (older : Rows) → (v k : ℕ) → Row → Origin → Row
renewed ls rest v k r Root = r
renewed ls rest v k r (View p t y) =
    if (row_at rest p).root == v then view_row k p t (laid_by ls k y) (row_at rest p) else r

-- the rows in which v is a root of these dimensions and elements
abbrev pub renew : (anew : Layouts) → Rows → (v : ℕ) → (dims : List ℕ) → (elems : List ℤ) → Rows
renew ls [] v ds es = []
renew ls ((k, r) ∷ rs) v ds es =
    let rest = renew ls rs v ds es in
    (k, if k == v then root_row k r.ty ds es else renewed ls rest v k r r.origin) ∷ rest

-- whether there is a parent, and its root is v: a view with this parent is derived anew
abbrev pub is_of : Rows → (v : ℕ) → (parent : Option ℕ) → Bool
is_of rs v None = false
is_of rs v (Some p) = (row_at rs p).root == v

-- the row of u is renewed, over the rows as they are
abbrev pub renewed_in : (anew : Layouts) → (v : ℕ) → (now : Rows) → (u k : ℕ) → Row → Row
renewed_in ls v rs u k r = if k == u then renewed ls rs v u r r.origin else r

-- v becomes a root of these dimensions and elements
abbrev pub rooted_in : (v : ℕ) → (dims : List ℕ) → (elems : List ℤ) → (k : ℕ) → Row → Row
rooted_in v ds es k r = if k == v then root_row v r.ty ds es else r

-- the layout is that of the transformation on a parent of these dimensions, and its own dimensions
-- are within the limits: what a layout in hand tells
pub record Fits (t : Trans) (parent : List ℕ) (y : Layout) : Type 0 where
  pub dims : List ℕ
  pub layout : IsLayout t parent y
  pub has_dims : HasDims y dims
  pub limits : IsDims dims

-- the view k of the root v has its layout over the older rows
abbrev pub LaidAnew : (anew : Layouts) → (older : Rows) → (v k : ℕ) → Origin → Type 0
LaidAnew ls rest v k Root = Unit {0}
LaidAnew ls rest v k (View p t y) =
    (row_at rest p).root ≡ v → Fits t (row_at rest p).triple.dims (laid_by ls k y)

-- each view that is derived anew has its layout on the dimensions that its parent has then
abbrev pub AreLaid : (anew : Layouts) → Rows → (v : ℕ) → (dims : List ℕ) → (elems : List ℤ) → Type 0
AreLaid ls [] v ds es = Unit {0}
AreLaid ls ((k, r) ∷ rs) v ds es =
    LaidAnew ls (renew ls rs v ds es) v k r.origin × AreLaid ls rs v ds es

-- v can become a root of these dimensions and elements
pub record CanRenew
    (ls : Layouts) (rs : Rows) (v : ℕ) (ds : List ℕ) (es : List ℤ) : Type 0 where
  pub order : InOrder rs
  pub sized : AreSized rs
  pub live : has rs v ≡ true
  pub nothing : (row_at rs (row_at rs v).root).waiting ≡ None
  pub limits : IsDims ds
  pub count : length es ≡ size_of ds
  pub laid : AreLaid ls rs v ds es

-- by numbers and in words of the world: each view that reaches v by parents has its layout on the
-- dimensions that its parent has once v has these
abbrev pub AreRelaid : (anew : Layouts) → Rows → (v : ℕ) → (dims : List ℕ) → Type 0
AreRelaid ls rs v ds =
    (k p : ℕ) (t : Trans) (y : Layout) → has rs k ≡ true → (row_at rs k).origin ≡ View p t y
    → is_listed (path (world_of rs) p) v ≡ true
    → Fits t (dims_in (reshape (world_of rs) v ds) p) (laid_by ls k y)

-- the view u can be derived anew over the rows as they are: its parent is there, and where that is
-- of the root v, its layout is over the parent's dimensions
abbrev pub CanDerive : (anew : Layouts) → (now : Rows) → (v u : ℕ) → Type 0
CanDerive ls rs v u =
    (p : ℕ) (t : Trans) (y : Layout) → (row_at rs u).origin ≡ View p t y
    → (has rs p ≡ true)
    × ((row_at rs p).root ≡ v → IsLayout t (row_at rs p).triple.dims (laid_by ls u y))

-- a view can be cut: nothing waits in its family, and these are its dimensions and as many elements
pub record CanCut (rs : Rows) (v : ℕ) (ds : List ℕ) (es : List ℤ) : Type 0 where
  pub order : InOrder rs
  pub sized : AreSized rs
  pub live : has rs v ≡ true
  pub nothing : (row_at rs (row_at rs v).root).waiting ≡ None
  pub dims_are : (row_at rs v).triple.dims ≡ ds
  pub count : length es ≡ size_of ds

-- an array can get other dimensions with layouts that were made over these
pub record CanReshape (ls : Layouts) (rs : Rows) (v : ℕ) (ds : List ℕ) (es : List ℤ) : Type 0 where
  pub order : InOrder rs
  pub sized : AreSized rs
  pub live : has rs v ≡ true
  pub nothing : (row_at rs (row_at rs v).root).waiting ≡ None
  pub limits : IsDims ds
  pub count : length es ≡ size_of ds
  pub relaid : AreRelaid ls rs v ds
