-- One more row.
use Rattle.std.specs.Prelude.{◌≡◌, ℕ, ℤ, true, false, List, length, Option, None, Result, Ok, Err, []}
use Rattle.pdl_elem.specs.declared.Ty.{Ty}
use Rattle.pdl_shape.specs.Shape.{size_of, IsDims}
use Rattle.pdl_world.specs.World.{ArrayDef, root, view}
use Rattle.pdl_nodes.specs.declared.origin.Origin.{Origin}
use Rattle.pdl_nodes.specs.declared.origin.Origin.TheVariants.{Root, View}
use Rattle.pdl_nodes.specs.Row.{Row, shown_of}
use Rattle.pdl_nodes.specs.declared.node.Shown.{Shown}
use Rattle.pdl_nodes.specs.Rows.{Rows, NumbersBelow}
use Rattle.pdl_nodes.specs.Still.{StillFrom, IsDerived, base_over, triple_over}
use Rattle.pdl_shape.specs.Refusals.{Refusal}
use Rattle.pdl_shape.specs.Triple.{Triple, IsTriple}
use Rattle.pdl_world.specs.Formula.{child_dims}
use Rattle.pdl_world.specs.Windows.{over}
use Rattle.pdl_world.specs.declared.Trans.{Trans}
use Rattle.pdl_nodes.specs.declared.origin.Layout.{Layout}
use Rattle.pdl_nodes.specs.Sized.{IsLayout}

-- the row of a new array: a root that is marked, or a view that isn't
pub record IsNew (rs : Rows) (k : ℕ) (r : Row) : Type 0 where
  pub below : NumbersBelow k rs
  pub from : StillFrom rs k r r.origin
  pub nothing : r.waiting ≡ None
  pub unmarked : (r.root ≡ k → ⊥) → r.mark ≡ false
  pub marked : r.root ≡ k → r.mark ≡ true
  pub own : r.root ≡ k → r.base ≡ k
  pub flat : r.root ≡ k → r.repeats ≡ false
  pub count : r.root ≡ k → length r.kept ≡ size_of r.triple.dims

abbrev pub joined_from : Ty → (dims : List ℕ) → (elems : List ℤ) → Origin → ArrayDef
joined_from ty ds es Root = root ty ds es
joined_from ty ds es (View p t y) = view p t

-- the record that it adds to the world
abbrev pub joined_def : Row → ArrayDef
joined_def r = joined_from r.ty r.triple.dims r.kept r.origin

-- a new view of p, of which a is kept
pub record IsNewView (k p : ℕ) (t : Trans) (a r : Row) : Type 0 where
  pub layout : Layout
  pub origin : r.origin ≡ View p t layout
  pub derived : IsDerived k a r t layout
  pub triple : IsTriple r.triple
  pub limits : IsDims r.triple.dims
  pub laid : IsLayout t a.triple.dims layout
  pub unmarked : r.mark ≡ false
  pub nothing : r.waiting ≡ None
  pub unlisted : r.places ≡ None
  pub bare : r.kept ≡ []

-- no dimensions where a formula refuses
abbrev pub dims_or : Result (List ℕ) Refusal → List ℕ
dims_or (Ok ds) = ds
dims_or (Err e) = []

-- the triple by which a view is shown over the base that this triple shows its parent over
abbrev pub over_from : Origin → (above : Triple) → Option Triple
over_from Root above = None
over_from (View p t y) above = over t above

-- the dimensions of a view of a parent of these
abbrev pub dims_from : Origin → (parent : List ℕ) → List ℕ
dims_from Root parent = []
dims_from (View p t y) parent = dims_or (child_dims t parent)

-- the row of a view k of this origin and type whose parent stands so: it keeps nothing yet
abbrev pub shown_row : (k : ℕ) → Origin → Ty → (above : Shown) → Row
shown_row k o ty a = record {
  origin = o;
  ty = ty;
  root = a.root;
  base = base_over k a.base (over_from o a.triple);
  triple = triple_over (dims_from o a.triple.dims) (over_from o a.triple);
  kept = [];
  mark = false;
  repeats = false;
  places = None;
  waiting = None;
}

-- the row of a view k of p, of which a is kept
abbrev pub view_row : (k p : ℕ) → Trans → Layout → (a : Row) → Row
view_row k p t y a = shown_row k (View p t y) a.ty (shown_of p a)

-- a view of this origin is laid over a parent of these dimensions
abbrev pub LaidOver : Origin → (parent : List ℕ) → Type 0
LaidOver Root parent = Unit {0}
LaidOver (View p t y) parent = IsLayout t parent y
