-- What is kept of one array.
use Rattle.std.specs.Prelude.{◌≡◌, ℕ, ℤ, Bool, true, false, ◌||◌, List, [], Option, Some, None, IsSome, is_none}
use Rattle.std.specs.Option.{ForSome}
use Rattle.pdl_elem.specs.declared.Ty.{Ty}
use Rattle.pdl_shape.specs.Triple.{Triple, whole_triple}
use Rattle.pdl_numbers.specs.Typed.{TypedElements}
use Rattle.pdl_nodes.specs.declared.node.Goal.{Goal}
use Rattle.pdl_nodes.specs.declared.node.Goal.TheVariants as goal
use Rattle.pdl_nodes.specs.declared.node.Shown.{Shown}
use Rattle.pdl_nodes.specs.declared.origin.Origin.{Origin}
use Rattle.pdl_nodes.specs.declared.origin.Origin.TheVariants.{Root, View}

-- its origin, its type, its root; its base, and the triple over the base's elements that shows it,
-- whose dimensions are its own; of a base its elements, whether they are those of the world, and
-- whether two of its positions have one place; of a view that is its own base the root's place of
-- each position, once they were found; of a root the view whose elements wait to be written back
pub record Row : Type 0 where
  pub origin : Origin
  pub ty : Ty
  pub root : ℕ
  pub base : ℕ
  pub triple : Triple
  pub kept : List ℤ
  pub mark : Bool
  pub repeats : Bool
  pub places : Option (List (Option ℕ))
  pub waiting : Option ℕ

-- the parent of a view
abbrev pub parent_from : Origin → Option ℕ
parent_from Root = None
parent_from (View p t y) = Some p

abbrev pub parent_of : Row → Option ℕ
parent_of r = parent_from r.origin

-- where the elements of v stand
abbrev pub shown_of : (v : ℕ) → Row → Shown
shown_of v r = record { id = v; root = r.root; base = r.base; triple = r.triple }

-- the number of the array whose elements values are put into
abbrev pub goal_of : Goal → Shown → ℕ
goal_of goal.Root s = s.root
goal_of goal.Base s = s.base

-- the elements of a buffer, if there is one
abbrev pub elements_or : Option TypedElements → List ℤ
elements_or None = []
elements_or (Some b) = b.elems

abbrev pub has_buffer : Bool → Origin → Bool
has_buffer mark o = mark || is_none (parent_from o)

-- the places that are known, if any are
abbrev pub places_or : Option (List (Option ℕ)) → List (Option ℕ)
places_or None = []
places_or (Some ps) = ps

-- a marked array and a root have a buffer
abbrev pub is_buffered : Row → Bool
is_buffered r = has_buffer r.mark r.origin

-- a buffer is of the array's type, and there is one where the row says so
pub record IsNode
    (origin : Origin) (ty : Ty) (mark : Bool) (kept : Option TypedElements) : Type 0 where
  pub same_type : ForSome kept (λ b. b.ty ≡ ty)
  pub buffered : has_buffer mark origin ≡ true → IsSome kept

-- a root with these elements, which is marked
abbrev pub root_row : (k : ℕ) → Ty → (dims : List ℕ) → (elems : List ℤ) → Row
root_row k ty ds es = record {
  origin = Root;
  ty = ty;
  root = k;
  base = k;
  triple = whole_triple ds;
  kept = es;
  mark = true;
  repeats = false;
  places = None;
  waiting = None;
}
