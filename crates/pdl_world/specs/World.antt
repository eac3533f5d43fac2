-- Worlds: what is seen through an array, its elements, and assignment
-- (PDL::Indexing, PDL::Dataflow).
use Rattle.std.specs.Prelude.{ℕ, ℤ, ◌==◌, if◌then◌else◌, Bool, true, false, List, [], ◌∷◌, map, Option, Some, None, option_and_then, get_or, Result, Ok, Err}
use Rattle.std.specs.Option.{option_map_or}
use Rattle.std.specs.List.{range_with_len}
use Rattle.pdl_elem.specs.declared.Ty.{Ty}
use Rattle.pdl_elem.specs.declared.Ty.TheVariants.{Byte}
use Rattle.pdl_shape.specs.Places.{places_of, read, write}
use Rattle.pdl_shape.specs.Refusals.{Refusal}
use Rattle.pdl_shape.specs.Shape.{size_of}
use Rattle.pdl_world.specs.declared.Trans.{Trans}
use Rattle.pdl_world.specs.Formula.{child_dims, source}

-- An array: a root with its elements in the order of positions, or a view of another array.
pub data ArrayDef : Type 0 where
  root : (ty : Ty) (dims : List ℕ) (elems : List ℤ) → ArrayDef
  view : (parent : ℕ) (trans : Trans) → ArrayDef

-- The arrays by their numbers, newest first. A view's parent is older, so it
-- stands behind the view.
abbrev pub World : Type 0
World = List (ℕ × ArrayDef)

-- What is seen through an array: its root, the root's type, its own dimensions, and for each of its
-- positions the root's position there, or nothing.
pub record Look : Type 0 where
  pub root : ℕ
  pub ty : Ty
  pub dims : List ℕ
  pub places : List (Option ℕ)

-- a root sees each of its positions
abbrev pub look_of_root : ℕ → Ty → List ℕ → Look
look_of_root k ty ds = record
    { root = k; ty = ty; dims = ds; places = map Some (range_with_len 0 (size_of ds)) }

-- the root's place at a position of the parent, or nothing
abbrev pub entry : List (Option ℕ) → ℕ → Option ℕ
entry ps i = get_or ps i None

-- the root's places of a child that has these positions of its parent
abbrev pub through_places : (positions parent_places : List (Option ℕ)) → List (Option ℕ)
through_places is ps = map (option_and_then (entry ps)) is

abbrev pub seen_through : Trans → Look → Result (List ℕ) Refusal → Option Look
seen_through t l (Ok dims) =
    let places = through_places (places_of dims l.dims (source t l.dims)) l.places in
    Some (record { root = l.root; ty = l.ty; dims = dims; places = places })
seen_through t l (Err e) = None

-- what is seen through a view of what is seen
abbrev pub through : Trans → Look → Option Look
through t l = seen_through t l (child_dims t l.dims)

-- what is seen through the array v, or nothing where there is no such array
abbrev pub look : World → ℕ → Option Look
look [] v = None
look ((k, root ty ds es) ∷ w) v = if k == v then Some (look_of_root k ty ds) else look w v
look ((k, view p t) ∷ w) v =
    let below = look w (if k == v then p else v) in
    if k == v then option_and_then (through t) below else below

-- the root's place of each position of an array
abbrev pub places_in : World → ℕ → List (Option ℕ)
places_in w v = option_map_or (λ l. l.places) (look w v) []

abbrev pub is_among : ℕ → List (Option ℕ) → Bool
is_among i [] = false
is_among i (None ∷ ps) = is_among i ps
is_among i (Some j ∷ ps) = if i == j then true else is_among i ps

-- two positions have the same place; nothing isn't a place
abbrev pub has_repeats : List (Option ℕ) → Bool
has_repeats [] = false
has_repeats (None ∷ ps) = has_repeats ps
has_repeats (Some i ∷ ps) = if is_among i ps then true else has_repeats ps

-- the elements of the root r, and none where there is no such root
abbrev pub root_elements : World → ℕ → List ℤ
root_elements [] r = []
root_elements ((k, root ty ds es) ∷ w) r = if k == r then es else root_elements w r
root_elements ((k, view p t) ∷ w) r = root_elements w r

-- the world with other elements of a root
abbrev pub set_elements : World → ℕ → List ℤ → World
set_elements [] r new = []
set_elements ((k, root ty ds es) ∷ w) r new = (k, root ty ds (if k == r then new else es))
    ∷ set_elements w r new
set_elements ((k, view p t) ∷ w) r new = (k, view p t) ∷ set_elements w r new

-- the dimensions of an array
abbrev pub dims_in : World → ℕ → List ℕ
dims_in w v = option_map_or (λ l. l.dims) (look w v) []

-- the type of an array's elements, which is its root's
abbrev pub ty_in : World → ℕ → Ty
ty_in w v = option_map_or (λ l. l.ty) (look w v) Byte

-- the elements of an array, in the order of its positions
abbrev pub elements : World → ℕ → List ℤ
elements w v = option_map_or (λ l. read l.places (root_elements w l.root)) (look w v) []

abbrev pub assign_through : World → Option Look → List ℤ → World
assign_through w None vs = w
assign_through w (Some l) vs = set_elements w l.root (write l.places vs (root_elements w l.root))

-- the world after the values were assigned to the positions of an array, in rising order
abbrev pub assign : World → ℕ → List ℤ → World
assign w v vs = assign_through w (look w v) vs
