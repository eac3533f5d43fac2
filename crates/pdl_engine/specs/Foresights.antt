-- What an assignment will write, and what an array shows before it and after it.
use Rattle.std.specs.Prelude.{◌≡◌, ℕ, ◌<◌, ◌==◌, if◌then◌else◌, ℤ, pos, true, List, [], ◌∷◌, length, get_or, slice_get, Option, Some, None}
use Rattle.std.specs.Option.{unwrap_or}
use Rattle.std.specs.Ordering.{nat_cmp}
use Rattle.std.specs.BTreeMap.{get}
use Rattle.pdl_shape.specs.Places.{write}
use Rattle.pdl_shape.specs.Shape.{size_of}
use Rattle.pdl_world.specs.Paths.{root_of}
use Rattle.pdl_world.specs.Sound.{IsLive}
use Rattle.pdl_world.specs.World.{World, assign, elements, places_in, root_elements}
use Rattle.pdl_nodes.specs.Alike.{is_fresh_in}
use Rattle.pdl_nodes.specs.Families.{InOrder}
use Rattle.pdl_nodes.specs.Known.{AreKnown}
use Rattle.pdl_nodes.specs.Rows.{Rows, row_at, has}
use Rattle.pdl_engine.specs.declared.foreseeing.Foreseen.{Foreseen}
use Rattle.pdl_engine.specs.declared.foreseeing.Foresight.{Foresight}
use Rattle.pdl_engine.specs.declared.by_place.Written.{Written}
use Rattle.pdl_engine.specs.declared.by_place.Written.TheVariants.{Image, Each, Few}

-- what an assignment leaves at a place: the element there, or the value that is written, if one is
abbrev pub written_at : Written → (p : ℕ) → Option ℤ
written_at (Image xs) p = slice_get xs.items p
written_at (Each xs) p = get_or xs.items p None
written_at (Few m) p = get nat_cmp m p

-- a value can be written at the place
abbrev pub HasRoom : Written → (p : ℕ) → Type 0
HasRoom (Image xs) p = p < length xs.items
HasRoom (Each xs) p = p < length xs.items
HasRoom (Few m) p = Unit {0}

-- what is written at place p once x was put at its place
abbrev pub put_at : Option ℕ → (x : ℤ) → (p : ℕ) → Option ℤ → Option ℤ
put_at None x p was = was
put_at (Some i) x p was = if i == p then Some x else was

-- the element at a place after what is written, where x was it before
abbrev pub element_after : Written → Option ℕ → (x : ℤ) → ℤ
element_after w None x = x
element_after w (Some p) x = unwrap_or (written_at w p) x

-- the elements at the places, where these were they before
abbrev pub elements_after : Written → List (Option ℕ) → List ℤ → List ℤ
elements_after w [] xs = []
elements_after w (p ∷ ps) [] = []
elements_after w (p ∷ ps) (x ∷ xs) = element_after w p x ∷ elements_after w ps xs

-- what the values leave at each place of these elements is what w says, or else the element that was
-- there
abbrev pub Tells : (es : List ℤ) → Written → (places : List (Option ℕ)) → (values : List ℤ)
    → Type 0
Tells es w ps vs =
    (p : ℕ) → p < length es
    → get_or (write ps vs es) p (pos 0) ≡ unwrap_or (written_at w p) (get_or es p (pos 0))

-- nothing is written yet over these elements, and at each of their places a value can be
pub record IsUnwritten (es : List ℤ) (w : Written) : Type 0 where
  pub room : (p : ℕ) → p < length es → HasRoom w p
  pub tells : Tells es w [] []

-- f tells what an assignment of these values to v will write
pub record Foretells (w : World) (v : ℕ) (vs : List ℤ) (f : Foresight) : Type 0 where
  pub live : IsLive w v
  pub root : f.root ≡ root_of w v
  pub written : Tells (root_elements w f.root) f.written (places_in w v) vs

-- what u shows before an assignment of these values to v and after it; nothing where it stays
abbrev pub IsForeseen : World → (v : ℕ) → (vs : List ℤ) → (u : ℕ) → Option Foreseen → Type 0
IsForeseen w v vs u None = elements (assign w v vs) u ≡ elements w u
IsForeseen w v vs u (Some f) =
    (f.before.items ≡ elements w u) × (f.after.items ≡ elements (assign w v vs) u)

-- v can be lent, and there is a value for each of its positions
pub record CanForetell (rs : Rows) (v : ℕ) (vs : List ℤ) : Type 0 where
  pub order : InOrder rs
  pub known : AreKnown rs
  pub target : has rs v ≡ true
  pub fresh : is_fresh_in rs v ≡ true
  pub count : length vs ≡ size_of (row_at rs v).triple.dims
