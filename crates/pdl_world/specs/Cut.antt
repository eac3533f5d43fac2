-- Arrays that become roots: cut from their parents, or of other dimensions
-- (PDL::Core: sever, reshape).
use Rattle.std.specs.Prelude.{ℕ, ℤ, pos, ◌==◌, if◌then◌else◌, List, [], ◌∷◌, ◌++◌, take, replicate, Bool}
use Rattle.std.specs.List.{list_any}
use Rattle.std.specs.Option.{is_none}
use Rattle.pdl_shape.specs.Shape.{size_of}
use Rattle.pdl_world.specs.Swept.{is_listed, parents}
use Rattle.pdl_world.specs.World.{World, ArrayDef, root, look, dims_in, ty_in, elements}

-- the world with this as the array v
abbrev pub replaced : World → ℕ → (new : ArrayDef) → World
replaced [] v new = []
replaced ((k, d) ∷ w) v new = (k, if k == v then new else d) ∷ replaced w v new

-- the world in which v is a root of these dimensions and elements, of its own type
abbrev pub rooted : World → ℕ → (dims : List ℕ) → (elems : List ℤ) → World
rooted w v ds es = replaced w v (root (ty_in w v) ds es)

-- the world in which v is cut from its parent: a root of its own dimensions and elements
abbrev pub sever : World → ℕ → World
sever w v = rooted w v (dims_in w v) (elements w v)

-- whether v is the parent of a view
abbrev pub has_views : World → ℕ → Bool
has_views w v = list_any (λ a. is_listed (parents a.1) v) w

-- the first n elements, with zeros after them where there are fewer
abbrev pub fitted : (n : ℕ) → List ℤ → List ℤ
fitted n es = take n (es ++ replicate n (pos 0))

-- the world in which v is a root of these dimensions that has its first elements, in order
abbrev pub reshape : World → ℕ → (dims : List ℕ) → World
reshape w v ds = rooted w v ds (fitted (size_of ds) (elements w v))

-- whether an array that is there wouldn't be seen if v had these dimensions
abbrev pub breaks : World → ℕ → (dims : List ℕ) → Bool
breaks w v ds = list_any (λ a. is_none (look (reshape w v ds) a.0)) w
