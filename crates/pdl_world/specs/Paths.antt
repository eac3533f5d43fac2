-- The way from an array to its root (PDL::Dataflow).
use Rattle.std.specs.Prelude.{ℕ, ◌==◌, if◌then◌else◌, List, [], ◌∷◌, Option, Some, None}
use Rattle.std.specs.Option.{option_map_or}
use Rattle.pdl_world.specs.declared.TheConstants.{MOST_VIEWS}
use Rattle.pdl_world.specs.World.{World, root, view, look}

-- an array has at most so many views on its path to the root, itself counted
abbrev pub depth_limit : ℕ
depth_limit = MOST_VIEWS

-- the array, its parent, the parent's parent and so on to the root; none for a
-- number that no array has
abbrev pub path : World → ℕ → List ℕ
path [] v = []
path ((k, root ty ds es) ∷ w) v = if k == v then k ∷ [] else path w v
path ((k, view p t) ∷ w) v = if k == v then k ∷ path w p else path w v

-- the parent of a view; nothing for a root, and for a number that no array has
abbrev pub parent_in : World → ℕ → Option ℕ
parent_in [] v = None
parent_in ((k, root ty ds es) ∷ w) v = if k == v then None else parent_in w v
parent_in ((k, view p t) ∷ w) v = if k == v then Some p else parent_in w v

-- the root of an array; an array that isn't there is its own
abbrev pub root_of : World → ℕ → ℕ
root_of w v = option_map_or (λ l. l.root) (look w v) v
