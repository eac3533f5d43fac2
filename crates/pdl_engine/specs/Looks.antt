-- The arrays of a world one after another, and how its views were made.
use Rattle.std.specs.Prelude.{ℕ, ◌+◌, ◌==◌, if◌then◌else◌, List, [], ◌∷◌, ◌++◌, Option, Some, None}
use Rattle.pdl_world.specs.declared.Trans.{Trans}
use Rattle.pdl_world.specs.World.{World, root, view}

-- the numbers of all arrays, the oldest first
abbrev pub array_numbers : World → List ℕ
array_numbers [] = []
array_numbers ((k, d) ∷ w) = array_numbers w ++ k ∷ []

-- the number behind this one, and 0 behind none
abbrev pub past : Option ℕ → ℕ
past None = 0
past (Some v) = v + 1

-- the transformation of a view; nothing for a root, and for a number that no array has
abbrev pub trans_in : World → ℕ → Option Trans
trans_in [] v = None
trans_in ((k, root ty ds es) ∷ w) v = if k == v then None else trans_in w v
trans_in ((k, view p t) ∷ w) v = if k == v then Some t else trans_in w v
