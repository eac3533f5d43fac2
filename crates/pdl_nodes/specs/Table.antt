-- A table as a list of numbers, in rising order, with their keys of a slab.
use Rattle.std.specs.Prelude.{◌≡◌, ℕ, List, [], ◌∷◌, Option, Some, None}
use Rattle.slab.specs.Slab.{Slab, get, ContainsKey}
use Rattle.pdl_registry.specs.Numbered.{Rises, value_at}
use Rattle.pdl_nodes.specs.Row.{Row}
use Rattle.pdl_nodes.specs.Rows.{Rows, no_row}

abbrev pub node_or : Option Row → Row
node_or None = no_row
node_or (Some r) = r

abbrev pub node_at : Slab Row → ℕ → Row
node_at s k = node_or (get s k)

-- entries, oldest first, put onto rows
abbrev pub rows_onto : Rows → Slab Row → List (ℕ × ℕ) → Rows
rows_onto w s [] = w
rows_onto w s (e ∷ es) = rows_onto ((e.0, node_at s e.1) ∷ w) s es

abbrev pub rows_of : Slab Row → List (ℕ × ℕ) → Rows
rows_of s es = rows_onto [] s es

-- each number has a node, and no two have the same
pub record IsTable (keys : List (ℕ × ℕ)) (nodes : Slab Row) : Type 0 where
  pub ordered : Rises keys
  pub full : (v k : ℕ) → value_at keys v ≡ Some k → ContainsKey nodes k
  pub apart : (v u k : ℕ) → value_at keys v ≡ Some k → value_at keys u ≡ Some k → v ≡ u
