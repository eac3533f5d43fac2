-- Assignments in parts: values for the positions of an array from one on.
use Rattle.std.specs.Prelude.{◌≡◌, ℕ, ◌<◌, ℤ, List, drop, get_or, Option, Some, None}
use Rattle.pdl_shape.specs.Places.{write}
use Rattle.pdl_world.specs.World.{World, Look, look, root_elements, set_elements}

abbrev pub assign_part_through : World → Option Look → (first : ℕ) → (values : List ℤ) → World
assign_part_through w None first vs = w
assign_part_through w (Some l) first vs =
    set_elements w l.root (write (drop first l.places) vs (root_elements w l.root))

-- the world after the values were assigned to the positions of an array from one on, in rising order
abbrev pub assign_part : World → (v first : ℕ) → (values : List ℤ) → World
assign_part w v first vs = assign_part_through w (look w v) first vs

-- no place that is written at a position is read at a later one
abbrev pub IsReadBefore : (written read : List (Option ℕ)) → Type 0
IsReadBefore ps qs =
    (j k i : ℕ) → j < k → get_or ps j None ≡ Some i → get_or qs k None ≡ Some i → ⊥
