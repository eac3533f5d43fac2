-- The position of its parent that a view shows at a position.
use Rattle.std.specs.Prelude.{ℕ, Option, Some}
use Rattle.pdl_nodes.specs.Assigned.{entry}
use Rattle.pdl_nodes.specs.declared.origin.Layout.{Layout}
use Rattle.pdl_nodes.specs.declared.origin.Layout.TheVariants.{Plan, Choice}

-- the parent's position at position i of a view that is its own base: a plan's is i itself, a
-- choice's stands in its list
abbrev pub own_at : (layout : Layout) → (i : ℕ) → Option ℕ
own_at (Plan p) i = Some i
own_at (Choice c) i = entry c.places i
