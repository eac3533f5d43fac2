-- The positions of a base that have a place in the root.
use Rattle.std.specs.Prelude.{ℕ, List, Option, Some, None}
pub use Rattle.pdl_world.specs.World.{entry}

-- a position that has a place
abbrev pub seen_at : Option ℕ → ℕ → Option ℕ
seen_at None i = None
seen_at (Some q) i = Some i

abbrev pub seen : List (Option ℕ) → ℕ → Option ℕ
seen ps i = seen_at (entry ps i) i
