-- How many elements are outdated on a path.
use Rattle.std.specs.Prelude.{ℕ, sum_by}
use Rattle.pdl_world.specs.Paths.{path}
use Rattle.pdl_nodes.specs.Rows.{Rows}
use Rattle.pdl_nodes.specs.Worlds.{shape}
use Rattle.pdl_nodes.specs.Outcomes.{outdated_at}

-- how many elements the views on the path of v have that are their own base and aren't marked
abbrev pub outdated : (rs : Rows) (v : ℕ) → ℕ
outdated rs v = sum_by (outdated_at rs) (path (shape rs) v)
