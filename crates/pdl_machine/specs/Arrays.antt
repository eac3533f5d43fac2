-- The arrays that a statement works on, and what is seen of one of them.
use Rattle.std.specs.Prelude.{ℕ, ◌+◌, [], ◌∷◌}
use Rattle.pdl_buf.specs.declared.made.Made.{Made}
use Rattle.pdl_world.specs.World.{World, ArrayDef, ty_in, dims_in, elements}

-- A world, and the number of the next array.
pub record Arrays : Type 0 where
  pub world : World
  pub next : ℕ

abbrev pub no_arrays : Arrays
no_arrays = record { world = []; next = 0 }

-- with one more array, which gets the next number; and that number
abbrev pub with_new : Arrays → ArrayDef → Arrays × ℕ
with_new a d = (record { world = (a.next, d) ∷ a.world; next = a.next + 1 }, a.next)

-- what is seen of an array: its type, its dimensions, and its elements in the order of positions
abbrev pub array_in : Arrays → ℕ → Made
array_in a v = record { ty = ty_in a.world v; dims = dims_in a.world v; elems = elements a.world v }
