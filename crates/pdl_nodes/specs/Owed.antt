-- One rule for rows and for the state that they are seen as: what a view owes, and how much waits.
use Rattle.std.specs.Prelude.{ℕ, ◌&&◌, not, if◌then◌else◌, Bool, List, Option, Some, None}
use Rattle.pdl_shape.specs.Shape.{size_of}

-- how many elements an array has, if it is a view that is its own base and can't be lent
abbrev pub owed : (own root fresh : Bool) → (size : ℕ) → ℕ
owed own root fresh size = if own && not root then (if fresh then 0 else size) else 0

-- how many elements wait in a view, if one waits
abbrev pub size_if : (dims : ℕ → List ℕ) → (waiting : Option ℕ) → ℕ
size_if dims None = 0
size_if dims (Some v) = size_of (dims v)
