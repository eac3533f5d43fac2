-- Arrays stretched over broadcast dimensions (PDL::Broadcasting).
use Rattle.std.specs.Prelude.{ℕ, ℤ, pos, List, map, get_or}
use Rattle.std.specs.List.{range_with_len}
use Rattle.pdl_shape.specs.Broadcast.{cut_to}
use Rattle.pdl_shape.specs.Shape.{coordinates_of, position_of, size_of}

-- the position that an array of these sizes uses at a position of the joined dimensions
abbrev pub stretched_position : (sizes joined : List ℕ) → ℕ → ℕ
stretched_position sizes joined p = position_of sizes (cut_to sizes (coordinates_of joined p))

-- the elements that it uses at each position of the joined dimensions, in broadcast order
abbrev pub stretched : (sizes joined : List ℕ) → List ℤ → List ℤ
stretched sizes joined es = map (λ p. get_or es (stretched_position sizes joined p) (pos 0))
    (range_with_len 0 (size_of joined))
