-- index: the parent's first dimension looked up by an array of coordinates (PDL::Slices, index).
use Rattle.std.specs.Prelude.{ℕ, List, [], ◌∷◌, get_or, position, Option, None, is_none, Result, Err, ℤ, pos}
use Rattle.std.specs.Option.{option_map_or, unwrap_or}
use Rattle.pdl_shape.specs.Broadcast.{join, cut_to}
use Rattle.pdl_shape.specs.Shape.{position_of}
use Rattle.pdl_shape.specs.Counting.{from_end}
use Rattle.pdl_shape.specs.Limits.{checked_dims}
use Rattle.pdl_shape.specs.Refusals.{Refusal, bad_dimension, mismatch}
use Rattle.pdl_choice.specs.Choice.{unless_outside}

-- the first index value that stands for no coordinate of a dimension of size n
abbrev pub first_outside : ℕ → List ℤ → Option ℕ
first_outside n ind = position (λ v. is_none (from_end v n)) ind

-- the first index value that stands for no coordinate of the parent's first dimension
abbrev pub index_outside : List ℕ → List ℤ → Option ℕ
index_outside [] ind = None
index_outside (n ∷ rest) ind = first_outside n ind

-- the parent's dimensions past its first, met with the index array's
abbrev pub index_dims : List ℕ → List ℕ → List ℤ → Result (List ℕ) Refusal
index_dims [] ind_dims ind = Err bad_dimension
index_dims (n ∷ rest) ind_dims ind =
    option_map_or (λ met. unless_outside (first_outside n ind) (checked_dims met))
    (join ind_dims rest) (Err mismatch)

-- along the first dimension the index value at these coordinates, along the others the
-- coordinates; both broadcast
abbrev pub index_source : (parent ind_dims : List ℕ) → (ind : List ℤ) → (at : List ℕ) → List ℕ
index_source [] ind_dims ind at = []
index_source (n ∷ rest) ind_dims ind at =
    unwrap_or (from_end (get_or ind (position_of ind_dims (cut_to ind_dims at)) (pos 0)) n) 0
    ∷ cut_to rest at
