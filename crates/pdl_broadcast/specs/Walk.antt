-- One walk through the coordinates of a broadcast, with a place per argument (PDL::Broadcasting).
use Rattle.std.specs.Prelude.{ℕ, ℤ, List}
use Rattle.pdl_shape.specs.Broadcast.{cut_to}
use Rattle.pdl_shape.specs.Shape.{coordinates_of}
use Rattle.pdl_shape.specs.Triple.{Triple, place_of}
use Rattle.pdl_broadcast.specs.declared.walk.TheConstants.{ARGUMENTS}

-- a new walk has room for so many arguments
abbrev pub arguments_room : ℕ
arguments_room = ARGUMENTS

-- the broadcast's dimensions, the arguments' triples in the order in which they
-- were added, and how many coordinates are behind
pub record Walk : Type 0 where
  pub dims : List ℕ
  pub triples : List Triple
  pub index : ℕ

-- the coordinates where a walk stands, dimension 0 fastest
abbrev pub standing_at : Walk → List ℕ
standing_at w = coordinates_of w.dims w.index

-- the coordinates that an argument uses there: cut to its dimensions, with 0 where its size is 1
abbrev pub argument_coordinates : Walk → Triple → List ℕ
argument_coordinates w t = cut_to t.dims (standing_at w)

-- the place in an argument's elements there, by its triple
abbrev pub argument_place : Walk → Triple → ℤ
argument_place w t = place_of t (argument_coordinates w t)
