-- Where values go over a base: to the root's places, or to the base's own.
use Rattle.std.specs.Prelude.{ℕ, List, Option, Some, None, map}
use Rattle.std.specs.List.{range_with_len}
use Rattle.pdl_shape.specs.Triple.{Triple}
use Rattle.pdl_nodes.specs.declared.node.Goal.{Goal}
use Rattle.pdl_nodes.specs.declared.node.Goal.TheVariants.{Root, Base}
use Rattle.pdl_nodes.specs.Assigned.{entry, seen_at}
use Rattle.pdl_nodes.specs.Spots.{spots}

-- so many places, each position's its own
abbrev pub in_order : ℕ → List (Option ℕ)
in_order n = map Some (range_with_len 0 n)

-- the root's place at a base's place: of a root the place itself, else what is known
abbrev pub placed : Option (List (Option ℕ)) → ℕ → Option ℕ
placed None q = Some q
placed (Some ps) q = entry ps q

-- the root's places that a triple shows over a base, in the order of positions
abbrev pub placed_by : Option (List (Option ℕ)) → Triple → List (Option ℕ)
placed_by known t = map (placed known) (spots t)

-- where a base's place goes: to the root's, or to itself if it has one in the root
abbrev pub goes_to : Goal → Option (List (Option ℕ)) → ℕ → Option ℕ
goes_to Root known q = placed known q
goes_to Base known q = seen_at (placed known q) q

-- and those that a triple shows over the base, in the order of positions
abbrev pub goes_by : Goal → Option (List (Option ℕ)) → Triple → List (Option ℕ)
goes_by g known t = map (goes_to g known) (spots t)
