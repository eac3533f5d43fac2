use Rattle.std.proofs.Common.{◌≡◌, ◌*◌, ◌%◌, ◌/◌, map, length}
use Rattle.std.specs.List.{range_with_len}
use Rattle.pdl_shape.specs.Shape.{size_of, coordinates_of}
use Rattle.pdl_shape.specs.Places.{AllBelow}
use Rattle.pdl_choice.specs.Rounds.{numbers_at}
use Rattle.pdl_choice.proofs.RangePlaces.{rounds, window_position}
use Rattle.pdl_choice.proofs.windows.places_one_by_one.Given as goal

abbrev pub invariant-loop-round : goal.invariant-loop-round
invariant-loop-round l =
    (l.at.items ≡ coordinates_of (rounds l.parent l.windows) l._round)
    × (l.places.items ≡ map (λ p. window_position l.edge l.parent l.windows (numbers_at l.ind (length l.windows) (p % l.corners)) (p / l.corners)) (range_with_len 0 (l.corners * l._round)))
    × AllBelow (size_of l.parent) l.places.items
