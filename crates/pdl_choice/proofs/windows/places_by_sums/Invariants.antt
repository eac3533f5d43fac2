-- The places of the positions before this one.
use Rattle.std.proofs.Common.{◌≡◌, ◌*◌, ◌%◌, ◌/◌, map, length}
use Rattle.std.specs.List.{range_with_len}
use Rattle.pdl_shape.specs.Shape.{coordinates_of}
use Rattle.pdl_choice.specs.Rounds.{numbers_at}
use Rattle.pdl_choice.proofs.RangePlaces.{rounds, window_position}
use Rattle.pdl_choice.proofs.windows.places_by_sums.Given as goal

abbrev pub invariant-loop-round : goal.invariant-loop-round
invariant-loop-round l = record {
  at : l.at.items ≡ coordinates_of (rounds l.parent l.windows) l._round;
  places : l.places.items ≡ map (λ p. window_position l.edge l.parent l.windows (numbers_at l.ind (length l.windows) (p % l.corners)) (p / l.corners)) (range_with_len 0 (l.corners * l._round));
}
