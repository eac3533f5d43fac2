use Rattle.std.proofs.Common.{◌≡◌, ◌*◌, Some, drop, get_or, map}
use Rattle.std.specs.List.{range_with_len}
use Rattle.pdl_shape.specs.Shape.{coordinates_of, position_of}
use Rattle.pdl_choice.specs.Index.{index_source}
use Rattle.pdl_choice.proofs.indices.index_places.Given as goal

abbrev pub invariant-loop-round : goal.invariant-loop-round
invariant-loop-round l =
    (l.at.items ≡ coordinates_of (drop 1 l.joined) l._round)
    × (l.places.items ≡ map (λ p. Some (position_of l.parent (index_source l.parent l.ind_dims l.ind (coordinates_of l.joined p)))) (range_with_len 0 (get_or l.joined 0 1 * l._round)))
