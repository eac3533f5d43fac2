use Rattle.std.proofs.Common.{◌≡◌, ◌++◌, ◌-◌, map, length}
use Rattle.std.specs.List.{range_with_len}
use Rattle.pdl_shape.specs.Shape.{size_of}
use Rattle.pdl_shape.specs.Places.{AllBelow}
use Rattle.pdl_choice.specs.Rounds.{numbers_at, placed}
use Rattle.pdl_choice.proofs.windows.push_corners.Given as goal

abbrev pub invariant-loop-number : goal.invariant-loop-number
invariant-loop-number l =
    (l.places.items ≡ l.fn.places.items ++ map (λ q. placed l.edge l.parent (numbers_at l.ind (length l.at - 1) q) l.at) (range_with_len 0 l.number))
    × (AllBelow (size_of l.parent) l.fn.places.items → AllBelow (size_of l.parent) l.places.items)
