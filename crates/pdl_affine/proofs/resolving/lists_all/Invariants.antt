use Rattle.std.proofs.Common.{◌≡◌, ◌-◌}
use Rattle.std.specs.List.{list_all, range_with_len}
use Rattle.pdl_affine.specs.Views.{lists}
use Rattle.pdl_affine.proofs.resolving.lists_all.Given as goal

abbrev pub invariant-loop-place : goal.invariant-loop-place
invariant-loop-place l = list_all (λ i. lists l.places i) (range_with_len 0 l.count) ≡ list_all (λ i. lists l.places i) (range_with_len l.place (l.count - l.place))
