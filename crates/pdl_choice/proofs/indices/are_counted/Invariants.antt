-- The values before this one are looked at.
use Rattle.std.proofs.Common.{◌≡◌, take}
use Rattle.std.specs.List.{list_all}
use Rattle.std.specs.Prelude.{is_some}
use Rattle.pdl_shape.specs.Counting.{from_end}
use Rattle.pdl_choice.proofs.indices.are_counted.Given as goal

abbrev pub invariant-loop-value : goal.invariant-loop-value
invariant-loop-value l = l.all ≡ list_all (λ value. is_some (from_end value l.size)) (take l.value-index l.ind)
