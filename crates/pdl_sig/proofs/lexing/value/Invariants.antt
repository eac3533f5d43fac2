use Rattle.std.proofs.Common.{◌≡◌, ◌≤◌, ◌+◌, min, drop}
use Rattle.pdl_shape.specs.Shape.{extent_limit}
use Rattle.pdl_sig.specs.Grammar.{value_after}
use Rattle.pdl_sig.proofs.lexing.value.Given as goal

abbrev pub invariant-loop-digit : goal.invariant-loop-digit
invariant-loop-digit l = record {
  bound : l.value ≤ extent_limit + 1;
  cut : min (value_after l.value (drop l.digit-index l.digits)) (extent_limit + 1) ≡ min (value_after 0 l.digits) (extent_limit + 1);
}
