use Rattle.std.proofs.Common.{◌≡◌, ◌+◌, drop}
use Rattle.std.specs.Prelude.{option_map, bytes_eq}
use Rattle.pdl_code.specs.Scope.{place_by, bare}
use Rattle.pdl_code.proofs.scope.argument.Given as goal

abbrev pub invariant-loop-k : goal.invariant-loop-k
invariant-loop-k l =
    place_by (λ x. bytes_eq x.name (bare l.source l.fn.name)) (l.signature.args) ≡ option_map (λ i. l.k + i) (place_by (λ x. bytes_eq x.name (bare l.source l.fn.name)) (drop l.k (l.signature.args)))
