use Rattle.std.proofs.Common.{◌≡◌, ◌+◌, drop}
use Rattle.std.specs.Prelude.{option_map, bytes_eq}
use Rattle.pdl_code.specs.Scope.{place_by, bytes_of}
use Rattle.pdl_code.proofs.scope.dim.Given as goal

abbrev pub invariant-loop-k : goal.invariant-loop-k
invariant-loop-k l =
    place_by (λ x. bytes_eq x (bytes_of l.source l.fn.word)) (l.signature.names) ≡ option_map (λ i. l.k + i) (place_by (λ x. bytes_eq x (bytes_of l.source l.fn.word)) (drop l.k (l.signature.names)))
