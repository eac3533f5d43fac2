use Rattle.std.proofs.Common.{◌≡◌, ◌+◌, drop}
use Rattle.std.specs.Prelude.{option_map, bytes_eq}
use Rattle.pdl_code.specs.Scope.{place_by, bytes_of}
use Rattle.pdl_code.proofs.scope.slot.Given as goal

abbrev pub invariant-loop-k : goal.invariant-loop-k
invariant-loop-k l =
    place_by (λ x. bytes_eq (bytes_of l.source x.word) (bytes_of l.source l.fn.word)) (l.locals) ≡ option_map (λ i. l.k + i) (place_by (λ x. bytes_eq (bytes_of l.source x.word) (bytes_of l.source l.fn.word)) (drop l.k (l.locals)))
