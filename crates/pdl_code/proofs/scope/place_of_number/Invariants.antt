use Rattle.std.proofs.Common.{◌≡◌, ◌+◌, drop}
use Rattle.std.specs.Prelude.{option_map, nat_eq}
use Rattle.pdl_code.specs.Scope.{place_by}
use Rattle.pdl_code.proofs.scope.place_of_number.Given as goal

abbrev pub invariant-loop-k : goal.invariant-loop-k
invariant-loop-k l =
    place_by (λ other. nat_eq other l.number) l.numbers ≡ option_map (λ i. l.k + i) (place_by (λ other. nat_eq other l.number) (drop l.k l.numbers))
