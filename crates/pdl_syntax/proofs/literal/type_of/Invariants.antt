use Rattle.std.proofs.Common.{◌≡◌, nat_lt, nat_abs, drop}
use Rattle.std.specs.List.{list_any}
use Rattle.pdl_lexemes.specs.Limits.{long_limit}
use Rattle.pdl_syntax.proofs.literal.type_of.Given as goal

abbrev pub invariant-loop-z : goal.invariant-loop-z
invariant-loop-z l =
    list_any (λ z. nat_lt long_limit (nat_abs z)) l.elems ≡ list_any (λ z. nat_lt long_limit (nat_abs z)) (drop l.z-index l.elems)
