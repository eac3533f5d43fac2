use Rattle.std.proofs.Common.{◌≡◌, None, map, take}
use Rattle.pdl_reduce.proofs.products.nothing_fixed.Given as goal

abbrev pub invariant-loop-letter : goal.invariant-loop-letter
invariant-loop-letter l = l.fixed.items ≡ map (λ b. None) (take l._letter-index l.letters)
