use Rattle.std.proofs.Common.{◌≡◌, [], ◌∷◌, map, take}
use Rattle.pdl_reduce.proofs.products.names.Given as goal

abbrev pub invariant-loop-letter : goal.invariant-loop-letter
invariant-loop-letter l = l.names.items ≡ map (λ b. b ∷ []) (take l.letter-index l.letters)
