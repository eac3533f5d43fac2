use Rattle.std.proofs.Common.{◌≡◌, ◌∷◌, replicate}
use Rattle.pdl_image.proofs.stems.stem.Given as goal

-- so many underscores were written
abbrev pub invariant-loop : goal.invariant-loop
invariant-loop l = l.bytes.items ≡ 36 ∷ replicate l.counter 95
