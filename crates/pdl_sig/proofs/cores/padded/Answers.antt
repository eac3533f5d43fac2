use Rattle.std.proofs.Common.{ℕ, map, refl, ap}
use Rattle.pdl_sig.proofs.ResolutionSteps.{pushed, core_at}
use Rattle.pdl_sig.proofs.cores.padded.Goals as goal

pub loop-place-preserved : goal.loop-place-preserved
loop-place-preserved c =
    pushed _ _ _ _ _ _ c.in_ok-push.ensures.items
    (ap (map (λ (p : ℕ × ℕ). p.1)) (core_at _ _ _ _ _ c.loop-place-test.true refl c.size_along.ensures))
    c.loop-place.invariant
