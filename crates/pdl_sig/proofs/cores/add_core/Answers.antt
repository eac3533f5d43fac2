-- One core dimension more.
use Rattle.std.proofs.Common.{refl}
use Rattle.pdl_sig.proofs.ResolutionSteps.{core_at, pushed}
use Rattle.pdl_sig.proofs.cores.add_core.Goals as goal

pub loop-place-preserved : goal.loop-place-preserved
loop-place-preserved c =
    pushed c.loop-place.found.items _ _ _ _ _ c.in_ok-push.ensures.items
    (core_at c.args.dims.now c.args.sizes.now c.loop-place.place _ _ c.loop-place-test.true refl c.size_along.ensures)
    c.loop-place.invariant
