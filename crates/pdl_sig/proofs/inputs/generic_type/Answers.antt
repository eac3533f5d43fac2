use Rattle.std.proofs.Common.{None}
use Rattle.pdl_sig.specs.Resolution.{highest_from, handed}
use Rattle.pdl_sig.proofs.ResolutionSteps.{highest_more}
use Rattle.pdl_sig.proofs.inputs.generic_type.Goals as goal

pub loop-place-preserved : goal.loop-place-preserved
loop-place-preserved c =
    highest_more c.args.args.now c.args.given.now c.loop-place.place c.input.result.now c.index-given-place.result
    c.loop-place.found c.higher-found.result (highest_from None (handed c.args.args.now c.args.given.now))
    (record { inside = c.loop-place-test.true; count = c.requires; arg = c.input.ensures c.input.result.now; shape = c.index-given-place.is })
    c.higher-found.ensures c.loop-place.invariant
