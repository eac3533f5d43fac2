use Rattle.std.proofs.Common.{◌+◌, ◌++◌, ap, ap₂, ◌∙◌}
use Rattle.pdl_sig.specs.Resolution.{core, cores, handed}
use Rattle.pdl_sig.proofs.ResolutionSteps.{joined_lists, left, left_found}
use Rattle.pdl_sig.proofs.cores.cores.Goals as goal

pub loop-place-preserved : goal.loop-place-preserved
loop-place-preserved c =
    let args = c.args.args.now in
    let given = c.args.given.now in
    let place = c.loop-place.place in
    joined_lists c.loop-place.found.items c.add_core.new.found.items (core c.input.result.now.dims c.index-given-place.result.dims)
    (cores (left args given place)) (cores (handed args given)) (cores (left args given (place + 1)))
    (c.in_ok-add_core.ensures ∙ ap₂ (λ x y. c.loop-place.found.items ++ core x y) c.as_slice.ensures c.dims_list.ensures.list)
    (ap cores (left_found args given place c.input.result.now c.index-given-place.result
    (record { inside = c.loop-place-test.true; count = c.requires; arg = c.input.ensures c.input.result.now; shape = c.index-given-place.is })))
    c.loop-place.invariant
