use Rattle.std.proofs.Common.{sym, ◌∙◌}
use Rattle.std.specs.List.{list_any}
use Rattle.pdl_sig.specs.Resolution.{is_stretched, handed}
use Rattle.pdl_sig.proofs.ResolutionSteps.{any_found, any_other}
use Rattle.pdl_sig.proofs.shapes.any_stretched.Goals as goal

pub returns-then-branch : goal.returns-then-branch
returns-then-branch c =
    any_found (is_stretched c.args.sizes.now c.args.broadcast.now) c.args.args.now c.args.given.now c.loop-place.place c.input.result.now c.index-given-place.result
    (list_any (is_stretched c.args.sizes.now c.args.broadcast.now) (handed c.args.args.now c.args.given.now))
    (record { inside = c.loop-place-test.true; count = c.requires; arg = c.input.ensures c.input.result.now; shape = c.index-given-place.is })
    (sym c.in_ok-is_stretched.ensures ∙ c.if-branch.true) c.loop-place.invariant

pub loop-place-preserved : goal.loop-place-preserved
loop-place-preserved c =
    any_other (is_stretched c.args.sizes.now c.args.broadcast.now) c.args.args.now c.args.given.now c.loop-place.place c.input.result.now c.index-given-place.result
    (list_any (is_stretched c.args.sizes.now c.args.broadcast.now) (handed c.args.args.now c.args.given.now))
    (record { inside = c.loop-place-test.true; count = c.requires; arg = c.input.ensures c.input.result.now; shape = c.index-given-place.is })
    (sym c.in_ok-is_stretched.ensures ∙ c.if-branch.false) c.loop-place.invariant
