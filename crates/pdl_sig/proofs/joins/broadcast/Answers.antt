use Rattle.std.proofs.Common.{List, ℕ, [], length, drop, ap, ap₂, ◌∙◌}
use Rattle.pdl_shape.specs.Broadcast.{join}
use Rattle.pdl_sig.specs.Resolution.{joined_with, handed}
use Rattle.pdl_sig.proofs.ResolutionSteps.{joined_next, joined_never}
use Rattle.pdl_sig.proofs.joins.broadcast.Goals as goal

pub returns-in_err-joined-clause-joined : goal.returns-in_err-joined-clause-joined
returns-in_err-joined-clause-joined c =
    rw c.from_residual.ensures (joined_never c.args.args.now c.args.given.now c.loop-place.place c.input.result.now c.index-given-place.result c.loop-place.joined.items c.sizes_after-outer.result.now
    (joined_with [] (handed c.args.args.now c.args.given.now))
    (record { inside = c.loop-place-test.true; count = c.requires; arg = c.input.ensures c.input.result.now; shape = c.index-given-place.is })
    (c.sizes_after-outer.ensures ∙ ap₂ (λ (x : List ℕ) (y : List ℕ). drop (length x) y) c.as_slice-count.ensures c.dims_list.ensures.list)
    (c.in_err-joined.ensures.joined ∙ ap (λ (x : List ℕ). join x c.sizes_after-outer.result.now) c.as_slice.ensures)
    c.loop-place.invariant.same)

pub loop-place-preserved : goal.loop-place-preserved
loop-place-preserved c = record {
  few = c.in_ok-joined.ensures.count;
  same = joined_next c.args.args.now c.args.given.now c.loop-place.place c.input.result.now c.index-given-place.result c.loop-place.joined.items c.sizes_after-outer.result.now c.in_ok-joined.joined.items
      (joined_with [] (handed c.args.args.now c.args.given.now))
      (record { inside = c.loop-place-test.true; count = c.requires; arg = c.input.ensures c.input.result.now; shape = c.index-given-place.is })
      (c.sizes_after-outer.ensures ∙ ap₂ (λ (x : List ℕ) (y : List ℕ). drop (length x) y) c.as_slice-count.ensures c.dims_list.ensures.list)
      (c.in_ok-joined.ensures.joined ∙ ap (λ (x : List ℕ). join x c.sizes_after-outer.result.now) c.as_slice.ensures)
      c.loop-place.invariant.same;
}
