use Rattle.std.proofs.Common.{sym, ◌∙◌}
use Rattle.pdl_shape.proofs.BroadcastSteps.{joined_more}
use Rattle.pdl_shape.proofs.joins.join_lists.Goals as goal

pub loop-dimension-preserved : goal.loop-dimension-preserved
loop-dimension-preserved c =
    rw (c.push_reserved.ensures.items, c.push_reserved.ensures.capacity)
    (joined_more _ _ _ _ _ _ _ _ _ (record {
      inside = c.loop-dimension-test.true;
      count_is = c.max-count.ensures;
      first = c.size_along.ensures;
      second = c.size_along-in-loop-dimension.ensures;
      joined = sym c.join_sizes.ensures ∙ c.in_ok-join_sizes.was;
    }) c.loop-dimension.invariant)
