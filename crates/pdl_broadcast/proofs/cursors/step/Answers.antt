use Rattle.std.proofs.Common.{rules}
use Rattle.pdl_broadcast.proofs.CursorSteps.{moved_on, rolled_all, rolled_more, seen}
use Rattle.pdl_broadcast.proofs.cursors.step.Goals as goal

pub bounds-coordinates-dimension : goal.bounds-coordinates-dimension
bounds-coordinates-dimension c = (seen c.shape_laws.ensures.positions _ _ _ _ c.requires c.loop-dimension-test.true c.loop-dimension.invariant).inside

pub overflow_add-next : goal.overflow_add-next
overflow_add-next c =
    let s = seen c.shape_laws.ensures.positions _ _ _ _ c.requires c.loop-dimension-test.true c.loop-dimension.invariant in
    search (rules, s.below)

pub bounds-coordinates-dimension-then-next-size : goal.bounds-coordinates-dimension-then-next-size
bounds-coordinates-dimension-then-next-size c = (seen c.shape_laws.ensures.positions _ _ _ _ c.requires c.loop-dimension-test.true c.loop-dimension.invariant).inside

pub bounds-coordinates-dimension-in-loop-dimension : goal.bounds-coordinates-dimension-in-loop-dimension
bounds-coordinates-dimension-in-loop-dimension c = (seen c.shape_laws.ensures.positions _ _ _ _ c.requires c.loop-dimension-test.true c.loop-dimension.invariant).inside

pub loop-dimension-preserved : goal.loop-dimension-preserved
loop-dimension-preserved c = rolled_more c.shape_laws.ensures.positions _ _ _ _ c.requires c.loop-dimension-test.true c.if-next-size.false c.loop-dimension.invariant

pub returns-then-next-size-clause-moved : goal.returns-then-next-size-clause-moved
returns-then-next-size-clause-moved c = (moved_on c.shape_laws.ensures.positions _ _ _ _ c.requires c.loop-dimension-test.true c.if-next-size.true c.loop-dimension.invariant).moved

pub returns-then-next-size-clause-rolled : goal.returns-then-next-size-clause-rolled
returns-then-next-size-clause-rolled c = (moved_on c.shape_laws.ensures.positions _ _ _ _ c.requires c.loop-dimension-test.true c.if-next-size.true c.loop-dimension.invariant).rolled

pub returns-clause-moved : goal.returns-clause-moved
returns-clause-moved c = (rolled_all c.shape_laws.ensures.positions _ _ _ _ c.requires c.loop-dimension-test.false c.loop-dimension.auto.dimension-end c.loop-dimension.invariant).moved

pub returns-clause-rolled : goal.returns-clause-rolled
returns-clause-rolled c = (rolled_all c.shape_laws.ensures.positions _ _ _ _ c.requires c.loop-dimension-test.false c.loop-dimension.auto.dimension-end c.loop-dimension.invariant).rolled
