use Rattle.std.proofs.Common.{rules}
use Rattle.pdl_choice.proofs.ShapeSteps.{shown, carried_none, carried_more, moved_on, all_carried}
use Rattle.pdl_choice.proofs.rounds.move_on.Goals as goal

pub loop-dimension-init : goal.loop-dimension-init
loop-dimension-init c = carried_none c.shape_laws.ensures.positions _ _ c.requires

pub bounds-coordinates-dimension : goal.bounds-coordinates-dimension
bounds-coordinates-dimension c = (shown _ _ _ _ _ c.requires c.loop-dimension-test.true c.loop-dimension.invariant).inside

pub overflow_add-next : goal.overflow_add-next
overflow_add-next c =
    let s = shown _ _ _ _ _ c.requires c.loop-dimension-test.true c.loop-dimension.invariant in
    search (rules, s.below)

pub bounds-coordinates-dimension-then-next-size : goal.bounds-coordinates-dimension-then-next-size
bounds-coordinates-dimension-then-next-size c = (shown _ _ _ _ _ c.requires c.loop-dimension-test.true c.loop-dimension.invariant).inside

pub bounds-coordinates-dimension-in-loop-dimension : goal.bounds-coordinates-dimension-in-loop-dimension
bounds-coordinates-dimension-in-loop-dimension c = (shown _ _ _ _ _ c.requires c.loop-dimension-test.true c.loop-dimension.invariant).inside

pub loop-dimension-preserved : goal.loop-dimension-preserved
loop-dimension-preserved c = carried_more _ _ _ _ _ c.requires c.loop-dimension-test.true c.if-next-size.false c.loop-dimension.invariant

pub returns-then-next-size : goal.returns-then-next-size
returns-then-next-size c = moved_on _ _ _ _ _ c.requires c.loop-dimension-test.true c.if-next-size.true c.loop-dimension.invariant

pub returns : goal.returns
returns c = all_carried _ _ _ _ c.loop-dimension-test.false c.loop-dimension.invariant
