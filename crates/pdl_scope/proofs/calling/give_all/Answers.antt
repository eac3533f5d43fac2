use Rattle.pdl_scope.proofs.ScopeKernels.{next_is, given_more}
use Rattle.pdl_scope.proofs.calling.give_all.Goals as goal

pub give-requires : goal.give-requires
give-requires c =
    next_is c.args.run.now c.loop-id.run c.args.engine.now c.args.ids.now c.loop-id.id-index c.lend.result c.loop-id-test.true c.loop-id.invariant c.requires.resolved c.lend.ensures

pub loop-id-preserved : goal.loop-id-preserved
loop-id-preserved c =
    given_more c.args.run.now c.loop-id.run c.give-in-loop-id.new.self c.args.engine.now c.args.ids.now c.loop-id.id-index c.lend.result c.loop-id-test.true c.loop-id.invariant c.lend.ensures c.in_ok-give.ensures.ok
