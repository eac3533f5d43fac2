use Rattle.std.proofs.Common.{sym, subst}
use Rattle.pdl_machine.specs.State.{AreLive}
use Rattle.pdl_scope.proofs.ScopeFlows.{reads_at}
use Rattle.pdl_scope.proofs.watching.read_count.Goals as goal

pub count_all-requires : goal.count_all-requires
count_all-requires c =
    let w = c.args.engine.now.world in
    subst (AreLive w) (sym c.reads.ensures) (reads_at w c.args.flows.now c.loop-flow.flow-index c.flow-item.result c.requires c.loop-flow-test.true c.flow-item.is)
