use Rattle.std.proofs.Common.{sym, subst}
use Rattle.pdl_machine.specs.State.{AreLive}
use Rattle.pdl_scope.proofs.ScopeFlows.{reads_at}
use Rattle.pdl_scope.proofs.watching.reads_views.Goals as goal

pub has_view-requires : goal.has_view-requires
has_view-requires c =
    let w = c.args.engine.now.world in
    subst (AreLive w) (sym c.reads.ensures) (reads_at w c.args.flows.now c.loop-flow.flow-index c.flow-item.result c.requires c.loop-flow-test.true c.flow-item.is)
