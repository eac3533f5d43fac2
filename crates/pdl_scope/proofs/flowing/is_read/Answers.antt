use Rattle.std.proofs.Common.{ℕ, List, sym, subst}
use Rattle.pdl_machine.specs.State.{AreLive}
use Rattle.pdl_scope.proofs.ScopeFlows.{reads_at}
use Rattle.pdl_scope.proofs.flowing.is_read.Goals as goal

pub reach-requires : goal.reach-requires
reach-requires c =
    let w = c.args.engine.now.world in
    let f = c.flow-item.result in
    let P : List ℕ → Type 0 = AreLive w in
    subst P (sym c.reads.ensures) (reads_at w c.args.flows.now c.loop-flow.flow-index f c.requires c.loop-flow-test.true c.flow-item.is)
