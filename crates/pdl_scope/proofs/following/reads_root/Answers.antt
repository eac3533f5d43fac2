use Rattle.std.proofs.Common.{ℕ, ◌<◌, List, length, get_or, sym, ap, subst, arith}
use Rattle.pdl_flow.specs.Formula.{arrays_in}
use Rattle.pdl_world.specs.Sound.{IsLive}
use Rattle.pdl_scope.proofs.ScopeFlows.{live_at}
use Rattle.pdl_scope.proofs.following.reads_root.Goals as goal

pub has_root-requires-clause-live : goal.has_root-requires-clause-live
has_root-requires-clause-live c =
    let ks = arrays_in c.args.flow.now.formula in
    let i = c.loop-read.read-index in
    let within : i < length ks = subst (λ (vs : List ℕ). i < length vs) c.reads-read-items.ensures c.loop-read-test.true in
    subst (λ (vs : List ℕ). IsLive c.args.engine.now.world (get_or vs i 0)) (sym c.reads-read-items.ensures) (live_at c.args.engine.now.world ks i c.requires.live within)
