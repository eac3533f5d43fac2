use Rattle.std.proofs.Common.{subst}
use Rattle.pdl_world.specs.Sound.{IsLive}
use Rattle.pdl_machine.specs.Watches.{attached}
use Rattle.pdl_scope.specs.Scope.{Scope as Seen}
use Rattle.pdl_scope.proofs.ScopeNames.{live_entry}
use Rattle.pdl_scope.proofs.scope.Scope.entry.Goals as goal

pub returns-clause-live : goal.returns-clause-live
returns-clause-live c =
    let P : Seen → Type 0 = λ s. IsLive s.arrays.world c.entry.result.1 in
    subst P c.self.view_is (live_entry c.self.inside.engine.world c.self.inside.names.entries (attached c.self.inside.watches.items) c.args.index c.entry.result.0.now c.entry.result.1 c.self.invariant.whole.live c.entry.ensures)
