use Rattle.std.proofs.Common.{ℕ, Option, sym, subst}
use Rattle.std.specs.Prelude.{IfSome}
use Rattle.pdl_world.specs.Sound.{IsLive}
use Rattle.pdl_machine.specs.Watches.{attached}
use Rattle.pdl_scope.specs.Scope.{Scope as Seen}
use Rattle.pdl_scope.proofs.ScopeNames.{live_found}
use Rattle.pdl_scope.proofs.scope.Scope.number_of.Goals as goal

pub returns-clause-live : goal.returns-clause-live
returns-clause-live c =
    let w = c.self.inside.engine.world in
    let P : Seen → Type 0 = λ s. IfSome c.get.result (IsLive s.arrays.world) in
    let Q : Option ℕ → Type 0 = λ o. IfSome o (IsLive w) in
    subst P c.self.view_is (subst Q (sym c.get.ensures) (live_found w c.self.inside.names.entries (attached c.self.inside.watches.items) c.args.name.now c.self.invariant.whole.live))
