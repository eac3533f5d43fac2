use Rattle.std.proofs.Common.{◌≡◌, ℕ, Option, Some, None, ap, sym, subst, ◌∙◌}
use Rattle.std.specs.Prelude.{IfSome, IsTrue}
use Rattle.pdl_world.specs.declared.Trans.{Trans}
use Rattle.pdl_world.specs.Formula.{is_well_formed}
use Rattle.pdl_world.specs.Sound.{IsLive}
use Rattle.pdl_world.specs.World.{World}
use Rattle.pdl_nodes.specs.Row.{Row}
use Rattle.pdl_nodes.specs.Worlds.{world_of}
use Rattle.pdl_engine.specs.Looks.{trans_in}
use Rattle.pdl_engine.specs.State.{State}
use Rattle.pdl_engine.proofs.LookLemmas.{trans_is, trans_fits}
use Rattle.pdl_engine.proofs.StateOfWorlds.{live_has}
use Rattle.pdl_engine.proofs.engine.Engine.trans.Goals as goal

pub node-requires : goal.node-requires
node-requires c = record { live = (live_has c.row_laws.ensures c.self.inside.table c.args.id (subst (λ (w : World). IsLive w c.args.id) (sym (ap (λ (s : State). s.world) c.self.view_is)) c.requires)) }

pub returns-in-View-clause-trans : goal.returns-in-View-clause-trans
returns-in-View-clause-trans c =
    ap Some c.get.ensures
    ∙ trans_is c.self.inside.table c.args.id _ (sym c.in-View.is ∙ c.origin.ensures ∙ ap (λ (r : Row). r.origin) c.node.ensures)
    ∙ ap (λ (s : State). trans_in s.world c.args.id) c.self.view_is

pub returns-in-View-clause-well_formed : goal.returns-in-View-clause-well_formed
returns-in-View-clause-well_formed c =
    let found : Some c.get.result.now ≡ trans_in (world_of c.self.inside.table) c.args.id =
    ap Some c.get.ensures
    ∙ trans_is c.self.inside.table c.args.id _ (sym c.in-View.is ∙ c.origin.ensures ∙ ap (λ (r : Row). r.origin) c.node.ensures) in
    subst (λ (o : Option Trans). IfSome o (λ t. IsTrue (is_well_formed t))) (sym found)
    (trans_fits (world_of c.self.inside.table) c.args.id c.self.invariant.0.sound)

pub returns-in-Root-clause-trans : goal.returns-in-Root-clause-trans
returns-in-Root-clause-trans c =
    trans_is c.self.inside.table c.args.id _ (sym c.in-Root.is ∙ c.origin.ensures ∙ ap (λ (r : Row). r.origin) c.node.ensures)
    ∙ ap (λ (s : State). trans_in s.world c.args.id) c.self.view_is
