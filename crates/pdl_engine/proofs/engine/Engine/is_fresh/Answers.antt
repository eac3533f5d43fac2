use Rattle.std.proofs.Common.{sym, ◌∙◌, ap, subst}
use Rattle.pdl_world.specs.Sound.{IsLive}
use Rattle.pdl_world.specs.Swept.{is_listed}
use Rattle.pdl_world.specs.World.{World}
use Rattle.pdl_engine.specs.State.{State}
use Rattle.pdl_engine.proofs.StateOfWorlds.{live_has, fresh_is}
use Rattle.pdl_engine.proofs.engine.Engine.is_fresh.Goals as goal

pub is_fresh-requires-clause-live : goal.is_fresh-requires-clause-live
is_fresh-requires-clause-live c = (live_has c.row_laws.ensures c.self.inside.table c.args.id (subst (λ (w : World). IsLive w c.args.id) (sym (ap (λ (s : State). s.world) c.self.view_is)) c.requires))

pub returns : goal.returns
returns c = c.is_fresh.ensures ∙ sym (fresh_is c.row_laws.ensures c.self.inside.table c.args.id c.self.invariant.0.order.still (live_has c.row_laws.ensures c.self.inside.table c.args.id (subst (λ (w : World). IsLive w c.args.id) (sym (ap (λ (s : State). s.world) c.self.view_is)) c.requires))) ∙ ap (λ (s : State). is_listed s.fresh c.args.id) c.self.view_is
