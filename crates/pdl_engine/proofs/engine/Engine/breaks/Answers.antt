use Rattle.std.proofs.Common.{sym, subst}
use Rattle.pdl_world.specs.Sound.{IsLive}
use Rattle.pdl_engine.specs.State.{State}
use Rattle.pdl_engine.proofs.StateOfWorlds.{live_has}
use Rattle.pdl_engine.proofs.engine.Engine.breaks.Goals as goal

pub relaid-requires-clause-live : goal.relaid-requires-clause-live
relaid-requires-clause-live c = live_has c.row_laws.ensures c.self.inside.table c.args.id (subst (λ (s : State). IsLive s.world c.args.id) (sym c.self.view_is) c.requires)
