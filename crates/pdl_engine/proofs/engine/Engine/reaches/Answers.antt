use Rattle.std.proofs.Common.{ℕ, List, sym, ◌∙◌, ap, subst}
use Rattle.pdl_world.specs.Paths.{path}
use Rattle.pdl_world.specs.Sound.{IsLive}
use Rattle.pdl_world.specs.Swept.{is_listed}
use Rattle.pdl_world.specs.World.{World}
use Rattle.pdl_nodes.specs.Worlds.{shape, latest}
use Rattle.pdl_engine.specs.State.{State}
use Rattle.pdl_engine.proofs.StateOfWorlds.{live_has, path_with}
use Rattle.pdl_engine.proofs.engine.Engine.reaches.Goals as goal

pub reaches-requires-clause-live : goal.reaches-requires-clause-live
reaches-requires-clause-live c = live_has c.row_laws.ensures c.self.inside.table c.args.below (subst (λ (w : World). IsLive w c.args.below) (sym (ap (λ (s : State). s.world) c.self.view_is)) c.requires)

pub returns : goal.returns
returns c = c.reaches.ensures ∙ ap (λ (xs : List ℕ). is_listed xs c.args.above) (sym (path_with (latest c.self.inside.table) (shape c.self.inside.table) c.args.below) ∙ ap (λ w. path w c.args.below) (ap (λ (s : State). s.world) c.self.view_is))
