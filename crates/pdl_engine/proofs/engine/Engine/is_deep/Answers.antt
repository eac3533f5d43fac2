use Rattle.std.proofs.Common.{ℕ, List, length, sym, ◌∙◌, ap, subst}
use Rattle.std.specs.Prelude.{nat_lt}
use Rattle.pdl_world.specs.Paths.{path}
use Rattle.pdl_world.specs.Sound.{IsLive}
use Rattle.pdl_world.specs.World.{World}
use Rattle.pdl_nodes.specs.Worlds.{shape, latest}
use Rattle.pdl_engine.specs.State.{State}
use Rattle.pdl_engine.proofs.StateOfWorlds.{live_has, path_with}
use Rattle.pdl_engine.proofs.engine.Engine.is_deep.Goals as goal

pub is_deeper-requires-clause-live : goal.is_deeper-requires-clause-live
is_deeper-requires-clause-live c = (live_has c.row_laws.ensures c.self.inside.table c.args.id (subst (λ (w : World). IsLive w c.args.id) (sym (ap (λ (s : State). s.world) c.self.view_is)) c.requires))

pub returns : goal.returns
returns c = c.is_deeper.ensures ∙ ap (λ (xs : List ℕ). nat_lt 64 (length xs)) (sym (path_with (latest c.self.inside.table) (shape c.self.inside.table) c.args.id) ∙ ap (λ w. path w c.args.id) (ap (λ (s : State). s.world) c.self.view_is))
