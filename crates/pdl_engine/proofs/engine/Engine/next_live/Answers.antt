use Rattle.std.proofs.Common.{◌≡◌, ℕ, ap, sym, subst, ◌∙◌}
use Rattle.std.specs.Prelude.{IfSome}
use Rattle.pdl_world.specs.Sound.{IsLive}
use Rattle.pdl_world.specs.World.{World}
use Rattle.pdl_nodes.specs.Rows.{from}
use Rattle.pdl_registry.specs.Numbered.{first_from}
use Rattle.pdl_engine.specs.Looks.{array_numbers, past}
use Rattle.pdl_engine.specs.State.{State}
use Rattle.pdl_engine.proofs.LookLemmas.{from_is, past_small}
use Rattle.pdl_engine.proofs.engine.Engine.next_live.Goals as goal

pub past-requires : goal.past-requires
past-requires c =
    past_small c.row_laws.ensures c.self.inside.table c.self.inside.next c.args.after c.self.invariant.0.below c.self.invariant.0.room
    (subst (λ (s : State). IfSome c.args.after (IsLive s.world)) (sym c.self.view_is) c.requires)

pub returns : goal.returns
returns c =
    c.from.ensures ∙ ap (λ (n : ℕ). from c.self.inside.table n) c.past.ensures ∙ from_is c.self.inside.table (past c.args.after)
    ∙ ap (λ (s : State). first_from (array_numbers s.world) (past c.args.after)) c.self.view_is
