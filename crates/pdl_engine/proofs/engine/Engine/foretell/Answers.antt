use Rattle.std.proofs.Common.{◌≡◌, true, sym, ◌∙◌, ap, subst}
use Rattle.pdl_shape.specs.Shape.{size_of}
use Rattle.pdl_world.specs.Sound.{IsLive}
use Rattle.pdl_world.specs.Swept.{is_listed}
use Rattle.pdl_world.specs.World.{World, dims_in}
use Rattle.pdl_nodes.specs.Rows.{has}
use Rattle.pdl_engine.specs.Foresights.{Foretells}
use Rattle.pdl_engine.specs.State.{State}
use Rattle.pdl_engine.proofs.StateOfWorlds.{live_has, fresh_is}
use Rattle.pdl_engine.proofs.engine.Engine.foretell.Goals as goal

pub foretell-requires : goal.foretell-requires
foretell-requires c =
    let t : has c.self.inside.table c.args.target ≡ true = live_has c.row_laws.ensures c.self.inside.table c.args.target (subst (λ (w : World). IsLive w c.args.target) (sym (ap (λ (s : State). s.world) c.self.view_is)) c.requires.live) in
    record {
      order = c.self.invariant.0.order;
      known = c.self.invariant.0.known;
      target = t;
      fresh = sym (fresh_is c.row_laws.ensures c.self.inside.table c.args.target c.self.invariant.0.order.still t) ∙ ap (λ (s : State). is_listed s.fresh c.args.target) c.self.view_is ∙ c.requires.fresh;
      count = c.requires.count ∙ ap size_of (ap (λ (s : State). dims_in s.world c.args.target) (sym c.self.view_is) ∙ c.row_laws.ensures.seen.dims_are c.self.inside.table c.args.target c.self.invariant.0.order.still t);
    }

pub returns : goal.returns
returns c = subst (λ (s : State). Foretells s.world c.args.target c.args.values.now c.in_ok-found.found) c.self.view_is c.in_ok-found.ensures
