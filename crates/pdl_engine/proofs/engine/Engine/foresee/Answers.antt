use Rattle.std.proofs.Common.{sym, ◌∙◌, subst}
use Rattle.std.specs.Prelude.{Some}
use Rattle.pdl_world.specs.Sound.{IsLive}
use Rattle.pdl_world.specs.World.{World}
use Rattle.pdl_engine.specs.Foresights.{Foretells, IsForeseen}
use Rattle.pdl_engine.proofs.ForesightLemmas.{apart_stays}
use Rattle.pdl_engine.proofs.engine.Engine.foresee.Goals as goal

pub foreseen_now-requires-clause-live : goal.foreseen_now-requires-clause-live
foreseen_now-requires-clause-live g c = subst (λ (w : World). IsLive w c.args.seen) (sym c.ready_to_lend.ensures.same.world) c.requires

pub returns-clause-value : goal.returns-clause-value
returns-clause-value g c = λ v vs told.
    subst (λ (w : World). IsForeseen w v vs c.args.seen (Some c.in_ok-found.found)) c.ready_to_lend.ensures.same.world
    (c.in_ok-found.ensures.value v vs (subst (λ (w : World). Foretells w v vs c.args.foresight.now) (sym c.ready_to_lend.ensures.same.world) told))

pub returns-then-is_apart-clause-value : goal.returns-then-is_apart-clause-value
returns-then-is_apart-clause-value g c = λ v vs told.
    apart_stays c.assignment_laws.ensures.reads c.args.self.now.world v c.args.seen vs told.live c.requires (λ e. c.is_apart.ensures.0 c.if-is_apart.true (e ∙ sym told.root))
