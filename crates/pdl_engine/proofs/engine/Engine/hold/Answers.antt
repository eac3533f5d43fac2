use Rattle.std.proofs.Common.{◌<◌, ◌^◌, sym, ◌∙◌, ap, subst}
use Rattle.pdl_world.specs.Sound.{IsLive}
use Rattle.pdl_engine.specs.Held.{count_at, one_more_at}
use Rattle.pdl_engine.specs.State.{State}
use Rattle.pdl_engine.proofs.HeldLemmas.{count_is, held_engine, held_state}
use Rattle.pdl_engine.proofs.StateOfWorlds.{live_has}
use Rattle.pdl_engine.proofs.LooseTight.{tight_more}
use Rattle.pdl_engine.proofs.engine.Engine.hold.Goals as goal

pub hold-requires : goal.hold-requires
hold-requires c =
    let live : IsLive _ c.args.id = subst (λ (s : State). IsLive s.world c.args.id) (sym c.self.view_is) c.requires.live in
    subst (λ n. n < 2 ^ 63) (ap (λ (s : State). count_at s.holds c.args.id) (sym c.self.view_is) ∙ count_is c.self.inside.table c.self.inside.holds c.args.id (live_has c.row_laws.ensures c.self.inside.table c.args.id live)) c.requires.room

pub invariant_of-self : goal.invariant_of-self
invariant_of-self c = (
  held_engine c.self.inside.table c.self.inside.holds c.hold.new.self c.self.inside.next c.args.id c.self.invariant.0 c.hold.ensures.here c.hold.ensures.others,
  tight_more c.self.inside.loose.items c.self.inside.table c.self.inside.holds c.hold.new.self c.args.id c.hold.ensures.here c.hold.ensures.others c.self.invariant.1,
)

pub returns : goal.returns
returns c = held_state c.self.inside.table c.self.inside.holds c.hold.new.self c.self.inside.next c.args.id c.self.invariant.0.beside c.hold.ensures.here c.hold.ensures.others ∙ ap (λ (s : State). record s { holds = one_more_at s.holds c.args.id }) c.self.view_is
