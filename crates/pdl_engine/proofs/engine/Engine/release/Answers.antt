use Rattle.std.proofs.Common.{◌+◌, ◌<◌, sym, ◌∙◌, ap, subst}
use Rattle.pdl_nodes.specs.Rows.{reached}
use Rattle.pdl_nodes.specs.Worlds.{world_of}
use Rattle.pdl_engine.specs.Held.{count_at, one_less_at, held_among, written_back, IsReleased}
use Rattle.pdl_engine.specs.State.{State}
use Rattle.pdl_engine.specs.StateOf.{holds_in, state_of}
use Rattle.pdl_engine.specs.Taken.{after_release}
use Rattle.pdl_engine.proofs.HeldLemmas.{count_is, held_live, held_is, left_engine, left_state}
use Rattle.pdl_engine.proofs.LooseTight.{tight_all}
use Rattle.pdl_engine.proofs.HeldWritten.{swept_by, written_is}
use Rattle.pdl_engine.proofs.engine.Engine.release.Goals as goal

pub release-requires-clause-held : goal.release-requires-clause-held
release-requires-clause-held g c =
    let l : 0 < count_at (holds_in c.self.inside.table c.self.inside.holds) c.args.id = subst (λ (s : State). 0 < count_at s.holds c.args.id) (sym c.self.view_is) c.requires in
    subst (λ n. 0 < n) (count_is c.self.inside.table c.self.inside.holds c.args.id (held_live c.self.inside.table c.self.inside.holds c.args.id l)) l

pub invariant_of-self : goal.invariant_of-self
invariant_of-self g c = (
  left_engine c.row_laws.ensures c.sweep_laws.ensures.sound c.self.inside.table c.release.new.table c.self.inside.holds c.release.new.holds c.self.inside.next (held_among (one_less_at (holds_in c.self.inside.table c.self.inside.holds) c.args.id)) c.self.invariant.0 c.release.ensures.gone.left
      (c.release.ensures.gone.swept (held_among (one_less_at (holds_in c.self.inside.table c.self.inside.holds) c.args.id)) (held_is c.self.inside.table c.self.inside.holds c.args.id c.self.invariant.0.beside)) c.release.ensures.gone.beside,
  tight_all c.release.new.table c.release.new.holds c.clear.new.self.items c.clear.ensures.items c.release.ensures.gone.tight,
)

pub returns-clause-released : goal.returns-clause-released
returns-clause-released g c =
    subst (λ (s : State). IsReleased s c.args.id (state_of c.release.new.table c.release.new.holds c.self.inside.next)) c.self.view_is
    (left_state c.row_laws.ensures c.self.inside.table c.release.new.table c.self.inside.holds c.release.new.holds c.self.inside.next c.args.id c.self.invariant.0.order.still c.release.ensures.gone.left
    (c.release.ensures.gone.swept (held_among (one_less_at (holds_in c.self.inside.table c.self.inside.holds) c.args.id)) (held_is c.self.inside.table c.self.inside.holds c.args.id c.self.invariant.0.beside)) c.release.ensures.gone.counts_are)

pub returns-clause-sound : goal.returns-clause-sound
returns-clause-sound g c = (invariant_of-self g c).0.sound

pub returns-clause-counted : goal.returns-clause-counted
returns-clause-counted g c =
    c.release.ensures.counted ∙ ap (λ n. c.args.steps.now + n)
    (written_is c.row_laws.ensures c.self.inside.table c.release.new.table c.self.inside.holds c.self.inside.next (reached c.self.inside.table (after_release c.args.id c.self.inside.holds))
    (swept_by c.row_laws.ensures c.self.inside.table c.release.new.table c.self.inside.holds c.args.id c.self.invariant.0.order c.self.invariant.0.beside
    (c.release.ensures.gone.swept (held_among (one_less_at (holds_in c.self.inside.table c.self.inside.holds) c.args.id)) (held_is c.self.inside.table c.self.inside.holds c.args.id c.self.invariant.0.beside))))
    ∙ ap (λ (s : State). c.args.steps.now + written_back s (world_of c.release.new.table) (world_of c.release.new.table)) c.self.view_is
