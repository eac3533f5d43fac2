use Rattle.std.proofs.Common.{◌≡◌, ℕ, ◌+◌, ◌≤◌, List, ◌++◌, length, true, sym, ap, subst, ◌∙◌, arith}
use Rattle.pdl_machine.specs.Flows.{Flows, all_read, needs_of}
use Rattle.pdl_machine.specs.Following.{AreFlows}
use Rattle.pdl_machine.specs.State.{State, kept, with_world}
use Rattle.pdl_machine.specs.Tidy.{settled, tidy}
use Rattle.pdl_world.specs.Sound.{IsLive}
use Rattle.pdl_world.specs.World.{World}
use Rattle.pdl_engine.specs.Held.{written_back}
use Rattle.pdl_engine.specs.Reading.{KeepsViews}
use Rattle.pdl_engine.specs.State.{is_fresh}
use Rattle.pdl_scope.specs.Holding.{AreHeld}
use Rattle.pdl_scope.specs.Scope.{arrays_of, engine_of, machine, names_in, reads_limit, state_in, IsHeld, Scope as Seen}
use Rattle.pdl_scope.proofs.FlowingStays.{listed_front}
use Rattle.pdl_scope.proofs.HoldingLemmas.{all_gone, held_beside, held_by, held_of}
use Rattle.pdl_scope.proofs.LetGoNeeds.{kept_reads, needed_world, staying_live}
use Rattle.pdl_scope.proofs.LetGoReleases.{let_go_refl}
use Rattle.pdl_scope.proofs.scope.Scope.let_go.Goals as goal

abbrev swept : State → State
swept s = with_world (settled s) (kept s)

pub let_all_go-requires-clause-held : goal.let_all_go-requires-clause-held
let_all_go-requires-clause-held g c =
    let names = names_in c.self.inside.names.entries c.self.inside.kernels in
    let ws = c.self.inside.watches.items in
    let fs = c.self.inside.flows.items in
    let e = c.self.inside.engine in
    let P : List ℕ → Type 0 = λ vs. AreHeld e (held_by names ws fs) vs in
    record { staying = held_of names ws; held = subst P (sym c.deref.ensures.value) (held_beside names ws fs e c.self.inside.leaving.items c.self.invariant) }

pub invariant_of-self : goal.invariant_of-self
invariant_of-self g c =
    let names = names_in c.self.inside.names.entries c.self.inside.kernels in
    let ws = c.self.inside.watches.items in
    let fs = c.self.inside.flows.items in
    let e = c.self.inside.engine in
    let t = c.let_all_go.new.engine in
    let vs = held_of names ws in
    let P : List ℕ → Type 0 = λ us. AreHeld e (held_by names ws fs) us in
    let held = subst P (sym c.deref.ensures.value) (held_beside names ws fs e c.self.inside.leaving.items c.self.invariant) in
    let needed = c.let_all_go.ensures.needed vs held in
    let n = needs_of e.world fs vs in
    let left = c.let_all_go.new.flows.items in
    let sound = c.self.invariant.whole.sound in
    let world = needed_world c.leaving_laws.ensures.again c.leaving_laws.ensures.more vs e fs t left needed in
    let many = vs ++ all_read left in
    let gone = all_gone many e t needed.lets_go in
    let L : List ℕ → Type 0 = λ us. IsHeld (state_in names ws left t) t.holds us in
    subst L (sym c.clear.ensures.items) (record {
      whole = record {
        sound = needed.lets_go.is_held.sound;
        below = needed.lets_go.is_held.below;
        live = staying_live c.leaving_laws.ensures.seen e.world t.world many sound gone vs (λ v h. listed_front vs (all_read left) v h) c.self.invariant.whole.live;
        flows = (subst (λ (hs : Flows). AreFlows (arrays_of t) hs) (sym needed.flows)
            (c.leaving_laws.ensures.flows (arrays_of e) (arrays_of t) fs vs n.arrays sound c.self.invariant.whole.flows world (λ v h. h)));
      };
      few = c.self.invariant.few;
      slots = c.self.invariant.slots;
      reads = (let fewer = kept_reads e.world fs vs in let most : length (all_read fs) ≤ reads_limit = c.self.invariant.reads in
          let same : length (all_read left) ≡ length (all_read n.flows) = ap (λ (hs : Flows). length (all_read hs)) needed.flows in
          omega (arith, fewer, most, same));
      counts = needed.lets_go.is_held.counts;
      reached = needed.lets_go.is_held.reached;
    })

pub returns-clause-gone : goal.returns-clause-gone
returns-clause-gone g c =
    let names = names_in c.self.inside.names.entries c.self.inside.kernels in
    let ws = c.self.inside.watches.items in
    let fs = c.self.inside.flows.items in
    let e = c.self.inside.engine in
    let t = c.let_all_go.new.engine in
    let vs = held_of names ws in
    let left = c.let_all_go.new.flows.items in
    let P : List ℕ → Type 0 = λ us. AreHeld e (held_by names ws fs) us in
    let held = subst P (sym c.deref.ensures.value) (held_beside names ws fs e c.self.inside.leaving.items c.self.invariant) in
    let needed = c.let_all_go.ensures.needed vs held in
    let n = needs_of e.world fs vs in
    let world = needed_world c.leaving_laws.ensures.again c.leaving_laws.ensures.more vs e fs t left needed in
    let state : Flows → World → ℕ → State = λ hs w next. record { names = names; arrays = record { world = w; next = next }; watches = ws; flows = hs } in
    ap (λ hs. state hs t.world t.next) needed.flows ∙ ap (λ w. state n.flows w t.next) world ∙ ap (state n.flows (kept (state_in names ws fs e))) needed.lets_go.next
    ∙ ap (λ (s : Seen). swept (machine s)) c.self.view_is

pub returns-clause-unseen : goal.returns-clause-unseen
returns-clause-unseen g c = ap tidy (returns-clause-gone g c) ∙ c.leaving_laws.ensures.settled (machine c.args.self.now)

pub returns-clause-stay : goal.returns-clause-stay
returns-clause-stay g c =
    let e = c.self.inside.engine in
    let t = c.let_all_go.new.engine in
    let sound = c.self.invariant.whole.sound in
    let h = c.let_all_go.ensures.goes_on e c.args.steps.now sound (let_go_refl e c.args.steps.now c.lazy_law.ensures) in
    let P : Seen → Type 0 = λ s. (v : ℕ) → IsLive t.world v → is_fresh (engine_of s) v ≡ true → is_fresh t v ≡ true in
    subst P c.self.view_is h.left.stay

pub returns-clause-risen : goal.returns-clause-risen
returns-clause-risen g c =
    let e = c.self.inside.engine in
    let h = c.let_all_go.ensures.goes_on e c.args.steps.now c.self.invariant.whole.sound (let_go_refl e c.args.steps.now c.lazy_law.ensures) in
    h.risen

pub returns-clause-counted : goal.returns-clause-counted
returns-clause-counted g c =
    let e = c.self.inside.engine in
    let t = c.let_all_go.new.engine in
    let sound = c.self.invariant.whole.sound in
    let h = c.let_all_go.ensures.goes_on e c.args.steps.now sound (let_go_refl e c.args.steps.now c.lazy_law.ensures) in
    let P : Seen → Type 0 = λ s. KeepsViews s.arrays.world t.world → c.let_all_go.new.steps ≡ c.args.steps.now in
    subst P c.self.view_is h.counted

pub returns-clause-written : goal.returns-clause-written
returns-clause-written g c =
    let e = c.self.inside.engine in
    let t = c.let_all_go.new.engine in
    let sound = c.self.invariant.whole.sound in
    let h = c.let_all_go.ensures.goes_on e c.args.steps.now sound (let_go_refl e c.args.steps.now c.lazy_law.ensures) in
    let P : Seen → Type 0 = λ s. c.let_all_go.new.steps ≤ c.args.steps.now + written_back (engine_of s) t.world (engine_of s).world in
    subst P c.self.view_is h.written
