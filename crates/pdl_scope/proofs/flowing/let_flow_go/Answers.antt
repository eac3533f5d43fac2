use Rattle.std.proofs.Common.{◌≡◌, ◌+◌, ◌≤◌, ◌<◌, ◌++◌, ℕ, List, [], Bool, true, false, get_or, Option, Some, sym, ap, subst, ◌∙◌, refl}
use Rattle.std.specs.Prelude.{if◌then◌else◌, is_some, slice_get}
use Rattle.pdl_flow.specs.Formula.{arrays_in}
use Rattle.pdl_world.specs.World.{look}
use Rattle.pdl_machine.specs.Flows.{Flow, Flows, all_read}
use Rattle.pdl_scope.specs.Holding.{AreHeld, LetsGo}
use Rattle.pdl_scope.specs.LetGo.{without_at}
use Rattle.pdl_scope.proofs.FlowingEnds.{held_out, read_at, same_place}
use Rattle.pdl_scope.proofs.HoldingLemmas.{lets_go_refl}
use Rattle.pdl_scope.proofs.flowing.let_flow_go.Goals as goal

pub returns-then-is_live-clause-flows : goal.returns-then-is_live-clause-flows
returns-then-is_live-clause-flows g c = λ f is.
    let fs = c.args.flows.now.items in
    let at = c.args.place in
    let w = c.args.engine.now.world in
    let same : f ≡ c.index.result.now = same_place fs at f c.index.result.now c.requires.within is c.index.ensures in
    let there : is_some (look w f.root) ≡ true = ap (λ (h : Flow). is_some (look w h.root)) same ∙ ap (λ r. is_some (look w r)) (sym c.root.ensures) ∙ sym c.is_live.ensures ∙ c.if-is_live.true in
    ap (λ (b : Bool). if b then fs else without_at at fs) (sym there)

pub returns-then-is_live-clause-lets_go : goal.returns-then-is_live-clause-lets_go
returns-then-is_live-clause-lets_go g c = λ staying held. lets_go_refl (staying ++ all_read c.args.flows.now.items) c.args.engine.now [] held

pub release_all-requires : goal.release_all-requires
release_all-requires g c =
    let fs = c.args.flows.now.items in
    let at = c.args.place in
    let f = c.remove-flow.result in
    let H : List ℕ → Type 0 = λ ks. AreHeld c.args.engine.now (c.requires.held.staying ++ all_read (without_at at fs)) ks in
    record {
      staying = c.requires.held.staying ++ all_read (without_at at fs);
      held = subst H (sym c.reads.ensures) (held_out c.more_held_law.ensures c.args.engine.now c.requires.held.staying fs at f (read_at fs at f c.requires.within c.remove-flow.ensures.value) c.requires.held.held);
    }

pub returns-clause-flows : goal.returns-clause-flows
returns-clause-flows g c = λ f is.
    let fs = c.args.flows.now.items in
    let at = c.args.place in
    let w = c.args.engine.now.world in
    let same : f ≡ c.index.result.now = same_place fs at f c.index.result.now c.requires.within is c.index.ensures in
    let gone : is_some (look w f.root) ≡ false = ap (λ (h : Flow). is_some (look w h.root)) same ∙ ap (λ r. is_some (look w r)) (sym c.root.ensures) ∙ sym c.is_live.ensures ∙ c.if-is_live.false in
    c.remove-flow.ensures.by_index.2 ∙ ap (λ (b : Bool). if b then fs else without_at at fs) (sym gone)

pub returns-clause-lets_go : goal.returns-clause-lets_go
returns-clause-lets_go g c = λ staying held.
    let fs = c.args.flows.now.items in
    let at = c.args.place in
    let f = c.remove-flow.result in
    let H : List ℕ → Type 0 = λ ks. AreHeld c.args.engine.now (staying ++ all_read (without_at at fs)) ks in
    let L : Flows → Type 0 = λ hs. LetsGo (staying ++ all_read hs) c.args.engine.now c.release_all.new.engine [] in
    subst L (sym c.remove-flow.ensures.by_index.2)
    (c.release_all.ensures.lets_go (staying ++ all_read (without_at at fs)) (subst H (sym c.reads.ensures) (held_out c.more_held_law.ensures c.args.engine.now staying fs at f (read_at fs at f c.requires.within c.remove-flow.ensures.value) held)))
