use Rattle.std.proofs.Common.{◌≡◌, ◌+◌, get_or, drop, [], ◌∷◌, sym, subst, arith}
use Rattle.std.proofs.lemmas.List.{drop_all, drop_more}
use Rattle.pdl_nodes.specs.Below.{AreBelow}
use Rattle.pdl_nodes.specs.Renewed.{Layouts}
use Rattle.pdl_nodes.proofs.RelayingLemmas.{IsOn, next_on, on_begins, on_ends, on_goes, relaid_allows}
use Rattle.pdl_nodes.proofs.table.Table.relaid.Goals as goal

pub loop-view-init : goal.loop-view-init
loop-view-init c =
    subst (λ (ls : Layouts). IsOn ls c.args.self.now c.args.id c.args.dims.now c.deref-view-items.result.now) (sym c.new-layouts.ensures)
    (on_begins c.breaking_laws.ensures.below c.args.self.now c.args.id c.args.dims.now c.deref-view-items.result.now c.requires.sound c.requires.still c.requires.live
    (subst (AreBelow c.args.self.now c.args.id) (sym c.deref-view-items.ensures.value) c.in_ok-below.ensures))

pub relay-requires-clause-live : goal.relay-requires-clause-live
relay-requires-clause-live c =
    let more : drop c.loop-view.view-index c.deref-view-items.result.now ≡ get_or c.deref-view-items.result.now c.loop-view.view-index 0 ∷ drop (c.loop-view.view-index + 1) c.deref-view-items.result.now = drop_more c.deref-view-items.result.now c.loop-view.view-index 0 (omega (arith, c.loop-view-test.true)) in
    (next_on c.breaking_laws.ensures.below c.loop-view.layouts c.args.self.now c.args.id c.args.dims.now _ (drop (c.loop-view.view-index + 1) c.deref-view-items.result.now) c.requires.sound (subst (IsOn c.loop-view.layouts c.args.self.now c.args.id c.args.dims.now) more c.loop-view.invariant)).live

pub relay-requires-clause-newer : goal.relay-requires-clause-newer
relay-requires-clause-newer c =
    let more : drop c.loop-view.view-index c.deref-view-items.result.now ≡ get_or c.deref-view-items.result.now c.loop-view.view-index 0 ∷ drop (c.loop-view.view-index + 1) c.deref-view-items.result.now = drop_more c.deref-view-items.result.now c.loop-view.view-index 0 (omega (arith, c.loop-view-test.true)) in
    (next_on c.breaking_laws.ensures.below c.loop-view.layouts c.args.self.now c.args.id c.args.dims.now _ (drop (c.loop-view.view-index + 1) c.deref-view-items.result.now) c.requires.sound (subst (IsOn c.loop-view.layouts c.args.self.now c.args.id c.args.dims.now) more c.loop-view.invariant)).newer

pub relay-requires-clause-before : goal.relay-requires-clause-before
relay-requires-clause-before c =
    let more : drop c.loop-view.view-index c.deref-view-items.result.now ≡ get_or c.deref-view-items.result.now c.loop-view.view-index 0 ∷ drop (c.loop-view.view-index + 1) c.deref-view-items.result.now = drop_more c.deref-view-items.result.now c.loop-view.view-index 0 (omega (arith, c.loop-view-test.true)) in
    (next_on c.breaking_laws.ensures.below c.loop-view.layouts c.args.self.now c.args.id c.args.dims.now _ (drop (c.loop-view.view-index + 1) c.deref-view-items.result.now) c.requires.sound (subst (IsOn c.loop-view.layouts c.args.self.now c.args.id c.args.dims.now) more c.loop-view.invariant)).relaying

pub loop-view-preserved : goal.loop-view-preserved
loop-view-preserved c =
    let more : drop c.loop-view.view-index c.deref-view-items.result.now ≡ get_or c.deref-view-items.result.now c.loop-view.view-index 0 ∷ drop (c.loop-view.view-index + 1) c.deref-view-items.result.now = drop_more c.deref-view-items.result.now c.loop-view.view-index 0 (omega (arith, c.loop-view-test.true)) in
    on_goes c.loop-view.layouts c.relay.new.layouts c.args.self.now c.args.id c.args.dims.now _ (drop (c.loop-view.view-index + 1) c.deref-view-items.result.now) (subst (IsOn c.loop-view.layouts c.args.self.now c.args.id c.args.dims.now) more c.loop-view.invariant) c.in_ok-relay.ensures.after

pub returns-clause-laid : goal.returns-clause-laid
returns-clause-laid c =
    let none : drop c.loop-view.view-index c.deref-view-items.result.now ≡ [] = drop_all c.loop-view.view-index c.deref-view-items.result.now (omega (arith, c.loop-view-test.false)) in
    on_ends c.breaking_laws.ensures.below c.loop-view.layouts c.args.self.now c.args.id c.args.dims.now c.requires.sound (subst (IsOn c.loop-view.layouts c.args.self.now c.args.id c.args.dims.now) none c.loop-view.invariant)

pub returns-clause-allowed : goal.returns-clause-allowed
returns-clause-allowed c =
    let none : drop c.loop-view.view-index c.deref-view-items.result.now ≡ [] = drop_all c.loop-view.view-index c.deref-view-items.result.now (omega (arith, c.loop-view-test.false)) in
    relaid_allows c.breaking_laws.ensures.formulas c.loop-view.layouts c.args.self.now c.args.id c.args.dims.now c.requires.sound c.requires.still
    (on_ends c.breaking_laws.ensures.below c.loop-view.layouts c.args.self.now c.args.id c.args.dims.now c.requires.sound (subst (IsOn c.loop-view.layouts c.args.self.now c.args.id c.args.dims.now) none c.loop-view.invariant))
