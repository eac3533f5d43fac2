use Rattle.std.proofs.Common.{◌≡◌, ◌+◌, ◌<◌, ◌≤◌, ◌^◌, ◌++◌, ◌∷◌, [], ℕ, List, length, false, sym, ap, subst, ◌∙◌, arith}
use Rattle.pdl_flow.specs.Formula.{arrays_in, tree_of}
use Rattle.pdl_world.specs.Sound.{IsLive}
use Rattle.pdl_engine.specs.Held.{count_at}
use Rattle.pdl_engine.specs.State.{State as Engine}
use Rattle.pdl_machine.specs.Flows.{Flow, Flows, all_read, flows_with}
use Rattle.pdl_machine.specs.Following.{AreFlows}
use Rattle.pdl_machine.specs.Names.{Named, names_limit, is_full_for, with_name}
use Rattle.pdl_machine.specs.State.{AreLive}
use Rattle.pdl_scope.specs.Scope.{arrays_of, names_in, reads_limit, state_in, times, IsHeld, Scope as Seen}
use Rattle.pdl_scope.proofs.ScopeFlows.{begun_live}
use Rattle.pdl_scope.proofs.ScopeCuts.{fits_bound, held_same}
use Rattle.pdl_scope.proofs.FlowingEnds.{held_begun}
use Rattle.pdl_scope.proofs.HoldingLemmas.{held_defined, room_for}
use Rattle.pdl_scope.proofs.scope.Scope.begin.Goals as goal

pub hold_all-requires-clause-live : goal.hold_all-requires-clause-live
hold_all-requires-clause-live c =
    let f = tree_of c.args.formula in
    let v = c.args.root in
    let e = c.self.inside.engine in
    let fs = c.self.inside.flows.items in
    let S : Seen → Type 0 = λ s. AreFlows s.arrays (flows_with s.flows v f) in
    let flows : AreFlows (arrays_of e) (flows_with fs v f) = subst S (sym c.self.view_is) c.requires.flows in
    let read : c.deref-2.result.now ≡ arrays_in f = c.deref-2.ensures.value ∙ c.in_ok-note_arrays.ensures ∙ ap (λ (ks : List ℕ). ks ++ arrays_in f) c.new-reads.ensures.items in
    let P : List ℕ → Type 0 = AreLive e.world in
    subst P (sym read) (begun_live (arrays_of e) fs v f flows).0

pub hold_all-requires-clause-room : goal.hold_all-requires-clause-room
hold_all-requires-clause-room c = λ u.
    let f = tree_of c.args.formula in
    let v = c.args.root in
    let e = c.self.inside.engine in
    let fs = c.self.inside.flows.items in
    let S : Seen → Type 0 = λ s. AreFlows s.arrays (flows_with s.flows v f) in
    let flows : AreFlows (arrays_of e) (flows_with fs v f) = subst S (sym c.self.view_is) c.requires.flows in
    let read : c.deref-2.result.now ≡ arrays_in f = c.deref-2.ensures.value ∙ c.in_ok-note_arrays.ensures ∙ ap (λ (ks : List ℕ). ks ++ arrays_in f) c.new-reads.ensures.items in
    let len : c.len.result ≡ length (arrays_in f) = c.len.ensures ∙ sym c.deref-2.ensures.len ∙ ap length read in
    let F : Flows → Type 0 = λ hs. length (all_read hs) + c.len.result ≤ reads_limit in
    let fit : length (all_read fs) + c.len.result ≤ reads_limit = subst F c.deref.ensures.value (c.reads_fit.ensures.fit c.if-not-reads_fit.false) in
    let room : length (all_read fs) + length (arrays_in f) ≤ reads_limit = omega (arith, fit, len) in
    let most = room_for c.self.inside.names.entries c.self.inside.kernels c.self.inside.watches.items fs e c.self.inside.leaving.items u c.self.invariant in
    let leaving : length c.self.inside.leaving.items < 2 ^ 61 = omega (arith, c.self.inside.leaving.ok, c.self.inside.leaving.small) in
    let more : length c.deref-2.result.now ≡ length (arrays_in f) = ap length read in
    omega (arith, most, leaving, more, room)

pub bind_one-requires-clause-live : goal.bind_one-requires-clause-live
bind_one-requires-clause-live c =
    let f = tree_of c.args.formula in
    let v = c.args.root in
    let e = c.self.inside.engine in
    let fs = c.self.inside.flows.items in
    let S : Seen → Type 0 = λ s. AreFlows s.arrays (flows_with s.flows v f) in
    let flows : AreFlows (arrays_of e) (flows_with fs v f) = subst S (sym c.self.view_is) c.requires.flows in
    let P : Engine → Type 0 = λ x. IsLive x.world v in
    subst P (sym c.hold_all.ensures.same) (begun_live (arrays_of e) fs v f flows).1

pub bind_one-requires-clause-few : goal.bind_one-requires-clause-few
bind_one-requires-clause-few c =
    let names = c.self.inside.names.entries in
    let x = c.args.name.now in
    let v = c.args.root in
    let S : Seen → Type 0 = λ s. is_full_for names_limit s.names.arrays x ≡ false in
    let fits = fits_bound names x v (subst S (sym c.self.view_is) c.requires.room) c.self.invariant.few in
    let X : List ℕ → Type 0 = λ y. length (with_name names y v) ≤ names_limit in
    let N : Named ℕ → Type 0 = λ ns. length (with_name ns c.in_ok-name.name v) ≤ names_limit in
    subst N (sym c.reserve.ensures.names) (subst X (sym c.in_ok-name.ensures.cases) fits)

pub bind_one-requires-clause-held : goal.bind_one-requires-clause-held
bind_one-requires-clause-held c =
    let f = tree_of c.args.formula in
    let v = c.args.root in
    let e = c.self.inside.engine in
    let fs = c.self.inside.flows.items in
    let S : Seen → Type 0 = λ s. AreFlows s.arrays (flows_with s.flows v f) in
    let flows : AreFlows (arrays_of e) (flows_with fs v f) = subst S (sym c.self.view_is) c.requires.flows in
    let read : c.deref-2.result.now ≡ arrays_in f = c.deref-2.ensures.value ∙ c.in_ok-note_arrays.ensures ∙ ap (λ (ks : List ℕ). ks ++ arrays_in f) c.new-reads.ensures.items in
    let len : c.len.result ≡ length (arrays_in f) = c.len.ensures ∙ sym c.deref-2.ensures.len ∙ ap length read in
    let F : Flows → Type 0 = λ hs. length (all_read hs) + c.len.result ≤ reads_limit in
    let fit : length (all_read fs) + c.len.result ≤ reads_limit = subst F c.deref.ensures.value (c.reads_fit.ensures.fit c.if-not-reads_fit.false) in
    let room : length (all_read fs) + length (arrays_in f) ≤ reads_limit = omega (arith, fit, len) in
    let ks = c.self.inside.kernels in
    let ws = c.self.inside.watches.items in
    let names = c.reserve.new.self.entries in
    let t = c.hold_all.new.engine in
    let leaving = c.reserve-2.new.self.items in
    let gs = flows_with fs v f in
    let held = held_same c.self.inside.names.entries names ks ws fs e c.self.inside.leaving.items leaving c.reserve.ensures.names c.in_ok-reserve-2.ensures.items c.self.invariant in
    let counts : (u : ℕ) → count_at t.holds u ≡ count_at e.holds u + times (arrays_in f) u = λ u. c.hold_all.ensures.counts u ∙ ap (λ (is : List ℕ). count_at e.holds u + times is u) read in
    let begun = held_begun c.keeping_laws.ensures.more (names_in names ks) ws fs e t v f leaving held flows c.hold_all.ensures.same counts room in
    let apart = held_defined names ks [] ws gs t leaving begun in
    record { watches = ws; flows = gs; held = apart }

pub invariant_of-self-2 : goal.invariant_of-self-2
invariant_of-self-2 c =
    let f = tree_of c.args.formula in
    let v = c.args.root in
    let e = c.self.inside.engine in
    let fs = c.self.inside.flows.items in
    let S : Seen → Type 0 = λ s. AreFlows s.arrays (flows_with s.flows v f) in
    let flows : AreFlows (arrays_of e) (flows_with fs v f) = subst S (sym c.self.view_is) c.requires.flows in
    let read : c.deref-2.result.now ≡ arrays_in f = c.deref-2.ensures.value ∙ c.in_ok-note_arrays.ensures ∙ ap (λ (ks : List ℕ). ks ++ arrays_in f) c.new-reads.ensures.items in
    let len : c.len.result ≡ length (arrays_in f) = c.len.ensures ∙ sym c.deref-2.ensures.len ∙ ap length read in
    let F : Flows → Type 0 = λ hs. length (all_read hs) + c.len.result ≤ reads_limit in
    let fit : length (all_read fs) + c.len.result ≤ reads_limit = subst F c.deref.ensures.value (c.reads_fit.ensures.fit c.if-not-reads_fit.false) in
    let room : length (all_read fs) + length (arrays_in f) ≤ reads_limit = omega (arith, fit, len) in
    let ks = c.self.inside.kernels in
    let ws = c.self.inside.watches.items in
    let names = c.reserve.new.self.entries in
    let t = c.hold_all.new.engine in
    let leaving = c.reserve-2.new.self.items in
    let gs = flows_with fs v f in
    let held = held_same c.self.inside.names.entries names ks ws fs e c.self.inside.leaving.items leaving c.reserve.ensures.names c.in_ok-reserve-2.ensures.items c.self.invariant in
    let counts : (u : ℕ) → count_at t.holds u ≡ count_at e.holds u + times (arrays_in f) u = λ u. c.hold_all.ensures.counts u ∙ ap (λ (is : List ℕ). count_at e.holds u + times is u) read in
    let begun = held_begun c.keeping_laws.ensures.more (names_in names ks) ws fs e t v f leaving held flows c.hold_all.ensures.same counts room in
    let apart = held_defined names ks [] ws gs t leaving begun in
    let n = c.bind_one.new.engine in
    let keeps : c.keep.new.flows.items ≡ gs = c.keep.ensures ∙ ap (λ (hs : Flows). hs ++ c.new.result ∷ []) c.in_ok-reserve-3.ensures.items ∙ ap (λ (h : Flow). fs ++ h ∷ []) c.new.ensures in
    let H : Flows → Type 0 = λ hs. IsHeld (state_in (names_in c.bind_one.new.names.entries ks) ws hs n) n.holds c.bind_one.new.leaving.items in
    subst H (sym keeps) (held_defined c.bind_one.new.names.entries [] ks ws gs n c.bind_one.new.leaving.items (c.bind_one.ensures.held ws gs apart))
