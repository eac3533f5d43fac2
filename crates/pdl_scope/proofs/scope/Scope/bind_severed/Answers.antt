use Rattle.std.proofs.Common.{rules, ◌≡◌, ◌+◌, ◌<◌, ◌≤◌, ◌^◌, List, ℕ, [], length, Err, refl, sym, ap, subst, ◌∙◌, arith}
use Rattle.pdl_world.specs.Cut.{sever}
use Rattle.pdl_world.specs.Sound.{IsLive}
use Rattle.pdl_world.specs.World.{World, dims_in}
use Rattle.pdl_shape.specs.Shape.{size_of}
use Rattle.pdl_world.specs.Paths.{root_of}
use Rattle.pdl_engine.specs.State.{ready_steps}
use Rattle.pdl_scope.specs.Costs.{MovesNothing}
use Rattle.pdl_machine.specs.Arrays.{Arrays}
use Rattle.pdl_machine.specs.Flows.{Flows, without_flow}
use Rattle.pdl_machine.specs.Cuts.{cut}
use Rattle.pdl_machine.specs.Names.{Named, with_name, names_limit}
use Rattle.pdl_machine.specs.declared.fault.Fault.TheVariants.{TooManyNames}
use Rattle.pdl_machine.specs.State.{State}
use Rattle.pdl_machine.specs.Step.{Stepped, bind_severed, ending}
use Rattle.pdl_scope.specs.Answers.{Prints}
use Rattle.pdl_scope.specs.Growth.{grows_refl}
use Rattle.pdl_scope.specs.Scope.{arrays_of, engine_of, machine, names_in, scope_in, state_in, Grows, IsHeld, Scope as Seen}
use Rattle.pdl_scope.proofs.ScopeCuts.{kept_so, held_same, made_so, unbindable, bindable, fits_bound}
use Rattle.std.proofs.lemmas.List.{length-append}
use Rattle.pdl_scope.specs.Flowing.{RootsRise, read_by}
use Rattle.pdl_scope.proofs.FlowingEnds.{held_ended}
use Rattle.pdl_scope.proofs.FlowingStays.{roots_rise}
use Rattle.pdl_scope.proofs.HoldingLemmas.{held_defined}
use Rattle.pdl_scope.proofs.CostUnmoved.{nothing_then_holds}
use Rattle.pdl_scope.proofs.scope.Scope.bind_severed.Goals as goal

pub cut_apart-requires-clause-small : goal.cut_apart-requires-clause-small
cut_apart-requires-clause-small g c =
    let leaving : length c.self.inside.leaving.items < 2 ^ 61 = omega (arith, c.self.inside.leaving.ok, c.self.inside.leaving.small) in
    let items : length c.reserve-2.new.self.items ≡ length c.self.inside.leaving.items = ap length c.in_ok-reserve-2.ensures.items in
    omega (arith, leaving, items)

pub cut_apart-requires-clause-held : goal.cut_apart-requires-clause-held
cut_apart-requires-clause-held g c =
    let ks = c.self.inside.kernels in
    let ws = c.self.inside.watches.items in
    let fs = c.self.inside.flows.items in
    let names = c.reserve.new.self.entries in
    let held = held_same c.self.inside.names.entries names ks ws fs c.self.inside.engine c.self.inside.leaving.items c.reserve-2.new.self.items c.reserve.ensures.names c.in_ok-reserve-2.ensures.items c.self.invariant in
    record { names = names_in names ks; watches = ws; flows = fs; held = held }

pub room_to_end-room-requires : goal.room_to_end-room-requires
room_to_end-room-requires g c = subst RootsRise (sym c.deref.ensures.value) (roots_rise (arrays_of c.self.inside.engine) c.self.inside.flows.items c.self.invariant.whole.flows)

pub end_flow-requires-clause-rising : goal.end_flow-requires-clause-rising
end_flow-requires-clause-rising g c = roots_rise (arrays_of c.self.inside.engine) c.self.inside.flows.items c.self.invariant.whole.flows

pub bind_one-requires-clause-live : goal.bind_one-requires-clause-live
bind_one-requires-clause-live g c =
    let v = c.args.id in
    let w = c.self.inside.engine.world in
    let S : Seen → Type 0 = λ s. IsLive s.arrays.world v in
    let W : World → Type 0 = λ w. IsLive w v in
    subst W (sym c.in_ok-cut_apart.ensures.ok) ((c.cut_laws.ensures.numbers w v c.self.invariant.whole.sound).live v (subst S (sym c.self.view_is) c.requires))

pub bind_one-requires-clause-few : goal.bind_one-requires-clause-few
bind_one-requires-clause-few g c =
    let names = c.self.inside.names.entries in
    let x = c.args.name.now in
    let v = c.args.id in
    let fits = fits_bound names x v (sym c.is_full_for.ensures ∙ c.if-is_full_for.false) c.self.invariant.few in
    let X : List ℕ → Type 0 = λ y. length (with_name names y v) ≤ names_limit in
    let N : Named ℕ → Type 0 = λ ns. length (with_name ns c.in_ok-name.name v) ≤ names_limit in
    subst N (sym c.reserve.ensures.names) (subst X (sym c.in_ok-name.ensures.cases) fits)

pub bind_one-requires-clause-small : goal.bind_one-requires-clause-small
bind_one-requires-clause-small g c =
    let leaving : length c.self.inside.leaving.items < 2 ^ 61 = omega (arith, c.self.inside.leaving.ok, c.self.inside.leaving.small) in
    let items : length c.reserve-2.new.self.items ≡ length c.self.inside.leaving.items = ap length c.in_ok-reserve-2.ensures.items in
    let read : List ℕ = read_by c.self.inside.flows.items c.args.id in
    let all : length c.end_flow.new.leaving.items ≡ length c.cut_apart.new.leaving.items + length read = ap length c.end_flow.ensures.leaving ∙ length-append c.cut_apart.new.leaving.items read in
    let room : c.room_to_end-room.result ≡ length read + 1 = c.room_to_end-room.ensures.room ∙ ap (λ fs. length (read_by fs c.args.id) + 1) c.deref.ensures.value in
    omega (arith, leaving, items, all, room, c.room_to_end-room.ensures.small, c.cut_apart.ensures.count)

pub bind_one-requires-clause-held : goal.bind_one-requires-clause-held
bind_one-requires-clause-held g c =
    let ks = c.self.inside.kernels in
    let ws = c.self.inside.watches.items in
    let fs = c.self.inside.flows.items in
    let names = c.reserve.new.self.entries in
    let held = held_same c.self.inside.names.entries names ks ws fs c.self.inside.engine c.self.inside.leaving.items c.reserve-2.new.self.items c.reserve.ensures.names c.in_ok-reserve-2.ensures.items c.self.invariant in
    let t = c.cut_apart.new.engine in
    let cut = c.cut_apart.ensures.held (names_in names ks) ws fs held in
    let ended = held_ended c.keeping_laws.ensures.more (names_in names ks) ws fs t c.args.id c.cut_apart.new.leaving.items cut in
    let L : List ℕ → Type 0 = λ vs. IsHeld (state_in (names_in names ks) ws (without_flow fs c.args.id) t) t.holds vs in
    record { watches = ws; flows = without_flow fs c.args.id; held = held_defined names ks [] ws (without_flow fs c.args.id) t c.end_flow.new.leaving.items (subst L (sym c.end_flow.ensures.leaving) ended) }

pub invariant_of-self-in_err-cut_apart : goal.invariant_of-self-in_err-cut_apart
invariant_of-self-in_err-cut_apart g c =
    let ks = c.self.inside.kernels in
    let ws = c.self.inside.watches.items in
    let fs = c.self.inside.flows.items in
    let names = c.reserve.new.self.entries in
    c.cut_apart.ensures.held (names_in names ks) ws fs (held_same c.self.inside.names.entries names ks ws fs c.self.inside.engine c.self.inside.leaving.items c.reserve-2.new.self.items c.reserve.ensures.names c.in_ok-reserve-2.ensures.items c.self.invariant)

pub invariant_of-self-2 : goal.invariant_of-self-2
invariant_of-self-2 g c =
    let ks = c.self.inside.kernels in
    let ws = c.self.inside.watches.items in
    let fs = c.self.inside.flows.items in
    let names = c.reserve.new.self.entries in
    let held = held_same c.self.inside.names.entries names ks ws fs c.self.inside.engine c.self.inside.leaving.items c.reserve-2.new.self.items c.reserve.ensures.names c.in_ok-reserve-2.ensures.items c.self.invariant in
    let t = c.cut_apart.new.engine in
    let cut = c.cut_apart.ensures.held (names_in names ks) ws fs held in
    let gs = without_flow fs c.args.id in
    let ended = held_ended c.keeping_laws.ensures.more (names_in names ks) ws fs t c.args.id c.cut_apart.new.leaving.items cut in
    let L : List ℕ → Type 0 = λ vs. IsHeld (state_in (names_in names ks) ws gs t) t.holds vs in
    let apart = held_defined names ks [] ws gs t c.end_flow.new.leaving.items (subst L (sym c.end_flow.ensures.leaving) ended) in
    let n = c.bind_one.new.engine in
    let F : Flows → Type 0 = λ hs. IsHeld (state_in (names_in c.bind_one.new.names.entries ks) ws hs n) n.holds c.bind_one.new.leaving.items in
    subst F (sym c.end_flow.ensures.flows) (held_defined c.bind_one.new.names.entries [] ks ws gs n c.bind_one.new.leaving.items (c.bind_one.ensures.held ws gs apart))

pub returns-then-is_full_for-clause-runs : goal.returns-then-is_full_for-clause-runs
returns-then-is_full_for-clause-runs g c =
    let x = c.args.name.now in
    let v = c.args.id in
    let P : Seen → Type 0 = λ s. bind_severed (machine s) x (s.arrays, v) ≡ Err TooManyNames in
    let names = names_in c.self.inside.names.entries c.self.inside.kernels in
    let s = state_in names c.self.inside.watches.items c.self.inside.flows.items c.self.inside.engine in (
      subst P c.self.view_is (unbindable (ending s v) x (cut s.arrays v, v) (sym c.is_full_for.ensures ∙ c.if-is_full_for.true)),
      record { grown = grows_refl c.args.self.now; printed = refl },
    )

pub returns-clause-runs : goal.returns-clause-runs
returns-clause-runs g c =
    let ks = c.self.inside.kernels in
    let ws = c.self.inside.watches.items in
    let fs = c.self.inside.flows.items in
    let names = c.self.inside.names.entries in
    let x = c.args.name.now in
    let v = c.args.id in
    let e = c.self.inside.engine in
    let t = c.cut_apart.new.engine in
    let after = c.bind_one.new.names.entries in
    let end = arrays_of c.bind_one.new.engine in
    let left = c.end_flow.new.flows.items in
    let named : Flows → Named ℕ → Arrays → State = λ hs ns a. record { names = names_in ns ks; arrays = a; watches = ws; flows = hs } in
    let made : after ≡ with_name names x v = c.bind_one.ensures.names ∙ ap (λ ns. with_name ns c.in_ok-name.name v) c.reserve.ensures.names ∙ ap (λ y. with_name names y v) c.in_ok-name.ensures.cases in
    let gs = without_flow fs v in
    let is : named left after end ≡ named gs (with_name names x v) (cut (arrays_of e) v) =
    ap (λ hs. named hs after end) c.end_flow.ensures.flows ∙ ap (λ ns. named gs ns end) made ∙ ap (named gs (with_name names x v)) (ap arrays_of c.bind_one.ensures.same ∙ made_so e t (sever e.world v) c.in_ok-cut_apart.ensures.ok c.cut_apart.ensures.next) in
    let P : Seen → Type 0 = λ s. Prints (bind_severed (machine s) x (s.arrays, v)) (named left after end) [] [] in
    let Q : Stepped → Type 0 = λ r. Prints r (named left after end) [] [] in
    subst P c.self.view_is (subst Q (sym (bindable (named gs names (arrays_of e)) x (cut (arrays_of e) v, v) (sym c.is_full_for.ensures ∙ c.if-is_full_for.false))) (is, refl))

pub returns-in_err-cut_apart-clause-runs : goal.returns-in_err-cut_apart-clause-runs
returns-in_err-cut_apart-clause-runs g c =
    let ks = c.self.inside.kernels in
    let ws = c.self.inside.watches.items in
    let fs = c.self.inside.flows.items in
    let names = names_in c.self.inside.names.entries ks in
    let t = c.cut_apart.new.engine in
    let P : Seen → Type 0 = λ s. Grows s (scope_in (names_in c.reserve.new.self.entries ks) ws fs t) in
    let N : Named ℕ → Type 0 = λ ns. Grows (scope_in names ws fs c.self.inside.engine) (scope_in (names_in ns ks) ws fs t) in
    let grown = subst P c.self.view_is (subst N (sym c.reserve.ensures.names) (kept_so names ws fs c.self.inside.engine t c.in_err-cut_apart.ensures.err c.cut_apart.ensures.next c.in_err-cut_apart.ensures.stay)) in
    search rules

pub returns-clause-counted : goal.returns-clause-counted
returns-clause-counted g c =
    let v = c.args.id in
    let P : Seen → Type 0 = λ s. c.cut_apart.new.steps ≤ c.args.steps.now + (ready_steps (engine_of s) v + size_of (dims_in s.arrays.world v)) in
    subst P c.self.view_is c.cut_apart.ensures.counted

pub returns-in_err-cut_apart-clause-counted : goal.returns-in_err-cut_apart-clause-counted
returns-in_err-cut_apart-clause-counted g c =
    let v = c.args.id in
    let P : Seen → Type 0 = λ s. c.cut_apart.new.steps ≤ c.args.steps.now + (ready_steps (engine_of s) v + size_of (dims_in s.arrays.world v)) in
    subst P c.self.view_is c.cut_apart.ensures.counted

pub returns-clause-spent : goal.returns-clause-spent
returns-clause-spent g c =
    let P : Seen → Type 0 = λ s. root_of s.arrays.world c.args.id ≡ c.args.id → MovesNothing (engine_of s) c.bind_one.new.engine c.args.steps.now c.cut_apart.new.steps in
    subst P c.self.view_is (λ own. nothing_then_holds c.self.inside.engine c.cut_apart.new.engine c.bind_one.new.engine c.args.steps.now c.cut_apart.new.steps (c.cut_apart.ensures.spent own) c.bind_one.ensures.same)

pub returns-in_err-cut_apart-clause-spent : goal.returns-in_err-cut_apart-clause-spent
returns-in_err-cut_apart-clause-spent g c =
    let P : Seen → Type 0 = λ s. root_of s.arrays.world c.args.id ≡ c.args.id → MovesNothing (engine_of s) c.cut_apart.new.engine c.args.steps.now c.cut_apart.new.steps in
    subst P c.self.view_is c.cut_apart.ensures.spent
