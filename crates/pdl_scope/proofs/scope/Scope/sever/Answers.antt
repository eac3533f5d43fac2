use Rattle.std.proofs.Common.{rules, ◌≡◌, ◌+◌, ◌≤◌, ◌<◌, ◌^◌, List, ℕ, [], length, refl, sym, ap, subst, ◌∙◌, arith}
use Rattle.pdl_world.specs.Cut.{sever}
use Rattle.pdl_shape.specs.Shape.{size_of}
use Rattle.pdl_world.specs.Paths.{root_of}
use Rattle.pdl_world.specs.World.{dims_in}
use Rattle.pdl_engine.specs.State.{ready_steps}
use Rattle.pdl_scope.specs.Costs.{MovesNothing}
use Rattle.pdl_machine.specs.Arrays.{Arrays}
use Rattle.pdl_machine.specs.Flows.{Flows, without_flow}
use Rattle.pdl_machine.specs.State.{State}
use Rattle.pdl_machine.specs.Step.{severing}
use Rattle.pdl_scope.specs.Answers.{Prints}
use Rattle.pdl_scope.specs.Scope.{arrays_of, engine_of, machine, names_in, scope_in, state_in, IsHeld, Grows, Scope as Seen}
use Rattle.pdl_scope.specs.Flowing.{RootsRise}
use Rattle.pdl_scope.proofs.ScopeCuts.{kept_so, made_so}
use Rattle.pdl_scope.proofs.FlowingEnds.{held_ended}
use Rattle.pdl_scope.proofs.FlowingStays.{roots_rise}
use Rattle.pdl_scope.proofs.scope.Scope.sever.Goals as goal

pub cut_apart-requires-clause-small : goal.cut_apart-requires-clause-small
cut_apart-requires-clause-small g c =
    let leaving : length c.self.inside.leaving.items < 2 ^ 61 = omega (arith, c.self.inside.leaving.ok, c.self.inside.leaving.small) in
    let items : length c.reserve.new.self.items ≡ length c.self.inside.leaving.items = ap length c.in_ok-reserve.ensures.items in
    omega (arith, leaving, items)

pub cut_apart-requires-clause-held : goal.cut_apart-requires-clause-held
cut_apart-requires-clause-held g c =
    let names = names_in c.self.inside.names.entries c.self.inside.kernels in
    let ws = c.self.inside.watches.items in
    let fs = c.self.inside.flows.items in
    let P : List ℕ → Type 0 = λ vs. IsHeld (state_in names ws fs c.self.inside.engine) c.self.inside.engine.holds vs in
    record { names = names; watches = ws; flows = fs; held = subst P (sym c.in_ok-reserve.ensures.items) c.self.invariant }

pub room_to_end-room-requires : goal.room_to_end-room-requires
room_to_end-room-requires g c = subst RootsRise (sym c.deref.ensures.value) (roots_rise (arrays_of c.self.inside.engine) c.self.inside.flows.items c.self.invariant.whole.flows)

pub end_flow-requires-clause-rising : goal.end_flow-requires-clause-rising
end_flow-requires-clause-rising g c = roots_rise (arrays_of c.self.inside.engine) c.self.inside.flows.items c.self.invariant.whole.flows

pub invariant_of-self-2 : goal.invariant_of-self-2
invariant_of-self-2 g c =
    let names = names_in c.self.inside.names.entries c.self.inside.kernels in
    let ws = c.self.inside.watches.items in
    let fs = c.self.inside.flows.items in
    let t = c.cut_apart.new.engine in
    let left = c.cut_apart.new.leaving.items in
    let P : List ℕ → Type 0 = λ vs. IsHeld (state_in names ws fs c.self.inside.engine) c.self.inside.engine.holds vs in
    let cut = c.cut_apart.ensures.held names ws fs (subst P (sym c.in_ok-reserve.ensures.items) c.self.invariant) in
    let F : Flows → Type 0 = λ gs. IsHeld (state_in names ws gs t) t.holds c.end_flow.new.leaving.items in
    let L : List ℕ → Type 0 = λ vs. IsHeld (state_in names ws (without_flow fs c.args.id) t) t.holds vs in
    subst F (sym c.end_flow.ensures.flows) (subst L (sym c.end_flow.ensures.leaving) (held_ended c.more_held_law.ensures names ws fs t c.args.id left cut))

pub returns-clause-runs : goal.returns-clause-runs
returns-clause-runs g c =
    let v = c.args.id in
    let e = c.self.inside.engine in
    let t = c.cut_apart.new.engine in
    let fs = c.self.inside.flows.items in
    let left = c.end_flow.new.flows.items in
    let state : Flows → Arrays → State = λ gs a. record { names = names_in c.self.inside.names.entries c.self.inside.kernels; arrays = a; watches = c.self.inside.watches.items; flows = gs } in
    let P : Seen → Type 0 = λ s. Prints (severing (machine s) v) (state left (arrays_of t)) [] [] in
    subst P c.self.view_is (ap (λ gs. state gs (arrays_of t)) c.end_flow.ensures.flows ∙ ap (state (without_flow fs v)) (made_so e t (sever e.world v) c.in_ok-cut_apart.ensures.ok c.cut_apart.ensures.next), refl)

pub returns-in_err-cut_apart-clause-runs : goal.returns-in_err-cut_apart-clause-runs
returns-in_err-cut_apart-clause-runs g c =
    let names = names_in c.self.inside.names.entries c.self.inside.kernels in
    let ws = c.self.inside.watches.items in
    let fs = c.self.inside.flows.items in
    let P : Seen → Type 0 = λ s. Grows s (scope_in names ws fs c.cut_apart.new.engine) in
    let grown = subst P c.self.view_is (kept_so names ws fs c.self.inside.engine c.cut_apart.new.engine c.in_err-cut_apart.ensures.err c.cut_apart.ensures.next c.in_err-cut_apart.ensures.stay) in
    search rules

pub invariant_of-self-in_err-cut_apart : goal.invariant_of-self-in_err-cut_apart
invariant_of-self-in_err-cut_apart g c =
    let names = names_in c.self.inside.names.entries c.self.inside.kernels in
    let ws = c.self.inside.watches.items in
    let fs = c.self.inside.flows.items in
    let P : List ℕ → Type 0 = λ vs. IsHeld (state_in names ws fs c.self.inside.engine) c.self.inside.engine.holds vs in
    c.cut_apart.ensures.held names ws fs (subst P (sym c.in_ok-reserve.ensures.items) c.self.invariant)

pub returns-clause-counted : goal.returns-clause-counted
returns-clause-counted g c =
    let v = c.args.id in
    let P : Seen → Type 0 = λ s. c.cut_apart.new.steps ≤ c.args.steps.now + (ready_steps (engine_of s) v + size_of (dims_in s.arrays.world v)) in
    subst P c.self.view_is c.cut_apart.ensures.counted

pub returns-in_err-cut_apart-clause-counted : goal.returns-in_err-cut_apart-clause-counted
returns-in_err-cut_apart-clause-counted g c =
    let v = c.args.id in
    let P : Seen → Type 0 = λ s. c.cut_apart.new.steps ≤ c.args.steps.now + (ready_steps (engine_of s) v + size_of (dims_in s.arrays.world v)) in
    subst P c.self.view_is c.cut_apart.ensures.counted

pub returns-clause-spent : goal.returns-clause-spent
returns-clause-spent g c =
    let P : Seen → Type 0 = λ s. root_of s.arrays.world c.args.id ≡ c.args.id → MovesNothing (engine_of s) c.cut_apart.new.engine c.args.steps.now c.cut_apart.new.steps in
    subst P c.self.view_is c.cut_apart.ensures.spent

pub returns-in_err-cut_apart-clause-spent : goal.returns-in_err-cut_apart-clause-spent
returns-in_err-cut_apart-clause-spent g c =
    let P : Seen → Type 0 = λ s. root_of s.arrays.world c.args.id ≡ c.args.id → MovesNothing (engine_of s) c.cut_apart.new.engine c.args.steps.now c.cut_apart.new.steps in
    subst P c.self.view_is c.cut_apart.ensures.spent
