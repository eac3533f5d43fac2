use Rattle.std.proofs.Common.{rules, ◌≡◌, ◌+◌, ◌≤◌, ◌<◌, ◌^◌, List, ℕ, [], length, None, Ok, refl, sym, ap, subst, ◌∙◌, arith}
use Rattle.pdl_world.specs.Cut.{reshape}
use Rattle.pdl_shape.specs.Shape.{size_of}
use Rattle.pdl_engine.specs.State.{ready_steps}
use Rattle.pdl_scope.specs.Costs.{MovesNothing}
use Rattle.pdl_machine.specs.Arrays.{Arrays}
use Rattle.pdl_machine.specs.Cuts.{reshaped}
use Rattle.pdl_scope.specs.Flowing.{RootsRise, kept_shape}
use Rattle.pdl_machine.specs.State.{AreLive, State, with_arrays}
use Rattle.pdl_machine.specs.Step.{Stepped}
use Rattle.pdl_machine.specs.Then.{and_then}
use Rattle.pdl_machine.specs.Watches.{Watches, attached}
use Rattle.pdl_scope.specs.Answers.{Prints}
use Rattle.pdl_scope.specs.Scope.{arrays_of, engine_of, machine, names_in, scope_in, state_in, IsHeld, Grows, Scope as Seen}
use Rattle.pdl_machine.specs.Flows.{Flows, all_read}
use Rattle.pdl_scope.proofs.ScopeCuts.{kept_so, made_so, reshape_breaks, reshape_made, reshape_refused, unkept_shape}
use Rattle.pdl_scope.proofs.FlowingStays.{reads_live, roots_rise}
use Rattle.pdl_scope.proofs.HoldingLemmas.{numbers}
use Rattle.pdl_scope.proofs.CostUnmoved.{relaid}
use Rattle.pdl_scope.proofs.ScopeWatches.{live_back}
use Rattle.pdl_scope.proofs.scope.Scope.reshape.Goals as goal

pub kept_shape-requires-clause-watched : goal.kept_shape-requires-clause-watched
kept_shape-requires-clause-watched g c =
    let ws = c.self.inside.watches.items in
    let w = c.self.inside.engine.world in
    let W : Watches → Type 0 = λ us. AreLive w (attached us) in
    subst W (sym c.deref.ensures.value) (live_back w (numbers c.self.inside.names.entries) (attached ws) c.self.invariant.whole.live)

pub kept_shape-requires-clause-read : goal.kept_shape-requires-clause-read
kept_shape-requires-clause-read g c =
    let e = c.self.inside.engine in
    let F : Flows → Type 0 = λ fs. AreLive e.world (all_read fs) in
    subst F (sym c.deref-2.ensures.value) (reads_live (arrays_of e) c.self.inside.flows.items c.self.invariant.whole.flows)

pub kept_shape-requires-clause-rising : goal.kept_shape-requires-clause-rising
kept_shape-requires-clause-rising g c = subst RootsRise (sym c.deref-2.ensures.value) (roots_rise (arrays_of c.self.inside.engine) c.self.inside.flows.items c.self.invariant.whole.flows)

pub laid_anew-requires-clause-small : goal.laid_anew-requires-clause-small
laid_anew-requires-clause-small g c =
    let leaving : length c.self.inside.leaving.items < 2 ^ 61 = omega (arith, c.self.inside.leaving.ok, c.self.inside.leaving.small) in
    let items : length c.reserve.new.self.items ≡ length c.self.inside.leaving.items = ap length c.in_ok-reserve.ensures.items in
    omega (arith, leaving, items)

pub laid_anew-requires-clause-held : goal.laid_anew-requires-clause-held
laid_anew-requires-clause-held g c =
    let names = names_in c.self.inside.names.entries c.self.inside.kernels in
    let ws = c.self.inside.watches.items in
    let fs = c.self.inside.flows.items in
    let P : List ℕ → Type 0 = λ vs. IsHeld (state_in names ws fs c.self.inside.engine) c.self.inside.engine.holds vs in
    record { names = names; watches = ws; flows = fs; held = subst P (sym c.in_ok-reserve.ensures.items) c.self.invariant }

pub invariant_of-self-2 : goal.invariant_of-self-2
invariant_of-self-2 g c =
    let names = names_in c.self.inside.names.entries c.self.inside.kernels in
    let ws = c.self.inside.watches.items in
    let fs = c.self.inside.flows.items in
    let P : List ℕ → Type 0 = λ vs. IsHeld (state_in names ws fs c.self.inside.engine) c.self.inside.engine.holds vs in
    let v = c.args.id in
    let w = c.self.inside.engine.world in
    let none : kept_shape ws fs w v ≡ None = ap (λ us. kept_shape us fs w v) (sym c.deref.ensures.value) ∙ ap (λ gs. kept_shape c.deref.result.now gs w v) (sym c.deref-2.ensures.value) ∙ sym c.kept_shape.ensures ∙ c.in_default.is in
    let free = unkept_shape ws fs w v none in
    c.laid_anew.ensures.held names ws fs free.1 free.2 (subst P (sym c.in_ok-reserve.ensures.items) c.self.invariant)

pub returns-clause-runs : goal.returns-clause-runs
returns-clause-runs g c =
    let ws = c.self.inside.watches.items in
    let fs = c.self.inside.flows.items in
    let ds = c.args.dims.now in
    let e = c.self.inside.engine in
    let t = c.laid_anew.new.engine in
    let state : Arrays → State = λ a. record { names = names_in c.self.inside.names.entries c.self.inside.kernels; arrays = a; watches = ws; flows = fs } in
    let v = c.args.id in
    let w = c.self.inside.engine.world in
    let none : kept_shape ws fs w v ≡ None = ap (λ us. kept_shape us fs w v) (sym c.deref.ensures.value) ∙ ap (λ gs. kept_shape c.deref.result.now gs w v) (sym c.deref-2.ensures.value) ∙ sym c.kept_shape.ensures ∙ c.in_default.is in
    let P : Seen → Type 0 = λ s. Prints (and_then (reshaped s.watches s.flows s.arrays v ds) (λ a. Ok (with_arrays (machine s) a, []))) (state (arrays_of t)) [] [] in
    let Q : Stepped → Type 0 = λ r. Prints r (state (arrays_of t)) [] [] in
    subst P c.self.view_is (subst Q (sym (reshape_made (state (arrays_of e)) v ds c.in_ok-laid_anew.ensures.allowed none))
    (ap state (made_so e t (reshape e.world v ds) c.in_ok-laid_anew.ensures.ok c.laid_anew.ensures.next), refl))

pub returns-in_err-laid_anew-clause-runs : goal.returns-in_err-laid_anew-clause-runs
returns-in_err-laid_anew-clause-runs g c =
    let names = names_in c.self.inside.names.entries c.self.inside.kernels in
    let ws = c.self.inside.watches.items in
    let fs = c.self.inside.flows.items in
    let P : Seen → Type 0 = λ s. Grows s (scope_in names ws fs c.laid_anew.new.engine) in
    let grown = subst P c.self.view_is (kept_so names ws fs c.self.inside.engine c.laid_anew.new.engine c.in_err-laid_anew.ensures.err c.laid_anew.ensures.next c.in_err-laid_anew.ensures.stay) in
    search rules

pub invariant_of-self-in_err-laid_anew : goal.invariant_of-self-in_err-laid_anew
invariant_of-self-in_err-laid_anew g c =
    let names = names_in c.self.inside.names.entries c.self.inside.kernels in
    let ws = c.self.inside.watches.items in
    let fs = c.self.inside.flows.items in
    let P : List ℕ → Type 0 = λ vs. IsHeld (state_in names ws fs c.self.inside.engine) c.self.inside.engine.holds vs in
    let v = c.args.id in
    let w = c.self.inside.engine.world in
    let none : kept_shape ws fs w v ≡ None = ap (λ us. kept_shape us fs w v) (sym c.deref.ensures.value) ∙ ap (λ gs. kept_shape c.deref.result.now gs w v) (sym c.deref-2.ensures.value) ∙ sym c.kept_shape.ensures ∙ c.in_default.is in
    let free = unkept_shape ws fs w v none in
    c.laid_anew.ensures.held names ws fs free.1 free.2 (subst P (sym c.in_ok-reserve.ensures.items) c.self.invariant)

pub returns-clause-counted : goal.returns-clause-counted
returns-clause-counted g c =
    let P : Seen → Type 0 = λ s. c.laid_anew.new.steps ≤ c.args.steps.now + (ready_steps (engine_of s) c.args.id + size_of c.args.dims.now) in
    subst P c.self.view_is c.laid_anew.ensures.counted

pub returns-in_err-laid_anew-clause-counted : goal.returns-in_err-laid_anew-clause-counted
returns-in_err-laid_anew-clause-counted g c =
    let P : Seen → Type 0 = λ s. c.laid_anew.new.steps ≤ c.args.steps.now + (ready_steps (engine_of s) c.args.id + size_of c.args.dims.now) in
    subst P c.self.view_is c.laid_anew.ensures.counted

pub returns-in_err-laid_anew-clause-unchanged : goal.returns-in_err-laid_anew-clause-unchanged
returns-in_err-laid_anew-clause-unchanged g c =
    let P : Seen → Type 0 = λ s. MovesNothing (engine_of s) c.laid_anew.new.engine c.args.steps.now c.laid_anew.new.steps in
    relaid (P c.args.self.now) c.from_residual-in_err-laid_anew.result c.in_err-laid_anew.field-0.0 c.from_residual-in_err-laid_anew.ensures.1 (λ is. subst P c.self.view_is (c.in_err-laid_anew.ensures.unchanged is))
