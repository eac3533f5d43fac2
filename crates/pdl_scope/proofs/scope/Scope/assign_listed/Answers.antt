use Rattle.std.proofs.Common.{◌≡◌, ◌+◌, ◌≤◌, ℕ, false, [], ◌∷◌, length, Ok, sym, ap, subst, ◌∙◌, arith}
use Rattle.pdl_shape.specs.Shape.{size_of}
use Rattle.pdl_world.specs.Paths.{root_of}
use Rattle.pdl_world.specs.Sound.{IsLive, IsSound}
use Rattle.pdl_world.specs.World.{World, assign, dims_in}
use Rattle.pdl_engine.specs.Reading.{KeepsViews, read_steps}
use Rattle.pdl_machine.specs.Flows.{affected, is_flow}
use Rattle.pdl_machine.specs.Following.{followed}
use Rattle.pdl_machine.specs.State.{State, with_arrays}
use Rattle.pdl_machine.specs.Step.{assigned, flowed}
use Rattle.pdl_machine.specs.Then.{and_then}
use Rattle.pdl_scope.specs.Answers.{Prints}
use Rattle.pdl_scope.specs.Assigning.{IsAlone}
use Rattle.pdl_scope.specs.Scope.{arrays_of, engine_of, machine, names_in, state_in, IsHeld, Scope as Seen}
use Rattle.pdl_scope.proofs.LetGoBounds.{read_views, warmed, written_views}
use Rattle.pdl_scope.proofs.ScopeFlowed.{Laws, alone_followed, flows_after, values_flowed, written_in}
use Rattle.pdl_scope.proofs.ScopeGrowing.{readied, whole_assigned}
use Rattle.pdl_scope.proofs.HoldingLemmas.{held_assigned, held_readied}
use Rattle.pdl_scope.proofs.scope.Scope.assign_listed.Goals as goal

pub invariant_of-self-2 : goal.invariant_of-self-2
invariant_of-self-2 g c =
    let laws : Laws = record {
      plans = record { looks = c.assign_elements_laws.ensures.looks; reads = c.assign_elements_laws.ensures.reads; wholes = c.assign_elements_laws.ensures.wholes; others = c.assign_elements_laws.ensures.others };
      paths = c.assign_elements_laws.ensures.paths;
      numbers = c.assign_elements_laws.ensures.numbers;
      sound = c.assign_elements_laws.ensures.sound;
      keeps = c.assign_elements_laws.ensures.keeps;
      follow = c.assign_elements_laws.ensures.follow;
      only = c.assign_elements_laws.ensures.affected;
    } in
    let names = names_in c.self.inside.names.entries c.self.inside.kernels in
    let ws = c.self.inside.watches.items in
    let fs = c.self.inside.flows.items in
    let e = c.self.inside.engine in
    let t = c.written-found.new.engine in
    let n = c.assign.new.self in
    let v = c.args.target in
    let leaving = c.self.inside.leaving.items in
    let none : is_flow fs (root_of t.world v) ≡ false = ap (λ (w : World). is_flow fs (root_of w v)) c.written-found.ensures.same.world ∙ subst (λ (s : Seen). is_flow s.flows (root_of s.arrays.world v) ≡ false) (sym c.self.view_is) c.requires.unflowed in
    let alone : affected t.world fs (root_of t.world v ∷ []) ≡ [] = ap (λ (w : World). affected w fs (root_of w v ∷ [])) c.written-found.ensures.same.world ∙ (subst (λ (s : Seen). IsAlone s v) (sym c.self.view_is) c.requires.alone).unfollowed in
    let vs = c.deref.result.now in
    let held : IsHeld (state_in names ws fs t) t.holds leaving = held_readied names ws fs e t leaving c.written-found.ensures.same c.self.invariant in
    let is = alone_followed laws names ws fs t n v vs held.whole c.assign.ensures.world c.assign.ensures.next c.assign.ensures.sound none alone in
    held_assigned c.assign_elements_laws.ensures.keeps names ws fs t n v vs leaving held c.assign.ensures.world c.assign.ensures.holds
    (whole_assigned c.assign_elements_laws.ensures.looks c.assign_elements_laws.ensures.numbers names ws fs t n v vs held.whole c.assign.ensures.world c.assign.ensures.next c.assign.ensures.sound
    (flows_after laws names ws fs t n v vs held.whole (subst IsSound c.assign.ensures.world c.assign.ensures.sound) is))

pub returns-clause-runs : goal.returns-clause-runs
returns-clause-runs g c =
    let laws : Laws = record {
      plans = record { looks = c.assign_elements_laws.ensures.looks; reads = c.assign_elements_laws.ensures.reads; wholes = c.assign_elements_laws.ensures.wholes; others = c.assign_elements_laws.ensures.others };
      paths = c.assign_elements_laws.ensures.paths;
      numbers = c.assign_elements_laws.ensures.numbers;
      sound = c.assign_elements_laws.ensures.sound;
      keeps = c.assign_elements_laws.ensures.keeps;
      follow = c.assign_elements_laws.ensures.follow;
      only = c.assign_elements_laws.ensures.affected;
    } in
    let names = names_in c.self.inside.names.entries c.self.inside.kernels in
    let ws = c.self.inside.watches.items in
    let fs = c.self.inside.flows.items in
    let e = c.self.inside.engine in
    let t = c.written-found.new.engine in
    let n = c.assign.new.self in
    let v = c.args.target in
    let leaving = c.self.inside.leaving.items in
    let none : is_flow fs (root_of t.world v) ≡ false = ap (λ (w : World). is_flow fs (root_of w v)) c.written-found.ensures.same.world ∙ subst (λ (s : Seen). is_flow s.flows (root_of s.arrays.world v) ≡ false) (sym c.self.view_is) c.requires.unflowed in
    let alone : affected t.world fs (root_of t.world v ∷ []) ≡ [] = ap (λ (w : World). affected w fs (root_of w v ∷ [])) c.written-found.ensures.same.world ∙ (subst (λ (s : Seen). IsAlone s v) (sym c.self.view_is) c.requires.alone).unfollowed in
    let values = c.in-Ok.found in
    let same = readied names ws fs e t c.written-found.ensures.same ∙ ap machine c.self.view_is in
    let world : n.world ≡ assign t.world v values = c.assign.ensures.world ∙ ap (assign t.world v) (c.deref.ensures.value ∙ c.in_ok-values.ensures) in
    let held : IsHeld (state_in names ws fs t) t.holds leaving = held_readied names ws fs e t leaving c.written-found.ensures.same c.self.invariant in
    let is = alone_followed laws names ws fs t n v values held.whole world c.assign.ensures.next c.assign.ensures.sound none alone in
    let P : State → Type 0 = λ s. Prints (and_then (assigned c.args.sign s.arrays v c.args.value) (λ a. Ok (flowed (with_arrays s a), []))) (state_in names ws fs n) [] [] in
    subst P same (values_flowed c.args.sign names ws fs t n v c.args.value values c.in-Ok.ensures.value is)

pub returns-clause-views : goal.returns-clause-views
returns-clause-views g c =
    let e = c.self.inside.engine in
    let t = c.written-found.new.engine in
    let P : Seen → Type 0 = λ s. KeepsViews c.assign.new.self.world s.arrays.world in
    subst P c.self.view_is (λ v is.
    read_views e t c.written-found.ensures.same v
    (written_views c.assign_elements_laws.ensures.looks t.world c.assign.new.self.world c.args.target c.deref.result.now c.assign.ensures.world v is))

pub returns-clause-warm : goal.returns-clause-warm
returns-clause-warm g c =
    let t = c.written-found.new.engine in
    let P : Seen → Type 0 = λ s. IsLive s.arrays.world c.args.target in
    let live : IsLive c.self.inside.engine.world c.args.target = subst P (sym c.self.view_is) c.requires.target in
    let there : IsLive t.world c.args.target = subst (λ w. IsLive w c.args.target) (sym c.written-found.ensures.same.world) live in
    warmed c.assign_elements_laws.ensures.bases t c.assign.new.self c.args.target c.deref.result.now there c.assign.ensures.world c.assign.ensures.target

pub returns-clause-counted : goal.returns-clause-counted
returns-clause-counted g c =
    let v = c.args.target in
    let u = c.args.value in
    let e = c.self.inside.engine in
    let P : Seen → Type 0 = λ s. c.assign.new.steps ≤ c.args.steps.now + (read_steps (engine_of s) v + read_steps (engine_of s) u) + size_of (dims_in s.arrays.world v) in
    let found = c.written-found.ensures.counted in
    let count : length c.deref.result.now ≡ size_of (dims_in c.written-found.new.engine.world v) = ap length (c.deref.ensures.value ∙ c.in_ok-values.ensures) ∙ c.in-Ok.ensures.made.count in
    let sizes : size_of (dims_in c.written-found.new.engine.world v) ≡ size_of (dims_in e.world v) = ap (λ w. size_of (dims_in w v)) c.written-found.ensures.same.world in
    let moved = c.assign.ensures.counted in
    subst P c.self.view_is (omega (arith, found, count, sizes, moved))

pub returns-in-Err-clause-counted : goal.returns-in-Err-clause-counted
returns-in-Err-clause-counted g c =
    let v = c.args.target in
    let u = c.args.value in
    let P : Seen → Type 0 = λ s. c.written-found.new.steps ≤ c.args.steps.now + (read_steps (engine_of s) v + read_steps (engine_of s) u) + size_of (dims_in s.arrays.world v) in
    subst P c.self.view_is (let found = c.written-found.ensures.counted in omega (arith, found))

pub returns-in_err-values-clause-counted : goal.returns-in_err-values-clause-counted
returns-in_err-values-clause-counted g c =
    let v = c.args.target in
    let u = c.args.value in
    let P : Seen → Type 0 = λ s. c.written-found.new.steps ≤ c.args.steps.now + (read_steps (engine_of s) v + read_steps (engine_of s) u) + size_of (dims_in s.arrays.world v) in
    subst P c.self.view_is (let found = c.written-found.ensures.counted in omega (arith, found))
