use Rattle.std.proofs.Common.{◌≡◌, ℕ, false, List, [], ◌∷◌, Result, Ok, refl, sym, subst}
use Rattle.pdl_ops.specs.Answers.{refusal_named}
use Rattle.pdl_ops.specs.Values.{values_for}
use Rattle.pdl_world.specs.Paths.{root_of}
use Rattle.pdl_engine.specs.State.{State as Engine}
use Rattle.pdl_machine.specs.Arrays.{array_in}
use Rattle.pdl_machine.specs.Flows.{affected, is_flow}
use Rattle.pdl_machine.specs.State.{State, with_arrays}
use Rattle.pdl_machine.specs.Step.{assigned, flowed}
use Rattle.pdl_machine.specs.Then.{and_then}
use Rattle.pdl_scope.specs.declared.fault.ScopeFault.{ScopeFault}
use Rattle.pdl_scope.specs.Answers.{IsFault, Prints}
use Rattle.pdl_scope.specs.Assigning.{Assigns, IsAlone}
use Rattle.pdl_scope.specs.Growth.{grows_refl}
use Rattle.pdl_scope.specs.Scope.{Scope as Seen, arrays_of, machine, names_in, scope_in, state_in, Grows, IsHeld}
use Rattle.pdl_scope.proofs.ScopeFlowed.{Laws}
use Rattle.pdl_scope.proofs.ScopeInBlocks.{blocks_held, blocks_printed, blocks_refused}
use Rattle.pdl_scope.proofs.scope.Scope.assign_in_blocks.Goals as goal
use Rattle.pdl_scope.proofs.scope.Scope.assign_in_blocks.Goals.{in-Ok, in-Err}

pub invariant_of-self : goal.invariant_of-self
invariant_of-self g c =
    let laws : Laws = record {
      plans = record { looks = c.assign_elements_laws.ensures.looks; reads = c.assign_elements_laws.ensures.reads; wholes = c.assign_elements_laws.ensures.wholes; others = c.assign_elements_laws.ensures.others };
      paths = c.assign_elements_laws.ensures.paths;
      numbers = c.assign_elements_laws.ensures.numbers;
      sound = c.assign_elements_laws.ensures.sound;
      keeps = c.assign_elements_laws.ensures.keeps;
      follow = c.assign_elements_laws.ensures.follow;
      only = c.assign_elements_laws.ensures.affected;
    } in
    let names = names_in c.self.inside.names.entries c.self.inside.kernels in
    let ws = c.self.inside.watches.items in
    let fs = c.self.inside.flows.items in
    let e = c.self.inside.engine in
    let t = c.assign_blocks.new.engine in
    let v = c.args.target in
    let leaving = c.self.inside.leaving.items in
    let none : is_flow fs (root_of e.world v) ≡ false = subst (λ (s : Seen). is_flow s.flows (root_of s.arrays.world v) ≡ false) (sym c.self.view_is) c.requires.unflowed in
    let alone : affected e.world fs (root_of e.world v ∷ []) ≡ [] = (subst (λ (s : Seen). IsAlone s v) (sym c.self.view_is) c.requires.alone).unfollowed in
    elim c.match-assign_blocks.branch [
      | in-Ok w ↦ blocks_held laws c.args.sign names ws fs e t v c.args.value leaving c.self.invariant none alone w.in-Ok.ensures.assigned
      | in-Err w ↦ subst (λ (x : Engine). IsHeld (state_in names ws fs x) x.holds leaving) (sym w.in-Err.ensures.same) c.self.invariant
    ]

pub returns-clause-runs : goal.returns-clause-runs
returns-clause-runs g c =
    let laws : Laws = record {
      plans = record { looks = c.assign_elements_laws.ensures.looks; reads = c.assign_elements_laws.ensures.reads; wholes = c.assign_elements_laws.ensures.wholes; others = c.assign_elements_laws.ensures.others };
      paths = c.assign_elements_laws.ensures.paths;
      numbers = c.assign_elements_laws.ensures.numbers;
      sound = c.assign_elements_laws.ensures.sound;
      keeps = c.assign_elements_laws.ensures.keeps;
      follow = c.assign_elements_laws.ensures.follow;
      only = c.assign_elements_laws.ensures.affected;
    } in
    let names = names_in c.self.inside.names.entries c.self.inside.kernels in
    let ws = c.self.inside.watches.items in
    let fs = c.self.inside.flows.items in
    let e = c.self.inside.engine in
    let t = c.assign_blocks.new.engine in
    let v = c.args.target in
    let u = c.args.value in
    let sign = c.args.sign in
    let none : is_flow fs (root_of e.world v) ≡ false = subst (λ (s : Seen). is_flow s.flows (root_of s.arrays.world v) ≡ false) (sym c.self.view_is) c.requires.unflowed in
    let alone : affected e.world fs (root_of e.world v ∷ []) ≡ [] = (subst (λ (s : Seen). IsAlone s v) (sym c.self.view_is) c.requires.alone).unfollowed in
    let P : Result (Unit {0}) ScopeFault → Type 0 = λ r. Assigns sign v u c.args.self.now (scope_in names ws fs t) r in
    let O : Seen → Type 0 = λ s. Prints (and_then (assigned sign s.arrays v u) (λ a. Ok (flowed (with_arrays (machine s) a), []))) (state_in names ws fs t) [] [] in
    let E : ScopeFault → Seen → Type 0 = λ f s. IsFault {U = State × List ℕ} (and_then (assigned sign s.arrays v u) (λ a. Ok (flowed (with_arrays (machine s) a), []))) f in
    let kept : Grows c.args.self.now (scope_in names ws fs e) = subst (λ (s : Seen). Grows s (scope_in names ws fs e)) c.self.view_is (grows_refl (scope_in names ws fs e)) in
    elim c.match-assign_blocks.branch [
      | in-Ok w ↦ subst P (sym w.result-is) (subst O c.self.view_is (blocks_printed laws sign names ws fs e t v u c.self.invariant.whole none alone w.in-Ok.ensures.assigned))
      | in-Err w ↦ subst P (sym w.result-is) (
        subst (E w.from.result) c.self.view_is
            (subst (λ f. E f (scope_in names ws fs e)) (sym w.from.ensures)
            (blocks_refused (values_for sign (array_in (arrays_of e) v) (array_in (arrays_of e) u)) (refusal_named w.in-Err.fault) _ _ w.in-Err.ensures.refused)),
        record { grown = subst (λ (x : Engine). Grows c.args.self.now (scope_in names ws fs x)) (sym w.in-Err.ensures.same) kept; printed = refl },
      )
    ]
