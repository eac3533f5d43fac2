use Rattle.std.proofs.Common.{◌≡◌, false, [], ◌∷◌, Ok, sym, subst}
use Rattle.pdl_lexemes.specs.declared.AssignOp.TheVariants.{Set}
use Rattle.pdl_world.specs.Paths.{root_of}
use Rattle.pdl_machine.specs.Flows.{affected, is_flow}
use Rattle.pdl_machine.specs.State.{with_arrays}
use Rattle.pdl_machine.specs.Step.{assigned, flowed}
use Rattle.pdl_machine.specs.Then.{and_then}
use Rattle.pdl_scope.specs.Answers.{Prints}
use Rattle.pdl_scope.specs.Assigning.{IsAlone}
use Rattle.pdl_scope.specs.Scope.{Scope as Seen, machine, names_in, state_in}
use Rattle.pdl_scope.proofs.ScopeFlowed.{Laws}
use Rattle.pdl_scope.proofs.ScopeInBlocks.{blocks_held, blocks_printed}
use Rattle.pdl_scope.proofs.scope.Scope.assign_through.Goals as goal

pub invariant_of-self-2 : goal.invariant_of-self-2
invariant_of-self-2 g c =
    let laws : Laws = record {
      plans = record { looks = c.assign_elements_laws.ensures.looks; reads = c.assign_elements_laws.ensures.reads; wholes = c.assign_elements_laws.ensures.wholes; others = c.assign_elements_laws.ensures.others };
      paths = c.assign_elements_laws.ensures.paths;
      numbers = c.assign_elements_laws.ensures.numbers;
      sound = c.assign_elements_laws.ensures.sound;
      keeps = c.assign_elements_laws.ensures.keeps;
      follow = c.assign_elements_laws.ensures.follow;
      only = c.assign_elements_laws.ensures.affected;
    } in
    let names = names_in c.self.inside.names.entries c.self.inside.kernels in
    let ws = c.self.inside.watches.items in
    let fs = c.self.inside.flows.items in
    let e = c.self.inside.engine in
    let v = c.args.target in
    let none : is_flow fs (root_of e.world v) ≡ false = subst (λ (s : Seen). is_flow s.flows (root_of s.arrays.world v) ≡ false) (sym c.self.view_is) c.requires.unflowed in
    let alone : affected e.world fs (root_of e.world v ∷ []) ≡ [] = (subst (λ (s : Seen). IsAlone s v) (sym c.self.view_is) c.requires.alone).unfollowed in
    blocks_held laws Set names ws fs e c.assign_through.new.engine v c.args.value c.self.inside.leaving.items c.self.invariant none alone c.in_ok-assign_through.ensures.assigned

pub returns-clause-runs : goal.returns-clause-runs
returns-clause-runs g c =
    let laws : Laws = record {
      plans = record { looks = c.assign_elements_laws.ensures.looks; reads = c.assign_elements_laws.ensures.reads; wholes = c.assign_elements_laws.ensures.wholes; others = c.assign_elements_laws.ensures.others };
      paths = c.assign_elements_laws.ensures.paths;
      numbers = c.assign_elements_laws.ensures.numbers;
      sound = c.assign_elements_laws.ensures.sound;
      keeps = c.assign_elements_laws.ensures.keeps;
      follow = c.assign_elements_laws.ensures.follow;
      only = c.assign_elements_laws.ensures.affected;
    } in
    let names = names_in c.self.inside.names.entries c.self.inside.kernels in
    let ws = c.self.inside.watches.items in
    let fs = c.self.inside.flows.items in
    let e = c.self.inside.engine in
    let t = c.assign_through.new.engine in
    let v = c.args.target in
    let u = c.args.value in
    let none : is_flow fs (root_of e.world v) ≡ false = subst (λ (s : Seen). is_flow s.flows (root_of s.arrays.world v) ≡ false) (sym c.self.view_is) c.requires.unflowed in
    let alone : affected e.world fs (root_of e.world v ∷ []) ≡ [] = (subst (λ (s : Seen). IsAlone s v) (sym c.self.view_is) c.requires.alone).unfollowed in
    let O : Seen → Type 0 = λ s. Prints (and_then (assigned Set s.arrays v u) (λ a. Ok (flowed (with_arrays (machine s) a), []))) (state_in names ws fs t) [] [] in
    subst O c.self.view_is (blocks_printed laws Set names ws fs e t v u c.self.invariant.whole none alone c.in_ok-assign_through.ensures.assigned)
