-- Assignments that were made block by block.
use Rattle.std.proofs.Common.{◌≡◌, ℕ, ℤ, false, List, [], ◌∷◌, Option, Some, None, Result, Ok, ap, subst}
use Rattle.std.specs.Prelude.{option_map}
use Rattle.pdl_lexemes.specs.declared.AssignOp.{AssignOp}
use Rattle.pdl_ops.specs.Answers.{IsRefused}
use Rattle.pdl_ops.specs.Elementwise.{OpRefusal}
use Rattle.pdl_world.specs.Paths.{root_of}
use Rattle.pdl_world.specs.Sound.{IsSound}
use Rattle.pdl_engine.specs.State.{State as Engine}
use Rattle.pdl_assign.specs.Blocks.{IsAssigned}
use Rattle.pdl_machine.specs.Flows.{Flows, affected, is_flow}
use Rattle.pdl_machine.specs.Following.{followed}
use Rattle.pdl_machine.specs.Names.{Names}
use Rattle.pdl_machine.specs.Refused.{operator_fault, or_named}
use Rattle.pdl_machine.specs.State.{with_arrays, IsWhole}
use Rattle.pdl_machine.specs.Step.{assigned, flowed}
use Rattle.pdl_machine.specs.Then.{and_then}
use Rattle.pdl_machine.specs.Watches.{Watches}
use Rattle.pdl_machine.specs.declared.fault.Fault.{Fault}
use Rattle.pdl_scope.specs.Answers.{IsFault, Prints}
use Rattle.pdl_scope.specs.Faults.{scope_fault}
use Rattle.pdl_scope.specs.Scope.{arrays_of, state_in, IsHeld}
use Rattle.pdl_scope.proofs.ScopeFlowed.{Laws, alone_followed, flows_after, values_flowed, written_in}
use Rattle.pdl_scope.proofs.ScopeGrowing.{whole_assigned}
use Rattle.pdl_scope.proofs.HoldingLemmas.{held_assigned}

-- flows have followed, where none has to
pub blocks_followed : Laws → (sign : AssignOp) (names : Names) (ws : Watches) (fs : Flows) (e t : Engine) (v u : ℕ) → IsWhole (state_in names ws fs e) → is_flow fs (root_of e.world v) ≡ false → affected e.world fs (root_of e.world v ∷ []) ≡ []
    → (d : IsAssigned sign e v u t) → arrays_of t ≡ followed (written_in (arrays_of e) v d.values) fs
blocks_followed laws sign names ws fs e t v u whole none alone d =
    alone_followed laws names ws fs e t v d.values whole d.written.world d.written.next d.written.sound none alone

-- the arrays are those after the assignment, and nothing is printed
pub blocks_printed : Laws → (sign : AssignOp) (names : Names) (ws : Watches) (fs : Flows) (e t : Engine) (v u : ℕ) → IsWhole (state_in names ws fs e) → is_flow fs (root_of e.world v) ≡ false → affected e.world fs (root_of e.world v ∷ []) ≡ []
    → IsAssigned sign e v u t → Prints (and_then (assigned sign (arrays_of e) v u) (λ a. Ok (flowed (with_arrays (state_in names ws fs e) a), []))) (state_in names ws fs t) [] []
blocks_printed laws sign names ws fs e t v u whole none alone d =
    values_flowed sign names ws fs e t v u d.values (ap (or_named operator_fault) d.found) (blocks_followed laws sign names ws fs e t v u whole none alone d)

-- and held as before
pub blocks_held : Laws → (sign : AssignOp) (names : Names) (ws : Watches) (fs : Flows) (e t : Engine) (v u : ℕ) (leaving : List ℕ) → IsHeld (state_in names ws fs e) e.holds leaving → is_flow fs (root_of e.world v) ≡ false → affected e.world fs (root_of e.world v ∷ []) ≡ []
    → IsAssigned sign e v u t → IsHeld (state_in names ws fs t) t.holds leaving
blocks_held laws sign names ws fs e t v u leaving h none alone d =
    held_assigned laws.keeps names ws fs e t v d.values leaving h d.written.world d.written.holds
    (whole_assigned laws.plans.looks laws.numbers names ws fs e t v d.values h.whole d.written.world d.written.next d.written.sound
    (flows_after laws names ws fs e t v d.values h.whole (subst IsSound d.written.world d.written.sound) (blocks_followed laws sign names ws fs e t v u h.whole none alone d)))

-- what refuses the values refuses the statement
pub blocks_refused : {A B : Type 0} (wanted : Result (List ℤ) OpRefusal) (named : Option OpRefusal) (next : List ℤ → Result A Fault) (more : A → Result B Fault) → IsRefused wanted named
    → IsFault (and_then (and_then (or_named operator_fault wanted) next) more) (scope_fault (option_map operator_fault named))
blocks_refused wanted None next more h = tt
blocks_refused wanted (Some refusal) next more h = ap (λ x. and_then (and_then (or_named operator_fault x) next) more) h
