-- A target is read as its views, one after another.
use Rattle.std.proofs.Common.{◌≡◌, ℕ, ◌+◌, ◌<◌, List, [], ◌∷◌, ◌++◌, length, take, drop, Ok, Err, refl, sym, ap, ◌∙◌}
use Rattle.std.specs.Prelude.{fold, map, slice_index_or, Bool, if◌then◌else◌}
use Rattle.std.proofs.lemmas.List.{take_more, take-append-drop, map-append}
use Rattle.std.proofs.lemmas.List.Sums.{fold-append}
use Rattle.pdl_syntax.specs.declared.tree.Arg.{Arg, Value, Str, OfType}
use Rattle.pdl_syntax.specs.declared.tree.ViewCall.{ViewCall}
use Rattle.pdl_syntax.specs.Tree.{Tree, Args, named, call, none, value, text, of_type}
use Rattle.pdl_syntax.specs.TreeOf.{args_of}
use Rattle.pdl_syntax.specs.StatementTree.{View, view_of}
use Rattle.pdl_machine.specs.declared.fault.Fault.{Fault}
use Rattle.pdl_machine.specs.declared.fault.Fault.TheVariants.{FlowTarget}
use Rattle.pdl_machine.specs.Names.{Names}
use Rattle.pdl_machine.specs.Arrays.{Arrays}
use Rattle.pdl_machine.specs.Flows.{Flows, is_flow}
use Rattle.pdl_machine.specs.Step.{behind, target, target_in, unless_flow}
use Rattle.pdl_machine.specs.Then.{and_then}
use Rattle.pdl_machine.specs.Value.{value_of, taken}
use Rattle.pdl_session.specs.declared.given.Given.{Given}
use Rattle.pdl_session.specs.declared.given.Given.TheVariants.{Array}
use Rattle.pdl_session.specs.Arguments.{arguments}
use Rattle.pdl_session.proofs.ArgumentEvals.{with_given}
use Rattle.pdl_scope.specs.declared.fault.ScopeFault.{ScopeFault}
use Rattle.pdl_scope.specs.declared.fault.ScopeFault.TheVariants.{Script, NoMemory}
use Rattle.pdl_scope.specs.Answers.{IsFault}
use Rattle.pdl_scope.specs.Scope.{Scope, machine, Grows}
use Rattle.pdl_world.specs.Paths.{root_of}

-- arguments behind a first one are those after it
pub behind_args : (e : Tree) (args : List Arg) (front : Args) → behind e (args_of args front) ≡ args_of args (behind e front)
behind_args e [] front = refl
behind_args e (Value v ∷ args) front = behind_args e args _
behind_args e (Str t ∷ args) front = behind_args e args _
behind_args e (OfType ty ∷ args) front = behind_args e args _

abbrev pub called : Tree → View → Tree
called e v = call v.0 (behind e v.1)

fault_behind : (names : Names) (a : Arrays) (e : Tree) (f : Fault) → value_of names a e ≡ Err f → (args : Args) → taken names a (behind e args) ≡ Err f
fault_behind names a e f h none = rw h refl
fault_behind names a e f h (value front v) = rw (fault_behind names a e f h front) refl
fault_behind names a e f h (text front t) = rw (fault_behind names a e f h front) refl
fault_behind names a e f h (of_type front ty) = rw (fault_behind names a e f h front) refl

-- after a fault no view is made
fault_stays : (names : Names) (a : Arrays) (f : Fault) (views : List View) (e : Tree) → value_of names a e ≡ Err f → value_of names a (fold called e views) ≡ Err f
fault_stays names a f [] e h = h
fault_stays names a f (v ∷ views) e h = fault_stays names a f views (called e v) (rw (fault_behind names a e f h v.1) refl)

-- the target up to the next view
pub target_more : (x : List ℕ) (views : List ViewCall) (i : ℕ) (v : ViewCall) → i < length views → v ≡ slice_index_or views i v
    → target x (map view_of (take (i + 1) views)) ≡ called (target x (map view_of (take i views))) (view_of v)
target_more x views i v lt at =
    ap (λ vs. target x (map view_of vs)) (take_more views i v lt ∙ ap (λ w. take i views ++ w ∷ []) (sym at)) ∙ appended x (take i views) (v ∷ [])
  where
    appended : (x : List ℕ) (vs ws : List ViewCall) → target x (map view_of (vs ++ ws)) ≡ fold called (target x (map view_of vs)) (map view_of ws)
    appended x vs ws = ap (target x) (map-append view_of vs ws) ∙ fold-append called (named x) (map view_of vs) (map view_of ws)

-- the fault of one view is the target's
pub fault_at : (names : Names) (a : Arrays) (x : List ℕ) (views : List ViewCall) (i : ℕ) (e : ScopeFault)
    → IsFault (value_of names a (target x (map view_of (take i views)))) e → IsFault (value_of names a (target x (map view_of views))) e
fault_at names a x views i NoMemory h = tt
fault_at names a x views i (Script f) h =
    ap (λ vs. value_of names a (target x (map view_of vs))) (sym (take-append-drop i views))
    ∙ ap (value_of names a) (ap (target x) (map-append view_of (take i views) (drop i views)) ∙ fold-append called (named x) (map view_of (take i views)) (map view_of (drop i views)))
    ∙ fault_stays names a f (map view_of (drop i views)) (target x (map view_of (take i views))) h

-- the array that a tree gave is its view's first argument
pub first_taken : (names : Names) (a b : Arrays) (e : Tree) (v : ℕ) (given : List Given) → value_of names a e ≡ Ok (b, v) → given ≡ Array v ∷ [] → taken names a (value none e) ≡ Ok (b, arguments given)
first_taken names a b e v given h g = rw h (ap (λ gs. with_given b (arguments gs)) (sym g))

-- a target's array is assigned to unless its root is a flow's
pub aimed_at : (old mid : Scope) (to : Tree) (v : ℕ) (flowing : Bool) → value_of old.names old.arrays to ≡ Ok (mid.arrays, v) → Grows old mid → is_flow mid.flows (root_of mid.arrays.world v) ≡ flowing
    → target_in (machine old) to ≡ (if flowing then Err FlowTarget else Ok (mid.arrays, v))
aimed_at old mid to v flowing is g flows =
    ap (λ x. and_then x (unless_flow old.flows)) is
    ∙ ap (λ (fs : Flows). unless_flow fs (mid.arrays, v)) (sym g.flows)
    ∙ ap (λ (b : Bool). if b then Err FlowTarget else Ok (mid.arrays, v)) flows
