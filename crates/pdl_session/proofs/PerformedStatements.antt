-- What a statement does, from what its parts do.
use Rattle.std.proofs.Common.{◌≡◌, ◌≢◌, ℕ, length, get_or, arith, List, [], ◌∷◌, Result, Ok, Err, refl, sym, ap, subst, ◌∙◌}
use Rattle.std.specs.Prelude.{◌++◌, take, OnErr}
use Rattle.std.specs.Result.{IsErrAnd}
use Rattle.std.proofs.lemmas.List.{append-nil, take_at}
use Rattle.pdl_buf.specs.declared.made.Made.{Made}
use Rattle.pdl_lexemes.specs.declared.AssignOp.{AssignOp}
use Rattle.pdl_syntax.specs.Tree.{Tree, Args, call}
use Rattle.pdl_syntax.specs.StatementTree.{bind_list}
use Rattle.pdl_machine.specs.declared.fault.Fault.{Fault}
use Rattle.pdl_machine.specs.Names.{Names}
use Rattle.pdl_machine.specs.Arrays.{Arrays}
use Rattle.pdl_machine.specs.Then.{and_then}
use Rattle.pdl_machine.specs.State.{State, with_arrays, IsWhole}
use Rattle.pdl_machine.specs.Outcome.{Given as Argument, Seen, Valued}
use Rattle.pdl_machine.specs.Calls.{Callee, callee_of, several, value_by, call_value}
use Rattle.pdl_machine.specs.Value.{value_of, taken}
use Rattle.pdl_machine.specs.Tidy.{tidy}
use Rattle.pdl_machine.specs.Laws.{NewArraysUnseen}
use Rattle.pdl_machine.specs.Step.{Stepped, bind_value, bound, roots_bound, outputs_bound, list_bound, assigned, assigning, effect, flowed, target_in}
use Rattle.pdl_scope.specs.declared.fault.ScopeFault.{ScopeFault}
use Rattle.pdl_scope.specs.declared.fault.ScopeFault.TheVariants.{NoMemory}
use Rattle.pdl_session.specs.declared.given.Given.{Given}
use Rattle.pdl_session.specs.Arguments.{arguments, all_seen_of}
use Rattle.pdl_scope.specs.Scope.{Scope, machine, OnlyReads, Grows}
use Rattle.pdl_scope.specs.Answers.{IsFault, Prints, Runs}
use Rattle.pdl_print.specs.Pieces.{Begins}
use Rattle.pdl_session.specs.Performed.{Performs}
use Rattle.pdl_scope.specs.Growth.{as_grown, grows_trans, unread, reads_grow}
use Rattle.pdl_session.proofs.ScopeFacts.{first_fault, state_is}
use Rattle.pdl_session.proofs.FlowNeeds.{read_live}

-- a statement that goes on from where new arrays came
pub runs_from : {T : Type 0} (r : Result T ScopeFault) (x y : Stepped) (old mid new : Scope) (o n : List ℕ) → y ≡ x → Grows old mid → Runs x mid new o n r → Runs y old new o n r
runs_from (Ok u) x y old mid new o n e g h = let P : Stepped → Type 0 = λ z. Prints z (machine new) o n in subst P (sym e) h
runs_from (Err f) x y old mid new o n e g h = (let F : Stepped → Type 0 = λ z. IsFault z f in subst F (sym e) h.0, record { grown = grows_trans old mid new g h.1.grown; printed = h.1.printed })

-- a binding, after its value came
pub runs_bound : {T : Type 0} (r : Result T ScopeFault) (old mid new : Scope) (x : List ℕ) (valued : Valued) (id : ℕ) → valued ≡ Ok (mid.arrays, id) → Grows old mid
    → Runs (bind_value (machine mid) x (mid.arrays, id)) mid new [] [] r → Runs (bound (machine old) x valued) old new [] [] r
runs_bound r old mid new x valued id is g h =
    let next : State → Stepped = λ s. bind_value s x (mid.arrays, id) in
    runs_from r (bind_value (machine mid) x (mid.arrays, id)) (bound (machine old) x valued) old mid new [] [] (ap (λ v. and_then v (bind_value (machine old) x)) is ∙ ap next (sym (state_is old mid g))) g h

-- the one output of a call, bound to one name
pub one_output : (s : State) (x f : List ℕ) (t : Arrays × List Argument) → list_bound s (x ∷ []) f t ≡ bound s x (call_value s.names f t.0 t.1)
one_output s x f t = by_callee (callee_of s.names f)
  where
    by_callee : (c : Result Callee Fault) → and_then c (outputs_bound s (x ∷ []) t) ≡ and_then (and_then c (value_by t.0 t.1)) (bind_value s x)
    by_callee (Ok c) = refl
    by_callee (Err e) = refl

pub runs_output : {T : Type 0} (r : Result T ScopeFault) (old mid new : Scope) (xs : List (List ℕ)) (x f : List ℕ) (given : List Argument) (id : ℕ) → length xs ≡ 1 → x ≡ get_or xs 0 x
    → call_value old.names f old.arrays given ≡ Ok (mid.arrays, id) → Grows old mid → Runs (bind_value (machine mid) x (mid.arrays, id)) mid new [] [] r → Runs (list_bound (machine old) xs f (old.arrays, given)) old new [] [] r
runs_output r old mid new [] x f given id one first output g h = absurd (omega arith)
runs_output r old mid new (y ∷ z ∷ xs) x f given id one first output g h = absurd (omega arith)
runs_output r old mid new (y ∷ []) x f given id one first output g h =
    let e : list_bound (machine old) (y ∷ []) f (old.arrays, given) ≡ bound (machine old) x (call_value old.names f old.arrays given) =
    ap (λ n. list_bound (machine old) (n ∷ []) f (old.arrays, given)) (sym first) ∙ one_output (machine old) x f (old.arrays, given) in
    subst (λ (s : Stepped). Runs s old new [] [] r) (sym e) (runs_bound r old mid new x (call_value old.names f old.arrays given) id output g h)

pub output_refused : (old : State) (xs : List (List ℕ)) (f : List ℕ) (given : List Argument) (e : ScopeFault) → length xs ≡ 1 → IsFault (call_value old.names f old.arrays given) e
    → IsFault (list_bound old xs f (old.arrays, given)) e
output_refused old [] f given e one h = absurd (omega arith)
output_refused old (x ∷ y ∷ xs) f given e one h = absurd (omega arith)
output_refused old (x ∷ []) f given e one h =
    subst (λ s. IsFault s e) (sym (one_output old x f (old.arrays, given))) (first_fault (call_value old.names f old.arrays given) (bind_value old x) e h)

-- the outputs that a name stands for
abbrev outputs_for : State → List (List ℕ) → List ℕ → List Seen → Result (List Made) Fault
outputs_for s xs f seen = and_then (callee_of s.names f) (several (length xs) seen)

-- the outputs of a call, bound to names that aren't one
pub several_is : (s : State) (xs : List (List ℕ)) (f : List ℕ) (given : List Given) → length xs ≢ 1
    → list_bound s xs f (s.arrays, arguments given) ≡ and_then (outputs_for s xs f (all_seen_of s.arrays given)) (roots_bound s xs)
several_is s xs f given many = by_callee (callee_of s.names f) xs many
  where
    by_callee : (c : Result Callee Fault) (xs : List (List ℕ)) → length xs ≢ 1
        → and_then c (outputs_bound s xs (s.arrays, arguments given)) ≡ and_then (and_then c (several (length xs) (all_seen_of s.arrays given))) (roots_bound s xs)
    by_callee (Err e) xs many = refl
    by_callee (Ok c) (x ∷ []) many = absurd (many refl)
    by_callee (Ok c) [] many = refl
    by_callee (Ok c) (x ∷ y ∷ xs) many = refl

-- which are found in a scope where something was read
pub several_read : (old mid : Scope) (xs : List (List ℕ)) (f : List ℕ) (given : List Given) (wanted : ℕ) (ms : List Made) → length xs ≢ 1 → wanted ≡ length xs
    → and_then (callee_of old.names f) (several wanted (all_seen_of old.arrays given)) ≡ Ok ms → OnlyReads old mid → list_bound (machine old) xs f (old.arrays, arguments given) ≡ roots_bound (machine mid) xs ms
several_read old mid xs f given wanted ms many count output same =
    let all : outputs_for (machine old) xs f (all_seen_of old.arrays given) ≡ Ok ms = ap (λ n. and_then (callee_of old.names f) (several n (all_seen_of old.arrays given))) (sym count) ∙ output in
    several_is (machine old) xs f given many ∙ ap (λ o. and_then o (roots_bound (machine old) xs)) all ∙ ap (λ (s : State). roots_bound s xs ms) (sym (unread old mid same))

pub runs_several : {T : Type 0} (r : Result T ScopeFault) (old mid new : Scope) (xs : List (List ℕ)) (f : List ℕ) (given : List Given) (wanted : ℕ) (ms : List Made) → length xs ≢ 1 → wanted ≡ length xs
    → and_then (callee_of old.names f) (several wanted (all_seen_of old.arrays given)) ≡ Ok ms → OnlyReads old mid → Runs (roots_bound (machine mid) xs ms) mid new [] [] r
    → Runs (list_bound (machine old) xs f (old.arrays, arguments given)) old new [] [] r
runs_several r old mid new xs f given wanted ms many count output same h =
    runs_from r (roots_bound (machine mid) xs ms) (list_bound (machine old) xs f (old.arrays, arguments given)) old mid new [] [] (several_read old mid xs f given wanted ms many count output same) (reads_grow old mid same) h

pub several_refused : (old : State) (xs : List (List ℕ)) (f : List ℕ) (given : List Given) (wanted : ℕ) (e : ScopeFault) → length xs ≢ 1 → wanted ≡ length xs
    → IsFault (and_then (callee_of old.names f) (several wanted (all_seen_of old.arrays given))) e → IsFault (list_bound old xs f (old.arrays, arguments given)) e
several_refused old xs f given wanted e many count h =
    subst (λ y. IsFault y e) (sym (several_is old xs f given many)) (first_fault (outputs_for old xs f (all_seen_of old.arrays given)) (roots_bound old xs) e (subst (λ (n : ℕ). IsFault (and_then (callee_of old.names f) (several n (all_seen_of old.arrays given))) e) count h))

pub list_same : (s : State) (a : Arrays) (xs : List (List ℕ)) (f : List ℕ) (t : Arrays × List Argument) → list_bound (with_arrays s a) xs f t ≡ list_bound s xs f t
list_same s a xs f t = by_call (callee_of s.names f) xs
  where
    by_call : (x : Result Callee Fault) (xs : List (List ℕ)) → and_then x (outputs_bound (with_arrays s a) xs t) ≡ and_then x (outputs_bound s xs t)
    by_call (Err e) xs = refl
    by_call (Ok c) (x ∷ []) = refl
    by_call (Ok c) [] = refl
    by_call (Ok c) (x ∷ y ∷ xs) = refl

-- a list binding, after its arguments came
pub runs_list : {T : Type 0} (r : Result T ScopeFault) (old mid new : Scope) (xs : List (List ℕ)) (tree : Tree) (f : List ℕ) (args : Args) (given items : List Argument)
    → tree ≡ call f args → taken old.names old.arrays args ≡ Ok (mid.arrays, given) → items ≡ given → Grows old mid
    → Runs (list_bound (machine mid) xs f (mid.arrays, items)) mid new [] [] r → Runs (effect [] (machine old) (bind_list xs tree)) old new [] [] r
runs_list r old mid new xs tree f args given items is taken_so same g h =
    let s = machine old in
    let a : effect [] s (bind_list xs tree) ≡ list_bound s xs f (mid.arrays, items) =
    ap (λ e. effect [] s (bind_list xs e)) is ∙ ap (λ t. and_then t (list_bound s xs f)) taken_so ∙ ap (λ gs. list_bound s xs f (mid.arrays, gs)) (sym same) in
    let b : list_bound (machine mid) xs f (mid.arrays, items) ≡ list_bound s xs f (mid.arrays, items) =
    ap (λ t. list_bound t xs f (mid.arrays, items)) (state_is old mid g) ∙ list_same s mid.arrays xs f (mid.arrays, items) in
    runs_from r (list_bound (machine mid) xs f (mid.arrays, items)) (effect [] s (bind_list xs tree)) old mid new [] [] (a ∙ sym b) g h

pub list_refused : (old : State) (xs : List (List ℕ)) (tree : Tree) (f : List ℕ) (args : Args) (e : ScopeFault) → tree ≡ call f args → IsFault (taken old.names old.arrays args) e
    → IsFault (effect [] old (bind_list xs tree)) e
list_refused old xs tree f args e is h = subst (λ x. IsFault (effect [] old (bind_list xs x)) e) (sym is) (first_fault (taken old.names old.arrays args) (list_bound old xs f) e h)

-- an assignment, after its target and its right side came
abbrev written_to : Scope → State → AssignOp → (v u : ℕ) → Stepped
written_to late s sign v u = and_then (assigned sign late.arrays v u) (λ a. Ok (flowed (with_arrays s a), []))

abbrev from_value : State → AssignOp → (v : ℕ) → Valued → Stepped
from_value s sign v x = and_then x (λ u. and_then (assigned sign u.0 v u.1) (λ a. Ok (flowed (with_arrays s a), [])))

abbrev from_target : State → AssignOp → Tree → Valued → Stepped
from_target s sign e x = and_then x (λ w. from_value s sign w.1 (value_of s.names w.0 e))

pub runs_assigned : {T : Type 0} (r : Result T ScopeFault) (old mid late new : Scope) (to e : Tree) (sign : AssignOp) (v u : ℕ) → target_in (machine old) to ≡ Ok (mid.arrays, v) → value_of mid.names mid.arrays e ≡ Ok (late.arrays, u)
    → Grows old mid → Grows mid late → Runs (written_to late (machine late) sign v u) late new [] [] r → Runs (assigning (machine old) to sign e) old new [] [] r
runs_assigned r old mid late new to e sign v u target_is value_is g h ran =
    let value : Names → Valued = λ names. value_of names mid.arrays e in
    let is : assigning (machine old) to sign e ≡ written_to late (machine late) sign v u =
    ap (from_target (machine old) sign e) target_is ∙ ap (from_value (machine old) sign v) (ap value (sym g.names) ∙ value_is) ∙ ap (λ (s : State). written_to late s sign v u) (sym (state_is old late (grows_trans old mid late g h))) in
    runs_from r (written_to late (machine late) sign v u) (assigning (machine old) to sign e) old late new [] [] is (grows_trans old mid late g h) ran

pub assigned_refused : (old mid : Scope) (to e : Tree) (sign : AssignOp) (v : ℕ) (f : ScopeFault) → target_in (machine old) to ≡ Ok (mid.arrays, v) → IsFault (value_of mid.names mid.arrays e) f → Grows old mid
    → IsFault (assigning (machine old) to sign e) f
assigned_refused old mid to e sign v f target_is refused g =
    subst (λ x. IsFault x f) (sym (ap (from_target (machine old) sign e) target_is)) (first_fault (value_of old.names mid.arrays e) (λ u. and_then (assigned sign u.0 v u.1) (λ a. Ok (flowed (with_arrays (machine old) a), []))) f (subst (λ (names : Names). IsFault (value_of names mid.arrays e) f) g.names refused))

-- what a session is seen as stays where a statement is refused
pub kept_seen : {T : Type 0} (r : Result T ScopeFault) (x : Stepped) (old new : Scope) (left seen : State) (o n : List ℕ) → NewArraysUnseen → IsWhole (machine old) → IsWhole (machine new) → tidy left ≡ tidy (machine new) → tidy (machine old) ≡ seen → Runs x old new o n r
    → OnErr r (tidy left ≡ seen)
kept_seen (Ok u) x old new left seen o n unseen whole after gone is h = tt
kept_seen (Err e) x old new left seen o n unseen whole after gone is h =
    gone ∙ ap tidy (state_is old new h.1.grown) ∙ unseen (machine old) new.arrays (as_grown old new h.1.grown) after.sound whole.live (read_live old.arrays old.flows whole.flows) ∙ is

-- nor is anything printed then
pub kept_out : {T : Type 0} (r : Result T ScopeFault) (x : Stepped) (old new : Scope) (o n : List ℕ) → Runs x old new o n r → OnErr r (n ≡ o)
kept_out (Ok u) x old new o n h = tt
kept_out (Err e) x old new o n h = h.1.printed

-- what a refused statement printed is cut back
pub cut_front : (front text : List ℕ) → Begins front text → take (length front) text ≡ front
cut_front front text b = ap (take (length front)) b.is ∙ take_at front b.rest _ refl

-- a statement that prints nothing leaves the text
pub silent : {T : Type 0} (r : Result T ScopeFault) (wanted : Stepped) (old new : Scope) (out : List ℕ) → Runs wanted old new [] [] r → Performs wanted old new out out r
silent (Ok x) (Ok (s, t)) old new out h = (h.0, sym (append-nil out) ∙ ap (λ z. out ++ z) h.1)
silent (Ok x) (Err e) old new out h = absurd h
silent (Err f) wanted old new out h = (h.0, record { grown = h.1.grown; front = record { rest = []; is = sym (append-nil out) } })

-- memory ran out when a part was printed
pub falls_short : {T : Type 0} (r : Result T ScopeFault) (wanted : Stepped) (old new : Scope) (o n : List ℕ) → IsErrAnd r (λ e. e ≡ NoMemory) → Grows old new → Begins o n → Performs wanted old new o n r
falls_short (Ok x) wanted old new o n is g front = absurd is
falls_short (Err e) wanted old new o n is g front = (subst (λ f. IsFault wanted f) (sym is) tt, record { grown = g; front = front })

-- so where a refusal is handed on
pub silent_err : {T : Type 0} (r : Result T ScopeFault) (f : ScopeFault) (wanted : Stepped) (old new : Scope) (out : List ℕ) → IsErrAnd r (λ e. e ≡ f)
    → Runs {T = Unit {0}} wanted old new [] [] (Err f) → Performs wanted old new out out r
silent_err (Ok x) f wanted old new out is h = absurd is
silent_err {T} (Err e) f wanted old new out is h = subst (λ (g : ScopeFault). Performs {T = T} wanted old new out out (Err g)) (sym is) (silent {T = T} (Err f) wanted old new out h)
