-- What statements that cut, lay anew and unbind do, from what their parts do.
use Rattle.std.proofs.Common.{◌≡◌, ℕ, ℤ, List, [], Result, Ok, Some, sym, ap, subst, ◌∙◌}
use Rattle.pdl_syntax.specs.Tree.{Args}
use Rattle.pdl_syntax.specs.StatementTree.{reshape, sever}
use Rattle.pdl_machine.specs.declared.fault.Fault.{Fault}
use Rattle.pdl_machine.specs.declared.fault.Fault.TheVariants.{UnknownName}
use Rattle.pdl_machine.specs.Names.{number_of}
use Rattle.pdl_machine.specs.Cuts.{dims_given, reshaped}
use Rattle.pdl_machine.specs.Fills.{numbers_in, dims_for}
use Rattle.pdl_machine.specs.Outcome.{Given as Argument, Valued}
use Rattle.pdl_machine.specs.State.{State, with_arrays}
use Rattle.pdl_machine.specs.Step.{Stepped, bind_severed, reshaping, severing, effect}
use Rattle.pdl_machine.specs.Then.{and_then, or_fault}
use Rattle.pdl_machine.specs.Value.{taken}
use Rattle.pdl_scope.specs.declared.fault.ScopeFault.{ScopeFault}
use Rattle.pdl_scope.specs.Answers.{IsFault, Runs}
use Rattle.pdl_scope.specs.Growth.{reads_grow, unread}
use Rattle.pdl_scope.specs.Scope.{Scope, machine, OnlyReads, Grows}
use Rattle.pdl_session.specs.declared.given.Given.{Given}
use Rattle.pdl_session.specs.Arguments.{arguments, all_seen_of}
use Rattle.pdl_session.proofs.ScopeFacts.{first_fault, state_is}
use Rattle.pdl_session.proofs.PerformedStatements.{runs_from}

-- a binding to what is cut, after its value came
pub runs_severed : {T : Type 0} (r : Result T ScopeFault) (old mid new : Scope) (x : List ℕ) (valued : Valued) (id : ℕ) → valued ≡ Ok (mid.arrays, id) → Grows old mid
    → Runs (bind_severed (machine mid) x (mid.arrays, id)) mid new [] [] r → Runs (and_then valued (bind_severed (machine old) x)) old new [] [] r
runs_severed r old mid new x valued id is g h =
    let next : State → Stepped = λ s. bind_severed s x (mid.arrays, id) in
    runs_from r (bind_severed (machine mid) x (mid.arrays, id)) (and_then valued (bind_severed (machine old) x)) old mid new [] [] (ap (λ v. and_then v (bind_severed (machine old) x)) is ∙ ap next (sym (state_is old mid g))) g h

-- the array of a name is cut
pub runs_cut : {T : Type 0} (r : Result T ScopeFault) (old new : Scope) (x : List ℕ) (id : ℕ) → number_of old.names x ≡ Some id → Runs (severing (machine old) id) old new [] [] r → Runs (effect [] (machine old) (sever x)) old new [] [] r
runs_cut r old new x id is h = subst (λ (y : Stepped). Runs y old new [] [] r) (sym (ap (λ o. and_then (or_fault UnknownName o) (severing (machine old))) is)) h

-- other dimensions of the array of a name
reshape_is : (s : State) (x : List ℕ) (args : Args) (id : ℕ) → number_of s.names x ≡ Some id → effect [] s (reshape x args) ≡ and_then (taken s.names s.arrays args) (reshaping s id)
reshape_is s x args id is = ap (λ o. and_then (or_fault UnknownName o) (λ v. and_then (taken s.names s.arrays args) (reshaping s v))) is

-- after the sizes came
pub runs_reshaped : {T : Type 0} (r : Result T ScopeFault) (old mid new : Scope) (x : List ℕ) (args : Args) (given items : List Argument) (id : ℕ) → number_of old.names x ≡ Some id → taken old.names old.arrays args ≡ Ok (mid.arrays, given)
    → items ≡ given → Grows old mid → Runs (reshaping (machine mid) id (mid.arrays, items)) mid new [] [] r → Runs (effect [] (machine old) (reshape x args)) old new [] [] r
runs_reshaped r old mid new x args given items id known taken_so same g h =
    let is : effect [] (machine old) (reshape x args) ≡ reshaping (machine mid) id (mid.arrays, items) =
    reshape_is (machine old) x args id known ∙ ap (λ t. and_then t (reshaping (machine old) id)) taken_so ∙ ap (λ gs. reshaping (machine old) id (mid.arrays, gs)) (sym same) ∙ ap (λ (s : State). reshaping s id (mid.arrays, items)) (sym (state_is old mid g)) in
    runs_from r (reshaping (machine mid) id (mid.arrays, items)) (effect [] (machine old) (reshape x args)) old mid new [] [] is g h

pub reshape_refused : (s : State) (x : List ℕ) (args : Args) (id : ℕ) (f : ScopeFault) → number_of s.names x ≡ Some id → IsFault (taken s.names s.arrays args) f → IsFault (effect [] s (reshape x args)) f
reshape_refused s x args id f known h = subst (λ y. IsFault y f) (sym (reshape_is s x args id known)) (first_fault (taken s.names s.arrays args) (reshaping s id) f h)

-- sizes that are no numbers, and numbers that are no dimensions
pub sizes_refused : (s : Scope) (id : ℕ) (given : List Given) (f : ScopeFault) → IsFault (numbers_in (all_seen_of s.arrays given)) f → IsFault (reshaping (machine s) id (s.arrays, arguments given)) f
sizes_refused s id given f h =
    first_fault (dims_given (s.arrays, arguments given)) (λ ds. and_then (reshaped s.watches s.flows s.arrays id ds) (λ a. Ok (with_arrays (machine s) a, []))) f (first_fault (numbers_in (all_seen_of s.arrays given)) dims_for f h)

pub dims_refused : (s : Scope) (id : ℕ) (given : List Given) (ns : List ℤ) (f : ScopeFault) → numbers_in (all_seen_of s.arrays given) ≡ Ok ns → IsFault (dims_for ns) f → IsFault (reshaping (machine s) id (s.arrays, arguments given)) f
dims_refused s id given ns f numbers h =
    let P : Result (List ℤ) Fault → Type 0 = λ x. IsFault (and_then x dims_for) f in
    first_fault (dims_given (s.arrays, arguments given)) (λ ds. and_then (reshaped s.watches s.flows s.arrays id ds) (λ a. Ok (with_arrays (machine s) a, []))) f (subst P (sym numbers) h)

-- after the dimensions are known
pub runs_resized : {T : Type 0} (r : Result T ScopeFault) (old mid new : Scope) (id : ℕ) (given : List Given) (ns : List ℤ) (ds : List ℕ) → numbers_in (all_seen_of old.arrays given) ≡ Ok ns → dims_for ns ≡ Ok ds → OnlyReads old mid
    → Runs (and_then (reshaped mid.watches mid.flows mid.arrays id ds) (λ a. Ok (with_arrays (machine mid) a, []))) mid new [] [] r → Runs (reshaping (machine old) id (old.arrays, arguments given)) old new [] [] r
runs_resized r old mid new id given ns ds numbers dims read h =
    let next : State → List ℕ → Stepped = λ s ds. and_then (reshaped s.watches s.flows s.arrays id ds) (λ a. Ok (with_arrays s a, [])) in
    let D : Result (List ℕ) Fault → Stepped = λ x. and_then x (next (machine old)) in
    let is : reshaping (machine old) id (old.arrays, arguments given) ≡ next (machine mid) ds =
    ap (λ x. D (and_then x dims_for)) numbers ∙ ap D dims ∙ ap (λ (s : State). next s ds) (sym (unread old mid read)) in
    runs_from r (next (machine mid) ds) (reshaping (machine old) id (old.arrays, arguments given)) old mid new [] [] is (reads_grow old mid read) h
