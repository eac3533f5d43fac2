-- A statement leaves the watches, but for the two that change them.
use Rattle.std.proofs.Common.{◌≡◌, ℕ, List, [], ◌∷◌, length, Bool, true, false, Ok, Err, refl, ◌∙◌}
use Rattle.std.specs.Prelude.{IfOk}
use Rattle.pdl_buf.specs.declared.made.Made.{Made}
use Rattle.pdl_lexemes.specs.declared.AssignOp.{AssignOp}
use Rattle.pdl_syntax.specs.Tree.{Tree, number, named, literal, unary, binary, call}
use Rattle.pdl_syntax.specs.StatementTree.{StatementTree, bind, bind_list, assign, show, show_text, sever, reshape as reshapes, undef, vars, dump, flow, pp_def, watch, unwatch}
use Rattle.pdl_machine.specs.Then.{and_then}
use Rattle.pdl_machine.specs.Names.{bound_to, unbind, bind as bind_name, define}
use Rattle.pdl_machine.specs.Arrays.{Arrays, array_in}
use Rattle.pdl_machine.specs.State.{State, with_arrays}
use Rattle.pdl_machine.specs.Outcome.{Given, all_seen, Valued, new_root}
use Rattle.pdl_machine.specs.Cuts.{cut, dims_given, reshaped}
use Rattle.pdl_machine.specs.Formulas.{formula_of}
use Rattle.pdl_machine.specs.Kernels.{defined}
use Rattle.pdl_machine.specs.Dumps.{dumped}
use Rattle.pdl_machine.specs.Calls.{Callee, callee_of, several, value_by}
use Rattle.pdl_machine.specs.Value.{value_of, taken}
use Rattle.pdl_machine.specs.Step.{Stepped, bind_value, bound, ending, bind_severed, begun, flowing, roots_bound, outputs_bound, kernel_named, list_bound, several_bound, target, target_in, assigned, assigning, after_printing, severing, reshaping, flowed, effect}
use Rattle.pdl_machine.proofs.OutcomeOrder.{ok_then, ok_always}

-- the statement isn't one of watchers
abbrev pub IsPlain : StatementTree → Type 0
IsPlain (watch x k) = ⊥
IsPlain (unwatch k) = ⊥
IsPlain _ = Unit {0}

abbrev pub SameWatches : State → State × List ℕ → Type 0
SameWatches s after = after.0.watches ≡ s.watches

-- and the flows
abbrev pub SameRest : State → State × List ℕ → Type 0
SameRest s after = (after.0.watches ≡ s.watches) × (after.0.flows ≡ s.flows)

first_same : (s : State) (x : Stepped) → IfOk x (SameRest s) → IfOk x (SameWatches s)
first_same s (Ok p) same = same.0
first_same s (Err e) same = tt

pub bound_rest : (s : State) (x : List ℕ) (valued : Valued) → IfOk (bound s x valued) (SameRest s)
bound_rest s x valued =
    ok_always (SameRest s) valued (bind_value s x) (λ v.
    ok_always (SameRest s) (bind_name s.names x v.1) (λ names. Ok (record s { names = names; arrays = v.0 }, [])) (λ names. (refl, refl)))

roots_rest : (s : State) (xs : List (List ℕ)) (ms : List Made) → IfOk (roots_bound s xs ms) (SameRest s)
roots_rest s [] ms = (refl, refl)
roots_rest s (x ∷ xs) [] = (refl, refl)
roots_rest s (x ∷ xs) (m ∷ ms) =
    ok_then (SameRest s) (SameRest s) (bound s x (new_root s.arrays m)) (λ after. roots_bound after.0 xs ms) (bound_rest s x (new_root s.arrays m)) (λ p same.
    on (roots_bound p.0 xs ms) p.0 same (roots_rest p.0 xs ms))
  where
    on : (r : Stepped) (t : State) → SameRest s (t, []) → IfOk r (SameRest t) → IfOk r (SameRest s)
    on (Ok after) t same h = (h.0 ∙ same.0, h.1 ∙ same.1)
    on (Err e) t same h = tt

outputs_rest : (s : State) (xs : List (List ℕ)) (t : Arrays × List Given) (c : Callee) → IfOk (outputs_bound s xs t c) (SameRest s)
outputs_rest s (x ∷ []) t c = bound_rest s x (value_by t.0 t.1 c)
outputs_rest s [] t c = ok_always (SameRest s) (several (length {A = List ℕ} []) (all_seen t.0 t.1) c) (roots_bound (with_arrays s t.0) []) (λ ms. roots_rest (with_arrays s t.0) [] ms)
outputs_rest s (x ∷ y ∷ xs) t c =
    ok_always (SameRest s) (several (length (x ∷ y ∷ xs)) (all_seen t.0 t.1) c) (roots_bound (with_arrays s t.0) (x ∷ y ∷ xs)) (λ ms. roots_rest (with_arrays s t.0) (x ∷ y ∷ xs) ms)

pub several_rest : (s : State) (xs : List (List ℕ)) (e : Tree) → IfOk (several_bound s xs e) (SameRest s)
several_rest s xs (call f args) =
    ok_always (SameRest s) (taken s.names s.arrays args) (list_bound s xs f) (λ t.
    ok_always (SameRest s) (callee_of s.names f) (outputs_bound s xs t) (outputs_rest s xs t))
several_rest s xs (number n) = tt
several_rest s xs (named x) = tt
several_rest s xs (literal ty ds es) = tt
several_rest s xs (unary op e) = tt
several_rest s xs (binary op e f) = tt

assigning_watches : (s : State) (to : Tree) (sign : AssignOp) (e : Tree) → IfOk (assigning s to sign e) (SameWatches s)
assigning_watches s to sign e =
    ok_always (SameWatches s) (target_in s to) (λ v. and_then (value_of s.names v.0 e) (λ u. last u.0 v.1 u.1)) (λ v.
    ok_always (SameWatches s) (value_of s.names v.0 e) (λ u. last u.0 v.1 u.1) (λ u.
    ok_always (SameWatches s) (assigned sign u.0 v.1 u.1) (λ a. Ok (flowed (with_arrays s a), [])) (λ a. refl)))
  where
    last : Arrays → ℕ → ℕ → Stepped
    last a v u = and_then (assigned sign a v u) (λ b. Ok (flowed (with_arrays s b), []))

reshaping_watches : (s : State) (v : ℕ) (t : Arrays × List Given) → IfOk (reshaping s v t) (SameWatches s)
reshaping_watches s v t =
    ok_always (SameWatches s) (dims_given t) (λ ds. and_then (reshaped s.watches s.flows t.0 v ds) (λ a. Ok (with_arrays s a, []))) (λ ds.
    ok_always (SameWatches s) (reshaped s.watches s.flows t.0 v ds) (λ a. Ok (with_arrays s a, [])) (λ a. refl))

-- a statement that isn't one of watchers leaves the watches
pub effect_watches : (present : List Bool) (s : State) (statement : StatementTree) → IsPlain statement → IfOk (effect present s statement) (SameWatches s)
effect_watches present s (bind x e false) plain = first_same s (bound s x (value_of s.names s.arrays e)) (bound_rest s x (value_of s.names s.arrays e))
effect_watches present s (bind x e true) plain =
    ok_always (SameWatches s) (value_of s.names s.arrays e) (bind_severed s x) (λ v.
    ok_always (SameWatches s) (bind_name s.names x v.1) (λ names. Ok (record (ending s v.1) { names = names; arrays = cut v.0 v.1 }, [])) (λ names. refl))
effect_watches present s (bind_list xs e) plain = first_same s (several_bound s xs e) (several_rest s xs e)
effect_watches present s (assign x views sign e) plain = assigning_watches s (target x views) sign e
effect_watches present s (show e is_info) plain = ok_always (SameWatches s) (value_of s.names s.arrays e) (λ v. Ok (after_printing s is_info v)) (λ v. refl)
effect_watches present s (show_text t) plain = refl
effect_watches present s (sever x) plain = ok_always (SameWatches s) (bound_to s.names x) (severing s) (λ v. refl)
effect_watches present s (reshapes x sizes) plain =
    ok_always (SameWatches s) (bound_to s.names x) (λ v. and_then (taken s.names s.arrays sizes) (reshaping s v)) (λ v.
    ok_always (SameWatches s) (taken s.names s.arrays sizes) (reshaping s v) (reshaping_watches s v))
effect_watches present s (undef x) plain = ok_always (SameWatches s) (unbind s.names x) (λ names. Ok (record s { names = names }, [])) (λ names. refl)
effect_watches present s vars plain = refl
effect_watches present s dump plain = ok_always (SameWatches s) (dumped s) (λ text. Ok (s, text)) (λ text. refl)
effect_watches present s (flow x e) plain =
    ok_always (SameWatches s) (value_of s.names s.arrays e) (flowing s x e) (λ v.
    ok_always (SameWatches s) (formula_of s.names e) (λ f. bound (begun s v.0 f) x (new_root v.0 (array_in v.0 v.1))) (λ f.
    first_same (begun s v.0 f) (bound (begun s v.0 f) x (new_root v.0 (array_in v.0 v.1))) (bound_rest (begun s v.0 f) x (new_root v.0 (array_in v.0 v.1)))))
effect_watches present s (pp_def f a b) plain =
    ok_always (SameWatches s) (defined f a b) (kernel_named s f) (λ k. ok_always (SameWatches s) (define s.names f k) (λ names. Ok (record s { names = names }, [])) (λ names. refl))
effect_watches present s (watch x k) plain = absurd plain
effect_watches present s (unwatch k) plain = absurd plain
