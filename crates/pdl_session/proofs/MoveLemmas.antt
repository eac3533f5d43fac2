-- What statements move, from what their parts move.
use Rattle.std.proofs.Common.{◌≡◌, ℕ, ◌+◌, ◌≤◌, ◌<◌, ◌∙◌, List, [], ◌∷◌, take, drop, length, map, Option, Some, None, Result, Ok, Err, refl, sym, ap, subst, arith}
use Rattle.std.specs.Option.{option_map_or}
use Rattle.std.specs.Prelude.{◌≢◌, Bool, true, false, IfOk, fold, if◌then◌else◌, slice_index_or, sum_by}
use Rattle.std.proofs.lemmas.List.{map-append, take-append-drop}
use Rattle.std.proofs.lemmas.List.Sums.{fold-append, sum_by-cons}
use Rattle.pdl_shape.specs.Shape.{size_of}
use Rattle.pdl_world.specs.Laws.{OlderStay}
use Rattle.pdl_world.specs.Sound.{IsLive}
use Rattle.pdl_world.specs.Paths.{root_of}
use Rattle.pdl_world.specs.World.{Look, dims_in, root}
use Rattle.pdl_engine.specs.Reading.{read_steps}
use Rattle.pdl_engine.specs.State.{State as Engine, ready_steps}
use Rattle.pdl_lexemes.specs.declared.AssignOp.{AssignOp}
use Rattle.pdl_syntax.specs.declared.tree.ViewCall.{ViewCall}
use Rattle.pdl_syntax.specs.StatementTree.{View, view_of}
use Rattle.pdl_syntax.specs.Tree.{Tree, Args, call, named, none, value, text, of_type}
use Rattle.pdl_machine.specs.declared.fault.Fault.{Fault}
use Rattle.pdl_machine.specs.declared.fault.Fault.TheVariants.{FlowTarget, UnknownName}
use Rattle.pdl_buf.specs.declared.made.Made.{Made}
use Rattle.pdl_numbers.specs.Typed.{count_moved}
use Rattle.pdl_machine.specs.Arrays.{Arrays, with_new}
use Rattle.pdl_machine.specs.Cuts.{dims_given}
use Rattle.pdl_machine.specs.Flows.{Flows, is_flow}
use Rattle.pdl_machine.specs.Names.{Names, bind as bind_name, number_of}
use Rattle.pdl_machine.specs.Outcome.{Given as Argument, Valued, all_seen}
use Rattle.pdl_machine.specs.Calls.{Callee, call_value, callee_of, several}
use Rattle.pdl_machine.specs.State.{AreLive, IsWhole, State, with_arrays}
use Rattle.pdl_machine.specs.Step.{Stepped, behind, bound, list_bound, outputs_bound, roots_bound, target, target_in, unless_flow}
use Rattle.pdl_machine.specs.Then.{and_then, or_fault}
use Rattle.pdl_machine.specs.Value.{Taken, taken, value_of}
use Rattle.pdl_machine.specs.Watches.{Watches, attached}
use Rattle.pdl_scope.specs.Costs.{CostsNoMore, MovesUpTo, arrays_after, total_size}
use Rattle.pdl_scope.specs.Growth.{as_grown}
use Rattle.pdl_scope.specs.Scope.{Scope, engine_of, machine, Grows}
use Rattle.pdl_session.specs.Arguments.{arguments}
use Rattle.pdl_session.specs.declared.given.Given.{Given}
use Rattle.pdl_session.specs.Costs.{EvaluatesWithin, argued_steps, named_steps, read_all, ready_all}
use Rattle.pdl_session.specs.Came.{args_evaluated, args_left, came, evaluated, left_then, list_came, parts_left, sides_evaluated, sizes_came, sizes_taken, unbound, unbound_by}
use Rattle.pdl_session.specs.Moves.{assign_steps, cut_steps, flows_steps, reshape_steps, value_size, wanted_size}
use Rattle.pdl_session.proofs.FlowNeeds.{live_behind}
use Rattle.pdl_session.proofs.WorldGrown.{grown_seen}
use Rattle.pdl_session.proofs.CostExpressions.{read_all_le, read_le_ready}
use Rattle.pdl_session.proofs.ScopeFacts.{state_is}
use Rattle.pdl_session.proofs.CameGained.{call_came, size_in, starts_within, target_part}
use Rattle.pdl_session.proofs.PerformedStatements.{list_same, one_output}
use Rattle.pdl_session.proofs.ArgumentTargets.{called, target_more}

-- a value came
pub came_up_to : {T : Type 0} (most : ℕ) (old : Scope) (x : Result (Arrays × T) Fault) (left late : Arrays) (before after : ℕ) (v : T) → x ≡ Ok (late, v)
    → after + total_size old.arrays.world ≤ before + total_size late.world + most → MovesUpTo most old (came x left) before after
came_up_to {T} most old x left late before after v is h = subst (λ (y : Result (Arrays × T) Fault). MovesUpTo most old (came y left) before after) (sym is) h

-- a statement that binds it
pub bound_within : (old mid : Scope) (valued : Valued) (left : Arrays) (most before after v : ℕ) → valued ≡ Ok (mid.arrays, v) → EvaluatesWithin most old mid mid.arrays before after (Ok v) → MovesUpTo most old (came valued left) before after
bound_within old mid valued left most before after v is h = came_up_to most old valued left mid.arrays before after v is (omega (arith, h))

-- and one that reads it
pub shown_within : (old mid : Scope) (valued : Valued) (left : Arrays) (most before now after v : ℕ) → valued ≡ Ok (mid.arrays, v) → EvaluatesWithin most old mid mid.arrays before now (Ok v) → after ≤ now + read_steps (engine_of mid) v
    → MovesUpTo most old (came valued left) before after
shown_within old mid valued left most before now after v is h read = (let less = read_le_ready (engine_of mid) v in came_up_to most old valued left mid.arrays before after v is (omega (arith, h, read, less)))

-- the array of a name is cut
pub name_cut : (e : Engine) (o : Option ℕ) (v before after : ℕ) → o ≡ Some v → after ≤ before + cut_steps e v → after ≤ before + option_map_or (cut_steps e) o 0
name_cut e o v before after is counted = subst (λ p. after ≤ before + option_map_or (cut_steps e) p 0) (sym is) counted

-- what came is cut
pub severed_within : (old mid : Scope) (valued : Valued) (left : Arrays) (most before now after v : ℕ) → valued ≡ Ok (mid.arrays, v) → EvaluatesWithin most old mid mid.arrays before now (Ok v)
    → after ≤ now + cut_steps (engine_of mid) v → MovesUpTo (most + value_size valued) old (came valued left) before after
severed_within old mid valued left most before now after v is first counted =
    subst (λ (y : Valued). MovesUpTo (most + value_size y) old (came y left) before after) (sym is) (omega (arith, first, counted))

-- ---- list bindings

-- the arrays after a step that lost none
arrays_have : (n : ℕ) (x : Stepped) (left : Arrays) → n ≤ size_in left → IfOk x (λ after. n ≤ size_in after.0.arrays) → n ≤ size_in (arrays_after x left)
arrays_have n (Ok after) left rest h = h
arrays_have n (Err e) left rest h = rest

roots_have : (s : State) (xs : List (List ℕ)) (ms : List Made) → IfOk (roots_bound s xs ms) (λ after. size_in s.arrays ≤ size_in after.0.arrays)
roots_have s [] ms = omega arith
roots_have s (x ∷ xs) [] = omega arith
roots_have s (x ∷ xs) (m ∷ ms) =
    by_name (bind_name s.names x s.arrays.next) (λ names. roots_have (record s { names = names; arrays = (with_new s.arrays (root m.ty m.dims m.elems)).0 }) xs ms)
  where
    after : Arrays
    after = (with_new s.arrays (root m.ty m.dims m.elems)).0

    by_name : (r : Result Names Fault) → ((names : Names) → IfOk (roots_bound (record s { names = names; arrays = after }) xs ms) (λ t. size_in after ≤ size_in t.0.arrays)) → IfOk (and_then {A = State × List ℕ} (and_then r (λ names. Ok (record s { names = names; arrays = after }, []))) (λ t. roots_bound t.0 xs ms)) (λ t. size_in s.arrays ≤ size_in t.0.arrays)
    by_name (Err e) rest = tt
    by_name (Ok names) rest = more (roots_bound (record s { names = names; arrays = after }) xs ms) (rest names)
      where
        more : (x : Stepped) → IfOk x (λ t. size_in after ≤ size_in t.0.arrays) → IfOk x (λ t. size_in s.arrays ≤ size_in t.0.arrays)
        more (Err e) h = tt
        more (Ok t) h = (let one : size_in after ≡ count_moved m.elems + size_in s.arrays = refl in omega (arith, h, one))

-- a value that is bound or not is there
bind_came : (r : Result Names Fault) (s : State) (a : Arrays) → arrays_after (and_then r (λ names. Ok (record s { names = names; arrays = a }, []))) a ≡ a
bind_came (Ok names) s a = refl
bind_came (Err e) s a = refl

bound_came : (s : State) (x : List ℕ) (v : Valued) (a : Arrays) → arrays_after (bound s x v) (came v a) ≡ came v a
bound_came s x (Ok v) a = bind_came (bind_name s.names x v.1) s v.0
bound_came s x (Err e) a = refl

-- the arrays of a call whose one output is bound, or not
output_came : (s : State) (x f : List ℕ) (t : Arrays × List Argument) → arrays_after (list_bound s (x ∷ []) f t) (unbound s.names (x ∷ []) f t) ≡ came (call_value s.names f t.0 t.1) t.0
output_came s x f t =
    ap (λ (r : Stepped). arrays_after r (came (call_value s.names f t.0 t.1) t.0)) (one_output s x f t) ∙ bound_came s x (call_value s.names f t.0 t.1) t.0

-- the arrays of a list binding have those of its arguments
list_has : (s : State) (xs : List (List ℕ)) (f : List ℕ) (t : Arrays × List Argument) → size_in t.0 ≤ size_in (arrays_after (list_bound s xs f t) (unbound s.names xs f t))
list_has s (x ∷ []) f t = (let same : size_in (arrays_after (list_bound s (x ∷ []) f t) (unbound s.names (x ∷ []) f t)) ≡ size_in (came (call_value s.names f t.0 t.1) t.0) = ap size_in (output_came s x f t) in omega (arith, same, call_came s.names f t.0 t.1))
list_has s [] f t = arrays_have (size_in t.0) (list_bound s [] f t) t.0 (omega arith) (by_callee (callee_of s.names f))
  where
    by_outputs : (r : Result (List Made) Fault) → IfOk (and_then r (roots_bound (with_arrays s t.0) [])) (λ after. size_in t.0 ≤ size_in after.0.arrays)
    by_outputs (Ok ms) = roots_have (with_arrays s t.0) [] ms
    by_outputs (Err e) = tt

    by_callee : (c : Result Callee Fault) → IfOk (and_then c (outputs_bound s [] t)) (λ after. size_in t.0 ≤ size_in after.0.arrays)
    by_callee (Ok c) = by_outputs (several 0 (all_seen t.0 t.1) c)
    by_callee (Err e) = tt
list_has s (x ∷ y ∷ xs) f t = arrays_have (size_in t.0) (list_bound s (x ∷ y ∷ xs) f t) t.0 (omega arith) (by_callee (callee_of s.names f))
  where
    by_outputs : (r : Result (List Made) Fault) → IfOk (and_then r (roots_bound (with_arrays s t.0) (x ∷ y ∷ xs))) (λ after. size_in t.0 ≤ size_in after.0.arrays)
    by_outputs (Ok ms) = roots_have (with_arrays s t.0) (x ∷ y ∷ xs) ms
    by_outputs (Err e) = tt

    by_callee : (c : Result Callee Fault) → IfOk (and_then c (outputs_bound s (x ∷ y ∷ xs) t)) (λ after. size_in t.0 ≤ size_in after.0.arrays)
    by_callee (Ok c) = by_outputs (several (length (x ∷ y ∷ xs)) (all_seen t.0 t.1) c)
    by_callee (Err e) = tt

-- where not one name is given, a call's outputs that aren't bound leave the arrays
unbound_many : (names : Names) (xs : List (List ℕ)) (f : List ℕ) (t : Arrays × List Argument) → length xs ≢ 1 → unbound names xs f t ≡ t.0
unbound_many names [] f t many = refl
unbound_many names (x ∷ []) f t many = absurd (many refl)
unbound_many names (x ∷ y ∷ xs) f t many = refl

-- the arrays once the outputs of a call were bound, or not
abbrev pub bound_late : Scope → List (List ℕ) → List ℕ → List Argument → Arrays
bound_late s xs f given = arrays_after (list_bound (machine s) xs f (s.arrays, given)) (unbound s.names xs f (s.arrays, given))

-- its one output
pub output_refused_within : (s : Scope) (xs : List (List ℕ)) (callee : List ℕ) (given : List Argument) (most before after : ℕ) → length xs ≡ 1 → MovesUpTo most s (came (call_value s.names callee s.arrays given) s.arrays) before after
    → MovesUpTo most s (bound_late s xs callee given) before after
output_refused_within s [] callee given most before after one h = absurd (omega arith)
output_refused_within s (x ∷ y ∷ xs) callee given most before after one h = absurd (omega arith)
output_refused_within s (x ∷ []) callee given most before after one h = subst (λ (a : Arrays). MovesUpTo most s a before after) (sym (output_came (machine s) x callee (s.arrays, given))) h

pub output_within : (s mid : Scope) (xs : List (List ℕ)) (callee : List ℕ) (given : List Argument) (most before after v : ℕ) → length xs ≡ 1 → call_value s.names callee s.arrays given ≡ Ok (mid.arrays, v)
    → EvaluatesWithin most s mid mid.arrays before after (Ok v) → MovesUpTo most s (bound_late s xs callee given) before after
output_within s mid xs callee given most before after v one output h =
    output_refused_within s xs callee given most before after one (came_up_to most s (call_value s.names callee s.arrays given) s.arrays mid.arrays before after v output (omega (arith, h)))

-- several outputs, which are refused, and which are bound after they were found
pub outputs_refused_within : (s : Scope) (xs : List (List ℕ)) (callee : List ℕ) (given : List Argument) (most before after : ℕ) → after ≤ before + most → MovesUpTo most s (bound_late s xs callee given) before after
outputs_refused_within s xs callee given most before after read = (let has = list_has (machine s) xs callee (s.arrays, given) in omega (arith, read, has))

pub outputs_within : (s mid : Scope) (xs : List (List ℕ)) (callee : List ℕ) (given : List Given) (ms : List Made) (most before now after : ℕ) → length xs ≢ 1 → list_bound (machine s) xs callee (s.arrays, arguments given) ≡ roots_bound (machine mid) xs ms
    → now ≤ before + most → mid.arrays ≡ s.arrays → MovesUpTo 0 mid (arrays_after (roots_bound (machine mid) xs ms) mid.arrays) now after → MovesUpTo most s (bound_late s xs callee (arguments given)) before after
outputs_within s mid xs callee given ms most before now after many is read same h =
    let late : bound_late s xs callee (arguments given) ≡ arrays_after (roots_bound (machine mid) xs ms) mid.arrays =
    ap (λ (r : Stepped). arrays_after r (unbound s.names xs callee (s.arrays, arguments given))) is ∙ ap (arrays_after (roots_bound (machine mid) xs ms)) (unbound_many s.names xs callee (s.arrays, arguments given) many ∙ sym same) in
    let size : size_in (bound_late s xs callee (arguments given)) ≡ size_in (arrays_after (roots_bound (machine mid) xs ms) mid.arrays) = ap size_in late in
    let all : size_in mid.arrays ≡ size_in s.arrays = ap size_in same in
    omega (arith, read, h, size, all)

-- a list binding, after its arguments came
pub list_within : (s mid : Scope) (xs : List (List ℕ)) (tree : Tree) (f : List ℕ) (args : Args) (given items : List Argument) (due before now after : ℕ) → tree ≡ call f args → taken s.names s.arrays args ≡ Ok (mid.arrays, given) → items ≡ given → Grows s mid
    → now + due + total_size s.arrays.world ≤ before + total_size mid.arrays.world + argued_steps s args → MovesUpTo due mid (bound_late mid xs f items) now after → MovesUpTo (named_steps s tree) s (list_came s xs tree) before after
list_within s mid xs tree f args given items due before now after is taken_so same g first second =
    let all : list_came s xs tree ≡ arrays_after (list_bound (machine s) xs f (mid.arrays, items)) (unbound s.names xs f (mid.arrays, items)) =
    ap (list_came s xs) is ∙ ap (λ (t : Taken). arrays_after (and_then t (list_bound (machine s) xs f)) (unbound_by s.names xs f t (args_left s.names s.arrays args))) taken_so
    ∙ ap (λ gs. arrays_after (list_bound (machine s) xs f (mid.arrays, gs)) (unbound s.names xs f (mid.arrays, gs))) (sym same) in
    let there : list_bound (machine mid) xs f (mid.arrays, items) ≡ list_bound (machine s) xs f (mid.arrays, items) = ap (λ t. list_bound t xs f (mid.arrays, items)) (state_is s mid g) ∙ list_same (machine s) mid.arrays xs f (mid.arrays, items) in
    let late : bound_late mid xs f items ≡ arrays_after (list_bound (machine s) xs f (mid.arrays, items)) (unbound s.names xs f (mid.arrays, items)) =
    ap (λ (r : Stepped). arrays_after r (unbound mid.names xs f (mid.arrays, items))) there ∙ ap (λ (n : Names). arrays_after (list_bound (machine s) xs f (mid.arrays, items)) (unbound n xs f (mid.arrays, items))) g.names in
    let size : size_in (list_came s xs tree) ≡ size_in (bound_late mid xs f items) = ap size_in (all ∙ sym late) in
    let steps : named_steps s tree ≡ argued_steps s args = ap (named_steps s) is in
    omega (arith, first, second, size, steps)

-- and one whose arguments are refused
args_listed : (s : Scope) (xs : List (List ℕ)) (f : List ℕ) (x : Taken) (left : Arrays) → size_in (came x left) ≤ size_in (arrays_after (and_then x (list_bound (machine s) xs f)) (unbound_by s.names xs f x left))
args_listed s xs f (Ok t) left = list_has (machine s) xs f t
args_listed s xs f (Err e) left = omega arith

pub list_refused_within : (s : Scope) (xs : List (List ℕ)) (tree : Tree) (f : List ℕ) (args : Args) (before after : ℕ) → tree ≡ call f args → MovesUpTo (argued_steps s args) s (args_evaluated s.names s.arrays args) before after
    → MovesUpTo (named_steps s tree) s (list_came s xs tree) before after
list_refused_within s xs tree f args before after is h =
    let has = args_listed s xs f (taken s.names s.arrays args) (args_left s.names s.arrays args) in
    let late : size_in (list_came s xs tree) ≡ size_in (list_came s xs (call f args)) = ap (λ (t : Tree). size_in (list_came s xs t)) is in
    let steps : named_steps s tree ≡ argued_steps s args = ap (named_steps s) is in
    omega (arith, h, has, late, steps)

-- dimensions that were given
pub resized_counted : (old mid : Scope) (dims : Result (List ℕ) Fault) (v read before now after : ℕ) (ds : List ℕ) → dims ≡ Ok ds → CostsNoMore (engine_of old) (engine_of mid) → IsLive old.arrays.world v
    → now ≤ before + read → after ≤ now + (ready_steps (engine_of mid) v + size_of ds) → after ≤ before + (read + (ready_steps (engine_of old) v + wanted_size dims))
resized_counted old mid dims v read before now after ds is costs live first second =
    let less = costs.readies v live in
    let size : wanted_size dims ≡ size_of ds = ap wanted_size is in
    omega (arith, less, size, first, second)

-- the sizes of a name's array
sizes_are : (s : Scope) (x : List ℕ) (args : Args) (v : ℕ) → number_of s.names x ≡ Some v → sizes_taken s x args ≡ taken s.names s.arrays args
sizes_are s x args v known = ap (λ o. and_then (or_fault UnknownName o) (λ u. taken s.names s.arrays args)) known

pub sizes_unknown : (s : Scope) (x : List ℕ) (args : Args) (most n : ℕ) → number_of s.names x ≡ None
    → MovesUpTo (most + reshape_steps s x (sizes_taken s x args)) s (sizes_came s x args) n n
sizes_unknown s x args most n known =
    let is : sizes_taken s x args ≡ Err UnknownName = ap (λ o. and_then (or_fault UnknownName o) (λ u. taken s.names s.arrays args)) known in
    let late : sizes_came s x args ≡ s.arrays = ap (λ (t : Taken). came t (option_map_or (λ v. args_left s.names s.arrays args) (number_of s.names x) s.arrays)) is ∙ ap (λ o. option_map_or (λ v. args_left s.names s.arrays args) o s.arrays) known in
    let size : size_in (sizes_came s x args) ≡ size_in s.arrays = ap size_in late in
    omega (arith, size)

pub sizes_refused : (old : Scope) (x : List ℕ) (args : Args) (most before after v : ℕ) → number_of old.names x ≡ Some v → MovesUpTo most old (args_evaluated old.names old.arrays args) before after
    → MovesUpTo (most + reshape_steps old x (sizes_taken old x args)) old (sizes_came old x args) before after
sizes_refused old x args most before after v known h =
    let late : sizes_came old x args ≡ args_evaluated old.names old.arrays args =
    ap (λ o. came (sizes_taken old x args) (option_map_or (λ v. args_left old.names old.arrays args) o old.arrays)) known ∙ ap (λ (t : Taken). came t (args_left old.names old.arrays args)) (sizes_are old x args v known) in
    let size : size_in (sizes_came old x args) ≡ size_in (args_evaluated old.names old.arrays args) = ap size_in late in
    omega (arith, h, size)

pub reshaped_within : (old mid : Scope) (x : List ℕ) (args : Args) (given : List Given) (most before now after v : ℕ) → number_of old.names x ≡ Some v
    → taken old.names old.arrays args ≡ Ok (mid.arrays, arguments given) → CostsNoMore (engine_of old) (engine_of mid) → IsLive old.arrays.world v
    → now + ready_all mid given + total_size old.arrays.world ≤ before + total_size mid.arrays.world + most
    → after ≤ now + (read_all mid given + (ready_steps (engine_of mid) v + wanted_size (dims_given (mid.arrays, arguments given))))
    → MovesUpTo (most + reshape_steps old x (sizes_taken old x args)) old (sizes_came old x args) before after
reshaped_within old mid x args given most before now after v known came_so costs live first counted =
    let is : sizes_taken old x args ≡ Ok (mid.arrays, arguments given) = sizes_are old x args v known ∙ came_so in
    let less = costs.readies v live in
    let read = read_all_le mid given in
    let left = option_map_or (λ v. args_left old.names old.arrays args) (number_of old.names x) old.arrays in
    let here : option_map_or (ready_steps (engine_of old)) (number_of old.names x) 0 ≡ ready_steps (engine_of old) v = ap (λ o. option_map_or (ready_steps (engine_of old)) o 0) known in
    subst (λ (t : Taken). MovesUpTo (most + reshape_steps old x t) old (came t left) before after) (sym is) (omega (arith, first, counted, less, read, here))

-- the array of a name is what its expression takes
pub named_ready : (s : Scope) (x : List ℕ) (v n : ℕ) → number_of s.names x ≡ Some v → n + ready_steps (engine_of s) v + total_size s.arrays.world ≤ n + total_size s.arrays.world + named_steps s (named x)
named_ready s x v n known = subst (λ o. n + ready_steps (engine_of s) v + total_size s.arrays.world ≤ n + total_size s.arrays.world + option_map_or (ready_steps (engine_of s)) o 0) (sym known) (omega arith)

-- one view more
behind_steps : (s : Scope) (e : Tree) (args : Args) → argued_steps s (behind e args) ≡ argued_steps s args + named_steps s e
behind_steps s e none = omega arith
behind_steps s e (value front a) = (let rest = behind_steps s e front in omega (arith, rest))
behind_steps s e (text front t) = behind_steps s e front
behind_steps s e (of_type front ty) = behind_steps s e front

fold_steps : (s : Scope) (views : List View) (e : Tree) → named_steps s e ≤ named_steps s (fold called e views)
fold_steps s [] e = omega arith
fold_steps s (v ∷ views) e =
    let one : named_steps s (called e v) ≡ argued_steps s v.1 + named_steps s e = behind_steps s e v.1 in
    let rest : named_steps s (called e v) ≤ named_steps s (fold called (called e v) views) = fold_steps s views (called e v) in
    omega (arith, one, rest)

-- the first views take no more than all
pub views_part : (s : Scope) (x : List ℕ) (views : List ViewCall) (i : ℕ) → named_steps s (target x (map view_of (take i views))) ≤ named_steps s (target x (map view_of views))
views_part s x views i =
    let is : target x (map view_of views) ≡ fold called (target x (map view_of (take i views))) (map view_of (drop i views)) =
    ap (λ vs. target x (map view_of vs)) (sym (take-append-drop i views)) ∙ ap (target x) (map-append view_of (take i views) (drop i views)) ∙ fold-append called (named x) (map view_of (take i views)) (map view_of (drop i views)) in
    let same : named_steps s (target x (map view_of views)) ≡ named_steps s (fold called (target x (map view_of (take i views))) (map view_of (drop i views))) = ap (named_steps s) is in
    let more = fold_steps s (map view_of (drop i views)) (target x (map view_of (take i views))) in
    omega (arith, same, more)

view_steps : (s : Scope) (x : List ℕ) (views : List ViewCall) (i : ℕ) (v : ViewCall) → i < length views → v ≡ slice_index_or views i v
    → named_steps s (target x (map view_of (take (i + 1) views))) ≡ argued_steps s (view_of v).1 + named_steps s (target x (map view_of (take i views)))
view_steps s x views i v lt at = ap (named_steps s) (target_more x views i v lt at) ∙ behind_steps s (target x (map view_of (take i views))) (view_of v).1

pub viewed_more : (old mid late : Scope) (x : List ℕ) (views : List ViewCall) (i : ℕ) (v : ViewCall) (before now after id next : ℕ) → i < length views → v ≡ slice_index_or views i v
    → argued_steps mid (view_of v).1 ≤ argued_steps old (view_of v).1
    → now + ready_steps (engine_of mid) id + total_size old.arrays.world ≤ before + total_size mid.arrays.world + named_steps old (target x (map view_of (take i views)))
    → EvaluatesWithin (argued_steps mid (view_of v).1 + ready_steps (engine_of mid) id) mid late mid.arrays now after (Ok next)
    → after + ready_steps (engine_of late) next + total_size old.arrays.world ≤ before + total_size late.arrays.world + named_steps old (target x (map view_of (take (i + 1) views)))
viewed_more old mid late x views i v before now after id next lt at fewer first second =
    let one = view_steps old x views i v lt at in
    omega (arith, one, fewer, first, second)

pub view_refused : (old mid : Scope) (x : List ℕ) (views : List ViewCall) (i : ℕ) (v : ViewCall) (before now after id : ℕ) → i < length views → v ≡ slice_index_or views i v
    → argued_steps mid (view_of v).1 ≤ argued_steps old (view_of v).1
    → now + ready_steps (engine_of mid) id + total_size old.arrays.world ≤ before + total_size mid.arrays.world + named_steps old (target x (map view_of (take i views)))
    → MovesUpTo (argued_steps mid (view_of v).1 + ready_steps (engine_of mid) id) mid (evaluated old.names old.arrays (called (target x (map view_of (take i views))) (view_of v))) now after
    → MovesUpTo (named_steps old (target x (map view_of views))) old (evaluated old.names old.arrays (target x (map view_of views))) before after
view_refused old mid x views i v before now after id lt at fewer first second =
    let one = view_steps old x views i v lt at in
    let part = views_part old x views (i + 1) in
    let all = target_part old.names old.arrays x views i v lt at in
    omega (arith, one, part, fewer, first, second, all)

-- the arrays of slots take no more to be read
all_less : (e t : Engine) (vs : List ℕ) → CostsNoMore e t → AreLive e.world vs → sum_by (read_steps t) vs ≤ sum_by (read_steps e) vs
all_less e t [] costs live = omega arith
all_less e t (v ∷ vs) costs live =
    let here = costs.reads v live.0 in
    let rest = all_less e t vs costs live.1 in
    omega (arith, here, rest, sum_by-cons (read_steps t) v vs, sum_by-cons (read_steps e) v vs)

watched_less : (s t : Scope) → IsWhole (machine s) → Grows s t → CostsNoMore (engine_of s) (engine_of t) → sum_by (read_steps (engine_of t)) (attached t.watches) ≤ sum_by (read_steps (engine_of s)) (attached s.watches)
watched_less s t whole g costs =
    subst (λ (ws : Watches). sum_by (read_steps (engine_of t)) (attached ws) ≤ sum_by (read_steps (engine_of s)) (attached s.watches)) (sym g.watches)
    (all_less (engine_of s) (engine_of t) (attached s.watches) costs (live_behind s.arrays.world (map (λ n. n.1) s.names.arrays) (attached s.watches) whole.live))

-- an assignment's value comes after its target
after_target : (s mid : Scope) (place e : Tree) (v : ℕ) → target_in (machine s) place ≡ Ok (mid.arrays, v) → mid.names ≡ s.names → sides_evaluated s place e ≡ evaluated mid.names mid.arrays e
after_target s mid place e v is same =
    ap (λ (x : Valued). left_then x (evaluated s.names s.arrays place) (λ b. evaluated s.names b e)) is ∙ ap (λ (n : Names). evaluated n mid.arrays e) (sym same)

-- what a target takes that is refused
unflowed_has : (flows : Flows) (x : Valued) (left : Arrays) (next : Arrays → Arrays) → ((b : Arrays) → size_in b ≤ size_in (next b)) → size_in (came x left) ≤ size_in (left_then (and_then x (unless_flow flows)) (came x left) next)
unflowed_has flows (Err e) left next more = omega arith
unflowed_has flows (Ok v) left next more = by_flow (is_flow flows (root_of v.0.world v.1))
  where
    by_flow : (b : Bool) → size_in v.0 ≤ size_in (left_then {T = ℕ} (if b then Err FlowTarget else Ok v) v.0 next)
    by_flow true = omega arith
    by_flow false = more v.0

pub target_left : (old : Scope) (place : Tree) (sign : AssignOp) (e : Tree) (before after : ℕ) → MovesUpTo (named_steps old place) old (evaluated old.names old.arrays place) before after
    → MovesUpTo (assign_steps old place sign e) old (sides_evaluated old place e) before after
target_left old place sign e before after h =
    let has : size_in (evaluated old.names old.arrays place) ≤ size_in (sides_evaluated old place e) = unflowed_has old.flows (value_of old.names old.arrays place) (parts_left old.names old.arrays place) (λ b. evaluated old.names b e) (λ b. starts_within old.names b e) in
    omega (arith, h, has)

-- a value that is refused
pub value_left : (old mid : Scope) (place : Tree) (sign : AssignOp) (e : Tree) (before now after v : ℕ) → target_in (machine old) place ≡ Ok (mid.arrays, v) → mid.names ≡ old.names → EvaluatesWithin (named_steps old place) old mid mid.arrays before now (Ok v)
    → named_steps mid e ≤ named_steps old e → MovesUpTo (named_steps mid e) mid (evaluated mid.names mid.arrays e) now after → MovesUpTo (assign_steps old place sign e) old (sides_evaluated old place e) before after
value_left old mid place sign e before now after v aimed same first fewer second =
    let size : size_in (sides_evaluated old place e) ≡ size_in (evaluated mid.names mid.arrays e) = ap size_in (after_target old mid place e v aimed same) in
    omega (arith, first, fewer, second, size)

-- both sides came
pub assigned_within : OlderStay → (old mid late : Scope) (place : Tree) (sign : AssignOp) (e : Tree) (before now later after v u followed : ℕ) → IsWhole (machine old) → IsWhole (machine late)
    → target_in (machine old) place ≡ Ok (mid.arrays, v) → IsLive mid.arrays.world v → value_of mid.names mid.arrays e ≡ Ok (late.arrays, u) → Grows old mid → Grows mid late → Grows old late
    → CostsNoMore (engine_of mid) (engine_of late) → CostsNoMore (engine_of old) (engine_of late)
    → EvaluatesWithin (named_steps old place) old mid mid.arrays before now (Ok v) → named_steps mid e ≤ named_steps old e → EvaluatesWithin (named_steps mid e) mid late late.arrays now later (Ok u)
    → after ≤ later + (read_steps (engine_of late) v + read_steps (engine_of late) u) + sum_by (read_steps (engine_of late)) (attached late.watches) + size_of (dims_in late.arrays.world v) + followed
    → followed ≤ flows_steps old place sign e → MovesUpTo (assign_steps old place sign e) old (sides_evaluated old place e) before after
assigned_within older old mid late place sign e before now later after v u followed whole whole_late aimed live valued g h all next costs first fewer second counted flows =
    let is : sides_evaluated old place e ≡ late.arrays = after_target old mid place e v aimed g.names ∙ ap (λ (z : Valued). came z (parts_left mid.names mid.arrays e)) valued in
    let sizes : size_of (dims_in late.arrays.world v) ≡ size_of (dims_in mid.arrays.world v) = ap (λ o. size_of (option_map_or (λ (l : Look). l.dims) o [])) (grown_seen older mid.arrays late.arrays v (as_grown mid late h) whole_late.sound live) in
    let size : value_size (target_in (machine old) place) ≡ size_of (dims_in mid.arrays.world v) = ap value_size aimed in
    let watched = watched_less old late whole all costs in
    let a = next.readies v live in
    let b = read_le_ready (engine_of late) v in
    let d = read_le_ready (engine_of late) u in
    subst (λ (z : Arrays). MovesUpTo (assign_steps old place sign e) old z before after) (sym is) (omega (arith, first, fewer, second, counted, sizes, size, watched, a, b, d, flows))
