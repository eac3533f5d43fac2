-- A statement leaves numbers in order, and all that names reach in the world.
use Rattle.std.proofs.Common.{◌≡◌, ℕ, zero, suc, ℤ, ◌+◌, ◌≤◌, List, [], ◌∷◌, ◌++◌, length, map, Bool, true, false, Option, Some, None, Result, Ok, Err, refl, sym, ap, subst, ◌∙◌, arith, eq-eqb, nat_eq, append_assoc}
use Rattle.std.specs.Prelude.{◌==◌, ◌&&◌, if◌then◌else◌, is_none, slice_set, IfOk, IfSome}
use Rattle.std.specs.Cmp.Lexicographic.{pointwise}
use Rattle.pdl_lemmas.specs.Tests.{by_test}
use Rattle.pdl_elem.specs.declared.Ty.{Ty}
use Rattle.pdl_shape.specs.Shape.{size_of}
use Rattle.pdl_buf.specs.declared.made.Made.{Made}
use Rattle.pdl_world.specs.declared.Trans.{Trans}
use Rattle.pdl_shape.specs.Places.{write}
use Rattle.pdl_world.specs.Refused.{NoView, view_refusal}
use Rattle.pdl_world.specs.World.{World, ArrayDef, root, view, Look, look, set_elements, root_elements, assign as assign_in, assign_through, ty_in, dims_in, elements}
use Rattle.pdl_world.specs.Cut.{breaks, replaced, rooted, reshape, fitted}
use Rattle.pdl_world.specs.Sound.{NumbersBelow}
use Rattle.pdl_lexemes.specs.declared.AssignOp.{AssignOp}
use Rattle.pdl_syntax.specs.Tree.{Tree, Args, number, named, literal, unary, binary, call, none, value, text, of_type}
use Rattle.pdl_syntax.specs.StatementTree.{StatementTree, bind, bind_list, assign, show, show_text, sever, reshape as reshapes, undef, vars, dump, flow, pp_def, watch, unwatch}
use Rattle.pdl_machine.specs.declared.fault.Fault.{Fault}
use Rattle.pdl_machine.specs.declared.fault.Fault.TheVariants.{FlowReads, FlowTarget, Syntax, UnknownName, TooManyNames, TooManyKernels, BadWatcher, ReshapeBreaks, StillWatched}
use Rattle.pdl_machine.specs.Then.{and_then, or_fault}
use Rattle.pdl_machine.specs.Names.{KernelTexts, Named, Names, found, number_of, with_name, without_name, bound_to, unbind, is_full_for, bind as bind_name, names_limit, kernels_limit}
use Rattle.pdl_machine.specs.Arrays.{Arrays, array_in, with_new}
use Rattle.pdl_elem.specs.Types.{type_named}
use Rattle.pdl_ops.specs.Elementwise.{OpRefusal}
use Rattle.pdl_flow.specs.Formula as formula
use Rattle.pdl_flow.specs.Meaning.{meaning}
use Rattle.pdl_world.specs.Paths.{root_of}
use Rattle.pdl_machine.specs.Flows.{Flow, Flows, is_flow, all_read, without_flow}
use Rattle.pdl_machine.specs.Following.{given as given_in, follow, followed}
use Rattle.pdl_machine.specs.Formulas.{formula_of, operand_of}
use Rattle.pdl_machine.specs.State.{State, with_arrays}
use Rattle.pdl_machine.specs.Watches.{Watches, watch_of, attached, padded, attach, detach, is_present}
use Rattle.pdl_machine.specs.Laws.{AreGrown}
use Rattle.pdl_machine.specs.Outcome.{array, string, type_word, Given, all_seen, Outcome, made, viewed, Valued, new_root, new_view, view_placed, placed}
use Rattle.pdl_ops.specs.Elementwise.{unary_each}
use Rattle.pdl_machine.specs.Operators.{binary_each, values_for}
use Rattle.pdl_machine.specs.Cuts.{cut, dims_given, reshaped, is_watched, is_read}
use Rattle.pdl_machine.specs.Kernels.{kernel_outputs, defined}
use Rattle.pdl_machine.specs.Dumps.{dumped}
use Rattle.pdl_machine.specs.Calls.{outcome, Callee, builtin, kernel, callee_of, only_root, several, value_by, call_value}
use Rattle.pdl_machine.specs.Value.{Taken, known, number_made, value_of, taken}
use Rattle.pdl_world.specs.Swept.{parents}
use Rattle.pdl_machine.specs.Step.{Stepped, bind_value, bound, ending, bind_severed, begun, flowing, roots_bound, outputs_bound, kernel_named, list_bound, several_bound, target, unless_flow, target_in, assigned, assigning, after_printing, severing, reshaping, watching, unwatching, flowed, effect}
use Rattle.pdl_machine.proofs.TidyNumbering.{in_world, AreIn, front_in, back_in, append_in, IsOrderly, bound_in, IsInOrder}
use Rattle.pdl_machine.proofs.WatchLemmas.{attached_padded, attached_trimmed}

pub ok_then : {A B : Type 0} (P : A → Type 0) (Q : B → Type 0) (x : Result A Fault) (f : A → Result B Fault) → IfOk x P → ((a : A) → P a → IfOk (f a) Q) → IfOk (and_then x f) Q
ok_then P Q (Ok a) f h next = next a h
ok_then P Q (Err e) f h next = tt

pub ok_always : {A B : Type 0} (Q : B → Type 0) (x : Result A Fault) (f : A → Result B Fault) → ((a : A) → IfOk (f a) Q) → IfOk (and_then x f) Q
ok_always Q (Ok a) f next = next a
ok_always Q (Err e) f next = tt

-- b is in order, and has what a had
pub record Grows (a b : Arrays) : Type 0 where
  pub orderly : IsOrderly b.world
  pub below : NumbersBelow b.next b.world
  pub still : (v : ℕ) → in_world a.world v ≡ true → in_world b.world v ≡ true

grows_trans : (a b c : Arrays) → Grows a b → Grows b c → Grows a c
grows_trans a b c g h = record { orderly = h.orderly; below = h.below; still = λ v there. h.still v (g.still v there) }

pub still_in : (a b : Arrays) → Grows a b → (vs : List ℕ) → AreIn a.world vs → AreIn b.world vs
still_in a b g [] h = tt
still_in a b g (v ∷ vs) h = (g.still v h.0, still_in a b g vs h.1)

-- a value that is there
abbrev pub FineValue : Arrays → Arrays × ℕ → Type 0
FineValue a (b, v) = Grows a b × (in_world b.world v ≡ true) × AreGrown a b

pub grown_self : (a : Arrays) → AreGrown a a
grown_self a = record { more = []; is = refl }

pub grown_trans : (a b c : Arrays) → AreGrown a b → AreGrown b c → AreGrown a c
grown_trans a b c g h = record {
  more = h.more ++ g.more;
  is = h.is ∙ ap (λ (w : World). h.more ++ w) g.is ∙ sym (append_assoc h.more g.more a.world);
}

-- an array that is there, where others may be cut
abbrev ThereIn : Arrays → Arrays × ℕ → Type 0
ThereIn a (b, v) = Grows a b × (in_world b.world v ≡ true)

value_there : (a : Arrays) (x : Valued) → IfOk x (FineValue a) → IfOk x (ThereIn a)
value_there a (Ok v) fine = (fine.0, fine.1)
value_there a (Err e) fine = tt

abbrev IsGivenIn : World → Given → Type 0
IsGivenIn w (array v) = in_world w v ≡ true
IsGivenIn w (string t) = Unit {0}
IsGivenIn w (type_word ty) = Unit {0}

abbrev AreGivenIn : World → List Given → Type 0
AreGivenIn w [] = Unit {0}
AreGivenIn w (g ∷ given) = IsGivenIn w g × AreGivenIn w given

-- arguments that are there
abbrev pub FineTaken : Arrays → Arrays × List Given → Type 0
FineTaken a (b, given) = Grows a b × AreGivenIn b.world given × AreGrown a b

below_more : (w : World) (m n : ℕ) → m ≤ n → NumbersBelow m w → NumbersBelow n w
below_more [] m n h b = tt
below_more (a ∷ w) m n h b = (omega arith, below_more w m n h b.1)

new_fine : (a : Arrays) (d : ArrayDef) → Grows a a → AreIn a.world (parents d) → FineValue a (with_new a d)
new_fine a d g inside = (
  record {
    orderly = (g.below, inside, g.orderly);
    below = (omega arith, below_more a.world a.next (a.next + 1) (omega arith) g.below);
    still = λ v there. by_test (a.next == v) (λ same. rw same refl) (λ other. rw other there);
  },
  (let self : (a.next == a.next) ≡ true = eq-eqb a.next a.next refl in rw self refl),
  record { more = (a.next, d) ∷ []; is = refl },
)

-- in order as it is
pub self : (a b : Arrays) → Grows a b → Grows b b
self a b g = record { orderly = g.orderly; below = g.below; still = λ v there. there }

pub root_fine : (a : Arrays) (m : Made) → Grows a a → IfOk (new_root a m) (FineValue a)
root_fine a m g = new_fine a (root m.ty m.dims m.elems) g tt

view_fine : (a : Arrays) (given : List Given) (t : Trans) → Grows a a → AreGivenIn a.world given → IfOk (view_placed a given t) (FineValue a)
view_fine a [] t g h = tt
view_fine a (array v ∷ given) t g h = by_refusal (view_refusal a.world v t)
  where
    by_refusal : (x : Option NoView) → IfOk (new_view a v t x) (FineValue a)
    by_refusal None = new_fine a (view v t) g (h.0, tt)
    by_refusal (Some reason) = tt
view_fine a (string s ∷ given) t g h = tt
view_fine a (type_word ty ∷ given) t g h = tt

placed_fine : (a : Arrays) (given : List Given) (x : Result Outcome Fault) → Grows a a → AreGivenIn a.world given → IfOk (placed a given x) (FineValue a)
placed_fine a given (Err e) g h = tt
placed_fine a given (Ok (made m)) g h = root_fine a m g
placed_fine a given (Ok (viewed t)) g h = view_fine a given t g h

-- a value from other arrays on, which came from a
pub later : (a b : Arrays) → Grows a b → AreGrown a b → (x : Valued) → IfOk x (FineValue b) → IfOk x (FineValue a)
later a b g grown (Ok (c, v)) h = (grows_trans a b c g h.0, h.1, grown_trans a b c grown h.2)
later a b g grown (Err e) h = tt

only_fine : (a : Arrays) (ms : List Made) → Grows a a → IfOk (only_root a ms) (FineValue a)
only_fine a [] g = tt
only_fine a (m ∷ []) g = root_fine a m g
only_fine a (m ∷ n ∷ ms) g = tt

pub value_by_fine : (a : Arrays) (given : List Given) (c : Callee) → Grows a a → AreGivenIn a.world given → IfOk (value_by a given c) (FineValue a)
value_by_fine a given (builtin b) g h = placed_fine a given (outcome b (all_seen a given)) g h
value_by_fine a given (kernel k) g h = ok_always (FineValue a) (kernel_outputs k 1 (all_seen a given)) (only_root a) (λ ms. only_fine a ms g)

call_fine : (names : Names) (f : List ℕ) (a : Arrays) (t : Arrays × List Given) → FineTaken a t → IfOk (call_value names f t.0 t.1) (FineValue a)
call_fine names f a (b, given) h =
    later a b h.0 h.2 (call_value names f b given)
    (ok_always (FineValue b) (callee_of names f) (value_by b given) (λ c. value_by_fine b given c (self a b h.0) h.1))

given_still : (a b : Arrays) → Grows a b → (given : List Given) → AreGivenIn a.world given → AreGivenIn b.world given
given_still a b g [] h = tt
given_still a b g (array v ∷ given) h = (g.still v h.0, given_still a b g given h.1)
given_still a b g (string t ∷ given) h = (tt, given_still a b g given h.1)
given_still a b g (type_word ty ∷ given) h = (tt, given_still a b g given h.1)

given_more : (w : World) (given : List Given) (x : Given) → AreGivenIn w given → IsGivenIn w x → AreGivenIn w (given ++ x ∷ [])
given_more w [] x h here = (here, tt)
given_more w (y ∷ given) x h here = (h.0, given_more w given x h.1 here)

named_in : (w : World) (names : Named ℕ) (x : List ℕ) → AreIn w (map (λ n. n.1) names) → IfSome (found names x) (λ v. in_world w v ≡ true)
named_in w [] x h = tt
named_in w (n ∷ names) x h =
    let P : Bool → Type 0 = λ b. IfSome (if b then Some n.1 else found names x) (λ v. in_world w v ≡ true) in
    by_test (pointwise nat_eq x n.0) (λ same. subst P (sym same) h.0) (λ other. subst P (sym other) (named_in w names x h.1))

known_fine : (a : Arrays) (o : Option ℕ) → Grows a a → IfSome o (λ v. in_world a.world v ≡ true) → IfOk (known a o) (FineValue a)
known_fine a None g h = tt
known_fine a (Some v) g h = (g, h, grown_self a)

with_argument : Arrays → List Given → Given → Taken
with_argument a given x = Ok (a, given ++ x ∷ [])

mutual
  pub value_fine : (names : Names) (e : Tree) (a : Arrays) → Grows a a → AreIn a.world (map (λ n. n.1) names.arrays) → IfOk (value_of names a e) (FineValue a)
  value_fine names (number n) a g h = root_fine a (number_made n) g
  value_fine names (named x) a g h = known_fine a (number_of names x) g (named_in a.world names.arrays x h)
  value_fine names (literal ty ds es) a g h = root_fine a (record { ty = ty; dims = ds; elems = es }) g
  value_fine names (unary op e) a g h =
      ok_then (FineValue a) (FineValue a) (value_of names a e) (λ v. new_root v.0 (unary_each op (array_in v.0 v.1)))
      (value_fine names e a g h) (λ v fine. later a v.0 fine.0 fine.2 (new_root v.0 (unary_each op (array_in v.0 v.1))) (root_fine v.0 (unary_each op (array_in v.0 v.1)) (self a v.0 fine.0)))
  value_fine names (binary op e f) a g h =
      ok_then (FineValue a) (FineValue a) (value_of names a e) (λ v. and_then (value_of names v.0 f) (λ u. and_then (binary_each op (array_in u.0 v.1) (array_in u.0 u.1)) (new_root u.0)))
      (value_fine names e a g h) (λ v fine.
      later a v.0 fine.0 fine.2 (and_then (value_of names v.0 f) (λ u. and_then (binary_each op (array_in u.0 v.1) (array_in u.0 u.1)) (new_root u.0)))
      (ok_then (FineValue v.0) (FineValue v.0) (value_of names v.0 f) (λ u. and_then (binary_each op (array_in u.0 v.1) (array_in u.0 u.1)) (new_root u.0))
      (value_fine names f v.0 (self a v.0 fine.0) (still_in a v.0 fine.0 (map (λ n. n.1) names.arrays) h)) (λ u right.
      later v.0 u.0 right.0 right.2 (and_then (binary_each op (array_in u.0 v.1) (array_in u.0 u.1)) (new_root u.0))
      (ok_always (FineValue u.0) (binary_each op (array_in u.0 v.1) (array_in u.0 u.1)) (new_root u.0) (λ m. root_fine u.0 m (self v.0 u.0 right.0))))))
  value_fine names (call f args) a g h =
      ok_then (FineTaken a) (FineValue a) (taken names a args) (λ t. call_value names f t.0 t.1) (taken_fine names args a g h) (call_fine names f a)

  pub taken_fine : (names : Names) (args : Args) (a : Arrays) → Grows a a → AreIn a.world (map (λ n. n.1) names.arrays) → IfOk (taken names a args) (FineTaken a)
  taken_fine names none a g h = (g, tt, grown_self a)
  taken_fine names (value front e) a g h =
      ok_then (FineTaken a) (FineTaken a) (taken names a front) (λ t. and_then (value_of names t.0 e) (λ v. Ok (v.0, t.1 ++ array v.1 ∷ [])))
      (taken_fine names front a g h) (λ t fine.
      ok_then (FineValue t.0) (FineTaken a) (value_of names t.0 e) (λ v. Ok (v.0, t.1 ++ array v.1 ∷ []))
      (value_fine names e t.0 (self a t.0 fine.0) (still_in a t.0 fine.0 (map (λ n. n.1) names.arrays) h)) (λ v here.
      (grows_trans a t.0 v.0 fine.0 here.0, given_more v.0.world t.1 (array v.1) (given_still t.0 v.0 here.0 t.1 fine.1) here.1, grown_trans a t.0 v.0 fine.2 here.2)))
  taken_fine names (text front t) a g h =
      ok_then (FineTaken a) (FineTaken a) (taken names a front) (λ x. Ok (x.0, x.1 ++ string t ∷ [])) (taken_fine names front a g h) (λ x fine. (fine.0, given_more x.0.world x.1 (string t) fine.1 tt, fine.2))
  taken_fine names (of_type front ty) a g h =
      ok_then (FineTaken a) (FineTaken a) (taken names a front) (λ x. Ok (x.0, x.1 ++ type_word ty ∷ [])) (taken_fine names front a g h) (λ x fine. (fine.0, given_more x.0.world x.1 (type_word ty) fine.1 tt, fine.2))

-- a state in order, with what is printed
abbrev FineStep : State × List ℕ → Type 0
FineStep p = IsInOrder p.0

state_fine : (s : State) (a : Arrays) → IsInOrder s → Grows s.arrays a → IsInOrder (with_arrays s a)
state_fine s a order g = record {
  orderly = g.orderly;
  below = g.below;
  inside = still_in s.arrays a g (bound_in s.names) order.inside;
  watched = still_in s.arrays a g (attached s.watches) order.watched;
  read = still_in s.arrays a g (all_read s.flows) order.read;
}

pub grows_self : (s : State) → IsInOrder s → Grows s.arrays s.arrays
grows_self s order = record { orderly = order.orderly; below = order.below; still = λ v there. there }

pub state_value_fine : (s : State) → IsInOrder s → (e : Tree) → IfOk (value_of s.names s.arrays e) (FineValue s.arrays)
state_value_fine s order e = value_fine s.names e s.arrays (grows_self s order) order.inside

with_name_in : (w : World) (names : Named ℕ) (x : List ℕ) (v : ℕ) → AreIn w (map (λ n. n.1) names) → in_world w v ≡ true → AreIn w (map (λ n. n.1) (with_name names x v))
with_name_in w [] x v h here = (here, tt)
with_name_in w (n ∷ names) x v h here =
    let P : Bool → Type 0 = λ b. AreIn w (map (λ n. n.1) (if b then (n.0, v) ∷ names else n ∷ with_name names x v)) in
    by_test (pointwise nat_eq x n.0) (λ same. subst P (sym same) (here, h.1)) (λ other. subst P (sym other) (h.0, with_name_in w names x v h.1 here))

bind_fine : (w : World) (names : Names) (x : List ℕ) (v : ℕ) → AreIn w (map (λ n. n.1) names.arrays) → in_world w v ≡ true → IfOk (bind_name names x v) (λ after. AreIn w (map (λ n. n.1) after.arrays))
bind_fine w names x v h here = by_room (is_full_for names_limit names.arrays x)
  where
    by_room : (b : Bool) → IfOk (and_then (if b then Err TooManyNames else Ok (with_name names.arrays x v)) (λ bound. Ok (record names { arrays = bound }))) (λ after. AreIn w (map (λ n. n.1) after.arrays))
    by_room true = tt
    by_room false = with_name_in w names.arrays x v h here

-- a kernel leaves the names of arrays
define_fine : (s : State) (f : List ℕ) (k : KernelTexts) → IsInOrder s → IfOk (kernel_named s f k) FineStep
define_fine s f k order = by_room (is_full_for kernels_limit s.names.kernels f)
  where
    by_room : (b : Bool) → IfOk (and_then (and_then (if b then Err TooManyKernels else Ok (with_name s.names.kernels f k)) (λ kernels. Ok (record s.names { kernels = kernels }))) (λ names. Ok (record s { names = names }, []))) FineStep
    by_room true = tt
    by_room false = record { orderly = order.orderly; below = order.below; inside = order.inside; watched = order.watched; read = order.read }

bound_fine : (s : State) (x : List ℕ) → IsInOrder s → (valued : Valued) → IfOk valued (ThereIn s.arrays) → IfOk (bound s x valued) FineStep
bound_fine s x order valued fine =
    ok_then (ThereIn s.arrays) FineStep valued (bind_value s x) fine (λ v here.
    ok_then (λ after. AreIn v.0.world (bound_in after)) FineStep (bind_name s.names x v.1) (λ names. Ok (record s { names = names; arrays = v.0 }, []))
    (bind_fine v.0.world s.names x v.1 (still_in s.arrays v.0 here.0 (bound_in s.names) order.inside) here.1)
    (λ names inside. record {
      orderly = here.0.orderly;
      below = here.0.below;
      inside = inside;
      watched = still_in s.arrays v.0 here.0 (attached s.watches) order.watched;
      read = still_in s.arrays v.0 here.0 (all_read s.flows) order.read;
    }))

roots_fine : (s : State) (xs : List (List ℕ)) (ms : List Made) → IsInOrder s → IfOk (roots_bound s xs ms) FineStep
roots_fine s [] ms order = order
roots_fine s (x ∷ xs) [] order = order
roots_fine s (x ∷ xs) (m ∷ ms) order =
    ok_then FineStep FineStep (bound s x (new_root s.arrays m)) (λ after. roots_bound after.0 xs ms)
    (bound_fine s x order (new_root s.arrays m) (value_there s.arrays (new_root s.arrays m) (root_fine s.arrays m (grows_self s order)))) (λ p fine. roots_fine p.0 xs ms fine)

many_fine : (s : State) (xs : List (List ℕ)) (t : Arrays × List Given) (c : Callee) → IsInOrder s → FineTaken s.arrays t
    → IfOk (and_then (several (length xs) (all_seen t.0 t.1) c) (roots_bound (with_arrays s t.0) xs)) FineStep
many_fine s xs (b, given) c order fine =
    ok_always FineStep (several (length xs) (all_seen b given) c) (roots_bound (with_arrays s b) xs) (λ ms. roots_fine (with_arrays s b) xs ms (state_fine s b order fine.0))

outputs_fine : (s : State) (xs : List (List ℕ)) (t : Arrays × List Given) (c : Callee) → IsInOrder s → FineTaken s.arrays t → IfOk (outputs_bound s xs t c) FineStep
outputs_fine s (x ∷ []) (b, given) c order fine =
    bound_fine s x order (value_by b given c) (value_there s.arrays (value_by b given c)
    (later s.arrays b fine.0 fine.2 (value_by b given c) (value_by_fine b given c (self s.arrays b fine.0) fine.1)))
outputs_fine s [] t c order fine = many_fine s [] t c order fine
outputs_fine s (x ∷ y ∷ xs) t c order fine = many_fine s (x ∷ y ∷ xs) t c order fine

list_fine : (s : State) (xs : List (List ℕ)) (f : List ℕ) → IsInOrder s → (t : Arrays × List Given) → FineTaken s.arrays t → IfOk (list_bound s xs f t) FineStep
list_fine s xs f order t fine = ok_always FineStep (callee_of s.names f) (outputs_bound s xs t) (λ c. outputs_fine s xs t c order fine)

below_set : (n : ℕ) (w : World) (r : ℕ) (es : List ℤ) → NumbersBelow n w → NumbersBelow n (set_elements w r es)
below_set n [] r new below = tt
below_set n ((k, root ty ds es) ∷ w) r new below = (below.0, below_set n w r new below.1)
below_set n ((k, view p t) ∷ w) r new below = (below.0, below_set n w r new below.1)

pub in_world-set : (w : World) (r v : ℕ) (es : List ℤ) → in_world (set_elements w r es) v ≡ in_world w v
in_world-set [] r v new = refl
in_world-set ((k, root ty ds es) ∷ w) r v new = ap (λ b. if k == v then true else b) (in_world-set w r v new)
in_world-set ((k, view p t) ∷ w) r v new = ap (λ b. if k == v then true else b) (in_world-set w r v new)

orderly_set : (w : World) (r : ℕ) (es : List ℤ) → IsOrderly w → IsOrderly (set_elements w r es)
orderly_set [] r new order = tt
orderly_set ((k, root ty ds es) ∷ w) r new order = (below_set k w r new order.0, tt, orderly_set w r new order.2)
orderly_set ((k, view p t) ∷ w) r new order = (below_set k w r new order.0, (in_world-set w r p new ∙ order.1.0, tt), orderly_set w r new order.2)

assign_fine : (a : Arrays) (v : ℕ) (vs : List ℤ) → Grows a a → Grows a (record a { world = assign_in a.world v vs })
assign_fine a v vs g = by_look (look a.world v)
  where
    by_look : (o : Option Look) → Grows a (record a { world = assign_through a.world o vs })
    by_look None = g
    by_look (Some l) =
        let es = write l.places vs (root_elements a.world l.root) in
        record {
          orderly = orderly_set a.world l.root es g.orderly;
          below = below_set a.next a.world l.root es g.below;
          still = λ u there. in_world-set a.world l.root u es ∙ there;
        }

-- where flows follow, what was there is there still
followed_grows : (a b : Arrays) (flows : Flows) → Grows a b → Grows a (followed b flows)
followed_grows a b [] g = g
followed_grows a b (f ∷ flows) g = followed_grows a (follow b f) flows (by_value (meaning (array_in b) f.formula))
  where
    by_value : (x : Result Made OpRefusal) → Grows a (given_in b f.root x)
    by_value (Ok m) = grows_trans a b (record b { world = assign_in b.world f.root m.elems }) g (assign_fine b f.root m.elems (self a b g))
    by_value (Err e) = g

pub flowed_in_order : (s : State) → IsInOrder s → IsInOrder (flowed s)
flowed_in_order s order = state_fine s (followed s.arrays s.flows) order (followed_grows s.arrays s.arrays s.flows (grows_self s order))

-- an array that may be assigned to is one
pub unless_ok : (P : Arrays × ℕ → Type 0) (flows : Flows) (x : Valued) → IfOk x P → IfOk (and_then x (unless_flow flows)) P
unless_ok P flows x fine = ok_then P P x (unless_flow flows) fine (λ v here. by_flow v here (is_flow flows (root_of v.0.world v.1)))
  where
    by_flow : (v : Arrays × ℕ) → P v → (b : Bool) → IfOk (if b then Err FlowTarget else Ok v) P
    by_flow v here true = tt
    by_flow v here false = here

assigning_fine : (s : State) (to : Tree) (sign : AssignOp) (e : Tree) → IsInOrder s → IfOk (assigning s to sign e) FineStep
assigning_fine s to sign e order =
    ok_then (FineValue s.arrays) FineStep (target_in s to) (λ v. and_then (value_of s.names v.0 e) (λ u. last u.0 (assigned sign u.0 v.1 u.1)))
    (unless_ok (FineValue s.arrays) s.flows (value_of s.names s.arrays to) (state_value_fine s order to)) (λ v fine.
    ok_then (FineValue v.0) FineStep (value_of s.names v.0 e) (λ u. last u.0 (assigned sign u.0 v.1 u.1))
    (value_fine s.names e v.0 (self s.arrays v.0 fine.0) (still_in s.arrays v.0 fine.0 (bound_in s.names) order.inside)) (λ u right.
    ok_then (Grows s.arrays) FineStep (assigned sign u.0 v.1 u.1) (λ a. Ok (flowed (with_arrays s a), []))
    (ok_always (Grows s.arrays) (values_for sign (array_in u.0 v.1) (array_in u.0 u.1)) (λ values. Ok (record u.0 { world = assign_in u.0.world v.1 values })) (λ values.
    grows_trans s.arrays u.0 (record u.0 { world = assign_in u.0.world v.1 values }) (grows_trans s.arrays v.0 u.0 fine.0 right.0) (assign_fine u.0 v.1 values (self v.0 u.0 right.0))))
    (λ a g. flowed_in_order (with_arrays s a) (state_fine s a order g))))
  where
    last : Arrays → Result Arrays Fault → Stepped
    last a x = and_then x (λ b. Ok (flowed (with_arrays s b), []))

below_replaced : (n : ℕ) (w : World) (v : ℕ) (new : ArrayDef) → NumbersBelow n w → NumbersBelow n (replaced w v new)
below_replaced n [] v new below = tt
below_replaced n ((k, d) ∷ w) v new below = (below.0, below_replaced n w v new below.1)

pub in_world-replaced : (w : World) (r v : ℕ) (new : ArrayDef) → in_world (replaced w r new) v ≡ in_world w v
in_world-replaced [] r v new = refl
in_world-replaced ((k, d) ∷ w) r v new = ap (λ b. if k == v then true else b) (in_world-replaced w r v new)

pub orderly_replaced : (w : World) (v : ℕ) (ty : Ty) (ds : List ℕ) (es : List ℤ) → IsOrderly w → IsOrderly (replaced w v (root ty ds es))
orderly_replaced [] v ty ds es order = tt
orderly_replaced ((k, d) ∷ w) v ty ds es order =
    let P : ArrayDef → Type 0 = λ x. AreIn (replaced w v (root ty ds es)) (parents x) in
    (below_replaced k w v (root ty ds es) order.0, by_test (k == v) (λ is. rw is tt) (λ other. rw other (inside d order.1)), orderly_replaced w v ty ds es order.2)
  where
    inside : (d : ArrayDef) → AreIn w (parents d) → AreIn (replaced w v (root ty ds es)) (parents d)
    inside (root t s e) h = tt
    inside (view p t) h = (in_world-replaced w v p (root ty ds es) ∙ h.0, tt)

-- an array becomes a root
rooted_fine : (a : Arrays) (v : ℕ) (ds : List ℕ) (es : List ℤ) → Grows a a → Grows a (record a { world = rooted a.world v ds es })
rooted_fine a v ds es g = record {
  orderly = orderly_replaced a.world v (ty_in a.world v) ds es g.orderly;
  below = below_replaced a.next a.world v (root (ty_in a.world v) ds es) g.below;
  still = λ u there. in_world-replaced a.world v u (root (ty_in a.world v) ds es) ∙ there;
}

cut_fine : (a : Arrays) (v : ℕ) → Grows a a → Grows a (cut a v)
cut_fine a v g = rooted_fine a v (dims_in a.world v) (elements a.world v) g

without_flow_in : (w : World) (flows : Flows) (v : ℕ) → AreIn w (all_read flows) → AreIn w (all_read (without_flow flows v))
without_flow_in w [] v h = tt
without_flow_in w (f ∷ flows) v h =
    let ks = formula.arrays_in f.formula in
    let rest : AreIn w (all_read (without_flow flows v)) = without_flow_in w flows v (back_in w ks (all_read flows) h) in
    by_test (f.root == v) (λ same. rw same rest) (λ other. rw other (append_in w ks (all_read (without_flow flows v)) (front_in w ks (all_read flows) h) rest))

ending_fine : (s : State) (v : ℕ) → IsInOrder s → IsInOrder (ending s v)
ending_fine s v order = record {
  orderly = order.orderly;
  below = order.below;
  inside = order.inside;
  watched = order.watched;
  read = without_flow_in s.arrays.world s.flows v order.read;
}

bind_severed_fine : (s : State) (x : List ℕ) → IsInOrder s → (v : Arrays × ℕ) → FineValue s.arrays v → IfOk (bind_severed s x v) FineStep
bind_severed_fine s x order v here =
    let g : Grows v.0 (cut v.0 v.1) = cut_fine v.0 v.1 (self s.arrays v.0 here.0) in
    bound_fine (ending s v.1) x (ending_fine s v.1 order) (Ok (cut v.0 v.1, v.1)) (grows_trans s.arrays v.0 (cut v.0 v.1) here.0 g, g.still v.1 here.1)

abbrev pub refused_by : (breaks watched flows reads : Bool) → Arrays → Result Arrays Fault
refused_by x y z r a = if x then Err ReshapeBreaks else if y then Err StillWatched else if z then Err FlowTarget else if r then Err FlowReads else Ok a

reshaping_fine : (s : State) (v : ℕ) → IsInOrder s → (t : Arrays × List Given) → FineTaken s.arrays t → IfOk (reshaping s v t) FineStep
reshaping_fine s v order (b, given) fine =
    ok_always FineStep (dims_given (b, given)) (λ ds. and_then (reshaped s.watches s.flows b v ds) (λ a. Ok (with_arrays s a, []))) (λ ds.
    by_tests ds (breaks b.world v ds) (is_watched s.watches b.world v) (is_flow s.flows v) (is_read s.flows b.world v))
  where
    other : List ℕ → Arrays
    other ds = record b { world = reshape b.world v ds }

    by_tests : (ds : List ℕ) (x y z r : Bool) → IfOk (and_then (refused_by x y z r (other ds)) (λ a. Ok (with_arrays s a, []))) FineStep
    by_tests ds true y z r = tt
    by_tests ds false true z r = tt
    by_tests ds false false true r = tt
    by_tests ds false false false true = tt
    by_tests ds false false false false =
        state_fine s (other ds) order (grows_trans s.arrays b (other ds) fine.0 (rooted_fine b v ds (fitted (size_of ds) (elements b.world v)) (self s.arrays b fine.0)))

without_in : (w : World) (names : Named ℕ) (x : List ℕ) → AreIn w (map (λ n. n.1) names) → AreIn w (map (λ n. n.1) (without_name names x))
without_in w [] x h = tt
without_in w (n ∷ names) x h =
    let P : Bool → Type 0 = λ b. AreIn w (map (λ n. n.1) (if b then names else n ∷ without_name names x)) in
    by_test (pointwise nat_eq x n.0) (λ same. subst P (sym same) h.1) (λ other. subst P (sym other) (h.0, without_in w names x h.1))

unbind_fine : (s : State) (x : List ℕ) → IsInOrder s → IfOk (and_then (unbind s.names x) (λ names. Ok (record s { names = names }, []))) FineStep
unbind_fine s x order = by_number (bound_to s.names x)
  where
    by_number : (o : Result ℕ Fault) → IfOk (and_then (and_then o (λ v. Ok (record s.names { arrays = without_name s.names.arrays x }))) (λ names. Ok (record s { names = names }, []))) FineStep
    by_number (Err e) = tt
    by_number (Ok v) = record { orderly = order.orderly; below = order.below; inside = without_in s.arrays.world s.names.arrays x order.inside; watched = order.watched; read = order.read }

several_fine : (s : State) (xs : List (List ℕ)) → IsInOrder s → (e : Tree) → IfOk (several_bound s xs e) FineStep
several_fine s xs order (call f args) =
    ok_then (FineTaken s.arrays) FineStep (taken s.names s.arrays args) (list_bound s xs f) (taken_fine s.names args s.arrays (grows_self s order) order.inside) (list_fine s xs f order)
several_fine s xs order (number n) = tt
several_fine s xs order (named x) = tt
several_fine s xs order (literal ty ds es) = tt
several_fine s xs order (unary op e) = tt
several_fine s xs order (binary op e f) = tt

-- the entry of a slot, where what it is attached to is there
set_in : (w : World) (ws : Watches) (k : ℕ) (o : Option ℕ) → AreIn w (attached ws) → IfSome o (λ v. in_world w v ≡ true) → AreIn w (attached (slice_set ws k o))
set_in w [] k o h here = tt
set_in w (None ∷ ws) zero None h here = h
set_in w (None ∷ ws) zero (Some v) h here = (here, h)
set_in w (Some u ∷ ws) zero None h here = h.1
set_in w (Some u ∷ ws) zero (Some v) h here = (here, h.1)
set_in w (None ∷ ws) (suc k) o h here = set_in w ws k o h here
set_in w (Some u ∷ ws) (suc k) o h here = (h.0, set_in w ws k o h.1 here)

-- other watches of arrays that are there
rewatched_fine : (s : State) → IsInOrder s → (ws : Watches) → AreIn s.arrays.world (attached ws) → FineStep (record s { watches = ws }, [])
rewatched_fine s order ws there = record { orderly = order.orderly; below = order.below; inside = order.inside; watched = there; read = order.read }

watching_fine : (present : List Bool) (s : State) (k v : ℕ) → IsInOrder s → in_world s.arrays.world v ≡ true → IfOk (watching present s k v) FineStep
watching_fine present s k v order here = by_room (is_present present k && is_none (watch_of s.watches k))
  where
    padded_in : AreIn s.arrays.world (attached (padded s.watches (k + 1)))
    padded_in = subst (AreIn s.arrays.world) (sym (attached_padded s.watches (k + 1))) order.watched

    by_room : (b : Bool) → IfOk (and_then (if b then Ok (attach s.watches k v) else Err BadWatcher) (λ ws. Ok (record s { watches = ws }, []))) FineStep
    by_room true = rewatched_fine s order (attach s.watches k v) (set_in s.arrays.world (padded s.watches (k + 1)) k (Some v) padded_in here)
    by_room false = tt

unwatching_fine : (s : State) (k : ℕ) → IsInOrder s → IfOk (unwatching s k) FineStep
unwatching_fine s k order = by_slot (is_none (watch_of s.watches k))
  where
    by_slot : (b : Bool) → IfOk (and_then (if b then Err BadWatcher else Ok (detach s.watches k)) (λ ws. Ok (record s { watches = ws }, []))) FineStep
    by_slot true = tt
    by_slot false =
        let rest : Watches = slice_set s.watches k None in
        rewatched_fine s order (detach s.watches k) (subst (AreIn s.arrays.world) (sym (attached_trimmed rest)) (set_in s.arrays.world s.watches k None order.watched tt))

-- the array of a name is there
pub bound_there : (w : World) (names : Names) (x : List ℕ) → AreIn w (bound_in names) → IfOk (bound_to names x) (λ v. in_world w v ≡ true)
bound_there w names x h = by_number (number_of names x) (named_in w names.arrays x h)
  where
    by_number : (o : Option ℕ) → IfSome o (λ v. in_world w v ≡ true) → IfOk (or_fault UnknownName o) (λ v. in_world w v ≡ true)
    by_number None h = tt
    by_number (Some v) h = h

pub bound_to_fine : (s : State) (x : List ℕ) → IsInOrder s → IfOk (bound_to s.names x) (λ v. in_world s.arrays.world v ≡ true)
bound_to_fine s x order = bound_there s.arrays.world s.names x order.inside

-- what a formula reads is there
abbrev ReadsIn : World → formula.FormulaTree → Type 0
ReadsIn w f = AreIn w (formula.arrays_in f)

mutual
  pub formula_in : (w : World) (names : Names) (e : Tree) → AreIn w (bound_in names) → IfOk (formula_of names e) (ReadsIn w)
  formula_in w names (number z) h = tt
  formula_in w names (named x) h = ok_then (λ v. in_world w v ≡ true) (ReadsIn w) (bound_to names x) (λ v. Ok (formula.array v)) (bound_there w names x h) (λ v there. (there, tt))
  formula_in w names (literal ty ds es) h = tt
  formula_in w names (unary op e) h = ok_then (ReadsIn w) (ReadsIn w) (formula_of names e) (λ f. Ok (formula.unary op f)) (formula_in w names e h) (λ f there. there)
  formula_in w names (binary op d e) h =
      ok_then (ReadsIn w) (ReadsIn w) (formula_of names d) (λ f. and_then (formula_of names e) (λ i. Ok (formula.binary op f i))) (formula_in w names d h) (λ f first.
      ok_then (ReadsIn w) (ReadsIn w) (formula_of names e) (λ i. Ok (formula.binary op f i)) (formula_in w names e h) (λ i second.
      append_in w (formula.arrays_in f) (formula.arrays_in i) first second))
  formula_in w names (call word args) h =
      ok_always (ReadsIn w) (or_fault Syntax (type_named word)) (λ ty. and_then (operand_of names args) (λ f. Ok (formula.convert ty f))) (λ ty.
      ok_then (ReadsIn w) (ReadsIn w) (operand_of names args) (λ f. Ok (formula.convert ty f)) (operand_in w names args h) (λ f there. there))

  operand_in : (w : World) (names : Names) (args : Args) → AreIn w (bound_in names) → IfOk (operand_of names args) (ReadsIn w)
  operand_in w names none h = tt
  operand_in w names (value none e) h = formula_in w names e h
  operand_in w names (value (value front d) e) h = tt
  operand_in w names (value (text front t) e) h = tt
  operand_in w names (value (of_type front ty) e) h = tt
  operand_in w names (text front t) h = tt
  operand_in w names (of_type front ty) h = tt

read_with : (w : World) (flows : Flows) (f : Flow) → AreIn w (all_read flows) → AreIn w (formula.arrays_in f.formula) → AreIn w (all_read (flows ++ f ∷ []))
read_with w [] f h there = append_in w (formula.arrays_in f.formula) [] there tt
read_with w (x ∷ flows) f h there =
    let ks = formula.arrays_in x.formula in
    append_in w ks (all_read (flows ++ f ∷ [])) (front_in w ks (all_read flows) h) (read_with w flows f (back_in w ks (all_read flows) h) there)

begun_fine : (s : State) → IsInOrder s → (a : Arrays) (f : formula.FormulaTree) → ReadsIn s.arrays.world f → IsInOrder (begun s a f)
begun_fine s order a f there = record {
  orderly = order.orderly;
  below = order.below;
  inside = order.inside;
  watched = order.watched;
  read = read_with s.arrays.world s.flows (record { root = a.next; formula = f }) order.read there;
}

flowing_fine : (s : State) (x : List ℕ) (e : Tree) → IsInOrder s → (v : Arrays × ℕ) → FineValue s.arrays v → IfOk (flowing s x e v) FineStep
flowing_fine s x e order v fine =
    ok_then (ReadsIn s.arrays.world) FineStep (formula_of s.names e) (λ f. bound (begun s v.0 f) x (new_root v.0 (array_in v.0 v.1)))
    (formula_in s.arrays.world s.names e order.inside) (λ f there.
    bound_fine (begun s v.0 f) x (begun_fine s order v.0 f there) (new_root v.0 (array_in v.0 v.1))
    (value_there s.arrays (new_root v.0 (array_in v.0 v.1)) (later s.arrays v.0 fine.0 fine.2 (new_root v.0 (array_in v.0 v.1)) (root_fine v.0 (array_in v.0 v.1) (self s.arrays v.0 fine.0)))))

-- a statement leaves a state in order
pub effect_in_order : (present : List Bool) (s : State) → IsInOrder s → (statement : StatementTree) → IfOk (effect present s statement) (λ x. IsInOrder x.0)
effect_in_order present s order (bind x e false) =
    bound_fine s x order (value_of s.names s.arrays e) (value_there s.arrays (value_of s.names s.arrays e) (state_value_fine s order e))
effect_in_order present s order (bind x e true) =
    ok_then (FineValue s.arrays) FineStep (value_of s.names s.arrays e) (bind_severed s x) (state_value_fine s order e) (bind_severed_fine s x order)
effect_in_order present s order (bind_list xs e) = several_fine s xs order e
effect_in_order present s order (assign x views sign e) = assigning_fine s (target x views) sign e order
effect_in_order present s order (show e is_info) =
    ok_then (FineValue s.arrays) FineStep (value_of s.names s.arrays e) (λ v. Ok (after_printing s is_info v)) (state_value_fine s order e) (λ v fine. state_fine s v.0 order fine.0)
effect_in_order present s order (show_text t) = order
effect_in_order present s order (sever x) =
    ok_always FineStep (bound_to s.names x) (severing s) (λ v. state_fine (ending s v) (cut s.arrays v) (ending_fine s v order) (cut_fine s.arrays v (grows_self s order)))
effect_in_order present s order (reshapes x sizes) =
    ok_always FineStep (bound_to s.names x) (λ v. and_then (taken s.names s.arrays sizes) (reshaping s v)) (λ v.
    ok_then (FineTaken s.arrays) FineStep (taken s.names s.arrays sizes) (reshaping s v) (taken_fine s.names sizes s.arrays (grows_self s order) order.inside) (reshaping_fine s v order))
effect_in_order present s order (undef x) = unbind_fine s x order
effect_in_order present s order vars = order
effect_in_order present s order dump = ok_always FineStep (dumped s) (λ text. Ok (s, text)) (λ text. order)
effect_in_order present s order (flow x e) =
    ok_then (FineValue s.arrays) FineStep (value_of s.names s.arrays e) (flowing s x e) (state_value_fine s order e) (flowing_fine s x e order)
effect_in_order present s order (pp_def f a b) = ok_always FineStep (defined f a b) (kernel_named s f) (λ k. define_fine s f k order)
effect_in_order present s order (watch x k) =
    ok_then (λ v. in_world s.arrays.world v ≡ true) FineStep (bound_to s.names x) (watching present s k) (bound_to_fine s x order) (λ v here. watching_fine present s k v order here)
effect_in_order present s order (unwatch k) = unwatching_fine s k order
