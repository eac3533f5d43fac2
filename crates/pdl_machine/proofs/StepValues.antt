-- Values, bindings and what is printed are the same with arrays that differ in their numbers.
use Rattle.std.proofs.Common.{◌≡◌, ℕ, ℤ, suc, List, [], ◌∷◌, ◌++◌, length, Bool, true, false, Option, Some, None, Result, Ok, Err, codes, map, refl, sym, ap, subst, ◌∙◌, nat_eq}
use Rattle.std.specs.Prelude.{if◌then◌else◌, option_map, is_none, not, ◌&&◌, nat_lt}
use Rattle.std.specs.List.{flat_map}
use Rattle.std.specs.Cmp.Lexicographic.{pointwise}
use Rattle.pdl_lemmas.specs.Tests.{by_test}
use Rattle.pdl_buf.specs.declared.made.Made.{Made}
use Rattle.pdl_world.specs.declared.Trans.{Trans}
use Rattle.pdl_world.specs.Paths.{root_of}
use Rattle.pdl_world.specs.Refused.{NoView, view_refusal}
use Rattle.pdl_world.specs.World.{root, view, assign as assign_in}
use Rattle.pdl_lexemes.specs.declared.AssignOp.{AssignOp}
use Rattle.pdl_syntax.specs.Tree.{Tree, Args, number, named, literal, unary, binary, call, none, value, text, of_type}
use Rattle.pdl_machine.specs.declared.fault.Fault.{Fault}
use Rattle.pdl_machine.specs.declared.fault.Fault.TheVariants.{FlowTarget, TooManyNames, TooManyKernels}
use Rattle.pdl_machine.specs.declared.builtin.Builtin.{Builtin}
use Rattle.pdl_machine.specs.Then.{and_then}
use Rattle.pdl_machine.specs.Names.{KernelTexts, Named, Names, found, number_of, with_name, is_full_for, bind as bind_name, define, names_limit, kernels_limit}
use Rattle.pdl_machine.specs.Arrays.{Arrays, array_in}
use Rattle.pdl_machine.specs.Flows.{Flows, is_flow, flow_by}
use Rattle.pdl_machine.specs.Following.{followed}
use Rattle.pdl_machine.specs.State.{State, with_arrays}
use Rattle.pdl_machine.specs.Outcome.{array, string, type_word, Given, Seen, seen, all_seen, Outcome, made, viewed, Valued, new_root, new_view, view_placed, placed}
use Rattle.pdl_ops.specs.Elementwise.{unary_each}
use Rattle.pdl_machine.specs.Operators.{binary_each, values_for}
use Rattle.pdl_machine.specs.Kernels.{kernel_outputs}
use Rattle.pdl_machine.specs.Calls.{outcome, builtin_value, Callee, builtin, kernel, callee_of, only_root, several, value_by, call_value}
use Rattle.pdl_machine.specs.Value.{Taken, known, number_made, value_of, taken}
use Rattle.pdl_machine.specs.Tidy.{renumbered, with_numbers}
use Rattle.pdl_machine.specs.Step.{Stepped, bind_value, bound, roots_bound, outputs_bound, kernel_named, list_bound, unless_flow, target_in, assigned, flowed, assigning, info_line, printed, after_printing, name_line}
use Rattle.pdl_machine.proofs.FlowLemmas.{is_flow_by, followed_alike}
use Rattle.pdl_machine.proofs.ArraysRenamed.{AreAlike, StateAlike, root_of_renamed, view_refusal_renamed, assign_renamed, array_alike, new_alike}
use Rattle.pdl_machine.proofs.WatchLemmas.{is_none-map}
use Rattle.pdl_machine.proofs.ThenBoth.{Both, both_then, both_same}

-- a value on both sides
abbrev pub ValueAlike : (ℕ → ℕ) → Arrays × ℕ → Arrays × ℕ → Type 0
ValueAlike g (a, v) (b, u) = AreAlike true g a b × (u ≡ g v)

abbrev pub given_by : (ℕ → ℕ) → Given → Given
given_by g (array v) = array (g v)
given_by g (string t) = string t
given_by g (type_word ty) = type_word ty

abbrev pub all_given_by : (ℕ → ℕ) → List Given → List Given
all_given_by g [] = []
all_given_by g (x ∷ given) = given_by g x ∷ all_given_by g given

-- arguments on both sides
abbrev pub TakenAlike : (ℕ → ℕ) → Arrays × List Given → Arrays × List Given → Type 0
TakenAlike g (a, given) (b, others) = AreAlike true g a b × (others ≡ all_given_by g given)

seen_alike : (g : ℕ → ℕ) (a b : Arrays) → AreAlike true g a b → (x : Given) → seen b (given_by g x) ≡ seen a x
seen_alike g a b h (array v) = ap array (array_alike g a b h v)
seen_alike g a b h (string t) = refl
seen_alike g a b h (type_word ty) = refl

-- a call sees the same of its arguments
all_seen_alike : (g : ℕ → ℕ) (a b : Arrays) → AreAlike true g a b → (given : List Given) → all_seen b (all_given_by g given) ≡ all_seen a given
all_seen_alike g a b h [] = refl
all_seen_alike g a b h (x ∷ given) =
    ap (λ s. s ∷ all_seen b (all_given_by g given)) (seen_alike g a b h x) ∙ ap (λ rest. seen a x ∷ rest) (all_seen_alike g a b h given)

root_alike : (g : ℕ → ℕ) (a b : Arrays) → AreAlike true g a b → (m : Made) → Both (ValueAlike g) (new_root a m) (new_root b m)
root_alike g a b h m = (new_alike g a b h (root m.ty m.dims m.elems), h.next)

view_alike : (g : ℕ → ℕ) (a b : Arrays) → AreAlike true g a b → (v : ℕ) (t : Trans) (x : Option NoView) → Both (ValueAlike g) (new_view a v t x) (new_view b (g v) t x)
view_alike g a b h v t None = (new_alike g a b h (view v t), h.next)
view_alike g a b h v t (Some reason) = refl

viewed_alike : (g : ℕ → ℕ) (a b : Arrays) → AreAlike true g a b → (given : List Given) (t : Trans) → Both (ValueAlike g) (view_placed a given t) (view_placed b (all_given_by g given) t)
viewed_alike g a b h [] t = refl
viewed_alike g a b h (array v ∷ given) t =
    let P : Option NoView → Type 0 = λ reason. Both (ValueAlike g) (view_placed a (array v ∷ given) t) (new_view b (g v) t reason) in
    subst P (sym (view_refusal_renamed g h.apart h.world v t)) (view_alike g a b h v t (view_refusal a.world v t))
viewed_alike g a b h (string s ∷ given) t = refl
viewed_alike g a b h (type_word ty ∷ given) t = refl

-- the same outcome is placed on both sides
placed_alike : (g : ℕ → ℕ) (a b : Arrays) → AreAlike true g a b → (given : List Given) (x : Result Outcome Fault) → Both (ValueAlike g) (placed a given x) (placed b (all_given_by g given) x)
placed_alike g a b h given (Err e) = refl
placed_alike g a b h given (Ok (made m)) = root_alike g a b h m
placed_alike g a b h given (Ok (viewed t)) = viewed_alike g a b h given t

builtin_alike : (g : ℕ → ℕ) (f : Builtin) (t u : Arrays × List Given) → TakenAlike g t u → Both (ValueAlike g) (builtin_value f t.0 t.1) (builtin_value f u.0 u.1)
builtin_alike g f (a, given) (b, others) h =
    let P : List Given → Type 0 = λ x. Both (ValueAlike g) (builtin_value f a given) (builtin_value f b x) in
    let Q : List Seen → Type 0 = λ x. Both (ValueAlike g) (builtin_value f a given) (placed b (all_given_by g given) (outcome f x)) in
    subst P (sym h.1) (subst Q (sym (all_seen_alike g a b h.0 given)) (placed_alike g a b h.0 given (outcome f (all_seen a given))))

-- and so it does where they were evaluated
pub taken_seen : (g : ℕ → ℕ) (t u : Arrays × List Given) → TakenAlike g t u → all_seen u.0 u.1 ≡ all_seen t.0 t.1
taken_seen g (a, given) (b, others) h = ap (all_seen b) h.1 ∙ all_seen_alike g a b h.0 given

only_alike : (g : ℕ → ℕ) (a b : Arrays) → AreAlike true g a b → (ms : List Made) → Both (ValueAlike g) (only_root a ms) (only_root b ms)
only_alike g a b h [] = refl
only_alike g a b h (m ∷ []) = root_alike g a b h m
only_alike g a b h (m ∷ n ∷ ms) = refl

value_by_alike : (g : ℕ → ℕ) (t u : Arrays × List Given) → TakenAlike g t u → (c : Callee) → Both (ValueAlike g) (value_by t.0 t.1 c) (value_by u.0 u.1 c)
value_by_alike g t u h (builtin f) = builtin_alike g f t u h
value_by_alike g t u h (kernel k) =
    let P : List Seen → Type 0 = λ x. Both (ValueAlike g) (value_by t.0 t.1 (kernel k)) (and_then (kernel_outputs k 1 x) (only_root u.0)) in
    subst P (sym (taken_seen g t u h)) (both_same (ValueAlike g) (kernel_outputs k 1 (all_seen t.0 t.1)) (only_root t.0) (only_root u.0) (only_alike g t.0 u.0 h.0))

call_alike : (g : ℕ → ℕ) (names : Names) (f : List ℕ) (t u : Arrays × List Given) → TakenAlike g t u → Both (ValueAlike g) (call_value names f t.0 t.1) (call_value (with_numbers g names) f u.0 u.1)
call_alike g names f t u h = both_same (ValueAlike g) (callee_of names f) (value_by t.0 t.1) (value_by u.0 u.1) (value_by_alike g t u h)

given_snoc : (g : ℕ → ℕ) (given : List Given) (x : Given) → all_given_by g (given ++ x ∷ []) ≡ all_given_by g given ++ given_by g x ∷ []
given_snoc g [] x = refl
given_snoc g (y ∷ given) x = ap (λ rest. given_by g y ∷ rest) (given_snoc g given x)

-- arguments, and then one more
abbrev with_argument : Arrays → List Given → Given → Taken
with_argument a given x = Ok (a, given ++ x ∷ [])

more_alike : (g : ℕ → ℕ) (a b : Arrays) (given others : List Given) (x y : Given) → AreAlike true g a b → others ≡ all_given_by g given → y ≡ given_by g x
    → Both (TakenAlike g) (with_argument a given x) (with_argument b others y)
more_alike g a b given others x y h same_front same =
    (h, ap (λ o. o ++ y ∷ []) same_front ∙ ap (λ z. all_given_by g given ++ z ∷ []) same ∙ sym (given_snoc g given x))

pub found_alike : (g : ℕ → ℕ) (names : Named ℕ) (x : List ℕ) → found (renumbered g names) x ≡ option_map g (found names x)
found_alike g [] x = refl
found_alike g (n ∷ names) x =
    by_test (pointwise nat_eq x n.0) (λ same. rw same refl) (λ other. rw other (found_alike g names x))

pub number_of_alike : (g : ℕ → ℕ) (names : Names) (x : List ℕ) → number_of (with_numbers g names) x ≡ option_map g (number_of names x)
number_of_alike g names x = found_alike g names.arrays x

known_alike : (g : ℕ → ℕ) (a b : Arrays) → AreAlike true g a b → (o : Option ℕ) → Both (ValueAlike g) (known a o) (known b (option_map g o))
known_alike g a b h None = refl
known_alike g a b h (Some v) = (h, refl)

pub unary_alike : (g : ℕ → ℕ) (f : Made → Made) (v u : Arrays × ℕ) → ValueAlike g v u → Both (ValueAlike g) (new_root v.0 (f (array_in v.0 v.1))) (new_root u.0 (f (array_in u.0 u.1)))
unary_alike g f (a, v) (b, u) h =
    let same : array_in b u ≡ array_in a v = ap (array_in b) h.1 ∙ array_alike g a b h.0 v in
    let P : Made → Type 0 = λ m. Both (ValueAlike g) (new_root a (f (array_in a v))) (new_root b (f m)) in
    subst P (sym same) (root_alike g a b h.0 (f (array_in a v)))

-- a function of two arrays, of which the first was there before
binary_alike : (g : ℕ → ℕ) (f : Made → Made → Result Made Fault) (v w : ℕ) (x y : Arrays × ℕ) → w ≡ g v → ValueAlike g x y
    → Both (ValueAlike g) (and_then (f (array_in x.0 v) (array_in x.0 x.1)) (new_root x.0)) (and_then (f (array_in y.0 w) (array_in y.0 y.1)) (new_root y.0))
binary_alike g f v w (a, x) (b, y) same h =
    let left : array_in b w ≡ array_in a v = ap (array_in b) same ∙ array_alike g a b h.0 v in
    let right : array_in b y ≡ array_in a x = ap (array_in b) h.1 ∙ array_alike g a b h.0 x in
    let P : Result Made Fault → Type 0 = λ m. Both (ValueAlike g) (and_then (f (array_in a v) (array_in a x)) (new_root a)) (and_then m (new_root b)) in
    subst P (sym (ap (λ m. f m (array_in b y)) left ∙ ap (f (array_in a v)) right))
    (both_same (ValueAlike g) (f (array_in a v) (array_in a x)) (new_root a) (new_root b) (λ m. root_alike g a b h.0 m))

mutual
  -- values are the same
  pub value_alike : (g : ℕ → ℕ) (names : Names) (e : Tree) (a b : Arrays) → AreAlike true g a b → Both (ValueAlike g) (value_of names a e) (value_of (with_numbers g names) b e)
  value_alike g names (number n) a b h = root_alike g a b h (number_made n)
  value_alike g names (named x) a b h =
      let P : Option ℕ → Type 0 = λ o. Both (ValueAlike g) (known a (number_of names x)) (known b o) in
      subst P (sym (number_of_alike g names x)) (known_alike g a b h (number_of names x))
  value_alike g names (literal ty ds es) a b h = root_alike g a b h (record { ty = ty; dims = ds; elems = es })
  value_alike g names (unary op e) a b h =
      both_then (ValueAlike g) (ValueAlike g) (value_of names a e) (value_of (with_numbers g names) b e) (λ v. new_root v.0 (unary_each op (array_in v.0 v.1))) (λ v. new_root v.0 (unary_each op (array_in v.0 v.1)))
      (value_alike g names e a b h) (unary_alike g (unary_each op))
  value_alike g names (binary op e f) a b h =
      both_then (ValueAlike g) (ValueAlike g) (value_of names a e) (value_of (with_numbers g names) b e)
      (λ v. and_then (value_of names v.0 f) (λ u. and_then (binary_each op (array_in u.0 v.1) (array_in u.0 u.1)) (new_root u.0)))
      (λ v. and_then (value_of (with_numbers g names) v.0 f) (λ u. and_then (binary_each op (array_in u.0 v.1) (array_in u.0 u.1)) (new_root u.0)))
      (value_alike g names e a b h) (λ v w together.
      both_then (ValueAlike g) (ValueAlike g) (value_of names v.0 f) (value_of (with_numbers g names) w.0 f)
      (λ u. and_then (binary_each op (array_in u.0 v.1) (array_in u.0 u.1)) (new_root u.0)) (λ u. and_then (binary_each op (array_in u.0 w.1) (array_in u.0 u.1)) (new_root u.0))
      (value_alike g names f v.0 w.0 together.0) (λ x y. binary_alike g (binary_each op) v.1 w.1 x y together.1))
  value_alike g names (call f args) a b h =
      both_then (TakenAlike g) (ValueAlike g) (taken names a args) (taken (with_numbers g names) b args) (λ t. call_value names f t.0 t.1) (λ t. call_value (with_numbers g names) f t.0 t.1)
      (taken_alike g names args a b h) (call_alike g names f)

  -- and so are arguments
  pub taken_alike : (g : ℕ → ℕ) (names : Names) (args : Args) (a b : Arrays) → AreAlike true g a b → Both (TakenAlike g) (taken names a args) (taken (with_numbers g names) b args)
  taken_alike g names none a b h = (h, refl)
  taken_alike g names (value front e) a b h =
      both_then (TakenAlike g) (TakenAlike g) (taken names a front) (taken (with_numbers g names) b front)
      (λ t. and_then (value_of names t.0 e) (λ v. with_argument v.0 t.1 (array v.1))) (λ t. and_then (value_of (with_numbers g names) t.0 e) (λ v. with_argument v.0 t.1 (array v.1)))
      (taken_alike g names front a b h) (λ t u together.
      both_then (ValueAlike g) (TakenAlike g) (value_of names t.0 e) (value_of (with_numbers g names) u.0 e) (λ v. with_argument v.0 t.1 (array v.1)) (λ v. with_argument v.0 u.1 (array v.1))
      (value_alike g names e t.0 u.0 together.0) (λ v w both. more_alike g v.0 w.0 t.1 u.1 (array v.1) (array w.1) both.0 together.1 (ap array both.1)))
  taken_alike g names (text front t) a b h =
      both_then (TakenAlike g) (TakenAlike g) (taken names a front) (taken (with_numbers g names) b front) (λ x. with_argument x.0 x.1 (string t)) (λ x. with_argument x.0 x.1 (string t))
      (taken_alike g names front a b h) (λ x y together. more_alike g x.0 y.0 x.1 y.1 (string t) (string t) together.0 together.1 refl)
  taken_alike g names (of_type front ty) a b h =
      both_then (TakenAlike g) (TakenAlike g) (taken names a front) (taken (with_numbers g names) b front) (λ x. with_argument x.0 x.1 (type_word ty)) (λ x. with_argument x.0 x.1 (type_word ty))
      (taken_alike g names front a b h) (λ x y together. more_alike g x.0 y.0 x.1 y.1 (type_word ty) (type_word ty) together.0 together.1 refl)

-- a state and what was printed, on both sides
abbrev pub StepAlike : (ℕ → ℕ) → State × List ℕ → State × List ℕ → Type 0
StepAlike g (s, printed) (t, other) = StateAlike true g s t × (printed ≡ other)

length-numbers : (g : ℕ → ℕ) (names : Named ℕ) → length (renumbered g names) ≡ length names
length-numbers g [] = refl
length-numbers g (n ∷ names) = ap suc (length-numbers g names)

with_name_alike : (g : ℕ → ℕ) (names : Named ℕ) (x : List ℕ) (v : ℕ) → with_name (renumbered g names) x (g v) ≡ renumbered g (with_name names x v)
with_name_alike g [] x v = refl
with_name_alike g (n ∷ names) x v =
    by_test (pointwise nat_eq x n.0) (λ same. rw same refl) (λ other. rw other (ap (λ y. (n.0, g n.1) ∷ y) (with_name_alike g names x v)))

full_alike : (g : ℕ → ℕ) (limit : ℕ) (names : Named ℕ) (x : List ℕ) → is_full_for limit (renumbered g names) x ≡ is_full_for limit names x
full_alike g limit names x =
    ap (λ o. is_none o && not (nat_lt (length (renumbered g names)) limit)) (found_alike g names x)
    ∙ ap (λ b. b && not (nat_lt (length (renumbered g names)) limit)) (is_none-map g (found names x))
    ∙ ap (λ n. is_none (found names x) && not (nat_lt n limit)) (length-numbers g names)

-- the same binding of a name on both sides
bind_alike : (g : ℕ → ℕ) (names : Names) (x : List ℕ) (v : ℕ) → Both (λ n m. m ≡ with_numbers g n) (bind_name names x v) (bind_name (with_numbers g names) x (g v))
bind_alike g names x v =
    let P : Bool → Type 0 = λ b. Both (λ n m. m ≡ with_numbers g n) (bind_name names x v) (and_then (if b then Err TooManyNames else Ok (with_name (renumbered g names.arrays) x (g v))) (λ bound. Ok (other bound))) in
    subst P (sym (full_alike g names_limit names.arrays x)) (by_room (is_full_for names_limit names.arrays x))
  where
    other : Named ℕ → Names
    other bound = record names { arrays = bound }

    by_room : (b : Bool) → Both (λ n m. m ≡ with_numbers g n) (and_then (if b then Err TooManyNames else Ok (with_name names.arrays x v)) (λ bound. Ok (other bound))) (and_then (if b then Err TooManyNames else Ok (with_name (renumbered g names.arrays) x (g v))) (λ bound. Ok (other bound)))
    by_room true = refl
    by_room false = ap other (with_name_alike g names.arrays x v)

pub bind_value_alike : (g : ℕ → ℕ) (s t : State) → StateAlike true g s t → (x : List ℕ) (v w : Arrays × ℕ) → ValueAlike g v w → Both (StepAlike g) (bind_value s x v) (bind_value t x w)
bind_value_alike g s t h x (a, v) (b, w) together =
    let P : Names → Type 0 = λ n. Both (λ n m. m ≡ with_numbers g n) (bind_name s.names x v) (bind_name n x w) in
    let Q : ℕ → Type 0 = λ u. Both (λ n m. m ≡ with_numbers g n) (bind_name s.names x v) (bind_name (with_numbers g s.names) x u) in
    let names : Both (λ n m. m ≡ with_numbers g n) (bind_name s.names x v) (bind_name t.names x w) = subst P (sym h.names) (subst Q (sym together.1) (bind_alike g s.names x v)) in
    both_then (λ n m. m ≡ with_numbers g n) (StepAlike g) (bind_name s.names x v) (bind_name t.names x w) (λ n. Ok (record s { names = n; arrays = a }, [])) (λ n. Ok (record t { names = n; arrays = b }, []))
    names (λ n m same. (record { arrays = together.0; names = same; watches = h.watches; flows = h.flows }, refl))

pub bound_alike : (g : ℕ → ℕ) (s t : State) → StateAlike true g s t → (x : List ℕ) (v w : Valued) → Both (ValueAlike g) v w → Both (StepAlike g) (bound s x v) (bound t x w)
bound_alike g s t h x v w together = both_then (ValueAlike g) (StepAlike g) v w (bind_value s x) (bind_value t x) together (bind_value_alike g s t h x)

roots_alike : (g : ℕ → ℕ) (s t : State) → StateAlike true g s t → (xs : List (List ℕ)) (ms : List Made) → Both (StepAlike g) (roots_bound s xs ms) (roots_bound t xs ms)
roots_alike g s t h [] ms = (h, refl)
roots_alike g s t h (x ∷ xs) [] = (h, refl)
roots_alike g s t h (x ∷ xs) (m ∷ ms) =
    both_then (StepAlike g) (StepAlike g) (bound s x (new_root s.arrays m)) (bound t x (new_root t.arrays m)) (λ after. roots_bound after.0 xs ms) (λ after. roots_bound after.0 xs ms)
    (bound_alike g s t h x (new_root s.arrays m) (new_root t.arrays m) (root_alike g s.arrays t.arrays h.arrays m)) (λ p q alike. roots_alike g p.0 q.0 alike.0 xs ms)

-- outputs bound on both sides
many_alike : (g : ℕ → ℕ) (s t : State) → StateAlike true g s t → (xs : List (List ℕ)) (v w : Arrays × List Given) → TakenAlike g v w → (c : Callee)
    → Both (StepAlike g) (and_then (several (length xs) (all_seen v.0 v.1) c) (roots_bound (with_arrays s v.0) xs)) (and_then (several (length xs) (all_seen w.0 w.1) c) (roots_bound (with_arrays t w.0) xs))
many_alike g s t h xs v w together c =
    let given = several (length xs) (all_seen v.0 v.1) c in
    let P : List Seen → Type 0 = λ x. Both (StepAlike g) (and_then given (roots_bound (with_arrays s v.0) xs)) (and_then (several (length xs) x c) (roots_bound (with_arrays t w.0) xs)) in
    let alike : StateAlike true g (with_arrays s v.0) (with_arrays t w.0) = record { arrays = together.0; names = h.names; watches = h.watches; flows = h.flows } in
    subst P (sym (taken_seen g v w together)) (both_same (StepAlike g) given (roots_bound (with_arrays s v.0) xs) (roots_bound (with_arrays t w.0) xs) (roots_alike g (with_arrays s v.0) (with_arrays t w.0) alike xs))

outputs_alike : (g : ℕ → ℕ) (s t : State) → StateAlike true g s t → (xs : List (List ℕ)) (v w : Arrays × List Given) → TakenAlike g v w → (c : Callee) → Both (StepAlike g) (outputs_bound s xs v c) (outputs_bound t xs w c)
outputs_alike g s t h (x ∷ []) v w together c = bound_alike g s t h x (value_by v.0 v.1 c) (value_by w.0 w.1 c) (value_by_alike g v w together c)
outputs_alike g s t h [] v w together c = many_alike g s t h [] v w together c
outputs_alike g s t h (x ∷ y ∷ xs) v w together c = many_alike g s t h (x ∷ y ∷ xs) v w together c

pub list_alike : (g : ℕ → ℕ) (s t : State) → StateAlike true g s t → (xs : List (List ℕ)) (f : List ℕ) (v w : Arrays × List Given) → TakenAlike g v w → Both (StepAlike g) (list_bound s xs f v) (list_bound t xs f w)
list_alike g s t h xs f v w together =
    let P : Names → Type 0 = λ names. Both (StepAlike g) (list_bound s xs f v) (and_then (callee_of names f) (outputs_bound t xs w)) in
    subst P (sym h.names) (both_same (StepAlike g) (callee_of s.names f) (outputs_bound s xs v) (outputs_bound t xs w) (outputs_alike g s t h xs v w together))

-- the state's value on both sides
pub state_value_alike : (g : ℕ → ℕ) (s t : State) → StateAlike true g s t → (e : Tree) → Both (ValueAlike g) (value_of s.names s.arrays e) (value_of t.names t.arrays e)
state_value_alike g s t h e =
    let P : Names → Type 0 = λ n. Both (ValueAlike g) (value_of s.names s.arrays e) (value_of n t.arrays e) in
    subst P (sym h.names) (value_alike g s.names e s.arrays t.arrays h.arrays)

-- and arguments
pub state_taken_alike : (g : ℕ → ℕ) (s t : State) → StateAlike true g s t → (args : Args) → Both (TakenAlike g) (taken s.names s.arrays args) (taken t.names t.arrays args)
state_taken_alike g s t h args =
    let P : Names → Type 0 = λ n. Both (TakenAlike g) (taken s.names s.arrays args) (taken n t.arrays args) in
    subst P (sym h.names) (taken_alike g s.names args s.arrays t.arrays h.arrays)

arrays_assigned_alike : (g : ℕ → ℕ) (a b : Arrays) → AreAlike true g a b → (v : ℕ) (vs : List ℤ) → AreAlike true g (record a { world = assign_in a.world v vs }) (record b { world = assign_in b.world (g v) vs })
arrays_assigned_alike g a b h v vs = record { apart = h.apart; world = assign_renamed g h.apart h.world v vs; next = h.next; on = h.on }

assigned_alike : (g : ℕ → ℕ) (sign : AssignOp) (a b : Arrays) → AreAlike true g a b → (v w u x : ℕ) → w ≡ g v → x ≡ g u → Both (AreAlike true g) (assigned sign a v u) (assigned sign b w x)
assigned_alike g sign a b h v w u x same_v same_u =
    let right : array_in b x ≡ array_in a u = ap (array_in b) same_u ∙ array_alike g a b h u in
    let left : array_in b (g v) ≡ array_in a v = array_alike g a b h v in
    let write : ℕ → List ℤ → Result Arrays Fault = λ i values. Ok (record b { world = assign_in b.world i values }) in
    let P : Result (List ℤ) Fault → Type 0 = λ r. Both (AreAlike true g) (assigned sign a v u) (and_then r (write (g v))) in
    let Q : ℕ → Type 0 = λ i. Both (AreAlike true g) (assigned sign a v u) (and_then (values_for sign (array_in b i) (array_in b x)) (write i)) in
    subst Q (sym same_v) (subst P (sym (ap (λ m. values_for sign m (array_in b x)) left ∙ ap (values_for sign (array_in a v)) right))
    (both_same (AreAlike true g) (values_for sign (array_in a v) (array_in a u)) (λ values. Ok (record a { world = assign_in a.world v values })) (write (g v))
    (λ values. arrays_assigned_alike g a b h v values)))

-- an array that may be assigned to, on both sides
unless_alike : (g : ℕ → ℕ) (s t : State) → StateAlike true g s t → (v w : Arrays × ℕ) → ValueAlike g v w → Both (ValueAlike g) (unless_flow s.flows v) (unless_flow t.flows w)
unless_alike g s t h (a, v) (b, w) both =
    let test : is_flow t.flows (root_of b.world w) ≡ is_flow s.flows (root_of a.world v) =
    ap (λ (flows : Flows). is_flow flows (root_of b.world w)) h.flows
    ∙ ap (λ u. is_flow (map (flow_by g) s.flows) (root_of b.world u)) both.1
    ∙ ap (is_flow (map (flow_by g) s.flows)) (root_of_renamed g both.0.apart both.0.world v)
    ∙ is_flow_by g both.0.apart s.flows (root_of a.world v) in
    let P : Bool → Type 0 = λ x. Both (ValueAlike g) (unless_flow s.flows (a, v)) (if x then Err FlowTarget else Ok (b, w)) in
    subst P (sym test) (by_flow (is_flow s.flows (root_of a.world v)))
  where
    by_flow : (x : Bool) → Both (ValueAlike g) (if x then Err FlowTarget else Ok (a, v)) (if x then Err FlowTarget else Ok (b, w))
    by_flow true = refl
    by_flow false = both

target_alike : (g : ℕ → ℕ) (s t : State) → StateAlike true g s t → (to : Tree) → Both (ValueAlike g) (target_in s to) (target_in t to)
target_alike g s t h to =
    both_then (ValueAlike g) (ValueAlike g) (value_of s.names s.arrays to) (value_of t.names t.arrays to) (unless_flow s.flows) (unless_flow t.flows) (state_value_alike g s t h to) (unless_alike g s t h)

-- flows follow alike
flowed_alike : (g : ℕ → ℕ) (s t : State) → StateAlike true g s t → StateAlike true g (flowed s) (flowed t)
flowed_alike g s t h =
    let P : Flows → Type 0 = λ flows. AreAlike true g (followed s.arrays s.flows) (followed t.arrays flows) in
    record { arrays = subst P (sym h.flows) (followed_alike g s.arrays t.arrays h.arrays s.flows); names = h.names; watches = h.watches; flows = h.flows }

pub assigning_alike : (g : ℕ → ℕ) (s t : State) → StateAlike true g s t → (to : Tree) (sign : AssignOp) (e : Tree) → Both (StepAlike g) (assigning s to sign e) (assigning t to sign e)
assigning_alike g s t h to sign e =
    both_then (ValueAlike g) (StepAlike g) (target_in s to) (target_in t to) (λ v. and_then (value_of s.names v.0 e) (last s v.1)) (λ v. and_then (value_of t.names v.0 e) (last t v.1))
    (target_alike g s t h to) (λ v w both.
    both_then (ValueAlike g) (StepAlike g) (value_of s.names v.0 e) (value_of t.names w.0 e) (last s v.1) (last t w.1)
    (right v.0 w.0 both.0) (λ u x both_right.
    both_then (AreAlike true g) (StepAlike g) (assigned sign u.0 v.1 u.1) (assigned sign x.0 w.1 x.1) (λ a. Ok (flowed (with_arrays s a), [])) (λ a. Ok (flowed (with_arrays t a), []))
    (assigned_alike g sign u.0 x.0 both_right.0 v.1 w.1 u.1 x.1 both.1 both_right.1) (λ a b alike. (flowed_alike g (with_arrays s a) (with_arrays t b) (record { arrays = alike; names = h.names; watches = h.watches; flows = h.flows }), refl))))
  where
    last : State → ℕ → Arrays × ℕ → Stepped
    last s v u = and_then (assigned sign u.0 v u.1) (λ a. Ok (flowed (with_arrays s a), []))

    right : (a b : Arrays) → AreAlike true g a b → Both (ValueAlike g) (value_of s.names a e) (value_of t.names b e)
    right a b alike = let P : Names → Type 0 = λ n. Both (ValueAlike g) (value_of s.names a e) (value_of n b e) in subst P (sym h.names) (value_alike g s.names e a b alike)

pub shown_alike : (g : ℕ → ℕ) (s t : State) → StateAlike true g s t → (is_info : Bool) (v w : Arrays × ℕ) → ValueAlike g v w → StepAlike g (after_printing s is_info v) (after_printing t is_info w)
shown_alike g s t h is_info (a, v) (b, w) both =
    (record { arrays = both.0; names = h.names; watches = h.watches; flows = h.flows }, ap (printed is_info) (sym (ap (array_in b) both.1 ∙ array_alike g a b both.0 v)))

pub lines_alike : (g : ℕ → ℕ) (a b : Arrays) → AreAlike true g a b → (names : Named ℕ) → flat_map (name_line a) names ≡ flat_map (name_line b) (renumbered g names)
lines_alike g a b h [] = refl
lines_alike g a b h (n ∷ names) =
    ap (λ m. (n.0 ++ codes " " ++ info_line m) ++ flat_map (name_line a) names) (sym (array_alike g a b h n.1))
    ∙ ap (λ t. name_line b (n.0, g n.1) ++ t) (lines_alike g a b h names)

-- the definition of a kernel on both sides
pub define_alike : (g : ℕ → ℕ) (s t : State) → StateAlike true g s t → (f : List ℕ) (k : KernelTexts) → Both (StepAlike g) (kernel_named s f k) (kernel_named t f k)
define_alike g s t h f k =
    let P : Names → Type 0 = λ names. Both (StepAlike g) (kernel_named s f k) (and_then (define names f k) (λ after. Ok (record t { names = after }, []))) in
    subst P (sym h.names) (by_room (is_full_for kernels_limit s.names.kernels f))
  where
    step_of : State → Names → Result (Named KernelTexts) Fault → Stepped
    step_of u names x = and_then (and_then x (λ kernels. Ok (record names { kernels = kernels }))) (λ after. Ok (record u { names = after }, []))

    by_room : (b : Bool) → Both (StepAlike g)
        (step_of s s.names (if b then Err TooManyKernels else Ok (with_name s.names.kernels f k)))
        (step_of t (with_numbers g s.names) (if b then Err TooManyKernels else Ok (with_name s.names.kernels f k)))
    by_room true = refl
    by_room false = (record { arrays = h.arrays; names = refl; watches = h.watches; flows = h.flows }, refl)
