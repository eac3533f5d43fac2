-- What moves for the arrays of a part moves for those of the whole, also where the whole is refused.
use Rattle.std.proofs.Common.{◌≡◌, ℕ, ◌+◌, ◌≤◌, ◌<◌, ◌++◌, List, [], ◌∷◌, get_or, length, map, take, drop, Option, Some, None, Result, Ok, Err, sym, ap, ◌∙◌, arith}
use Rattle.std.specs.Prelude.{IfOk, fold, slice_index_or}
use Rattle.std.proofs.lemmas.List.{map-append, take-append-drop}
use Rattle.std.proofs.lemmas.List.Sums.{fold-append}
use Rattle.pdl_buf.specs.declared.made.Made.{Made}
use Rattle.pdl_elem.specs.declared.BinaryOp.{BinaryOp}
use Rattle.pdl_elem.specs.declared.UnaryOp.{UnaryOp}
use Rattle.pdl_ops.specs.Elementwise.{unary_each}
use Rattle.pdl_numbers.specs.Typed.{count_moved}
use Rattle.pdl_syntax.specs.StatementTree.{View, view_of}
use Rattle.pdl_syntax.specs.Tree.{Tree, Args, number, named, literal, unary, binary, call, none, value, text, of_type}
use Rattle.pdl_syntax.specs.TreeOf.{tree_of, args_of, argument_of}
use Rattle.pdl_syntax.specs.declared.tree.Arg.{Arg, Value, Str, OfType}
use Rattle.pdl_syntax.specs.declared.tree.ViewCall.{ViewCall}
use Rattle.pdl_world.specs.Refused.{NoView, view_refusal}
use Rattle.pdl_world.specs.World.{ArrayDef, root, view}
use Rattle.pdl_world.specs.declared.Trans.{Trans}
use Rattle.pdl_machine.specs.declared.fault.Fault.{Fault}
use Rattle.pdl_machine.specs.declared.builtin.Builtin.{Builtin}
use Rattle.pdl_machine.specs.Arrays.{Arrays, array_in, with_new}
use Rattle.pdl_machine.specs.Calls.{Callee, builtin, builtin_value, call_value, callee_of, kernel, only_root, outcome, value_by}
use Rattle.pdl_machine.specs.Kernels.{kernel_outputs}
use Rattle.pdl_machine.specs.Names.{Names, number_of}
use Rattle.pdl_machine.specs.Operators.{binary_each}
use Rattle.pdl_machine.specs.Outcome.{Given, Outcome, Valued, all_seen, array, made, new_root, new_view, placed, string, type_word, viewed}
use Rattle.pdl_machine.specs.Step.{behind, target}
use Rattle.pdl_machine.specs.Then.{and_then}
use Rattle.pdl_machine.specs.Value.{Taken, known, number_made, taken, value_of}
use Rattle.pdl_scope.specs.Costs.{total_size}
use Rattle.pdl_session.specs.Came.{args_evaluated, args_left, came, evaluated, left_then, parts_left}
use Rattle.pdl_session.proofs.ArgumentEvals.{args_more, args_of_append}
use Rattle.pdl_session.proofs.ArgumentTargets.{called, target_more}

abbrev pub size_in : Arrays → ℕ
size_in a = total_size a.world

-- the arrays of a value have so much, if it came
abbrev pub HasOnce : {T : Type 0} → ℕ → Result (Arrays × T) Fault → Type 0
HasOnce n x = IfOk x (λ v. n ≤ size_in v.0)

-- one array more
one_more : (a : Arrays) (d : ArrayDef) → size_in a ≤ size_in (with_new a d).0
one_more a (root ty ds es) = omega arith
one_more a (view p t) = omega arith

pub came_has : {T : Type 0} (n : ℕ) (x : Result (Arrays × T) Fault) (left : Arrays) → n ≤ size_in left → HasOnce n x → n ≤ size_in (came x left)
came_has n (Ok v) left rest h = h
came_has n (Err e) left rest h = rest

-- what less had, more has
has_less : {T : Type 0} (few many : ℕ) (x : Result (Arrays × T) Fault) → few ≤ many → HasOnce many x → HasOnce few x
has_less few many (Ok v) less h = omega (arith, less, h)
has_less few many (Err e) less h = tt

-- ---- calls

root_placed : (n : ℕ) (a : Arrays) (m : Made) → n ≤ size_in a → HasOnce n (new_root a m)
root_placed n a m h = (let one : size_in a ≤ size_in (with_new a (root m.ty m.dims m.elems)).0 = one_more a (root m.ty m.dims m.elems) in omega (arith, h, one))

view_made : (a : Arrays) (v : ℕ) (t : Trans) (o : Option NoView) → HasOnce (size_in a) (new_view a v t o)
view_made a v t None = one_more a (view v t)
view_made a v t (Some reason) = tt

pub builtin_has : (a : Arrays) (given : List Given) (o : Result Outcome Fault) → HasOnce (size_in a) (placed a given o)
builtin_has a given (Err e) = tt
builtin_has a given (Ok (made m)) = one_more a (root m.ty m.dims m.elems)
builtin_has a [] (Ok (viewed t)) = tt
builtin_has a (array v ∷ given) (Ok (viewed t)) = view_made a v t (view_refusal a.world v t)
builtin_has a (string s ∷ given) (Ok (viewed t)) = tt
builtin_has a (type_word ty ∷ given) (Ok (viewed t)) = tt

pub only_has : (a : Arrays) (ms : List Made) → HasOnce (size_in a) (only_root a ms)
only_has a [] = tt
only_has a (m ∷ []) = one_more a (root m.ty m.dims m.elems)
only_has a (m ∷ n ∷ ms) = tt

-- the only output
pub only_came : (a : Arrays) (ms : List Made) (m : Made) → length ms ≡ 1 → m ≡ get_or ms 0 m → size_in (came (only_root a ms) a) ≡ count_moved m.elems + size_in a
only_came a [] m one is = absurd (omega arith)
only_came a (n ∷ []) m one is = ap (λ (x : Made). count_moved x.elems + size_in a) (sym is)
only_came a (n ∷ k ∷ ms) m one is = absurd (omega arith)

pub only_more : (a : Arrays) (ms : List Made) → size_in a ≤ size_in (came (only_root a ms) a)
only_more a ms = came_has (size_in a) (only_root a ms) a (omega arith) (only_has a ms)

kernel_has : (a : Arrays) (x : Result (List Made) Fault) → HasOnce (size_in a) (and_then x (only_root a))
kernel_has a (Ok ms) = only_has a ms
kernel_has a (Err e) = tt

callee_has : (a : Arrays) (given : List Given) (c : Result Callee Fault) → HasOnce (size_in a) (and_then c (value_by a given))
callee_has a given (Err e) = tt
callee_has a given (Ok (builtin b)) = builtin_has a given (outcome b (all_seen a given))
callee_has a given (Ok (kernel k)) = kernel_has a (kernel_outputs k 1 (all_seen a given))

pub call_has : (names : Names) (f : List ℕ) (a : Arrays) (given : List Given) → HasOnce (size_in a) (call_value names f a given)
call_has names f a given = callee_has a given (callee_of names f)

pub builtin_came : (b : Builtin) (a : Arrays) (given : List Given) → size_in a ≤ size_in (came (builtin_value b a given) a)
builtin_came b a given = came_has (size_in a) (builtin_value b a given) a (omega arith) (builtin_has a given (outcome b (all_seen a given)))

pub call_came : (names : Names) (f : List ℕ) (a : Arrays) (given : List Given) → size_in a ≤ size_in (came (call_value names f a given) a)
call_came names f a given = came_has (size_in a) (call_value names f a given) a (omega arith) (call_has names f a given)

-- ---- expressions and arguments

-- The arrays that parts left have those of before, and those of the value have these.
abbrev pub Gains : {T : Type 0} → (a left : Arrays) → Result (Arrays × T) Fault → Type 0
Gains a left x = (size_in a ≤ size_in left) × HasOnce (size_in left) x

known_gains : (a : Arrays) (o : Option ℕ) → Gains a a (known a o)
known_gains a None = (omega arith, tt)
known_gains a (Some v) = (omega arith, omega arith)

root_gains : (a : Arrays) (m : Made) → Gains a a (new_root a m)
root_gains a m = (omega arith, one_more a (root m.ty m.dims m.elems))

unary_gains : (a left : Arrays) (x : Valued) (next : Arrays × ℕ → Made) → Gains a left x → Gains a (came x left) (and_then x (λ v. new_root v.0 (next v)))
unary_gains a left (Ok v) next h = (let less : size_in left ≤ size_in v.0 = h.1 in let more : size_in a ≤ size_in left = h.0 in (omega (arith, less, more), one_more v.0 (root (next v).ty (next v).dims (next v).elems)))
unary_gains a left (Err e) next h = (h.0, tt)

made_gains : (a : Arrays) (x : Result Made Fault) → HasOnce (size_in a) (and_then x (new_root a))
made_gains a (Ok m) = one_more a (root m.ty m.dims m.elems)
made_gains a (Err e) = tt

second_gains : (a left : Arrays) (x : Valued) (next : Arrays × ℕ → Result Made Fault) → Gains a left x → Gains a (came x left) (and_then x (λ u. and_then (next u) (new_root u.0)))
second_gains a left (Ok u) next h = (let less : size_in left ≤ size_in u.0 = h.1 in let more : size_in a ≤ size_in left = h.0 in (omega (arith, less, more), made_gains u.0 (next u)))
second_gains a left (Err e) next h = (h.0, tt)

binary_gains : (a left : Arrays) (x : Valued) (second : Arrays → Valued) (rest : Arrays → Arrays) (next : Arrays × ℕ → Arrays × ℕ → Result Made Fault) → Gains a left x → ((b : Arrays) → Gains b (rest b) (second b))
    → Gains a (left_then x left (λ b. came (second b) (rest b))) (and_then x (λ v. and_then (second v.0) (λ u. and_then (next v u) (new_root u.0))))
binary_gains a left (Ok v) second rest next h both = (
    let less : size_in left ≤ size_in v.0 = h.1 in
    let more : size_in a ≤ size_in left = h.0 in
    let inner = second_gains v.0 (rest v.0) (second v.0) (next v) (both v.0) in
    let on : size_in v.0 ≤ size_in (came (second v.0) (rest v.0)) = inner.0 in
    (omega (arith, less, more, on), inner.1)
    )
binary_gains a left (Err e) second rest next h both = (h.0, tt)

call_gains : (names : Names) (f : List ℕ) (a left : Arrays) (x : Taken) → Gains a left x → Gains a (came x left) (and_then x (λ t. call_value names f t.0 t.1))
call_gains names f a left (Ok t) h = (let less : size_in left ≤ size_in t.0 = h.1 in let more : size_in a ≤ size_in left = h.0 in (omega (arith, less, more), call_has names f t.0 t.1))
call_gains names f a left (Err e) h = (h.0, tt)

-- one argument more
last_gains : (a left : Arrays) (x : Valued) (given : List Given) → Gains a left x → Gains a (came x left) (and_then x (λ v. Ok (v.0, given ++ array v.1 ∷ [])))
last_gains a left (Ok v) given h = (let less : size_in left ≤ size_in v.0 = h.1 in let more : size_in a ≤ size_in left = h.0 in (omega (arith, less, more), omega arith))
last_gains a left (Err e) given h = (h.0, tt)

value_gains : (a left : Arrays) (x : Taken) (second : Arrays → Valued) (rest : Arrays → Arrays) → Gains a left x → ((b : Arrays) → Gains b (rest b) (second b))
    → Gains a (left_then x left (λ b. came (second b) (rest b))) (and_then x (λ t. and_then (second t.0) (λ v. Ok (v.0, t.1 ++ array v.1 ∷ []))))
value_gains a left (Ok t) second rest h both = (
    let less : size_in left ≤ size_in t.0 = h.1 in
    let more : size_in a ≤ size_in left = h.0 in
    let inner = last_gains t.0 (rest t.0) (second t.0) t.1 (both t.0) in
    let on : size_in t.0 ≤ size_in (came (second t.0) (rest t.0)) = inner.0 in
    (omega (arith, less, more, on), inner.1)
    )
value_gains a left (Err e) second rest h both = (h.0, tt)

plain_gains : (a left : Arrays) (x : Taken) (g : Given) → Gains a left x → Gains a left (and_then x (λ t. Ok (t.0, t.1 ++ g ∷ [])))
plain_gains a left (Ok t) g h = h
plain_gains a left (Err e) g h = (h.0, tt)

mutual
  pub gains : (names : Names) (a : Arrays) (e : Tree) → Gains a (parts_left names a e) (value_of names a e)
  gains names a (number n) = root_gains a (number_made n)
  gains names a (named x) = known_gains a (number_of names x)
  gains names a (literal ty ds es) = root_gains a (record { ty = ty; dims = ds; elems = es })
  gains names a (unary op e) = unary_gains a (parts_left names a e) (value_of names a e) (λ v. unary_each op (array_in v.0 v.1)) (gains names a e)
  gains names a (binary op e f) =
      binary_gains a (parts_left names a e) (value_of names a e) (λ b. value_of names b f) (λ b. parts_left names b f) (λ v u. binary_each op (array_in u.0 v.1) (array_in u.0 u.1)) (gains names a e) (λ b. gains names b f)
  gains names a (call f args) = call_gains names f a (args_left names a args) (taken names a args) (args_gain names a args)

  pub args_gain : (names : Names) (a : Arrays) (args : Args) → Gains a (args_left names a args) (taken names a args)
  args_gain names a none = (omega arith, omega arith)
  args_gain names a (value front e) = value_gains a (args_left names a front) (taken names a front) (λ b. value_of names b e) (λ b. parts_left names b e) (args_gain names a front) (λ b. gains names b e)
  args_gain names a (text front t) = plain_gains a (args_left names a front) (taken names a front) (string t) (args_gain names a front)
  args_gain names a (of_type front ty) = plain_gains a (args_left names a front) (taken names a front) (type_word ty) (args_gain names a front)

-- ---- so parts are within their whole

gained : {T : Type 0} (a left : Arrays) (x : Result (Arrays × T) Fault) → Gains a left x → size_in left ≤ size_in (came x left)
gained a left x h = came_has (size_in left) x left (omega arith) h.1

pub parts_within : (names : Names) (a : Arrays) (e : Tree) → size_in (parts_left names a e) ≤ size_in (evaluated names a e)
parts_within names a e = gained a (parts_left names a e) (value_of names a e) (gains names a e)

pub starts_within : (names : Names) (a : Arrays) (e : Tree) → size_in a ≤ size_in (evaluated names a e)
starts_within names a e = (let less : size_in a ≤ size_in (parts_left names a e) = (gains names a e).0 in omega (arith, less, parts_within names a e))

pub args_within : (names : Names) (a : Arrays) (args : Args) → size_in (args_left names a args) ≤ size_in (args_evaluated names a args)
args_within names a args = gained a (args_left names a args) (taken names a args) (args_gain names a args)

pub args_start : (names : Names) (a : Arrays) (args : Args) → size_in a ≤ size_in (args_evaluated names a args)
args_start names a args = (let less : size_in a ≤ size_in (args_left names a args) = (args_gain names a args).0 in omega (arith, less, args_within names a args))

-- an operand
pub unary_part : (names : Names) (a : Arrays) (op : UnaryOp) (e : Tree) → size_in (evaluated names a e) ≤ size_in (evaluated names a (unary op e))
unary_part names a op e = parts_within names a (unary op e)

then_has : {T : Type 0} (x : Result (Arrays × T) Fault) (left : Arrays) (next : Arrays → Arrays) → ((b : Arrays) → size_in b ≤ size_in (next b)) → size_in (came x left) ≤ size_in (left_then x left next)
then_has (Ok v) left next more = more v.0
then_has (Err e) left next more = omega arith

pub left_part : (names : Names) (a : Arrays) (op : BinaryOp) (e f : Tree) → size_in (evaluated names a e) ≤ size_in (evaluated names a (binary op e f))
left_part names a op e f =
    let first : size_in (evaluated names a e) ≤ size_in (parts_left names a (binary op e f)) = then_has (value_of names a e) (parts_left names a e) (λ b. evaluated names b f) (λ b. starts_within names b f) in
    omega (arith, first, parts_within names a (binary op e f))

pub right_part : (names mid : Names) (a b : Arrays) (op : BinaryOp) (e f : Tree) (v : ℕ) → value_of names a e ≡ Ok (b, v) → mid ≡ names → size_in (evaluated mid b f) ≤ size_in (evaluated names a (binary op e f))
right_part names mid a b op e f v first same =
    let is : parts_left names a (binary op e f) ≡ evaluated mid b f = ap (λ (z : Valued). left_then z (parts_left names a e) (λ d. evaluated names d f)) first ∙ ap (λ (n : Names). evaluated n b f) (sym same) in
    let size : size_in (parts_left names a (binary op e f)) ≡ size_in (evaluated mid b f) = ap size_in is in
    omega (arith, size, parts_within names a (binary op e f))

-- the arguments of a call
pub call_part : (names : Names) (a : Arrays) (f : List ℕ) (args : Args) → size_in (args_evaluated names a args) ≤ size_in (evaluated names a (call f args))
call_part names a f args = parts_within names a (call f args)

-- an argument behind others
pub value_part : (names : Names) (a b : Arrays) (front : Args) (given : List Given) (e : Tree) → taken names a front ≡ Ok (b, given) → size_in (evaluated names b e) ≤ size_in (args_evaluated names a (value front e))
value_part names a b front given e is =
    let size : size_in (args_left names a (value front e)) ≡ size_in (evaluated names b e) = ap (λ (t : Taken). size_in (left_then t (args_left names a front) (λ d. evaluated names d e))) is in
    omega (arith, size, args_within names a (value front e))

-- and those before it
plain_same : (a left : Arrays) (x : Taken) (g : Given) → size_in (came x left) ≤ size_in (came (and_then x (λ t. Ok (t.0, t.1 ++ g ∷ []))) left)
plain_same a left (Ok t) g = omega arith
plain_same a left (Err e) g = omega arith

front_value : (names : Names) (a : Arrays) (front : Args) (e : Tree) → size_in (args_evaluated names a front) ≤ size_in (args_evaluated names a (value front e))
front_value names a front e =
    let first : size_in (args_evaluated names a front) ≤ size_in (args_left names a (value front e)) = then_has (taken names a front) (args_left names a front) (λ b. evaluated names b e) (λ b. starts_within names b e) in
    omega (arith, first, args_within names a (value front e))

pub front_part : (names : Names) (a : Arrays) (x : Arg) (front : Args) → size_in (args_evaluated names a front) ≤ size_in (args_evaluated names a (argument_of x front))
front_part names a (Value e) front = front_value names a front (tree_of e)
front_part names a (Str t) front = plain_same a (args_left names a front) (taken names a front) (string _)
front_part names a (OfType ty) front = plain_same a (args_left names a front) (taken names a front) (type_word ty)

pub first_part : (names : Names) (a : Arrays) (rest : List Arg) (front : Args) → size_in (args_evaluated names a front) ≤ size_in (args_evaluated names a (args_of rest front))
first_part names a [] front = omega arith
first_part names a (x ∷ rest) front = (let one = front_part names a x front in let all = first_part names a rest (argument_of x front) in omega (arith, one, all))

-- the arguments up to one of them
pub up_to_part : (names : Names) (a : Arrays) (args : List Arg) (front : Args) (i : ℕ) (x : Arg) → i < length args → x ≡ slice_index_or args i x
    → size_in (args_evaluated names a (argument_of x (args_of (take i args) front))) ≤ size_in (args_evaluated names a (args_of args front))
up_to_part names a args front i x lt at =
    let is : args_of args front ≡ args_of (drop (i + 1) args) (args_of (take (i + 1) args) front) = ap (λ (xs : List Arg). args_of xs front) (sym (take-append-drop (i + 1) args)) ∙ args_of_append (take (i + 1) args) (drop (i + 1) args) front in
    let more : args_of (take (i + 1) args) front ≡ argument_of x (args_of (take i args) front) = args_more args front i x lt at in
    let all : size_in (args_evaluated names a (args_of args front)) ≡ size_in (args_evaluated names a (args_of (drop (i + 1) args) (argument_of x (args_of (take i args) front)))) = ap (λ (ys : Args). size_in (args_evaluated names a ys)) (is ∙ ap (args_of (drop (i + 1) args)) more) in
    omega (arith, all, first_part names a (drop (i + 1) args) (argument_of x (args_of (take i args) front)))

-- the first of several arguments
behind_part : (names : Names) (a : Arrays) (e : Tree) (args : Args) → size_in (evaluated names a e) ≤ size_in (args_evaluated names a (behind e args))
behind_part names a e none = args_within names a (value none e)
behind_part names a e (value front f) = (let rest = behind_part names a e front in omega (arith, rest, front_value names a (behind e front) f))
behind_part names a e (text front t) = (let rest = behind_part names a e front in omega (arith, rest, plain_same a (args_left names a (behind e front)) (taken names a (behind e front)) (string t)))
behind_part names a e (of_type front ty) = (let rest = behind_part names a e front in omega (arith, rest, plain_same a (args_left names a (behind e front)) (taken names a (behind e front)) (type_word ty)))

-- one view of a target, and all
pub called_part : (names : Names) (a : Arrays) (e : Tree) (v : View) → size_in (evaluated names a e) ≤ size_in (evaluated names a (called e v))
called_part names a e v = (let first = behind_part names a e v.1 in omega (arith, first, call_part names a v.0 (behind e v.1)))

views_part : (names : Names) (a : Arrays) (views : List View) (e : Tree) → size_in (evaluated names a e) ≤ size_in (evaluated names a (fold called e views))
views_part names a [] e = omega arith
views_part names a (v ∷ views) e = (let one = called_part names a e v in let all = views_part names a views (called e v) in omega (arith, one, all))

-- the views up to one of them
pub target_part : (names : Names) (a : Arrays) (x : List ℕ) (views : List ViewCall) (i : ℕ) (v : ViewCall) → i < length views → v ≡ slice_index_or views i v
    → size_in (evaluated names a (called (target x (map view_of (take i views))) (view_of v))) ≤ size_in (evaluated names a (target x (map view_of views)))
target_part names a x views i v lt at =
    let is : target x (map view_of views) ≡ fold called (target x (map view_of (take (i + 1) views))) (map view_of (drop (i + 1) views)) =
    ap (λ vs. target x (map view_of vs)) (sym (take-append-drop (i + 1) views)) ∙ ap (target x) (map-append view_of (take (i + 1) views) (drop (i + 1) views)) ∙ fold-append called (named x) (map view_of (take (i + 1) views)) (map view_of (drop (i + 1) views)) in
    let more = target_more x views i v lt at in
    let all : size_in (evaluated names a (target x (map view_of views))) ≡ size_in (evaluated names a (fold called (called (target x (map view_of (take i views))) (view_of v)) (map view_of (drop (i + 1) views)))) = ap (λ (t : Tree). size_in (evaluated names a t)) (is ∙ ap (λ (t : Tree). fold called t (map view_of (drop (i + 1) views))) more) in
    omega (arith, all, views_part names a (map view_of (drop (i + 1) views)) (called (target x (map view_of (take i views))) (view_of v)))
