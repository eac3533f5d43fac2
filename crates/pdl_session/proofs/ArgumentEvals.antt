-- Arguments are evaluated one after another.
use Rattle.std.proofs.Common.{◌≡◌, ℕ, zero, suc, ◌+◌, ◌<◌, ◌≤◌, List, [], ◌∷◌, ◌++◌, length, take, drop, Option, Some, Ok, Err, refl, sym, ap, ap₂, subst, ◌∙◌, arith, Vec, Global}
use Rattle.std.specs.Prelude.{Box, slice_index_or}
use Rattle.std.proofs.lemmas.List.{take_more, take-append-drop}
use Rattle.pdl_world.specs.World.{World}
use Rattle.pdl_world.specs.Sound.{IsLive}
use Rattle.pdl_buf.specs.declared.made.Made.{Made}
use Rattle.pdl_elem.specs.declared.UnaryOp.{UnaryOp}
use Rattle.pdl_elem.specs.declared.BinaryOp.{BinaryOp}
use Rattle.pdl_syntax.specs.declared.tree.Arg.{Arg, Value, Str, OfType}
use Rattle.pdl_syntax.specs.declared.tree.Expr.{Expr, Named, List as Listed, Unary, Binary, Call}
use Rattle.pdl_syntax.specs.Tree.{Tree, Args, number, named, literal, unary, binary, call, none, value, text, of_type}
use Rattle.pdl_syntax.specs.TreeOf.{tree_of, args_of, argument_of}
use Rattle.pdl_syntax.specs.WellMade.{AreArgArrays}
use Rattle.pdl_machine.specs.declared.fault.Fault.{Fault}
use Rattle.pdl_machine.specs.Names.{Names, number_of}
use Rattle.pdl_ops.specs.Elementwise.{unary_each}
use Rattle.pdl_machine.specs.Operators.{binary_each}
use Rattle.pdl_machine.specs.Arrays.{Arrays, array_in}
use Rattle.pdl_machine.specs.Then.{and_then}
use Rattle.pdl_machine.specs.Outcome.{Given as Argument, Valued, new_root}
use Rattle.pdl_machine.specs.Calls.{call_value}
use Rattle.pdl_machine.specs.Value.{Taken, known, value_of, taken}
use Rattle.pdl_scope.specs.declared.fault.ScopeFault.{ScopeFault}
use Rattle.pdl_scope.specs.declared.fault.ScopeFault.TheVariants.{Script, NoMemory}
use Rattle.pdl_scope.specs.Answers.{IsFault}
use Rattle.pdl_session.specs.declared.given.Given.{Given}
use Rattle.pdl_session.specs.declared.given.Given.TheVariants.{Array, Text, OfType as OfType'}
use Rattle.pdl_session.specs.Arguments.{argument, arguments, IsGivenLive, AreGivenLive}
use Rattle.pdl_session.proofs.ScopeFacts.{first_fault}

abbrev pub with_given : Arrays → List Argument → Taken
with_given a given = Ok (a, given)

-- after a fault the rest isn't looked at
err_behind : (names : Names) (w : Arrays) (a : Arg) (front : Args) (f : Fault) → taken names w front ≡ Err f → taken names w (argument_of a front) ≡ Err f
err_behind names w (Value e) front f before = rw before refl
err_behind names w (Str t) front f before = rw before refl
err_behind names w (OfType ty) front f before = rw before refl

fault_stays : (names : Names) (w : Arrays) (rest : List Arg) (front : Args) (f : Fault) → taken names w front ≡ Err f → taken names w (args_of rest front) ≡ Err f
fault_stays names w [] front f before = before
fault_stays names w (a ∷ rest) front f before = fault_stays names w rest (argument_of a front) f (err_behind names w a front f before)

pub args_of_append : (xs ys : List Arg) (front : Args) → args_of (xs ++ ys) front ≡ args_of ys (args_of xs front)
args_of_append [] ys front = refl
args_of_append (x ∷ xs) ys front = args_of_append xs ys (argument_of x front)

-- the arguments up to the next one
pub args_more : (args : List Arg) (front : Args) (i : ℕ) (a : Arg) → i < length args → a ≡ slice_index_or args i a → args_of (take (i + 1) args) front ≡ argument_of a (args_of (take i args) front)
args_more args front i a lt at =
    ap (λ xs. args_of xs front) (take_more args i a lt) ∙ args_of_append (take i args) (slice_index_or args i a ∷ []) front ∙ ap (λ x. argument_of x (args_of (take i args) front)) (sym at)

-- the fault of one argument is that of all
pub fault_at : (names : Names) (w : Arrays) (args : List Arg) (front : Args) (i : ℕ) (a : Arg) (e : ScopeFault) → i < length args → a ≡ slice_index_or args i a
    → IsFault (taken names w (argument_of a (args_of (take i args) front))) e → IsFault (taken names w (args_of args front)) e
fault_at names w args front i a NoMemory lt at h = tt
fault_at names w args front i a (Script f) lt at h =
    let so_far : taken names w (args_of (take (i + 1) args) front) ≡ Err f = ap (taken names w) (args_more args front i a lt at) ∙ h in
    ap (taken names w) (ap (λ xs. args_of xs front) (sym (take-append-drop (i + 1) args)) ∙ args_of_append (take (i + 1) args) (drop (i + 1) args) front)
    ∙ fault_stays names w (drop (i + 1) args) (args_of (take (i + 1) args) front) f so_far

-- the value of a call, of its arguments, whose call is another one of the same ones by the same names
pub call_is : (names mid : Names) (a b : Arrays) (f : List ℕ) (args : Args) (given same : List Argument) → taken names a args ≡ Ok (b, given) → same ≡ given → mid ≡ names
    → value_of names a (call f args) ≡ call_value mid f b same
call_is names mid a b f args given same h e k = ap called h ∙ ap (call_value names f b) (sym e) ∙ ap (λ ns. call_value ns f b same) (sym k)
  where
    called : Taken → Valued
    called t = and_then t (λ x. call_value names f x.0 x.1)

-- the tree of a call, by the law of such trees
pub tree_is : (e : Expr) (f : List ℕ) (args : Vec Arg Global) (xs : List Arg) → tree_of (Call f args) ≡ call f (args_of args.items none) → e ≡ Call f args → xs ≡ args.items → tree_of e ≡ call f (args_of xs none)
tree_is e f args xs law is items = ap tree_of is ∙ law ∙ ap (λ ys. call f (args_of ys none)) (sym items)

-- the tree of an operator, by those of its operands
pub unary_tree : (e x : Expr) (op : UnaryOp) (b : Box Expr Global) → e ≡ Unary op b → x ≡ b.value → tree_of e ≡ unary op (tree_of x)
unary_tree e x op b is at = ap tree_of is ∙ ap (λ y. unary op (tree_of y)) (sym at)

pub binary_tree : (e x y : Expr) (op : BinaryOp) (l r : Box Expr Global) → e ≡ Binary op l r → x ≡ l.value → y ≡ r.value → tree_of e ≡ binary op (tree_of x) (tree_of y)
binary_tree e x y op l r is left right = ap tree_of is ∙ ap₂ (λ u v. binary op (tree_of u) (tree_of v)) (sym left) (sym right)

-- what comes after an operand
abbrev after_operand : UnaryOp → Arrays × ℕ → Valued
after_operand op v = new_root v.0 (unary_each op (array_in v.0 v.1))

abbrev after_right : BinaryOp → ℕ → Arrays × ℕ → Valued
after_right op v u = and_then (binary_each op (array_in u.0 v) (array_in u.0 u.1)) (new_root u.0)

abbrev after_left : Names → BinaryOp → Tree → Arrays × ℕ → Valued
after_left names op t v = and_then (value_of names v.0 t) (after_right op v.1)

-- the value of a name that is bound, and of a list
pub named_is : (names : Names) (a : Arrays) (e : Expr) (x : List ℕ) (v : ℕ) (bound : Option ℕ) → e ≡ Named x → bound ≡ number_of names x → bound ≡ Some v → value_of names a (tree_of e) ≡ Ok (a, v)
named_is names a e x v bound is looked found = ap (λ y. value_of names a (tree_of y)) is ∙ ap (known a) (sym looked ∙ found)

pub list_is : (names : Names) (a : Arrays) (e : Expr) (m : Made) (b : Box Made Global) → e ≡ Listed b → m ≡ b.value → value_of names a (tree_of e) ≡ new_root a m
list_is names a e m b is at = ap (λ y. value_of names a (tree_of y)) is ∙ ap (new_root a) (sym at)

-- the value of an operator, by those of its operands
pub unary_is : (names : Names) (a b : Arrays) (op : UnaryOp) (t s : Tree) (v : ℕ) → t ≡ unary op s → value_of names a s ≡ Ok (b, v) → value_of names a t ≡ after_operand op (b, v)
unary_is names a b op t s v is h = ap (value_of names a) is ∙ ap (λ x. and_then x (after_operand op)) h

pub binary_is : (names mid : Names) (a b d : Arrays) (op : BinaryOp) (t l r : Tree) (v u : ℕ) → t ≡ binary op l r → value_of names a l ≡ Ok (b, v) → mid ≡ names → value_of mid b r ≡ Ok (d, u)
    → value_of names a t ≡ after_right op v (d, u)
binary_is names mid a b d op t l r v u is first same second =
    ap (value_of names a) is ∙ ap (λ x. and_then x (after_left names op r)) first ∙ ap (λ x. and_then x (after_right op v)) (ap (λ n. value_of n b r) (sym same) ∙ second)

-- the fault of an operand is the operator's
faults_as : (names : Names) (a : Arrays) (t s : Tree) (e : ScopeFault) → t ≡ s → IsFault (value_of names a s) e → IsFault (value_of names a t) e
faults_as names a t s e is h = subst (λ y. IsFault (value_of names a y) e) (sym is) h

pub unary_fault : (names : Names) (a : Arrays) (op : UnaryOp) (t s : Tree) (e : ScopeFault) → t ≡ unary op s → IsFault (value_of names a s) e → IsFault (value_of names a t) e
unary_fault names a op t s e is h = faults_as names a t (unary op s) e is (first_fault (value_of names a s) (after_operand op) e h)

pub left_fault : (names : Names) (a : Arrays) (op : BinaryOp) (t l r : Tree) (e : ScopeFault) → t ≡ binary op l r → IsFault (value_of names a l) e → IsFault (value_of names a t) e
left_fault names a op t l r e is h = faults_as names a t (binary op l r) e is (first_fault (value_of names a l) (after_left names op r) e h)

pub right_fault : (names mid : Names) (a b : Arrays) (op : BinaryOp) (t l r : Tree) (v : ℕ) (e : ScopeFault) → t ≡ binary op l r → value_of names a l ≡ Ok (b, v) → mid ≡ names → IsFault (value_of mid b r) e
    → IsFault (value_of names a t) e
right_fault names mid a b op t l r v e is first same h =
    faults_as names a t (binary op l r) e is
    (subst (λ x. IsFault x e) (sym (ap (λ x. and_then x (after_left names op r)) first))
    (first_fault (value_of names b r) (after_right op v) e (subst (λ (n : Names). IsFault (value_of n b r) e) same h)))

-- literals of one argument
front_arrays : (rest : List Arg) (front : Args) → AreArgArrays (args_of rest front) → AreArgArrays front
front_arrays [] front h = h
front_arrays (Value e ∷ rest) front h = (front_arrays rest (argument_of (Value e) front) h).0
front_arrays (Str t ∷ rest) front h = front_arrays rest (argument_of (Str t) front) h
front_arrays (OfType ty ∷ rest) front h = front_arrays rest (argument_of (OfType ty) front) h

alone : (a : Arg) (front : Args) → AreArgArrays (argument_of a front) → AreArgArrays (argument_of a none)
alone (Value e) front h = (tt, h.1)
alone (Str t) front h = tt
alone (OfType ty) front h = tt

pub arrays_at : (args : List Arg) (front : Args) (i : ℕ) (a : Arg) → i < length args → AreArgArrays (args_of args front) → AreArgArrays (argument_of (slice_index_or args i a) none)
arrays_at [] front i a lt h = absurd (omega arith)
arrays_at (x ∷ args) front zero a lt h = alone x front (front_arrays args (argument_of x front) h)
arrays_at (x ∷ args) front (suc i) a lt h = arrays_at args (argument_of x front) i a (omega arith) h

pub arguments_snoc : (given : List Given) (g : Given) → arguments (given ++ g ∷ []) ≡ arguments given ++ argument g ∷ []
arguments_snoc [] g = refl
arguments_snoc (x ∷ given) g = ap (λ y. argument x ∷ y) (arguments_snoc given g)

pub live_snoc : (w : World) (given : List Given) (g : Given) → AreGivenLive w given → IsGivenLive w g → AreGivenLive w (given ++ g ∷ [])
live_snoc w [] g live here = (here, tt)
live_snoc w (x ∷ given) g live here = (live.0, live_snoc w given g live.1 here)

-- arguments that could be looked at still can be
pub given_still : (w u : World) → ((v : ℕ) → IsLive w v → IsLive u v) → (given : List Given) → AreGivenLive w given → AreGivenLive u given
given_still w u still [] live = tt
given_still w u still (Array v ∷ given) live = (still v live.0, given_still w u still given live.1)
given_still w u still (Text t ∷ given) live = (tt, given_still w u still given live.1)
given_still w u still (OfType' ty ∷ given) live = (tt, given_still w u still given live.1)

abbrev mutual
  -- how much there is to evaluate
  pub weight : Tree → ℕ
  weight (number n) = 1
  weight (named x) = 1
  weight (literal ty ds es) = 1
  weight (unary op a) = weight a + 1
  weight (binary op a b) = weight a + weight b + 1
  weight (call f args) = weights args + 2

  pub weights : Args → ℕ
  weights none = 0
  weights (value front a) = weights front + weight a + 1
  weights (text front t) = weights front
  weights (of_type front ty) = weights front

weights_one : (a : Arg) (front : Args) → weights (argument_of a front) ≡ weights front + weights (argument_of a none)
weights_one (Value e) front = omega arith
weights_one (Str t) front = omega arith
weights_one (OfType ty) front = omega arith

weights_rest : (rest : List Arg) (front : Args) → weights front ≤ weights (args_of rest front)
weights_rest [] front = omega arith
weights_rest (a ∷ rest) front = omega (arith, weights_one a front, weights_rest rest (argument_of a front))

pub weights_at : (args : List Arg) (front : Args) (i : ℕ) (a : Arg) → i < length args → weights (argument_of (slice_index_or args i a) none) ≤ weights (args_of args front)
weights_at [] front i a lt = absurd (omega arith)
weights_at (x ∷ args) front zero a lt = omega (arith, weights_one x front, weights_rest args (argument_of x front))
weights_at (x ∷ args) front (suc i) a lt = weights_at args (argument_of x front) i a (omega arith)
