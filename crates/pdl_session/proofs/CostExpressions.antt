-- What expressions move, from what their parts move.
use Rattle.std.proofs.Common.{◌≡◌, ℕ, ℤ, ◌+◌, ◌≤◌, ◌<◌, List, [], ◌∷◌, ◌++◌, drop, take, length, map, Option, Some, None, Result, Ok, Err, refl, sym, ap, subst, ◌∙◌, arith}
use Rattle.std.specs.Option.{option_map_or}
use Rattle.std.specs.Prelude.{Bool, true, false, if◌then◌else◌, Box, nat_eq, IfSome, slice_index_or}
use Rattle.std.specs.Result.{IsErrAnd}
use Rattle.pdl_buf.specs.declared.made.Made.{Made}
use Rattle.pdl_numbers.specs.Typed.{count_moved}
use Rattle.pdl_world.specs.Sound.{IsLive}
use Rattle.pdl_world.specs.World.{World}
use Rattle.pdl_engine.specs.Reading.{read_steps}
use Rattle.pdl_engine.specs.State.{State as Engine, is_fresh, ready_steps}
use Rattle.std.specs.Global.{Global}
use Rattle.pdl_syntax.specs.declared.tree.Arg.{Arg, Value, Str, OfType}
use Rattle.pdl_syntax.specs.declared.tree.Expr.{Expr, Number, Named as NamedExpr, List as Listed}
use Rattle.pdl_syntax.specs.Tree.{Tree, Args, number, named, literal, unary, binary, call, none, value, text, of_type}
use Rattle.pdl_syntax.specs.TreeOf.{tree_of, args_of, argument_of}
use Rattle.pdl_machine.specs.Arrays.{Arrays}
use Rattle.std.specs.Cmp.Lexicographic.{pointwise}
use Rattle.pdl_machine.specs.Names.{Named, Names, found, number_of}
use Rattle.pdl_machine.specs.Watches.{attached}
use Rattle.pdl_machine.specs.Outcome.{new_root}
use Rattle.pdl_machine.specs.State.{AreLive, IsWhole}
use Rattle.pdl_machine.specs.Then.{and_then}
use Rattle.pdl_machine.specs.declared.fault.Fault.{Fault}
use Rattle.pdl_machine.specs.Calls.{outcome}
use Rattle.pdl_machine.specs.Fills.{after_type, dims_for, numbers_in, type_given}
use Rattle.pdl_ops.specs.Fills.{filled}
use Rattle.pdl_machine.specs.Outcome.{Seen, array, made, string, type_word, view_placed, viewed}
use Rattle.pdl_machine.specs.Reductions.{made_or_fault, of_one, of_two}
use Rattle.pdl_machine.specs.declared.builtin.Builtin.{Builtin}
use Rattle.pdl_machine.specs.declared.builtin.Builtin.TheVariants.{Filled, Told, Dim, Slice, Nice, Arranged, Index, Where, Range, Reduced, Whole, Paired}
use Rattle.pdl_reduce.specs.Pairings.{paired}
use Rattle.pdl_reduce.specs.Reductions.{reduced, whole_reduced}
use Rattle.pdl_reduce.specs.Refusals.{ReduceRefusal}
use Rattle.pdl_world.specs.declared.Trans.{Trans}
use Rattle.pdl_elem.specs.declared.BinaryOp.{BinaryOp}
use Rattle.pdl_machine.specs.Outcome.{Valued}
use Rattle.pdl_machine.specs.Value.{number_made, value_of}
use Rattle.pdl_session.specs.Arguments.{AreGivenLive, arguments}
use Rattle.pdl_session.specs.Came.{came, evaluated, left_then, parts_left}
use Rattle.pdl_scope.specs.Answers.{Evaluates}
use Rattle.pdl_scope.specs.Costs.{CostsNoMore, IsInOrder, MovesUpTo, NewRootsAreReady, NewRootsMoveTheirSize, NewViewsAddTheirSize, NewViewsCostTheirSize, make_steps, total_size}
use Rattle.pdl_scope.specs.Scope.{Scope, engine_of, machine}
use Rattle.pdl_scope.specs.declared.fault.ScopeFault.{ScopeFault}
use Rattle.pdl_session.specs.Costs.{EvaluatesWithin, PaysWithin, all_steps, argued_steps, given_steps, named_steps, read_all, read_by, reads_first, ready_all}
use Rattle.std.proofs.lemmas.List.{take-append-drop}
use Rattle.pdl_session.proofs.ArgumentEvals.{args_more, args_of_append, list_is}
use Rattle.pdl_session.proofs.CameGained.{size_in, starts_within}
use Rattle.pdl_session.proofs.CostCalls.{less_all, steps_both}
use Rattle.pdl_session.specs.declared.given.Given.{Given}
use Rattle.pdl_session.specs.declared.given.Given.TheVariants.{Array, Text, OfType as OfType'}

-- to read takes no more than to make ready
pub read_le_ready : (e : Engine) (v : ℕ) → read_steps e v ≤ ready_steps e v
read_le_ready e v = by_fresh (is_fresh e v)
  where
    by_fresh : (b : Bool) → (if b then 0 else ready_steps e v) ≤ ready_steps e v
    by_fresh true = omega arith
    by_fresh false = omega arith

pub read_all_le : (s : Scope) (given : List Given) → all_steps (read_steps (engine_of s)) given ≤ ready_all s given
read_all_le s [] = omega arith
read_all_le s (Array v ∷ given) = (let a = read_le_ready (engine_of s) v in let b = read_all_le s given in omega (arith, a, b))
read_all_le s (Text t ∷ given) = (let b = read_all_le s given in omega (arith, b))
read_all_le s (OfType' ty ∷ given) = (let b = read_all_le s given in omega (arith, b))

-- the arrays of names take no more
by_name : (e t : Engine) (o : Option ℕ) → CostsNoMore e t → IfSome o (IsLive e.world) → option_map_or (ready_steps t) o 0 ≤ option_map_or (ready_steps e) o 0
by_name e t None costs live = omega arith
by_name e t (Some v) costs live = costs.readies v live

-- each name's array is there
abbrev pub NamesAreLive : Scope → Type 0
NamesAreLive s = (x : List ℕ) → IfSome (number_of s.names x) (IsLive s.arrays.world)

mutual
  pub names_less : (s t : Scope) → t.names ≡ s.names → NamesAreLive s → CostsNoMore (engine_of s) (engine_of t) → (e : Tree) → named_steps t e ≤ named_steps s e
  names_less s t same live costs (number n) = omega arith
  names_less s t same live costs (named x) =
      let P : Names → Type 0 = λ ns. option_map_or (ready_steps (engine_of t)) (number_of ns x) 0 ≤ option_map_or (ready_steps (engine_of s)) (number_of s.names x) 0 in
      subst P (sym same) (by_name (engine_of s) (engine_of t) (number_of s.names x) costs (live x))
  names_less s t same live costs (literal ty ds es) = omega arith
  names_less s t same live costs (unary op a) = names_less s t same live costs a
  names_less s t same live costs (binary op a b) = (let x = names_less s t same live costs a in let y = names_less s t same live costs b in omega (arith, x, y))
  names_less s t same live costs (call f args) = args_less s t same live costs args

  pub args_less : (s t : Scope) → t.names ≡ s.names → NamesAreLive s → CostsNoMore (engine_of s) (engine_of t) → (args : Args) → argued_steps t args ≤ argued_steps s args
  args_less s t same live costs none = omega arith
  args_less s t same live costs (value front a) = (let x = args_less s t same live costs front in let y = names_less s t same live costs a in omega (arith, x, y))
  args_less s t same live costs (text front u) = args_less s t same live costs front
  args_less s t same live costs (of_type front ty) = args_less s t same live costs front

-- one argument more
pub argued_one : (s : Scope) (a : Arg) (front : Args) → argued_steps s (argument_of a front) ≡ argued_steps s front + argued_steps s (argument_of a none)
argued_one s (Value e) front = omega arith
argued_one s (Str t) front = omega arith
argued_one s (OfType ty) front = omega arith

-- the first ones take no more than all
pub argued_first : (s : Scope) (rest : List Arg) (front : Args) → argued_steps s front ≤ argued_steps s (args_of rest front)
argued_first s [] front = omega arith
argued_first s (a ∷ rest) front =
    let one = argued_one s a front in
    let all = argued_first s rest (argument_of a front) in
    omega (arith, one, all)

-- what a new root takes
pub root_within : NewRootsAreReady → NewRootsMoveTheirSize → (old new : Scope) (late : Arrays) (m : Made) (most before after : ℕ) (r : Result ℕ ScopeFault) → IsInOrder new → Evaluates (new_root old.arrays m) new r
    → after ≤ before + (most + count_moved m.elems) → count_moved m.elems + total_size old.arrays.world ≤ total_size late.world → EvaluatesWithin most old new late before after r
root_within ready moves old new late m most before after (Ok v) order answer counted enough =
    let fresh : ready_steps (engine_of new) v ≡ 0 = ready old new m v order answer.0 in
    let all = moves old new m v answer.0 in
    omega (arith, counted, fresh, all)
root_within ready moves old new late m most before after (Err e) order answer counted enough = omega (arith, counted, enough)

-- that of an operator of one
pub unary_within : NewRootsAreReady → NewRootsMoveTheirSize → (old mid new : Scope) (late : Arrays) (m : Made) (most before now after v : ℕ) (r : Result ℕ ScopeFault) → IsInOrder new → EvaluatesWithin most old mid late before now (Ok v)
    → Evaluates (new_root mid.arrays m) new r → after ≤ now + (read_steps (engine_of mid) v + count_moved m.elems) → count_moved m.elems + total_size mid.arrays.world ≤ total_size late.world → EvaluatesWithin most old new late before after r
unary_within ready moves old mid new late m most before now after v (Ok w) order operand answer counted enough =
    let fresh : ready_steps (engine_of new) w ≡ 0 = ready mid new m w order answer.0 in
    let all = moves mid new m w answer.0 in
    let less = read_le_ready (engine_of mid) v in
    omega (arith, operand, counted, fresh, all, less)
unary_within ready moves old mid new late m most before now after v (Err e) order operand answer counted enough =
    let less = read_le_ready (engine_of mid) v in
    omega (arith, operand, counted, less, enough)

-- that of an operator of two
pub binary_within : NewRootsAreReady → NewRootsMoveTheirSize → (old mid late new : Scope) (last : Arrays) (wanted : Result Made Fault) (first second most before now later after v u : ℕ) (r : Result ℕ ScopeFault) → IsInOrder new
    → IsLive mid.arrays.world v → CostsNoMore (engine_of mid) (engine_of late) → EvaluatesWithin first old mid last before now (Ok v) → second ≤ most → EvaluatesWithin second mid late last now later (Ok u)
    → Evaluates (and_then wanted (new_root late.arrays)) new r → after ≤ later + (read_steps (engine_of late) v + read_steps (engine_of late) u + make_steps wanted) → make_steps wanted + total_size late.arrays.world ≤ total_size last.world
    → EvaluatesWithin (first + most) old new last before after r
binary_within ready moves old mid late new last (Ok m) first second most before now later after v u (Ok w) order live costs left less right answer counted enough =
    let fresh : ready_steps (engine_of new) w ≡ 0 = ready late new m w order answer.0 in
    let all = moves late new m w answer.0 in
    let a = read_le_ready (engine_of late) v in
    let b = read_le_ready (engine_of late) u in
    let c = costs.readies v live in
    omega (arith, left, less, right, counted, fresh, all, a, b, c)
binary_within ready moves old mid late new last (Err e) first second most before now later after v u (Ok w) order live costs left less right answer counted enough = absurd (cc (answer.0))
binary_within ready moves old mid late new last wanted first second most before now later after v u (Err e) order live costs left less right answer counted enough =
    let a = read_le_ready (engine_of late) v in
    let b = read_le_ready (engine_of late) u in
    let c = costs.readies v live in
    omega (arith, left, less, right, counted, a, b, c, enough)

-- what moves for a new array counts where it comes
pub made_enough : (x : Result Made Fault) (a : Arrays) → make_steps x + size_in a ≤ size_in (came (and_then x (new_root a)) a)
made_enough (Ok m) a = omega arith
made_enough (Err e) a = omega arith

-- a fault is handed on
pub pays_fault : {T : Type 0} (owed : T → ℕ) (most : ℕ) (old new : Scope) (late : Arrays) (before after : ℕ) (f : ScopeFault) (r : Result T ScopeFault) → IsErrAnd r (λ e. e ≡ f) → MovesUpTo most old late before after → PaysWithin owed most old new late before after r
pays_fault owed most old new late before after f (Ok x) is h = absurd is
pays_fault owed most old new late before after f (Err e) is h = h

-- what a first part owes pays for the second
pub paid_on : {T : Type 0} (owed : T → ℕ) (due most : ℕ) (old mid new : Scope) (part late : Arrays) (before now after : ℕ) (r : Result T ScopeFault)
    → now + due + total_size old.arrays.world ≤ before + total_size mid.arrays.world + most → total_size part.world ≤ total_size late.world → PaysWithin owed due mid new part now after r → PaysWithin owed most old new late before after r
paid_on owed due most old mid new part late before now after (Ok x) first less second = omega (arith, first, second)
paid_on owed due most old mid new part late before now after (Err e) first less second = omega (arith, first, second, less)

-- what was only read
pub after_reading : (old mid new : Scope) (part late : Arrays) (most before now after : ℕ) (r : Result ℕ ScopeFault) → now ≤ before + most → mid.arrays ≡ old.arrays → total_size part.world ≤ total_size late.world → EvaluatesWithin 0 mid new part now after r
    → EvaluatesWithin most old new late before after r
after_reading old mid new part late most before now after (Ok v) read same less h = (let all : total_size mid.arrays.world ≡ total_size old.arrays.world = ap (λ (a : Arrays). total_size a.world) same in omega (arith, read, h, all))
after_reading old mid new part late most before now after (Err e) read same less h = (let all : total_size mid.arrays.world ≡ total_size old.arrays.world = ap (λ (a : Arrays). total_size a.world) same in omega (arith, read, h, all, less))

pub reading_refused : {T : Type 0} (owed : T → ℕ) (old new : Scope) (late : Arrays) (most before after : ℕ) (r : Result T ScopeFault) (f : ScopeFault) → IsErrAnd r (λ e. e ≡ f) → after ≤ before + most → total_size old.arrays.world ≤ total_size late.world
    → PaysWithin owed most old new late before after r
reading_refused owed old new late most before after (Ok x) f is read less = absurd is
reading_refused owed old new late most before after (Err e) f is read less = omega (arith, read, less)

-- what a built-in call reads takes no more than to make all ready
rest_le : (s : Scope) (given : List Given) → read_all s (drop 1 given) ≤ ready_all s given
rest_le s [] = omega arith
rest_le s (g ∷ given) = (let a = read_all_le s given in omega (arith, a))

pub by_le : (s : Scope) (b : Builtin) (given : List Given) → read_by s b given ≤ ready_all s given
by_le s b given = by_first (reads_first b)
  where
    by_first : (t : Bool) → read_all s (if t then given else drop 1 given) ≤ ready_all s given
    by_first true = read_all_le s given
    by_first false = rest_le s given

-- what a view of the first argument takes
pub view_within : NewViewsCostTheirSize → NewViewsAddTheirSize → (old new : Scope) (late : Arrays) (given : List Given) (t : Trans) (before after : ℕ) (r : Result ℕ ScopeFault) → IsInOrder new → CostsNoMore (engine_of old) (engine_of new)
    → AreGivenLive old.arrays.world given → Evaluates (view_placed old.arrays (arguments given) t) new r → after ≤ before + read_all old (drop 1 given) → total_size old.arrays.world ≤ total_size late.world → EvaluatesWithin (ready_all old given) old new late before after r
view_within views adds old new late (Array v ∷ given) t before after (Ok w) order costs live answer counted less =
    let a = views old new v w t order live.0 answer.0 in
    let b = adds old new v w t answer.0 in
    let c = costs.readies v live.0 in
    let d = read_all_le old given in
    omega (arith, counted, a, b, c, d)
view_within views adds old new late [] t before after (Ok w) order costs live answer counted less = absurd (cc (answer.0))
view_within views adds old new late (Text x ∷ given) t before after (Ok w) order costs live answer counted less = absurd (cc (answer.0))
view_within views adds old new late (OfType' ty ∷ given) t before after (Ok w) order costs live answer counted less = absurd (cc (answer.0))
view_within views adds old new late given t before after (Err e) order costs live answer counted less = (let b = rest_le old given in omega (arith, counted, b, less))

-- a call that gives a view doesn't read its first argument
made_after : {B : Type 0} (x : Result B Fault) (f : B → Made) (t : Trans) → and_then x (λ b. Ok (made (f b))) ≡ Ok (viewed t) → ⊥
made_after (Ok b) f t h = cc
made_after (Err e) f t h = cc

made_later : {A B : Type 0} (x : Result A Fault) (d : A → Result B Fault) (f : B → Made) (t : Trans) → and_then x (λ a. and_then (d a) (λ b. Ok (made (f b)))) ≡ Ok (viewed t) → ⊥
made_later (Ok a) d f t h = made_after (d a) f t h
made_later (Err e) d f t h = cc

none_made : (x : Result Made ReduceRefusal) (t : Trans) → made_or_fault x ≡ Ok (viewed t) → ⊥
none_made (Ok m) t h = absurd (cc)
none_made (Err e) t h = absurd (cc)

one_made : (f : Made → Result Made ReduceRefusal) (given : List Seen) (t : Trans) → of_one f given ≡ Ok (viewed t) → ⊥
one_made f [] t h = absurd (cc)
one_made f (array m ∷ []) t h = none_made (f m) t h
one_made f (array m ∷ g ∷ given) t h = absurd (cc)
one_made f (string x ∷ given) t h = absurd (cc)
one_made f (type_word ty ∷ given) t h = absurd (cc)

two_made : (f : Made → Made → Result Made ReduceRefusal) (given : List Seen) (t : Trans) → of_two f given ≡ Ok (viewed t) → ⊥
two_made f [] t h = absurd (cc)
two_made f (array m ∷ []) t h = absurd (cc)
two_made f (array m ∷ array n ∷ []) t h = none_made (f m n) t h
two_made f (array m ∷ array n ∷ g ∷ given) t h = absurd (cc)
two_made f (array m ∷ string x ∷ given) t h = absurd (cc)
two_made f (array m ∷ type_word ty ∷ given) t h = absurd (cc)
two_made f (string x ∷ given) t h = absurd (cc)
two_made f (type_word ty ∷ given) t h = absurd (cc)

pub views_read_others : (b : Builtin) (given : List Seen) (t : Trans) → outcome b given ≡ Ok (viewed t) → reads_first b ≡ false
views_read_others (Filled fill) given t h = absurd (made_later (numbers_in (after_type given)) dims_for (filled fill (type_given given)) t h)
views_read_others (Told inquiry) (array m ∷ []) t h = absurd (cc)
views_read_others (Told inquiry) [] t h = absurd (cc)
views_read_others (Told inquiry) (string x ∷ given) t h = absurd (cc)
views_read_others (Told inquiry) (type_word ty ∷ given) t h = absurd (cc)
views_read_others (Told inquiry) (array m ∷ g ∷ given) t h = absurd (cc)
views_read_others Dim given t h = refl
views_read_others Slice given t h = refl
views_read_others Nice given t h = refl
views_read_others (Arranged word) given t h = refl
views_read_others Index given t h = refl
views_read_others Where given t h = refl
views_read_others Range given t h = refl
views_read_others (Reduced kind) given t h = absurd (one_made (reduced kind) given t h)
views_read_others (Whole kind) given t h = absurd (one_made (whole_reduced kind) given t h)
views_read_others (Paired kind) given t h = absurd (two_made (paired kind) given t h)

-- a name, a number and a list
pub named_within : (e : Expr) (x : List ℕ) (s : Scope) (late : Arrays) (v n : ℕ) → e ≡ NamedExpr x → number_of s.names x ≡ Some v → EvaluatesWithin (named_steps s (tree_of e)) s s late n n (Ok v)
named_within e x s late v n is bound =
    let T : Expr → Type 0 = λ y. EvaluatesWithin (named_steps s (tree_of y)) s s late n n (Ok v) in
    let O : Option ℕ → Type 0 = λ o. n + ready_steps (engine_of s) v + total_size s.arrays.world ≤ n + total_size s.arrays.world + option_map_or (ready_steps (engine_of s)) o 0 in
    subst T (sym is) (subst O (sym bound) (omega arith))

-- nothing came and nothing was moved
pub unmoved_within : (names : Names) (s : Scope) (e : Tree) (most n : ℕ) → MovesUpTo most s (evaluated names s.arrays e) n n
unmoved_within names s e most n = omega (arith, starts_within names s.arrays e)

pub number_within : (e : Expr) (k : ℤ) (old new : Scope) (before after : ℕ) (r : Result ℕ ScopeFault) → e ≡ Number k → EvaluatesWithin 0 old new (came (new_root old.arrays (number_made k)) old.arrays) before after r
    → EvaluatesWithin (named_steps old (tree_of e)) old new (evaluated old.names old.arrays (tree_of e)) before after r
number_within e k old new before after r is h = subst (λ y. EvaluatesWithin (named_steps old (tree_of y)) old new (evaluated old.names old.arrays (tree_of y)) before after r) (sym is) h

pub list_within : NewRootsAreReady → NewRootsMoveTheirSize → (e : Expr) (m : Made) (b : Box Made Global) (old new : Scope) (before after : ℕ) (r : Result ℕ ScopeFault) → e ≡ Listed b → m ≡ b.value → IsInOrder new → Evaluates (new_root old.arrays m) new r
    → after ≤ before + count_moved m.elems → EvaluatesWithin (named_steps old (tree_of e)) old new (evaluated old.names old.arrays (tree_of e)) before after r
list_within ready moves e m b old new before after r is at order answer counted =
    let a = old.arrays in
    let left = parts_left old.names a (tree_of e) in
    let enough : size_in (evaluated old.names a (tree_of e)) ≡ count_moved m.elems + size_in a = ap (λ (v : Valued). size_in (came v left)) (list_is old.names a e m b is at) in
    let late = evaluated old.names a (tree_of e) in
    let none : named_steps old (tree_of e) ≡ 0 = ap (λ (y : Expr). named_steps old (tree_of y)) is in
    subst (λ n. EvaluatesWithin n old new late before after r) (sym none) (root_within ready moves old new late m 0 before after r order answer (omega (arith, counted)) (omega (arith, enough)))

-- both operands came
pub both_parts : (names mid : Names) (a b d : Arrays) (op : BinaryOp) (x y : Tree) (v u : ℕ) → value_of names a x ≡ Ok (b, v) → mid ≡ names → value_of mid b y ≡ Ok (d, u) → parts_left names a (binary op x y) ≡ d
both_parts names mid a b d op x y v u first same second =
    ap (λ (z : Valued). left_then z (parts_left names a x) (λ c. came (value_of names c y) (parts_left names c y))) first
    ∙ ap (λ (n : Names). came (value_of n b y) (parts_left n b y)) (sym same)
    ∙ ap (λ (z : Valued). came z (parts_left mid b y)) second

-- each name's array is there
found_live : (w : World) (names : Named ℕ) (more : List ℕ) (x : List ℕ) → AreLive w (map (λ n. n.1) names ++ more) → IfSome (found names x) (IsLive w)
found_live w [] more x live = tt
found_live w (n ∷ names) more x live = by_name_is (pointwise nat_eq x n.0) live.0 (found_live w names more x live.1)
  where
    by_name_is : (b : Bool) → IsLive w n.1 → IfSome (found names x) (IsLive w) → IfSome (if b then Some n.1 else found names x) (IsLive w)
    by_name_is true here rest = here
    by_name_is false here rest = rest

pub names_live : (s : Scope) → IsWhole (machine s) → NamesAreLive s
names_live s whole x = found_live s.arrays.world s.names.arrays (attached s.watches) x whole.live

-- one argument more was evaluated
pub taken_more : (old mid late : Scope) (args : List Arg) (given : List Given) (a : Arg) (x : Given) (i held before now after : ℕ) → i < length args → a ≡ slice_index_or args i a → CostsNoMore (engine_of mid) (engine_of late) → AreGivenLive mid.arrays.world given
    → argued_steps mid (argument_of a none) ≤ argued_steps old (argument_of a none) → now + ready_all mid given + total_size old.arrays.world ≤ before + total_size mid.arrays.world + (argued_steps old (args_of (take i args) none) + held)
    → after + given_steps (ready_steps (engine_of late)) x + total_size mid.arrays.world ≤ now + total_size late.arrays.world + argued_steps mid (argument_of a none)
    → after + ready_all late (given ++ x ∷ []) + total_size old.arrays.world ≤ before + total_size late.arrays.world + (argued_steps old (args_of (take (i + 1) args) none) + held)
taken_more old mid late args given a x i held before now after lt at costs live fewer so_far one =
    let less = less_all (ready_steps (engine_of late)) (ready_steps (engine_of mid)) mid.arrays.world given live costs.readies in
    let both = steps_both (ready_steps (engine_of late)) given (x ∷ []) in
    let more : argued_steps old (args_of (take (i + 1) args) none) ≡ argued_steps old (argument_of a (args_of (take i args) none)) = ap (argued_steps old) (args_more args none i a lt at) in
    let each = argued_one old a (args_of (take i args) none) in
    omega (arith, less, both, more, each, fewer, so_far, one)

-- the first arguments take no more than all
pub argued_part : (old : Scope) (args : List Arg) (i : ℕ) → argued_steps old (args_of (take i args) none) ≤ argued_steps old (args_of args none)
argued_part old args i =
    let all = argued_first old (drop i args) (args_of (take i args) none) in
    let is : args_of args none ≡ args_of (drop i args) (args_of (take i args) none) = ap (λ (xs : List Arg). args_of xs none) (sym (take-append-drop i args)) ∙ args_of_append (take i args) (drop i args) none in
    let same : argued_steps old (args_of args none) ≡ argued_steps old (args_of (drop i args) (args_of (take i args) none)) = ap (argued_steps old) is in
    omega (arith, all, same)

-- the next argument is refused
pub taken_refused : (old mid : Scope) (late : Arrays) (args : List Arg) (given : List Given) (a : Arg) (i held before now after : ℕ) → i < length args → a ≡ slice_index_or args i a
    → argued_steps mid (argument_of a none) ≤ argued_steps old (argument_of a none) → now + ready_all mid given + total_size old.arrays.world ≤ before + total_size mid.arrays.world + (argued_steps old (args_of (take i args) none) + held)
    → MovesUpTo (argued_steps mid (argument_of a none)) mid late now after → MovesUpTo (argued_steps old (args_of args none) + held) old late before after
taken_refused old mid late args given a i held before now after lt at fewer so_far refused =
    let more : argued_steps old (args_of (take (i + 1) args) none) ≡ argued_steps old (argument_of a (args_of (take i args) none)) = ap (argued_steps old) (args_more args none i a lt at) in
    let each = argued_one old a (args_of (take i args) none) in
    let part = argued_part old args (i + 1) in
    omega (arith, more, each, part, fewer, so_far, refused)
