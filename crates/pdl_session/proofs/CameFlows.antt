-- What the statement that makes a flow does, from what its parts do.
use Rattle.std.proofs.Common.{◌≡◌, ℕ, zero, suc, ℤ, ◌+◌, ◌<◌, ◌≤◌, List, Some, [], ◌∷◌, ◌++◌, length, get_or, All, Result, Ok, Err, refl, sym, ap, subst, ◌∙◌, arith}
use Rattle.std.specs.Option.{option_map_or}
use Rattle.std.specs.Prelude.{Bool, true, false, not, ◌&&◌, is_some, IsSomeAnd}
use Rattle.std.specs.Result.{IsErrAnd}
use Rattle.pdl_elem.specs.declared.BinaryOp.{BinaryOp}
use Rattle.pdl_elem.specs.declared.Ty.{Ty}
use Rattle.pdl_elem.specs.Operators.{divides}
use Rattle.pdl_elem.specs.Types.{type_named}
use Rattle.pdl_flow.specs.declared.formula.Formula.{Formula}
use Rattle.pdl_flow.specs.Formula as formula
use Rattle.pdl_elem.specs.declared.Ty.TheVariants.{Byte}
use Rattle.pdl_buf.specs.declared.made.Made.{Made}
use Rattle.pdl_flow.specs.Formula.{FormulaTree, IsFormula, arrays_in}
use Rattle.pdl_flow.specs.Laws.{MeaningLaws}
use Rattle.pdl_flow.specs.Meaning.{meaning}
use Rattle.pdl_world.specs.Laws.{OlderElementsStay, OlderStay}
use Rattle.pdl_world.specs.Sound.{IsLive, IsSound}
use Rattle.pdl_world.specs.World.{World, Look, elements, root}
use Rattle.pdl_syntax.specs.StatementTree.{flow}
use Rattle.pdl_syntax.specs.declared.tree.Arg.{Arg, Value, Str, OfType}
use Rattle.pdl_syntax.specs.Formulas.{is_formula, is_one_formula}
use Rattle.pdl_syntax.specs.Tree.{Tree, Args, binary, call, none}
use Rattle.pdl_syntax.specs.TreeOf.{args_of, argument_of}
use Rattle.pdl_machine.specs.Arrays.{Arrays, array_in, with_new}
use Rattle.pdl_machine.specs.FlowLaws.{FormulasAreValues}
use Rattle.pdl_machine.specs.declared.fault.Fault.TheVariants.{Syntax}
use Rattle.pdl_machine.specs.Formulas.{Formed, formula_of, operand_of}
use Rattle.pdl_machine.specs.declared.fault.Fault.{Fault}
use Rattle.pdl_machine.specs.Names.{Names, bind as bind_name}
use Rattle.pdl_machine.specs.Laws.{AreGrown}
use Rattle.pdl_machine.specs.Outcome.{Valued, new_root}
use Rattle.pdl_machine.specs.State.{State, AreLive, IsWhole}
use Rattle.pdl_machine.specs.Step.{Stepped, begun, bound, effect, flowing}
use Rattle.pdl_machine.specs.Then.{and_then, or_fault}
use Rattle.pdl_machine.specs.Value.{value_of}
use Rattle.pdl_scope.specs.declared.fault.ScopeFault.{ScopeFault}
use Rattle.pdl_scope.specs.Answers.{IsFault, Runs}
use Rattle.pdl_scope.specs.Costs.{MovesUpTo, arrays_after}
use Rattle.pdl_scope.specs.Growth.{as_grown}
use Rattle.pdl_scope.specs.Scope.{Scope, engine_of, machine, Grows}
use Rattle.pdl_session.specs.Came.{came, evaluated, flow_came, parts_left}
use Rattle.pdl_session.specs.Costs.{EvaluatesWithin, named_steps}
use Rattle.pdl_session.proofs.CostExpressions.{read_le_ready}
use Rattle.pdl_session.proofs.CameGained.{size_in}
use Rattle.pdl_session.proofs.MoveLemmas.{came_up_to}
use Rattle.pdl_engine.specs.Reading.{read_steps}
use Rattle.pdl_numbers.specs.Typed.{count_moved}
use Rattle.pdl_session.specs.Flowing.{Forms}
use Rattle.pdl_session.proofs.ScopeFacts.{first_fault, state_is}
use Rattle.pdl_session.proofs.WorldGrown.{grown_look, grown_seen}
use Rattle.pdl_session.proofs.FlowNeeds.{live_both}
use Rattle.pdl_session.proofs.PerformedStatements.{runs_from}

-- elements of arrays that are there stay where others come
grown_elements : OlderStay → OlderElementsStay → (more w : World) (v : ℕ) → IsSound (more ++ w) → IsLive w v → elements (more ++ w) v ≡ elements w v
grown_elements older stay [] w v sound live = refl
grown_elements older stay ((k, d) ∷ more) w v sound live =
    let there : IsLive (more ++ w) v = subst (λ o. IsSomeAnd o (λ l. Unit {0})) (sym (grown_look older more w v sound.2 live)) live in
    stay (more ++ w) k v d sound.0 there ∙ grown_elements older stay more w v sound.2 live

-- and all that is seen of them
grown_array : OlderStay → OlderElementsStay → (old new : Arrays) (v : ℕ) → AreGrown old new → IsSound new.world → IsLive old.world v → array_in old v ≡ array_in new v
grown_array older stay old new v grown sound live =
    let seen : List ℤ → Made = λ es. record { ty = (array_in new v).ty; dims = (array_in new v).dims; elems = es } in
    sym (ap seen (ap (λ w. elements w v) grown.is ∙ grown_elements older stay grown.more old.world v (subst IsSound grown.is sound) live)
    ∙ ap (λ o. record { ty = option_map_or (λ (l : Look). l.ty) o Byte; dims = option_map_or (λ (l : Look). l.dims) o []; elems = elements old.world v }) (grown_seen older old new v grown sound live))

grown_arrays : OlderStay → OlderElementsStay → (old new : Arrays) (ks : List ℕ) → AreGrown old new → IsSound new.world → AreLive old.world ks → All (λ k. array_in old k ≡ array_in new k) ks
grown_arrays older stay old new [] grown sound live = λ i d l. absurd (omega arith)
grown_arrays older stay old new (k ∷ ks) grown sound live = by_place (grown_arrays older stay old new ks grown sound live.1)
  where
    by_place : All (λ j. array_in old j ≡ array_in new j) ks → (i d : ℕ) → i < length (k ∷ ks) → array_in old (get_or (k ∷ ks) i d) ≡ array_in new (get_or (k ∷ ks) i d)
    by_place rest zero d l = grown_array older stay old new k grown sound live.0
    by_place rest (suc i) d l = rest i d (omega arith)

-- the formula's value is the array that came
pub equals_value : OlderStay → OlderElementsStay → MeaningLaws → FormulasAreValues → (old mid : Scope) (e : Tree) (v : ℕ) (f : FormulaTree) → IsWhole (machine old) → IsWhole (machine mid) → Grows old mid
    → value_of old.names old.arrays e ≡ Ok (mid.arrays, v) → formula_of old.names e ≡ Ok f → AreLive old.arrays.world (arrays_in f) → meaning (array_in mid.arrays) f ≡ Ok (array_in mid.arrays v)
equals_value older stay laws values old mid e v f whole after g value_is formula_is live =
    sym (laws.same (array_in old.arrays) (array_in mid.arrays) f (grown_arrays older stay old.arrays mid.arrays (arrays_in f) (as_grown old mid g) after.sound live))
    ∙ values (machine old) e (mid.arrays, v) f whole value_is formula_is after.sound

-- arrays stay there
pub still_live : (old new : Scope) (ks : List ℕ) → Grows old new → AreLive old.arrays.world ks → AreLive new.arrays.world ks
still_live old new [] g live = tt
still_live old new (k ∷ ks) g live = (g.still k live.0, still_live old new ks g live.1)

-- after the value came
abbrev formed : State → (name : List ℕ) → Arrays × ℕ → Formed → Stepped
formed s x v formula = and_then formula (λ f. bound (begun s v.0 f) x (new_root v.0 (array_in v.0 v.1)))

flow_is : (old mid : Scope) (x : List ℕ) (e : Tree) (v : ℕ) (f : FormulaTree) → value_of old.names old.arrays e ≡ Ok (mid.arrays, v) → formula_of old.names e ≡ Ok f → Grows old mid
    → effect [] (machine old) (flow x e) ≡ bound (begun (machine mid) mid.arrays f) x (new_root mid.arrays (array_in mid.arrays v))
flow_is old mid x e v f value_is formula_is g =
    let next : State → Stepped = λ s. bound (begun s mid.arrays f) x (new_root mid.arrays (array_in mid.arrays v)) in
    ap (λ (y : Valued). and_then y (flowing (machine old) x e)) value_is ∙ ap (formed (machine old) x (mid.arrays, v)) formula_is ∙ ap next (sym (state_is old mid g))

pub runs_flow : {T : Type 0} (r : Result T ScopeFault) (old mid new : Scope) (x : List ℕ) (e : Tree) (v : ℕ) (f : FormulaTree) → value_of old.names old.arrays e ≡ Ok (mid.arrays, v) → formula_of old.names e ≡ Ok f → Grows old mid
    → Runs (bound (begun (machine mid) mid.arrays f) x (new_root mid.arrays (array_in mid.arrays v))) mid new [] [] r → Runs (effect [] (machine old) (flow x e)) old new [] [] r
runs_flow r old mid new x e v f value_is formula_is g h =
    runs_from r (bound (begun (machine mid) mid.arrays f) x (new_root mid.arrays (array_in mid.arrays v))) (effect [] (machine old) (flow x e)) old mid new [] [] (flow_is old mid x e v f value_is formula_is g) g h

-- ---- what it moves

begun_has : (r : Result Names Fault) (s : State) (v : Arrays × ℕ) (a : Arrays) → size_in a ≤ size_in v.0 → size_in a ≤ size_in (arrays_after (and_then r (λ names. Ok (record s { names = names; arrays = v.0 }, []))) a)
begun_has (Ok names) s v a more = more
begun_has (Err e) s v a more = omega arith

formed_has : (s : State) (x : List ℕ) (v : Arrays × ℕ) (f : Formed) → size_in v.0 ≤ size_in (arrays_after (formed s x v f) v.0)
formed_has s x v (Err e) = omega arith
formed_has s x v (Ok f) =
    let m : Made = array_in v.0 v.1 in
    let a = with_new v.0 (root m.ty m.dims m.elems) in
    let one : size_in a.0 ≡ count_moved m.elems + size_in v.0 = refl in
    begun_has (bind_name s.names x a.1) (begun s v.0 f) a v.0 (omega (arith, one))

-- what moves for the arrays of a flow's expression
flow_has : (s : State) (x : List ℕ) (e : Tree) (y : Valued) (left : Arrays) → size_in (came y left) ≤ size_in (arrays_after (and_then y (flowing s x e)) (came y left))
flow_has s x e (Ok v) left = formed_has s x v (formula_of s.names e)
flow_has s x e (Err f) left = omega arith

-- no flow was made
pub flow_unmade : (old : Scope) (x : List ℕ) (e : Tree) (before after : ℕ) → MovesUpTo (named_steps old e) old (evaluated old.names old.arrays e) before after → MovesUpTo (named_steps old e) old (flow_came old x e) before after
flow_unmade old x e before after h =
    let has : size_in (evaluated old.names old.arrays e) ≤ size_in (flow_came old x e) = flow_has (machine old) x e (value_of old.names old.arrays e) (parts_left old.names old.arrays e) in
    omega (arith, h, has)

-- the value came, and no flow
pub flow_unformed : (old mid : Scope) (x : List ℕ) (e : Tree) (before after v : ℕ) → value_of old.names old.arrays e ≡ Ok (mid.arrays, v) → EvaluatesWithin (named_steps old e) old mid mid.arrays before after (Ok v)
    → MovesUpTo (named_steps old e) old (flow_came old x e) before after
flow_unformed old mid x e before after v valued h =
    flow_unmade old x e before after (came_up_to (named_steps old e) old (value_of old.names old.arrays e) (parts_left old.names old.arrays e) mid.arrays before after v valued (omega (arith, h)))

-- the value came, and then a flow or none
pub flowing_within : (old mid : Scope) (x : List ℕ) (e : Tree) (f : FormulaTree) (before now after v : ℕ) → value_of old.names old.arrays e ≡ Ok (mid.arrays, v) → formula_of old.names e ≡ Ok f → Grows old mid
    → EvaluatesWithin (named_steps old e) old mid mid.arrays before now (Ok v)
    → MovesUpTo (read_steps (engine_of mid) v) mid (arrays_after (bound (begun (machine mid) mid.arrays f) x (new_root mid.arrays (array_in mid.arrays v))) mid.arrays) now after
    → MovesUpTo (named_steps old e) old (flow_came old x e) before after
flowing_within old mid x e f before now after v value_is formula_is g first second =
    let cost = read_le_ready (engine_of mid) v in
    let next : State → Stepped = λ s. bound (begun s mid.arrays f) x (new_root mid.arrays (array_in mid.arrays v)) in
    let evaluated_is : evaluated old.names old.arrays e ≡ mid.arrays = ap (λ (y : Valued). came y (parts_left old.names old.arrays e)) value_is in
    let late : flow_came old x e ≡ arrays_after (next (machine mid)) mid.arrays =
    ap (λ (r : Stepped). arrays_after r (evaluated old.names old.arrays e)) (flow_is old mid x e v f value_is formula_is g) ∙ ap (arrays_after (next (machine mid))) evaluated_is in
    let size : size_in (flow_came old x e) ≡ size_in (arrays_after (next (machine mid)) mid.arrays) = ap size_in late in
    omega (arith, first, second, cost, size)

-- ---- the formula of an expression, from those of its parts

-- the wanted formula, whose arrays are there
abbrev pub IsFormed : Names → World → Tree → FormulaTree → Type 0
IsFormed names w e f = (formula_of names e ≡ Ok f) × IsFormula f × AreLive w (arrays_in f)

-- both operands of a formula are formulas
pub both_formulas : (op : BinaryOp) (x y : Tree) → is_formula (binary op x y) ≡ true → (divides op ≡ false) × (is_formula x ≡ true) × (is_formula y ≡ true)
both_formulas op x y h = by_tests (divides op) (is_formula x) (is_formula y) h
  where
    by_tests : (d a b : Bool) → (not d && a && b) ≡ true → (d ≡ false) × (a ≡ true) × (b ≡ true)
    by_tests false true true h = (refl, refl, refl)
    by_tests true a b h = absurd (cc)
    by_tests false false b h = absurd (cc)
    by_tests false true false h = absurd (cc)

-- the argument of a conversion is
pub one_formula : (word : List ℕ) (args : Args) → is_formula (call word args) ≡ true → is_one_formula args ≡ true
one_formula word args h = by_tests (is_some (type_named word)) (is_one_formula args) h
  where
    by_tests : (a b : Bool) → (a && b) ≡ true → b ≡ true
    by_tests true b h = h
    by_tests false b h = absurd (cc)

pub binary_formed : (names : Names) (w : World) (e x y : Tree) (op : BinaryOp) (f g p q : FormulaTree) → e ≡ binary op x y → is_formula e ≡ true → IsFormed names w x f → IsFormed names w y g → p ≡ f → q ≡ g → IsFormed names w e (formula.binary op p q)
binary_formed names w e x y op f g p q is fine first second left right =
    let Q : Tree → FormulaTree → FormulaTree → Type 0 = λ z s t. IsFormed names w z (formula.binary op s t) in
    let d = both_formulas op x y (subst (λ z. is_formula z ≡ true) is fine) in
    let both : Q (binary op x y) f g = (
      ap (λ (r : Formed). and_then r (λ a. and_then (formula_of names y) (λ b. Ok (formula.binary op a b)))) first.0 ∙ ap (λ (r : Formed). and_then r (λ b. Ok (formula.binary op f b))) second.0,
      (d.0, first.1, second.1),
      live_both w (arrays_in f) (arrays_in g) first.2 second.2,
    ) in
    subst (λ z. Q z p q) (sym is) (subst (λ s. Q (binary op x y) s q) (sym left) (subst (λ t. Q (binary op x y) f t) (sym right) both))

-- the operand of a conversion
abbrev pub IsOperand : Names → World → Args → FormulaTree → Type 0
IsOperand names w args f = (operand_of names args ≡ Ok f) × IsFormula f × AreLive w (arrays_in f)

call_is : (names : Names) (word : List ℕ) (args : Args) (ty : Ty) → type_named word ≡ Some ty → formula_of names (call word args) ≡ and_then (operand_of names args) (λ f. Ok (formula.convert ty f))
call_is names word args ty named = ap (λ o. and_then (or_fault Syntax o) (λ t. and_then (operand_of names args) (λ f. Ok (formula.convert t f)))) named

pub convert_formed : (names : Names) (w : World) (e : Tree) (word : List ℕ) (args : Args) (ty : Ty) (f p : FormulaTree) → e ≡ call word args → type_named word ≡ Some ty → IsOperand names w args f → p ≡ f → IsFormed names w e (formula.convert ty p)
convert_formed names w e word args ty f p is named operand same =
    let Q : Tree → FormulaTree → Type 0 = λ z s. IsFormed names w z (formula.convert ty s) in
    let here : Q (call word args) f = (call_is names word args ty named ∙ ap (λ (r : Formed). and_then r (λ a. Ok (formula.convert ty a))) operand.0, operand.1, operand.2) in
    subst (λ z. Q z p) (sym is) (subst (λ s. Q (call word args) s) (sym same) here)

pub convert_refused : (names : Names) (e : Tree) (word : List ℕ) (args : Args) (ty : Ty) (f : ScopeFault) → e ≡ call word args → type_named word ≡ Some ty → IsFault (operand_of names args) f → IsFault (formula_of names e) f
convert_refused names e word args ty f is named h =
    subst (λ z. IsFault (formula_of names z) f) (sym is) (subst (λ (r : Formed). IsFault r f) (sym (call_is names word args ty named)) (first_fault (operand_of names args) (λ g. Ok (formula.convert ty g)) f h))

-- a fault is handed on
pub forms_fault : (wanted : Formed) (w : World) (f : ScopeFault) (r : Result Formula ScopeFault) → IsErrAnd r (λ e. e ≡ f) → IsFault wanted f → Forms wanted w r
forms_fault wanted w f (Ok x) is h = absurd is
forms_fault wanted w f (Err e) is h = subst (λ g. IsFault wanted g) (sym is) h

-- two arguments or more are no formula alone
several_refused : (names : Names) (rest : List Arg) (a b : Arg) (front : Args) → operand_of names (args_of rest (argument_of b (argument_of a front))) ≡ Err Syntax
several_refused names [] (Value e) (Value f) front = refl
several_refused names [] (Str t) (Value f) front = refl
several_refused names [] (OfType ty) (Value f) front = refl
several_refused names [] a (Str t) front = refl
several_refused names [] a (OfType ty) front = refl
several_refused names (c ∷ rest) a b front = several_refused names rest b c (argument_of a front)

pub no_operand : (names : Names) (args : List Arg) → 2 ≤ length args → operand_of names (args_of args none) ≡ Err Syntax
no_operand names [] le = absurd (omega arith)
no_operand names (a ∷ []) le = absurd (omega arith)
no_operand names (a ∷ b ∷ rest) le = several_refused names rest a b none
