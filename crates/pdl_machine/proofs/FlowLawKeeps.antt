-- A statement that doesn't assign leaves flows equal to their formulas.
use Rattle.std.proofs.Common.{◌≡◌, ℕ, ◌<◌, ◌≤◌, ℤ, pos, negsuc, List, [], ◌∷◌, ◌++◌, Bool, true, false, Option, Some, None, Result, Ok, Err, refl, sym, ap, subst, ◌∙◌, arith}
use Rattle.std.specs.Prelude.{◌&&◌, ◌||◌, not, nat_lt, if◌then◌else◌, is_some, IfOk}
use Rattle.std.proofs.lemmas.Bool.{and_parts, not-true, ltb-false}
use Rattle.std.proofs.lemmas.Int.{ints}
use Rattle.pdl_lemmas.specs.Options.{choose}
use Rattle.pdl_elem.specs.declared.Ty.{Ty}
use Rattle.pdl_elem.specs.declared.Ty.TheVariants.{Long, Longlong}
use Rattle.pdl_elem.specs.Operators.{divides}
use Rattle.pdl_elem.specs.Tables.{found_in}
use Rattle.pdl_elem.specs.Types.{InRange, type_named}
use Rattle.pdl_buf.specs.declared.made.Made.{Made}
use Rattle.pdl_ops.specs.Elementwise.{OpRefusal, converted, elementwise, unary_each}
use Rattle.pdl_flow.specs.Formula as formula
use Rattle.pdl_flow.specs.Meaning.{meaning, and_then as then_value}
use Rattle.pdl_lexemes.specs.Lists.{type_of}
use Rattle.pdl_syntax.specs.Tree.{Tree, Args, number, named, literal, unary, binary, call, none, value, text, of_type}
use Rattle.pdl_syntax.specs.StatementTree.{StatementTree, bind, bind_list, assign, show, show_text, sever, reshape as reshapes, undef, vars, dump, flow, pp_def, watch, unwatch}
use Rattle.pdl_syntax.specs.Formulas.{is_formula, is_one_formula}
use Rattle.pdl_syntax.specs.WellMade.{IsCount, AreArrays, AreArgArrays, IsWellMade}
use Rattle.pdl_world.specs.World.{World, root, look_of_root}
use Rattle.pdl_world.specs.Cut.{breaks, reshape}
use Rattle.pdl_world.specs.CutLaws.{CutsLeaveOthers}
use Rattle.pdl_world.specs.Laws.{NewRootIsSeen, NewRootIsWhole, NewRootHasPath}
use Rattle.pdl_world.specs.Sound.{IsSound, IsLive}
use Rattle.pdl_machine.specs.declared.fault.Fault.{Fault}
use Rattle.pdl_machine.specs.declared.fault.Fault.TheVariants.{Syntax, UnknownFunction, UnknownName}
use Rattle.pdl_machine.specs.declared.builtin.Builtin.TheVariants.{Told}
use Rattle.pdl_machine.specs.declared.builtin.Inquiry.TheVariants.{Convert}
use Rattle.pdl_machine.specs.Builtin.{builtins}
use Rattle.pdl_machine.specs.Then.{and_then, or_fault}
use Rattle.pdl_machine.specs.Refused.{operator_fault, or_named}
use Rattle.pdl_machine.specs.Operators.{binary_each}
use Rattle.pdl_machine.specs.Names.{Names, found, number_of, bound_to, bind as bind_name, unbind, define}
use Rattle.pdl_machine.specs.Arrays.{Arrays, array_in, with_new}
use Rattle.pdl_machine.specs.Flows.{Flow, Flows, is_flow, without_flow}
use Rattle.pdl_machine.specs.Following.{AreOlder, IsFlow, RootsAbove, AreFlows}
use Rattle.pdl_machine.specs.Formulas.{Formed, formula_of, operand_of}
use Rattle.pdl_machine.specs.State.{State, with_arrays, IsWhole}
use Rattle.pdl_machine.specs.Watches.{attaching, detaching}
use Rattle.pdl_machine.specs.Outcome.{array, Given, Valued, new_root}
use Rattle.pdl_machine.specs.Calls.{callee_among, value_by}
use Rattle.pdl_machine.specs.Cuts.{cut, dims_given, is_watched, is_read, reshaped}
use Rattle.pdl_machine.specs.Kernels.{defined}
use Rattle.pdl_machine.specs.Dumps.{dumped}
use Rattle.pdl_machine.specs.Value.{known, number_made, value_of, taken}
use Rattle.pdl_machine.specs.Step.{Stepped, bound, ending, bind_severed, begun, flowing, kernel_named, after_printing, severing, reshaping, watching, effect}
use Rattle.pdl_machine.specs.Laws.{AreGrown, Assigns}
use Rattle.pdl_machine.specs.FlowLaws.{FormulasAreValues, OthersKeepFlows}
use Rattle.pdl_machine.proofs.FlowLemmas.{AreSame, meaning_same}
use Rattle.pdl_machine.proofs.TidyNumbering.{in_world, live_inside, AreIn, IsInOrder, in_order, bound_in, orderly_sound}
use Rattle.pdl_machine.proofs.OutcomeOrder.{ok_then, ok_always, refused_by, Grows, FineValue, FineTaken, grown_self, grown_trans, self, value_fine, taken_fine, grows_self, state_value_fine, bound_to_fine, formula_in, still_in}
use Rattle.pdl_machine.proofs.StepWatches.{SameRest, bound_rest, several_rest}
use Rattle.pdl_machine.proofs.StepQuiet.{WorldLaws, live_as, GrownStep, sound_live, bound_grown, grown_value, several_grown}
use Rattle.pdl_machine.proofs.FlowMoves.{shown_same, seen_shows, flow_live, grown_seen, grown_flows, flows_without, not_without, cut_flows, reshape_flows}
use Rattle.pdl_machine.proofs.FlowFollows.{below_in}

-- the laws that are used here
pub record Laws : Type 0 where
  pub worlds : WorldLaws
  pub others : CutsLeaveOthers
  pub new_seen : NewRootIsSeen
  pub new_whole : NewRootIsWhole
  pub new_path : NewRootHasPath

-- ---- the value of a formula

sound_rest : (more w : World) → IsSound (more ++ w) → IsSound w
sound_rest [] w sound = sound
sound_rest (a ∷ more) w sound = sound_rest more w sound.2

sound_before : (a b : Arrays) → AreGrown a b → IsSound b.world → IsSound a.world
sound_before a b grown sound = sound_rest grown.more a.world (subst IsSound grown.is sound)

abbrev made_of : Ty → List ℕ → List ℤ → Made
made_of ty ds es = record { ty = ty; dims = ds; elems = es }

abbrev value_is : Made → Result Made OpRefusal
value_is m = Ok m

-- a new root shows what it was made of
new_shows : NewRootIsSeen → (a : Arrays) (m : Made) → IsSound (with_new a (root m.ty m.dims m.elems)).0.world → array_in (with_new a (root m.ty m.dims m.elems)).0 a.next ≡ m
new_shows seen a m sound = let s = seen a.world a.next m.ty m.dims m.elems sound.1.1.count in three s.ty_is s.dims_are s.elems_are
  where
    three : {t t' : Ty} {ds ds' : List ℕ} {es es' : List ℤ} → t ≡ t' → ds ≡ ds' → es ≡ es' → made_of t ds es ≡ made_of t' ds' es'
    three p q r = cc

-- a value as the one argument of a call
abbrev one_given : Arrays × ℕ → Result (Arrays × List Given) Fault
one_given v = Ok (v.0, array v.1 ∷ [])

-- a value and a formula are the same, where the arrays are sound
abbrev Agree : Arrays → Valued → Formed → Type 0
Agree a (Ok v) (Ok f) = IsSound v.0.world → meaning (array_in a) f ≡ Ok (array_in v.0 v.1)
Agree a (Ok v) (Err e) = Unit {0}
Agree a (Err e) y = Unit {0}

no_formula : (a : Arrays) (x : Valued) (e : Fault) → Agree a x (Err e)
no_formula a (Ok v) e = tt
no_formula a (Err d) e = tt

-- what a formula reads is the same where new arrays came
reads_same : WorldLaws → (a b : Arrays) → AreGrown a b → IsSound b.world → (ks : List ℕ) → AreIn a.world ks → AreSame (array_in b) (array_in a) ks
reads_same laws a b grown sound [] there = tt
reads_same laws a b grown sound (k ∷ ks) there = (
  shown_same a b k (seen_shows a.world b.world k (grown_seen laws a b grown (orderly_sound b.world sound) k (sound_live laws a.world k (sound_before a b grown sound) there.0))),
  reads_same laws a b grown sound ks there.1,
)

module _ (laws : Laws) (names : Names) where
  -- a call of other arguments is no formula
  unread : (a : Arrays) (word : List ℕ) (args : Args) → operand_of names args ≡ Err Syntax → Agree a (value_of names a (call word args)) (formula_of names (call word args))
  unread a word args is = by_type (type_named word)
    where
      by_type : (o : Option Ty) → Agree a (value_of names a (call word args)) (and_then (or_fault Syntax o) (λ ty. and_then (operand_of names args) (λ f. Ok (formula.convert ty f))))
      by_type None = no_formula a (value_of names a (call word args)) Syntax
      by_type (Some ty) = subst (λ (y : Formed). Agree a (value_of names a (call word args)) (and_then y (λ f. Ok (formula.convert ty f)))) (sym is) (no_formula a (value_of names a (call word args)) Syntax)

  agree : (e : Tree) (a : Arrays) → Grows a a → AreIn a.world (bound_in names) → Agree a (value_of names a e) (formula_of names e)
  agree (number z) a g inside = λ sound. ap value_is (sym (new_shows laws.new_seen a (number_made z) sound))
  agree (named x) a g inside = by_number (number_of names x)
    where
      by_number : (o : Option ℕ) → Agree a (known a o) (and_then (or_fault UnknownName o) (λ v. Ok (formula.array v)))
      by_number None = tt
      by_number (Some v) = λ sound. refl
  agree (literal ty ds es) a g inside = tt
  agree (unary op e) a g inside = by_parts (value_of names a e) (formula_of names e) (agree e a g inside)
    where
      by_parts : (x : Valued) (y : Formed) → Agree a x y → Agree a (and_then x (λ v. new_root v.0 (unary_each op (array_in v.0 v.1)))) (and_then y (λ f. Ok (formula.unary op f)))
      by_parts (Ok v) (Ok f) h = λ sound.
          ap (λ (r : Result Made OpRefusal). then_value r (λ m. Ok (unary_each op m))) (h sound.2) ∙ ap value_is (sym (new_shows laws.new_seen v.0 (unary_each op (array_in v.0 v.1)) sound))
      by_parts (Ok v) (Err e) h = tt
      by_parts (Err d) (Ok f) h = tt
      by_parts (Err d) (Err e) h = tt
  agree (binary op d e) a g inside =
      by_left (value_of names a d) (formula_of names d) (agree d a g inside) (value_fine names d a g inside) (formula_of names e) (formula_in a.world names e inside) (λ b h k. agree e b h k)
    where
      last : Arrays × ℕ → Arrays × ℕ → Valued
      last v u = and_then (binary_each op (array_in u.0 v.1) (array_in u.0 u.1)) (new_root u.0)

      both : formula.FormulaTree → formula.FormulaTree → Formed
      both f i = Ok (formula.binary op f i)

      by_value : (v u : Arrays × ℕ) (f i : formula.FormulaTree) → FineValue a v → FineValue v.0 u → (IsSound v.0.world → meaning (array_in a) f ≡ Ok (array_in v.0 v.1))
          → (IsSound u.0.world → meaning (array_in v.0) i ≡ Ok (array_in u.0 u.1)) → AreIn a.world (formula.arrays_in i)
          → (x : Result Made OpRefusal) → elementwise op (array_in u.0 v.1) (array_in u.0 u.1) ≡ x → Agree a (and_then (or_named operator_fault x) (new_root u.0)) (both f i)
      by_value v u f i fine right first second there (Err refusal) is = tt
      by_value v u f i fine right first second there (Ok m) is = λ sound.
          let s : IsSound u.0.world = sound.2 in
          let before : IsSound v.0.world = sound_before v.0 u.0 right.2 s in
          let left : array_in u.0 v.1 ≡ array_in v.0 v.1 =
          shown_same v.0 u.0 v.1 (seen_shows v.0.world u.0.world v.1 (grown_seen laws.worlds v.0 u.0 right.2 (orderly_sound u.0.world s) v.1 (sound_live laws.worlds v.0.world v.1 before fine.1))) in
          let also : meaning (array_in a) i ≡ Ok (array_in u.0 u.1) =
          sym (meaning_same (array_in v.0) (array_in a) i (reads_same laws.worlds a v.0 fine.2 before (formula.arrays_in i) there)) ∙ second s in
          ap (λ (r : Result Made OpRefusal). then_value r (λ x. then_value (meaning (array_in a) i) (λ y. elementwise op x y))) (first before ∙ ap value_is (sym left))
          ∙ ap (λ (r : Result Made OpRefusal). then_value r (λ y. elementwise op (array_in u.0 v.1) y)) also
          ∙ is ∙ ap value_is (sym (new_shows laws.new_seen u.0 m sound))

      by_right : (v : Arrays × ℕ) (f : formula.FormulaTree) → FineValue a v → (IsSound v.0.world → meaning (array_in a) f ≡ Ok (array_in v.0 v.1))
          → (x : Valued) (y : Formed) → IfOk x (FineValue v.0) → IfOk y (λ i. AreIn a.world (formula.arrays_in i)) → Agree v.0 x y → Agree a (and_then x (last v)) (and_then y (both f))
      by_right v f fine first (Ok u) (Ok i) right there h =
          by_value v u f i fine right first h there (elementwise op (array_in u.0 v.1) (array_in u.0 u.1)) refl
      by_right v f fine first (Ok u) (Err e) right there h = no_formula a (last v u) e
      by_right v f fine first (Err d) y right there h = tt

      by_left : (x : Valued) (y : Formed) → Agree a x y → IfOk x (FineValue a) → (w : Formed) → IfOk w (λ i. AreIn a.world (formula.arrays_in i))
          → ((b : Arrays) → Grows b b → AreIn b.world (bound_in names) → Agree b (value_of names b e) w)
          → Agree a (and_then x (λ v. and_then (value_of names v.0 e) (last v))) (and_then y (λ f. and_then w (both f)))
      by_left (Ok v) (Ok f) h fine w there rest =
          by_right v f fine h (value_of names v.0 e) w (value_fine names e v.0 (self a v.0 fine.0) (still_in a v.0 fine.0 (bound_in names) inside)) there
          (rest v.0 (self a v.0 fine.0) (still_in a v.0 fine.0 (bound_in names) inside))
      by_left (Ok v) (Err i) h fine w there rest = no_formula a (and_then (value_of names v.0 e) (last v)) i
      by_left (Err i) y h fine w there rest = tt
  agree (call word none) a g inside = unread a word none refl
  agree (call word (value none e)) a g inside = by_type (agree e a g inside) (type_named word)
    where
      called : Option Ty → Arrays × ℕ → Valued
      called o v = and_then (or_fault UnknownFunction (callee_among (choose (found_in builtins word) (λ ty. Some (Told (Convert ty))) o) (found names.kernels word))) (value_by v.0 (array v.1 ∷ []))

      by_parts : (ty : Ty) (x : Valued) (y : Formed) → Agree a x y → Agree a (and_then x (called (Some ty))) (and_then y (λ f. Ok (formula.convert ty f)))
      by_parts ty (Ok v) (Ok f) h = λ sound.
          ap (λ (r : Result Made OpRefusal). then_value r (λ m. Ok (converted ty m))) (h sound.2) ∙ ap value_is (sym (new_shows laws.new_seen v.0 (converted ty (array_in v.0 v.1)) sound))
      by_parts ty (Ok v) (Err i) h = no_formula a (called (Some ty) v) i
      by_parts ty (Err i) (Ok f) h = tt
      by_parts ty (Err i) (Err j) h = tt

      taken_value : (o : Option Ty) (x : Valued) → and_then (and_then x one_given) (λ t. and_then (or_fault UnknownFunction (callee_among (choose (found_in builtins word) (λ ty. Some (Told (Convert ty))) o) (found names.kernels word))) (value_by t.0 t.1))
          ≡ and_then x (called o)
      taken_value o (Ok v) = refl
      taken_value o (Err i) = refl

      by_type : Agree a (value_of names a e) (formula_of names e) → (o : Option Ty) → Agree a
          (and_then (and_then (value_of names a e) one_given) (λ t. and_then (or_fault UnknownFunction (callee_among (choose (found_in builtins word) (λ ty. Some (Told (Convert ty))) o) (found names.kernels word))) (value_by t.0 t.1)))
          (and_then (or_fault Syntax o) (λ ty. and_then (formula_of names e) (λ f. Ok (formula.convert ty f))))
      by_type agreed None = no_formula a
          (and_then (and_then (value_of names a e) one_given) (λ t. and_then (or_fault UnknownFunction (callee_among (choose (found_in builtins word) (λ ty. Some (Told (Convert ty))) None) (found names.kernels word))) (value_by t.0 t.1))) Syntax
      by_type agreed (Some ty) =
          subst (λ (x : Valued). Agree a x (and_then (formula_of names e) (λ f. Ok (formula.convert ty f)))) (sym (taken_value (Some ty) (value_of names a e)))
          (by_parts ty (value_of names a e) (formula_of names e) agreed)
  agree (call word (value (value front d) e)) a g inside = unread a word (value (value front d) e) refl
  agree (call word (value (text front t) e)) a g inside = unread a word (value (text front t) e) refl
  agree (call word (value (of_type front u) e)) a g inside = unread a word (value (of_type front u) e) refl
  agree (call word (text front t)) a g inside = unread a word (text front t) refl
  agree (call word (of_type front u)) a g inside = unread a word (of_type front u) refl

agreed : (a : Arrays) (x : Valued) (y : Formed) (v : Arrays × ℕ) (f : formula.FormulaTree) → Agree a x y → x ≡ Ok v → y ≡ Ok f → IsSound v.0.world → meaning (array_in a) f ≡ Ok (array_in v.0 v.1)
agreed a x y v f h is_v is_f = subst (λ (z : Formed). Agree a (Ok v) z) is_f (subst (λ (z : Valued). Agree a z y) is_v h)

pub formulas_are_values : Laws → FormulasAreValues
formulas_are_values laws s e v f whole is_v is_f =
    let order : IsInOrder s = in_order s whole in
    agreed s.arrays (value_of s.names s.arrays e) (formula_of s.names e) v f (agree laws s.names e s.arrays (grows_self s order) order.inside) is_v is_f

-- ---- what is read as a formula is one

count_in : (z : ℤ) → IsCount z → InRange (type_of (z ∷ [])) z
count_in (negsuc n) c = let l = c.least in absurd (omega (arith, ints, l))
count_in (pos n) c = by_width (nat_lt 2147483647 n) refl
  where
    by_width : (b : Bool) → nat_lt 2147483647 n ≡ b → InRange (if b || false then Longlong else Long) (pos n)
    by_width true is = let m = c.most in (omega (arith, ints), omega (arith, ints, m))
    by_width false is = let low : n ≤ 2147483647 = ltb-false 2147483647 n is in (omega (arith, ints), omega (arith, ints, low))

mutual
  formed_well : (names : Names) (e : Tree) → is_formula e ≡ true → AreArrays e → IfOk (formula_of names e) formula.IsFormula
  formed_well names (number z) is made = count_in z made
  formed_well names (named x) is made = ok_always formula.IsFormula (bound_to names x) (λ v. Ok (formula.array v)) (λ v. tt)
  formed_well names (literal ty ds es) is made = tt
  formed_well names (unary op e) is made =
      ok_then formula.IsFormula formula.IsFormula (formula_of names e) (λ f. Ok (formula.unary op f)) (formed_well names e is made) (λ f h. h)
  formed_well names (binary op d e) is made =
      let tests = and_parts (not (divides op) && is_formula d) (is_formula e) is in
      let sides = and_parts (not (divides op)) (is_formula d) tests.0 in
      ok_then formula.IsFormula formula.IsFormula (formula_of names d) (λ f. and_then (formula_of names e) (λ i. Ok (formula.binary op f i))) (formed_well names d sides.1 made.0) (λ f first.
      ok_then formula.IsFormula formula.IsFormula (formula_of names e) (λ i. Ok (formula.binary op f i)) (formed_well names e tests.1 made.1) (λ i second.
      (not-true (divides op) sides.0, first, second)))
  formed_well names (call word args) is made =
      let tests = and_parts (is_some (type_named word)) (is_one_formula args) is in
      ok_always formula.IsFormula (or_fault Syntax (type_named word)) (λ ty. and_then (operand_of names args) (λ f. Ok (formula.convert ty f))) (λ ty.
      ok_then formula.IsFormula formula.IsFormula (operand_of names args) (λ f. Ok (formula.convert ty f)) (operand_well names args tests.1 made) (λ f h. h))

  operand_well : (names : Names) (args : Args) → is_one_formula args ≡ true → AreArgArrays args → IfOk (operand_of names args) formula.IsFormula
  operand_well names none is made = tt
  operand_well names (value none e) is made = formed_well names e is made.1
  operand_well names (value (value front d) e) is made = tt
  operand_well names (value (text front t) e) is made = tt
  operand_well names (value (of_type front ty) e) is made = tt
  operand_well names (text front t) is made = tt
  operand_well names (of_type front ty) is made = tt

-- ---- one flow more

above_with : (n : ℕ) (flows : Flows) (f : Flow) → RootsAbove n flows → n < f.root → RootsAbove n (flows ++ f ∷ [])
above_with n [] f h lt = (lt, tt)
above_with n (x ∷ flows) f h lt = (h.0, above_with n flows f h.1 lt)

-- each root is in the world, below the next number
abbrev AreBelow : ℕ → Flows → Type 0
AreBelow n [] = Unit {0}
AreBelow n (f ∷ flows) = (f.root < n) × AreBelow n flows

more_flows : (a : Arrays) (flows : Flows) (f : Flow) → AreFlows a flows → AreBelow f.root flows → IsFlow a f → AreFlows a (flows ++ f ∷ [])
more_flows a [] f h below new = (new, tt, tt)
more_flows a (x ∷ flows) f h below new = (h.0, above_with x.root flows f h.1 below.0, more_flows a flows f h.2 below.1 new)

roots_below : (a : Arrays) (n : ℕ) → ((r : ℕ) → IsLive a.world r → r < n) → (flows : Flows) → AreFlows a flows → AreBelow n flows
roots_below a n below [] h = tt
roots_below a n below (f ∷ flows) h = (below f.root (flow_live a f h.0), roots_below a n below flows h.2)

-- a statement leaves flows, where its arrays are sound
abbrev LeavesFlows : State × List ℕ → Type 0
LeavesFlows p = IsSound p.0.arrays.world → AreFlows p.0.arrays p.0.flows

flowing_flows : Laws → (s : State) → IsWhole s → (x : List ℕ) (e : Tree) → is_formula e ≡ true → AreArrays e → (v : Arrays × ℕ) → value_of s.names s.arrays e ≡ Ok v → FineValue s.arrays v → IfOk (flowing s x e v) LeavesFlows
flowing_flows laws s whole x e is made v is_v fine = by_formula (formula_of s.names e) refl (formed_well s.names e is made) (formula_in s.arrays.world s.names e order.inside)
  where
    order : IsInOrder s
    order = in_order s whole

    n : ℕ
    n = v.0.next

    m : Made
    m = array_in v.0 v.1

    b : Arrays
    b = (with_new v.0 (root m.ty m.dims m.elems)).0

    grown : AreGrown s.arrays b
    grown = grown_trans s.arrays v.0 b fine.2 (record { more = (n, root m.ty m.dims m.elems) ∷ []; is = refl })

    low : (r : ℕ) → IsLive s.arrays.world r → r < n
    low r live = below_in n v.0.world r fine.0.below (fine.0.still r (live_inside s.arrays.world r live))

    older : IsSound b.world → (ks : List ℕ) → AreIn s.arrays.world ks → AreOlder b.world n ks
    older sound [] there = tt
    older sound (k ∷ ks) there =
        let live : IsLive s.arrays.world k = sound_live laws.worlds s.arrays.world k whole.sound there.0 in
        (low k live, live_as s.arrays.world b.world k (grown_seen laws.worlds s.arrays b grown (orderly_sound b.world sound) k live).look_is live, older sound ks there.1)

    made_flows : (f : formula.FormulaTree) → formula_of s.names e ≡ Ok f → formula.IsFormula f → AreIn s.arrays.world (formula.arrays_in f) → IsSound b.world → AreFlows b (s.flows ++ record { root = n; formula = f } ∷ [])
    made_flows f is_f well there sound =
        more_flows b s.flows (record { root = n; formula = f }) (grown_flows laws.worlds s.arrays b grown (orderly_sound b.world sound) s.flows whole.flows) (roots_below s.arrays n low s.flows whole.flows)
        (record {
          seen = look_of_root n m.ty m.dims;
          is_root = record { look_is = laws.new_whole v.0.world n m.ty m.dims m.elems; path_is = laws.new_path v.0.world n m.ty m.dims m.elems };
          is_formula = well;
          older = older sound (formula.arrays_in f) there;
          equals = meaning_same (array_in b) (array_in s.arrays) f (reads_same laws.worlds s.arrays b grown sound (formula.arrays_in f) there)
              ∙ formulas_are_values laws s e v f whole is_v is_f sound.2 ∙ ap value_is (sym (new_shows laws.new_seen v.0 m sound));
        })

    by_formula : (y : Formed) → formula_of s.names e ≡ y → IfOk y formula.IsFormula → IfOk y (λ f. AreIn s.arrays.world (formula.arrays_in f))
        → IfOk (and_then y (λ f. bound (begun s v.0 f) x (new_root v.0 (array_in v.0 v.1)))) LeavesFlows
    by_formula (Err d) is_f well there = tt
    by_formula (Ok f) is_f well there =
        ok_always LeavesFlows (bind_name s.names x n) (λ names. Ok (record (begun s v.0 f) { names = names; arrays = b }, [])) (λ names. made_flows f is_f well there)

-- ---- each statement

-- only new arrays came, and the flows are those that were there
grown_leaves : Laws → (s : State) → IsWhole s → (x : Stepped) → IfOk x (GrownStep s) → IfOk x (SameRest s) → IfOk x LeavesFlows
grown_leaves laws s whole (Err e) grown same = tt
grown_leaves laws s whole (Ok p) grown same = λ sound.
    subst (AreFlows p.0.arrays) (sym same.1) (grown_flows laws.worlds s.arrays p.0.arrays grown (orderly_sound p.0.arrays.world sound) s.flows whole.flows)

-- nothing came
still_leaves : (s : State) → IsWhole s → (names : Names) (ws : List (Option ℕ)) (t : List ℕ) → LeavesFlows (record s { names = names; watches = ws }, t)
still_leaves s whole names ws t sound = whole.flows

severed_leaves : Laws → (s : State) → IsWhole s → (x : List ℕ) (v : Arrays × ℕ) → FineValue s.arrays v → IfOk (bind_severed s x v) LeavesFlows
severed_leaves laws s whole x v fine =
    ok_always LeavesFlows (bind_name s.names x v.1) (λ names. Ok (record (ending s v.1) { names = names; arrays = cut v.0 v.1 }, [])) (λ names sound.
    cut_flows laws.worlds laws.others s.arrays v.0 fine.2 whole.sound fine.0.orderly v.1 (without_flow s.flows v.1) (flows_without s.arrays s.flows v.1 whole.flows) (not_without s.flows v.1) (cut v.0 v.1) refl)

reshaping_leaves : Laws → (s : State) → IsWhole s → (v : ℕ) → in_world s.arrays.world v ≡ true → (t : Arrays × List Given) → FineTaken s.arrays t → IfOk (reshaping s v t) LeavesFlows
reshaping_leaves laws s whole v here (b, given) fine =
    ok_always LeavesFlows (dims_given (b, given)) (λ ds. and_then (reshaped s.watches s.flows b v ds) (λ a. Ok (with_arrays s a, []))) (λ ds.
    by_tests ds (breaks b.world v ds) (is_watched s.watches b.world v) (is_flow s.flows v) (is_read s.flows b.world v) refl refl)
  where
    by_tests : (ds : List ℕ) (x y z r : Bool) → is_flow s.flows v ≡ z → is_read s.flows b.world v ≡ r
        → IfOk (and_then (refused_by x y z r (record b { world = reshape b.world v ds })) (λ a. Ok (with_arrays s a, []))) LeavesFlows
    by_tests ds true y z r clear unread = tt
    by_tests ds false true z r clear unread = tt
    by_tests ds false false true r clear unread = tt
    by_tests ds false false false true clear unread = tt
    by_tests ds false false false false clear unread = λ sound.
        reshape_flows laws.worlds s.arrays b fine.2 whole.sound fine.0.orderly v (sound_live laws.worlds s.arrays.world v whole.sound here) ds s.flows whole.flows clear unread

effect_leaves : Laws → (present : List Bool) (s : State) → IsWhole s → (statement : StatementTree) → IsWellMade statement → (Assigns statement → ⊥) → IfOk (effect present s statement) LeavesFlows
effect_leaves laws present s whole (bind x e false) made other =
    let order : IsInOrder s = in_order s whole in
    grown_leaves laws s whole (bound s x (value_of s.names s.arrays e)) (bound_grown s x (value_of s.names s.arrays e) (grown_value s.arrays (value_of s.names s.arrays e) (state_value_fine s order e)))
    (bound_rest s x (value_of s.names s.arrays e))
effect_leaves laws present s whole (bind x e true) made other =
    ok_then (FineValue s.arrays) LeavesFlows (value_of s.names s.arrays e) (bind_severed s x) (state_value_fine s (in_order s whole) e) (severed_leaves laws s whole x)
effect_leaves laws present s whole (bind_list xs e) made other =
    grown_leaves laws s whole (effect present s (bind_list xs e)) (several_grown s (in_order s whole) xs e) (several_rest s xs e)
effect_leaves laws present s whole (assign x views sign e) made other = absurd (other tt)
effect_leaves laws present s whole (show e is_info) made other =
    ok_then (FineValue s.arrays) LeavesFlows (value_of s.names s.arrays e) (λ v. Ok (after_printing s is_info v)) (state_value_fine s (in_order s whole) e) (λ v fine.
    grown_leaves laws s whole (Ok (after_printing s is_info v)) fine.2 (refl, refl))
effect_leaves laws present s whole (show_text t) made other = still_leaves s whole s.names s.watches t
effect_leaves laws present s whole (sever x) made other =
    ok_always LeavesFlows (bound_to s.names x) (severing s) (λ v sound.
    cut_flows laws.worlds laws.others s.arrays s.arrays (grown_self s.arrays) whole.sound (orderly_sound s.arrays.world whole.sound) v (without_flow s.flows v) (flows_without s.arrays s.flows v whole.flows) (not_without s.flows v) (cut s.arrays v) refl)
effect_leaves laws present s whole (reshapes x sizes) made other =
    let order : IsInOrder s = in_order s whole in
    ok_then (λ v. in_world s.arrays.world v ≡ true) LeavesFlows (bound_to s.names x) (λ v. and_then (taken s.names s.arrays sizes) (reshaping s v)) (bound_to_fine s x order) (λ v here.
    ok_then (FineTaken s.arrays) LeavesFlows (taken s.names s.arrays sizes) (reshaping s v) (taken_fine s.names sizes s.arrays (grows_self s order) order.inside) (reshaping_leaves laws s whole v here))
effect_leaves laws present s whole (undef x) made other =
    ok_always LeavesFlows (unbind s.names x) (λ names. Ok (record s { names = names }, [])) (λ names. still_leaves s whole names s.watches [])
effect_leaves laws present s whole vars made other = λ sound. whole.flows
effect_leaves laws present s whole dump made other = ok_always LeavesFlows (dumped s) (λ t. Ok (s, t)) (λ t sound. whole.flows)
effect_leaves laws present s whole (flow x e) made other =
    by_value (value_of s.names s.arrays e) refl (state_value_fine s (in_order s whole) e)
  where
    by_value : (y : Valued) → value_of s.names s.arrays e ≡ y → IfOk y (FineValue s.arrays) → IfOk (and_then y (flowing s x e)) LeavesFlows
    by_value (Ok v) is fine = flowing_flows laws s whole x e made.1 made.2 v is fine
    by_value (Err d) is fine = tt
effect_leaves laws present s whole (pp_def f a b) made other =
    ok_always LeavesFlows (defined f a b) (kernel_named s f) (λ k. ok_always LeavesFlows (define s.names f k) (λ names. Ok (record s { names = names }, [])) (λ names. still_leaves s whole names s.watches []))
effect_leaves laws present s whole (watch x k) made other =
    ok_always LeavesFlows (bound_to s.names x) (watching present s k) (λ v.
    ok_always LeavesFlows (attaching present s.watches k v) (λ ws. Ok (record s { watches = ws }, [])) (λ ws. still_leaves s whole s.names ws []))
effect_leaves laws present s whole (unwatch k) made other =
    ok_always LeavesFlows (detaching s.watches k) (λ ws. Ok (record s { watches = ws }, [])) (λ ws. still_leaves s whole s.names ws [])

pub others_keep_flows : Laws → OthersKeepFlows
others_keep_flows laws present s statement after whole made other is =
    subst (λ (x : Stepped). IfOk x LeavesFlows) is (effect_leaves laws present s whole statement made other)
