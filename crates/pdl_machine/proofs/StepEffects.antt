-- A statement does the same with arrays that differ in their numbers.
use Rattle.std.proofs.Common.{◌≡◌, ℕ, List, [], ◌∷◌, ◌++◌, map, Bool, true, false, Option, Some, None, Result, Ok, Err, refl, sym, ap, subst, ◌∙◌, nat_eq}
use Rattle.std.specs.Prelude.{if◌then◌else◌, option_map, ◌&&◌, is_none}
use Rattle.std.specs.List.{flat_map}
use Rattle.std.proofs.lemmas.List.{map-append}
use Rattle.std.specs.Cmp.Lexicographic.{pointwise}
use Rattle.pdl_lemmas.specs.Tests.{by_test}
use Rattle.pdl_world.specs.Cut.{breaks, reshape}
use Rattle.pdl_syntax.specs.Tree.{Tree, Args, number, named, literal, unary, binary, call, none, value, text, of_type}
use Rattle.pdl_syntax.specs.StatementTree.{StatementTree, bind, bind_list, assign, show, show_text, sever, reshape as reshapes, undef, vars, dump, flow, pp_def, watch, unwatch}
use Rattle.pdl_machine.specs.declared.fault.Fault.{Fault}
use Rattle.pdl_machine.specs.declared.fault.Fault.TheVariants.{FlowReads, FlowTarget, Syntax, UnknownName, BadWatcher, ReshapeBreaks, StillWatched}
use Rattle.pdl_machine.specs.Then.{and_then, or_fault}
use Rattle.pdl_machine.specs.Names.{Named, Names, number_of, without_name, bound_to, unbind}
use Rattle.pdl_machine.specs.Arrays.{Arrays, array_in}
use Rattle.pdl_elem.specs.Types.{type_named}
use Rattle.pdl_flow.specs.Formula as formula
use Rattle.pdl_machine.specs.Flows.{Flows, is_flow, all_read, without_flow, formula_by, flow_by, is_reached}
use Rattle.pdl_machine.specs.Formulas.{formula_of, operand_of}
use Rattle.pdl_machine.specs.State.{State, with_arrays}
use Rattle.pdl_machine.specs.Outcome.{Given, new_root}
use Rattle.pdl_machine.specs.Fills.{numbers_in, dims_for}
use Rattle.pdl_machine.specs.Cuts.{cut, dims_given, reshaped, is_watched, is_read}
use Rattle.pdl_machine.specs.Watches.{Watches, watch_of, attached, attach, detach, is_present, attaching, detaching}
use Rattle.pdl_machine.specs.Kernels.{defined}
use Rattle.pdl_machine.specs.Dumps.{dumped}
use Rattle.pdl_machine.specs.Value.{value_of, taken}
use Rattle.pdl_machine.specs.Tidy.{renumbered, with_numbers}
use Rattle.pdl_machine.specs.Step.{Stepped, list_bound, several_bound, target, after_printing, name_line, kernel_named, ending, bind_severed, begun, flowing, bound, severing, reshaping, watching, unwatching, effect}
use Rattle.pdl_machine.proofs.ArraysRenamed.{AreAlike, StateAlike, sever_renamed, reshape_renamed, breaks_renamed}
use Rattle.pdl_machine.proofs.ThenBoth.{Both, both_then, both_same}
use Rattle.pdl_machine.proofs.FlowLemmas.{flow_of, is_flow_by, all_read_by, without_flow_by, reached_by}
use Rattle.pdl_machine.proofs.WatchLemmas.{is_none-map, watch_of_renamed, attached_renamed, attach_renamed, detach_renamed}
use Rattle.pdl_machine.proofs.DumpLemmas.{dumped_alike}
use Rattle.pdl_machine.proofs.StepValues.{unary_alike, bind_value_alike, ValueAlike, TakenAlike, StepAlike, taken_seen, number_of_alike, bound_alike, list_alike, state_value_alike, state_taken_alike, assigning_alike, shown_alike, lines_alike, define_alike}

-- a cut on both sides
cut_alike : (g : ℕ → ℕ) (a b : Arrays) → AreAlike true g a b → (v u : ℕ) → u ≡ g v → AreAlike true g (cut a v) (cut b u)
cut_alike g a b h v u same =
    let P : ℕ → Type 0 = λ i. AreAlike true g (cut a v) (cut b i) in
    subst P (sym same) (record { apart = h.apart; world = sever_renamed g h.apart h.world v; next = h.next; on = h.on })

-- without the flow of a root on both sides
ending_alike : (g : ℕ → ℕ) (s t : State) → StateAlike true g s t → (v u : ℕ) → u ≡ g v → StateAlike true g (ending s v) (ending t u)
ending_alike g s t h v u same = record {
  arrays = h.arrays;
  names = h.names;
  watches = h.watches;
  flows = ap (without_flow t.flows) same ∙ ap (λ (flows : Flows). without_flow flows (g v)) h.flows ∙ without_flow_by g h.arrays.apart s.flows v;
}

bind_severed_alike : (g : ℕ → ℕ) (s t : State) → StateAlike true g s t → (x : List ℕ) (v u : Arrays × ℕ) → ValueAlike g v u → Both (StepAlike g) (bind_severed s x v) (bind_severed t x u)
bind_severed_alike g s t h x v u alike =
    bind_value_alike g (ending s v.1) (ending t u.1) (ending_alike g s t h v.1 u.1 alike.1) x (cut v.0 v.1, v.1) (cut u.0 u.1, u.1)
    (cut_alike g v.0 u.0 alike.0 v.1 u.1 alike.1, alike.1)

-- the array of a name on both sides
abbrev NumberAlike : (ℕ → ℕ) → ℕ → ℕ → Type 0
NumberAlike g v u = u ≡ g v

bound_to_alike : (g : ℕ → ℕ) (s t : State) → StateAlike true g s t → (x : List ℕ) → Both (NumberAlike g) (bound_to s.names x) (bound_to t.names x)
bound_to_alike g s t h x =
    let P : Option ℕ → Type 0 = λ o. Both (NumberAlike g) (bound_to s.names x) (or_fault UnknownName o) in
    let number : number_of t.names x ≡ option_map g (number_of s.names x) = ap (λ n. number_of n x) h.names ∙ number_of_alike g s.names x in
    subst P (sym number) (by_number (number_of s.names x))
  where
    by_number : (o : Option ℕ) → Both (NumberAlike g) (or_fault UnknownName o) (or_fault UnknownName (option_map g o))
    by_number None = refl
    by_number (Some v) = refl

severing_alike : (g : ℕ → ℕ) (s t : State) → StateAlike true g s t → (v u : ℕ) → u ≡ g v → Both (StepAlike g) (severing s v) (severing t u)
severing_alike g s t h v u same =
    (record { arrays = cut_alike g s.arrays t.arrays h.arrays v u same; names = h.names; watches = h.watches; flows = (ending_alike g s t h v u same).flows }, refl)

-- the same arrays are watched on both sides
watched_alike : (g : ℕ → ℕ) (a b : Arrays) → AreAlike true g a b → (ws : Watches) (v : ℕ) → is_watched (map (option_map g) ws) b.world (g v) ≡ is_watched ws a.world v
watched_alike g a b h ws v = ap (λ (us : List ℕ). is_reached b.world us (g v)) (attached_renamed g ws) ∙ reached_by g h.apart h.world (attached ws) v

-- and read
read_alike : (g : ℕ → ℕ) (a b : Arrays) → AreAlike true g a b → (flows : Flows) (v : ℕ) → is_read (map (flow_by g) flows) b.world (g v) ≡ is_read flows a.world v
read_alike g a b h flows v = ap (λ (us : List ℕ). is_reached b.world us (g v)) (all_read_by g flows) ∙ reached_by g h.apart h.world (all_read flows) v

abbrev refused_by : (breaks watched flows reads : Bool) → Arrays → Result Arrays Fault
refused_by x y z r a = if x then Err ReshapeBreaks else if y then Err StillWatched else if z then Err FlowTarget else if r then Err FlowReads else Ok a

-- other dimensions on both sides
reshaped_alike : (g : ℕ → ℕ) (ws : Watches) (flows : Flows) (a b : Arrays) → AreAlike true g a b → (v u : ℕ) → u ≡ g v → (ds : List ℕ)
    → Both (AreAlike true g) (reshaped ws flows a v ds) (reshaped (map (option_map g) ws) (map (flow_by g) flows) b u ds)
reshaped_alike g ws flows a b h v u same ds =
    let P : ℕ → Type 0 = λ i. Both (AreAlike true g) (reshaped ws flows a v ds) (reshaped (map (option_map g) ws) (map (flow_by g) flows) b i ds) in
    let tests : refused_by (breaks b.world (g v) ds) (is_watched (map (option_map g) ws) b.world (g v)) (is_flow (map (flow_by g) flows) (g v)) (is_read (map (flow_by g) flows) b.world (g v)) (other b (g v))
    ≡ refused_by (breaks a.world v ds) (is_watched ws a.world v) (is_flow flows v) (is_read flows a.world v) (other b (g v)) =
    all_same (breaks_renamed g h.apart h.world v ds) (watched_alike g a b h ws v) (is_flow_by g h.apart flows v) (read_alike g a b h flows v) in
    subst P (sym same) (subst (Both (AreAlike true g) (reshaped ws flows a v ds)) (sym tests) (by_tests (breaks a.world v ds) (is_watched ws a.world v) (is_flow flows v) (is_read flows a.world v)))
  where
    other : Arrays → ℕ → Arrays
    other a v = record a { world = reshape a.world v ds }

    all_same : {x x' y y' z z' r r' : Bool} → x ≡ x' → y ≡ y' → z ≡ z' → r ≡ r' → refused_by x y z r (other b (g v)) ≡ refused_by x' y' z' r' (other b (g v))
    all_same p q o n = cc

    by_tests : (x y z r : Bool) → Both (AreAlike true g) (refused_by x y z r (other a v)) (refused_by x y z r (other b (g v)))
    by_tests true y z r = refl
    by_tests false true z r = refl
    by_tests false false true r = refl
    by_tests false false false true = refl
    by_tests false false false false = record { apart = h.apart; world = reshape_renamed g h.apart h.world v ds; next = h.next; on = h.on }

reshaping_alike : (g : ℕ → ℕ) (s t : State) → StateAlike true g s t → (v u : ℕ) → u ≡ g v → (x y : Arrays × List Given) → TakenAlike g x y → Both (StepAlike g) (reshaping s v x) (reshaping t u y)
reshaping_alike g s t h v u same x y taken =
    let last : State → ℕ → Arrays → List ℕ → Stepped = λ s v a ds. and_then (reshaped s.watches s.flows a v ds) (λ b. Ok (with_arrays s b, [])) in
    let W : List ℕ → Watches → Flows → Type 0 = λ ds ws flows. Both (AreAlike true g) (reshaped s.watches s.flows x.0 v ds) (reshaped ws flows y.0 u ds) in
    let P : Result (List ℕ) Fault → Type 0 = λ ds. Both (StepAlike g) (reshaping s v x) (and_then ds (last t u y.0)) in
    subst P (ap (λ seen. and_then (numbers_in seen) dims_for) (sym (taken_seen g x y taken))) (both_same (StepAlike g) (dims_given x) (last s v x.0) (last t u y.0) (λ ds.
    both_then (AreAlike true g) (StepAlike g) (reshaped s.watches s.flows x.0 v ds) (reshaped t.watches t.flows y.0 u ds) (λ a. Ok (with_arrays s a, [])) (λ a. Ok (with_arrays t a, []))
    (subst (λ (flows : Flows). W ds t.watches flows) (sym h.flows) (subst (λ (ws : Watches). W ds ws (map (flow_by g) s.flows)) (sym h.watches) (reshaped_alike g s.watches s.flows x.0 y.0 taken.0 v u same ds)))
    (λ a b alike. (record { arrays = alike; names = h.names; watches = h.watches; flows = h.flows }, refl))))

-- a name less on both sides
without_alike : (g : ℕ → ℕ) (names : Named ℕ) (x : List ℕ) → without_name (renumbered g names) x ≡ renumbered g (without_name names x)
without_alike g [] x = refl
without_alike g (n ∷ names) x =
    by_test (pointwise nat_eq x n.0) (λ same. rw same refl) (λ other. rw other (ap (λ y. (n.0, g n.1) ∷ y) (without_alike g names x)))

unbind_alike : (g : ℕ → ℕ) (s t : State) → StateAlike true g s t → (x : List ℕ)
    → Both (StepAlike g) (and_then (unbind s.names x) (λ names. Ok (record s { names = names }, []))) (and_then (unbind t.names x) (λ names. Ok (record t { names = names }, [])))
unbind_alike g s t h x =
    both_then (λ n m. m ≡ with_numbers g n) (StepAlike g) (unbind s.names x) (unbind t.names x) (λ names. Ok (record s { names = names }, [])) (λ names. Ok (record t { names = names }, []))
    (both_then (NumberAlike g) (λ n m. m ≡ with_numbers g n) (bound_to s.names x) (bound_to t.names x) (λ v. Ok (without s.names)) (λ v. Ok (without t.names))
    (bound_to_alike g s t h x) (λ v u same. ap without h.names ∙ ap (λ arrays. beside s.names arrays) (without_alike g s.names.arrays x)))
    (λ n m same. (record { arrays = h.arrays; names = same; watches = h.watches; flows = h.flows }, refl))
  where
    beside : Names → Named ℕ → Names
    beside names arrays = record names { arrays = arrays }

    without : Names → Names
    without names = record names { arrays = without_name names.arrays x }

-- names of the outputs of an expression on both sides
several_alike : (g : ℕ → ℕ) (s t : State) → StateAlike true g s t → (xs : List (List ℕ)) (e : Tree) → Both (StepAlike g) (several_bound s xs e) (several_bound t xs e)
several_alike g s t h xs (call f args) =
    both_then (TakenAlike g) (StepAlike g) (taken s.names s.arrays args) (taken t.names t.arrays args) (list_bound s xs f) (list_bound t xs f)
    (state_taken_alike g s t h args) (list_alike g s t h xs f)
several_alike g s t h xs (number n) = refl
several_alike g s t h xs (named x) = refl
several_alike g s t h xs (literal ty ds es) = refl
several_alike g s t h xs (unary op e) = refl
several_alike g s t h xs (binary op e f) = refl

-- a slot attached on both sides
attaching_alike : (present : List Bool) (g : ℕ → ℕ) (ws : Watches) (k v : ℕ) → Both (λ us xs. xs ≡ map (option_map g) us) (attaching present ws k v) (attaching present (map (option_map g) ws) k (g v))
attaching_alike present g ws k v =
    let P : Bool → Type 0 = λ b. Both (λ us xs. xs ≡ map (option_map g) us) (attaching present ws k v)
    (if is_present present k && b then Ok (attach (map (option_map g) ws) k (g v)) else Err BadWatcher) in
    subst P (sym (ap is_none (watch_of_renamed g ws k) ∙ is_none-map g (watch_of ws k))) (by_room (is_present present k && is_none (watch_of ws k)))
  where
    by_room : (b : Bool) → Both (λ us xs. xs ≡ map (option_map g) us) (if b then Ok (attach ws k v) else Err BadWatcher) (if b then Ok (attach (map (option_map g) ws) k (g v)) else Err BadWatcher)
    by_room true = attach_renamed g ws k v
    by_room false = refl

detaching_alike : (g : ℕ → ℕ) (ws : Watches) (k : ℕ) → Both (λ us xs. xs ≡ map (option_map g) us) (detaching ws k) (detaching (map (option_map g) ws) k)
detaching_alike g ws k =
    let P : Bool → Type 0 = λ b. Both (λ us xs. xs ≡ map (option_map g) us) (detaching ws k) (if b then Err BadWatcher else Ok (detach (map (option_map g) ws) k)) in
    subst P (sym (ap is_none (watch_of_renamed g ws k) ∙ is_none-map g (watch_of ws k))) (by_slot (is_none (watch_of ws k)))
  where
    by_slot : (b : Bool) → Both (λ us xs. xs ≡ map (option_map g) us) (if b then Err BadWatcher else Ok (detach ws k)) (if b then Err BadWatcher else Ok (detach (map (option_map g) ws) k))
    by_slot true = refl
    by_slot false = detach_renamed g ws k

-- other watches on both sides
watches_alike : (g : ℕ → ℕ) (s t : State) → StateAlike true g s t → (x y : Result Watches Fault) → Both (λ us xs. xs ≡ map (option_map g) us) x y
    → Both (StepAlike g) (and_then x (λ ws. Ok (record s { watches = ws }, []))) (and_then y (λ ws. Ok (record t { watches = ws }, [])))
watches_alike g s t h x y both =
    both_then (λ us xs. xs ≡ map (option_map g) us) (StepAlike g) x y (λ ws. Ok (record s { watches = ws }, [])) (λ ws. Ok (record t { watches = ws }, []))
    both (λ us xs same. (record { arrays = h.arrays; names = h.names; watches = same; flows = h.flows }, refl))

watching_alike : (present : List Bool) (g : ℕ → ℕ) (s t : State) → StateAlike true g s t → (k v u : ℕ) → u ≡ g v → Both (StepAlike g) (watching present s k v) (watching present t k u)
watching_alike present g s t h k v u same =
    let P : Watches → ℕ → Type 0 = λ ws i. Both (λ us xs. xs ≡ map (option_map g) us) (attaching present s.watches k v) (attaching present ws k i) in
    watches_alike g s t h (attaching present s.watches k v) (attaching present t.watches k u)
    (subst (P t.watches) (sym same) (subst (λ (ws : Watches). P ws (g v)) (sym h.watches) (attaching_alike present g s.watches k v)))

unwatching_alike : (g : ℕ → ℕ) (s t : State) → StateAlike true g s t → (k : ℕ) → Both (StepAlike g) (unwatching s k) (unwatching t k)
unwatching_alike g s t h k =
    let P : Watches → Type 0 = λ ws. Both (λ us xs. xs ≡ map (option_map g) us) (detaching s.watches k) (detaching ws k) in
    watches_alike g s t h (detaching s.watches k) (detaching t.watches k) (subst P (sym h.watches) (detaching_alike g s.watches k))

-- a formula on both sides
abbrev FormulaAlike : (ℕ → ℕ) → formula.FormulaTree → formula.FormulaTree → Type 0
FormulaAlike g f h = h ≡ formula_by g f

named_alike : (g : ℕ → ℕ) (names : Names) (x : List ℕ) → Both (NumberAlike g) (bound_to names x) (bound_to (with_numbers g names) x)
named_alike g names x =
    let P : Option ℕ → Type 0 = λ o. Both (NumberAlike g) (bound_to names x) (or_fault UnknownName o) in
    subst P (sym (number_of_alike g names x)) (by_number (number_of names x))
  where
    by_number : (o : Option ℕ) → Both (NumberAlike g) (or_fault UnknownName o) (or_fault UnknownName (option_map g o))
    by_number None = refl
    by_number (Some v) = refl

mutual
  formula_alike : (g : ℕ → ℕ) (names : Names) (e : Tree) → Both (FormulaAlike g) (formula_of names e) (formula_of (with_numbers g names) e)
  formula_alike g names (number z) = refl
  formula_alike g names (named x) =
      both_then (NumberAlike g) (FormulaAlike g) (bound_to names x) (bound_to (with_numbers g names) x) (λ v. Ok (formula.array v)) (λ v. Ok (formula.array v))
      (named_alike g names x) (λ v u same. ap formula.array same)
  formula_alike g names (literal ty ds es) = refl
  formula_alike g names (unary op e) =
      both_then (FormulaAlike g) (FormulaAlike g) (formula_of names e) (formula_of (with_numbers g names) e) (λ f. Ok (formula.unary op f)) (λ f. Ok (formula.unary op f))
      (formula_alike g names e) (λ f h same. ap (formula.unary op) same)
  formula_alike g names (binary op d e) =
      both_then (FormulaAlike g) (FormulaAlike g) (formula_of names d) (formula_of (with_numbers g names) d)
      (λ f. and_then (formula_of names e) (λ i. Ok (formula.binary op f i))) (λ f. and_then (formula_of (with_numbers g names) e) (λ i. Ok (formula.binary op f i)))
      (formula_alike g names d) (λ f h same.
      both_then (FormulaAlike g) (FormulaAlike g) (formula_of names e) (formula_of (with_numbers g names) e) (λ i. Ok (formula.binary op f i)) (λ i. Ok (formula.binary op h i))
      (formula_alike g names e) (λ i j also. ap (λ (k : formula.FormulaTree). formula.binary op k j) same ∙ ap (formula.binary op (formula_by g f)) also))
  formula_alike g names (call word args) =
      both_same (FormulaAlike g) (or_fault Syntax (type_named word)) (λ ty. and_then (operand_of names args) (λ f. Ok (formula.convert ty f)))
      (λ ty. and_then (operand_of (with_numbers g names) args) (λ f. Ok (formula.convert ty f))) (λ ty.
      both_then (FormulaAlike g) (FormulaAlike g) (operand_of names args) (operand_of (with_numbers g names) args) (λ f. Ok (formula.convert ty f)) (λ f. Ok (formula.convert ty f))
      (operand_alike g names args) (λ f h same. ap (formula.convert ty) same))

  operand_alike : (g : ℕ → ℕ) (names : Names) (args : Args) → Both (FormulaAlike g) (operand_of names args) (operand_of (with_numbers g names) args)
  operand_alike g names none = refl
  operand_alike g names (value none e) = formula_alike g names e
  operand_alike g names (value (value front d) e) = refl
  operand_alike g names (value (text front t) e) = refl
  operand_alike g names (value (of_type front ty) e) = refl
  operand_alike g names (text front t) = refl
  operand_alike g names (of_type front ty) = refl

-- one flow more on both sides
begun_alike : (g : ℕ → ℕ) (s t : State) → StateAlike true g s t → (a b : Arrays) → AreAlike true g a b → (f h : formula.FormulaTree) → h ≡ formula_by g f → StateAlike true g (begun s a f) (begun t b h)
begun_alike g s t alike a b new f h same = record {
  arrays = alike.arrays;
  names = alike.names;
  watches = alike.watches;
  flows = ap (λ (flows : Flows). flows ++ flow_of b.next h ∷ []) alike.flows
      ∙ ap (λ (r : ℕ). map (flow_by g) s.flows ++ flow_of r h ∷ []) new.next
      ∙ ap (λ (x : formula.FormulaTree). map (flow_by g) s.flows ++ flow_of (g a.next) x ∷ []) same
      ∙ sym (map-append (flow_by g) s.flows (flow_of a.next f ∷ []));
}

flowing_alike : (g : ℕ → ℕ) (s t : State) → StateAlike true g s t → (x : List ℕ) (e : Tree) (v u : Arrays × ℕ) → ValueAlike g v u → Both (StepAlike g) (flowing s x e v) (flowing t x e u)
flowing_alike g s t alike x e v u both =
    let N : Names → Type 0 = λ names. Both (FormulaAlike g) (formula_of s.names e) (formula_of names e) in
    both_then (FormulaAlike g) (StepAlike g) (formula_of s.names e) (formula_of t.names e)
    (λ f. bound (begun s v.0 f) x (new_root v.0 (array_in v.0 v.1))) (λ f. bound (begun t u.0 f) x (new_root u.0 (array_in u.0 u.1)))
    (subst N (sym alike.names) (formula_alike g s.names e)) (λ f h same.
    bound_alike g (begun s v.0 f) (begun t u.0 h) (begun_alike g s t alike v.0 u.0 both.0 f h same) x (new_root v.0 (array_in v.0 v.1)) (new_root u.0 (array_in u.0 u.1))
    (unary_alike g (λ m. m) v u both))

-- a statement does the same on both sides
pub effect_alike : (present : List Bool) (g : ℕ → ℕ) (s t : State) → StateAlike true g s t → (statement : StatementTree) → Both (StepAlike g) (effect present s statement) (effect present t statement)
effect_alike present g s t h (bind x e false) = bound_alike g s t h x (value_of s.names s.arrays e) (value_of t.names t.arrays e) (state_value_alike g s t h e)
effect_alike present g s t h (bind x e true) =
    both_then (ValueAlike g) (StepAlike g) (value_of s.names s.arrays e) (value_of t.names t.arrays e) (bind_severed s x) (bind_severed t x)
    (state_value_alike g s t h e) (bind_severed_alike g s t h x)
effect_alike present g s t h (bind_list xs e) = several_alike g s t h xs e
effect_alike present g s t h (assign x views sign e) = assigning_alike g s t h (target x views) sign e
effect_alike present g s t h (show e is_info) =
    both_then (ValueAlike g) (StepAlike g) (value_of s.names s.arrays e) (value_of t.names t.arrays e) (λ v. Ok (after_printing s is_info v)) (λ v. Ok (after_printing t is_info v))
    (state_value_alike g s t h e) (shown_alike g s t h is_info)
effect_alike present g s t h (show_text x) = (h, refl)
effect_alike present g s t h (sever x) =
    both_then (NumberAlike g) (StepAlike g) (bound_to s.names x) (bound_to t.names x) (severing s) (severing t) (bound_to_alike g s t h x) (severing_alike g s t h)
effect_alike present g s t h (reshapes x sizes) =
    both_then (NumberAlike g) (StepAlike g) (bound_to s.names x) (bound_to t.names x) (λ v. and_then (taken s.names s.arrays sizes) (reshaping s v)) (λ u. and_then (taken t.names t.arrays sizes) (reshaping t u))
    (bound_to_alike g s t h x) (λ v u same.
    both_then (TakenAlike g) (StepAlike g) (taken s.names s.arrays sizes) (taken t.names t.arrays sizes) (reshaping s v) (reshaping t u)
    (state_taken_alike g s t h sizes) (reshaping_alike g s t h v u same))
effect_alike present g s t h (undef x) = unbind_alike g s t h x
effect_alike present g s t h vars = (h, lines_alike g s.arrays t.arrays h.arrays s.names.arrays ∙ ap (λ names. flat_map (name_line t.arrays) names.arrays) (sym h.names))
effect_alike present g s t h dump =
    let P : Result (List ℕ) Fault → Type 0 = λ r. Both (StepAlike g) (effect present s dump) (and_then r (λ text. Ok (t, text))) in
    subst P (sym (dumped_alike g s t h)) (both_same (StepAlike g) (dumped s) (λ text. Ok (s, text)) (λ text. Ok (t, text)) (λ text. (h, refl)))
effect_alike present g s t h (flow x e) =
    both_then (ValueAlike g) (StepAlike g) (value_of s.names s.arrays e) (value_of t.names t.arrays e) (flowing s x e) (flowing t x e)
    (state_value_alike g s t h e) (flowing_alike g s t h x e)
effect_alike present g s t h (pp_def f a b) = both_same (StepAlike g) (defined f a b) (kernel_named s f) (kernel_named t f) (define_alike g s t h f)
effect_alike present g s t h (watch x k) =
    both_then (NumberAlike g) (StepAlike g) (bound_to s.names x) (bound_to t.names x) (watching present s k) (watching present t k) (bound_to_alike g s t h x) (watching_alike present g s t h k)
effect_alike present g s t h (unwatch k) = unwatching_alike g s t h k
