-- The flows that are kept equal their formulas in the tidied state.
use Rattle.std.proofs.Common.{◌≡◌, ℕ, ◌<◌, ◌≤◌, List, [], ◌∷◌, map, Bool, true, false, Option, Some, None, Result, Ok, inl, inr, refl, sym, ap, subst, ◌∙◌, arith, eqb-true}
use Rattle.std.specs.Prelude.{◌==◌, option_map, IsSomeAnd, ◌⊎◌}
use Rattle.std.specs.Option.{option_map_or}
use Rattle.std.proofs.lemmas.Bool.{cases_lt}
use Rattle.pdl_lemmas.specs.Tests.{by_test}
use Rattle.pdl_elem.specs.declared.Ty.{Ty}
use Rattle.pdl_buf.specs.declared.made.Made.{Made}
use Rattle.pdl_ops.specs.Elementwise.{OpRefusal}
use Rattle.pdl_flow.specs.Formula.{FormulaTree, number, array, unary, binary, convert, IsFormula, arrays_in}
use Rattle.pdl_world.specs.World.{World, ArrayDef, root, view, Look, look_of_root, look}
use Rattle.pdl_world.specs.Paths.{path}
use Rattle.pdl_world.specs.Sound.{IsSound, IsLive}
use Rattle.pdl_world.specs.Swept.{is_listed, Has, sweep, IsReached, held_itself, parent_of}
use Rattle.pdl_world.specs.SweepLaws.{IsSeenAsBefore, ReachedAreSeenAsBefore}
use Rattle.pdl_machine.specs.Arrays.{Arrays, array_in}
use Rattle.pdl_machine.specs.Flows.{Flow, Flows, formula_by, flow_by, is_reached, Needs, needs_with, needs_of}
use Rattle.pdl_machine.specs.Following.{AreOlder, IsFlow, RootsAbove, AreFlows}
use Rattle.pdl_machine.specs.State.{held, needs, kept}
use Rattle.pdl_machine.specs.Tidy.{settled, tidy}
use Rattle.pdl_machine.specs.Laws.{PathsReach}
use Rattle.pdl_machine.specs.FlowLaws.{LettingGoKeepsFlows, TidyingKeepsFlows}
use Rattle.pdl_machine.proofs.ArraysRenamed.{IsApart, Renames, AreAlike, StateAlike, with_root, look_renamed, path_renamed, array_alike}
use Rattle.pdl_machine.proofs.FlowLemmas.{meaning_by, meaning_same, all_same, arrays_by, first_listed, listed_front, listed_back}
use Rattle.pdl_machine.proofs.TidyLemmas.{renamed}
use Rattle.pdl_machine.proofs.TidyNumbering.{IsInOrder, in_order, former_numbers, former_rising, swept_is, tidied_alike, all_renamed}
use Rattle.pdl_machine.proofs.FlowMoves.{AreShown, seen_shows, flow_moved}
use Rattle.pdl_machine.proofs.StepQuiet.{live_as}

-- ---- what is reached

-- an array on the path of one that is reached is reached
on_path_reached : (w u : World) (hs : List ℕ) (k v : ℕ) → ((j : ℕ) (d : ArrayDef) → Has u j d → Has w j d) → IsReached w hs k → is_listed (path u k) v ≡ true → IsReached w hs v
on_path_reached w [] hs k v inside reached on = cc
on_path_reached w ((j, d) ∷ u) hs k v inside reached on =
    by_def d inside on (λ x r h. on_path_reached w u hs x v (λ i e there. inside i e (inr there)) r h)
  where
    itself : (j == k) ≡ true → (j == v) ≡ true → IsReached w hs v
    itself same is = subst (λ n. IsReached w hs n) (sym (eqb-true j k same) ∙ eqb-true j v is) reached

    by_def : (d : ArrayDef) → ((i : ℕ) (e : ArrayDef) → Has ((j, d) ∷ u) i e → Has w i e) → is_listed (path ((j, d) ∷ u) k) v ≡ true
        → ((x : ℕ) → IsReached w hs x → is_listed (path u x) v ≡ true → IsReached w hs v) → IsReached w hs v
    by_def (root ty ds es) within on rest = by_test (j == k)
        (λ same. let h : is_listed (j ∷ []) v ≡ true = rw same at on in
        by_test (j == v) (itself same) (λ apart. let f : is_listed (j ∷ []) v ≡ false = rw apart refl in cc))
        (λ other. rest k reached (rw other at on))
    by_def (view p t) within on rest = by_test (j == k)
        (λ same. let h : is_listed (j ∷ path u p) v ≡ true = rw same at on in
        by_test (j == v) (itself same) (λ apart. let t' : is_listed (path u p) v ≡ true = rw apart at h in
        rest p (parent_of j p t (within j (view p t) (inl (refl, refl))) (subst (λ n. IsReached w hs n) (sym (eqb-true j k same)) reached)) t'))
        (λ other. rest k reached (rw other at on))

pub reached_is : (w : World) (many hs : List ℕ) (v : ℕ) → ((u : ℕ) → is_listed hs u ≡ true → is_listed many u ≡ true) → is_reached w hs v ≡ true → IsReached w many v
reached_is w many [] v all_held on = cc
reached_is w many (h ∷ hs) v all_held on = by_test (is_listed (path w h) v)
    (λ here. on_path_reached w w many h v (λ i e there. there) (held_itself h (all_held h (first_listed h hs))) here)
    (λ other. let t : is_reached w hs v ≡ true = rw other at on in reached_is w many hs v (λ u k. all_held u (by_test (h == u) (λ same. rw same refl) (λ apart. rw apart k))) t)

pub paths_reach : PathsReach
paths_reach = λ w hs v on. reached_is w hs hs v (λ u t. t) on

-- ---- in what is kept

reads_kept : ReachedAreSeenAsBefore → (w : World) (many : List ℕ) → IsSound w → (r : ℕ) (ks : List ℕ) → AreOlder w r ks → ((v : ℕ) → is_listed ks v ≡ true → is_listed many v ≡ true) → AreShown w (sweep w many) ks
reads_kept seen w many sound r [] older all_held = tt
reads_kept seen w many sound r (k ∷ ks) older all_held =
    let s : IsSeenAsBefore w (sweep w many) k = seen w many k sound (held_itself k (all_held k (first_listed k ks))) in (
      seen_shows w (sweep w many) k s,
      live_as w (sweep w many) k s.look_is older.1,
      reads_kept seen w many sound r ks older.2 (λ v t. all_held v (by_test (k == v) (λ same. rw same refl) (λ other. rw other t))),
    )

above_kept : (n : ℕ) (w : World) (flows : Flows) (hs : List ℕ) → RootsAbove n flows → RootsAbove n (needs_of w flows hs).flows
above_kept n w [] hs above = tt
above_kept n w (f ∷ flows) hs above = by_stays (above_kept n w flows hs above.1) (is_reached w (needs_of w flows hs).arrays f.root)
  where
    by_stays : RootsAbove n (needs_of w flows hs).flows → (stays : Bool) → RootsAbove n (needs_with stays f (needs_of w flows hs)).flows
    by_stays rest true = (above.0, rest)
    by_stays rest false = rest

pub letting_go_keeps_flows : ReachedAreSeenAsBefore → LettingGoKeepsFlows
letting_go_keeps_flows seen a b [] hs many sound h is all_held = tt
letting_go_keeps_flows seen a b (f ∷ flows) hs many sound h is all_held =
    by_stays (letting_go_keeps_flows seen a b flows hs many sound h.2 is) (is_reached w n.arrays f.root) refl all_held
  where
    w : World
    w = a.world

    n : Needs
    n = needs_of w flows hs

    by_stays : (((v : ℕ) → is_listed n.arrays v ≡ true → is_listed many v ≡ true) → AreFlows b n.flows)
        → (stays : Bool) → is_reached w n.arrays f.root ≡ stays → ((v : ℕ) → is_listed (needs_with stays f n).arrays v ≡ true → is_listed many v ≡ true) → AreFlows b (needs_with stays f n).flows
    by_stays rest false on inside = rest inside
    by_stays rest true on inside =
        let below : (v : ℕ) → is_listed n.arrays v ≡ true → is_listed many v ≡ true = λ v t. inside v (listed_back (arrays_in f.formula) n.arrays v t) in
        let shown : AreShown w (sweep w many) (arrays_in f.formula) =
        reads_kept seen w many sound f.root (arrays_in f.formula) h.0.older (λ v t. inside v (listed_front (arrays_in f.formula) n.arrays v t)) in
        let own : IsSeenAsBefore w (sweep w many) f.root = seen w many f.root sound (reached_is w many n.arrays f.root below on) in (
          flow_moved a b f h.0
              (subst (λ (u : World). AreShown w u (arrays_in f.formula)) (sym is) shown)
              (subst (λ (u : World). IsSeenAsBefore w u f.root) (sym is) own),
          above_kept f.root w flows hs h.1,
          rest below,
        )

-- ---- under the new numbers

pub live_before : (g : ℕ → ℕ) → IsApart g → (u : World) (v : ℕ) → IsLive (renamed g u) (g v) → IsLive u v
live_before g apart u v live =
    let P : Option Look → Type 0 = λ o. IsSomeAnd o (λ l. Unit {0}) in
    by_look (look u v) (subst P (look_renamed g apart (all_renamed g u) v) live)
  where
    by_look : (o : Option Look) → IsSomeAnd (option_map (with_root g) o) (λ l. Unit {0}) → IsSomeAnd o (λ l. Unit {0})
    by_look (Some l) h = h
    by_look None h = h

abbrev pub IsRising : (ℕ → ℕ) → Type 0
IsRising g = (i j : ℕ) → i < j → g i < g j

rises_back : (g : ℕ → ℕ) → IsRising g → (i j : ℕ) → g i < g j → i < j
rises_back g rising i j lt = by_order (cases_lt i j)
  where
    apart : i ≡ j → ⊥
    apart e = let same : g i ≡ g j = ap g e in omega (arith, same, lt)

    by_least : j ≤ i → (j < i) ⊎ (i ≤ j) → i < j
    by_least le (inl more) = let k : g j < g i = rising j i more in absurd (omega (arith, k, lt))
    by_least le (inr least) = absurd (apart (omega (arith, le, least)))

    by_order : (i < j) ⊎ (j ≤ i) → i < j
    by_order (inl less) = less
    by_order (inr le) = by_least le (cases_lt j i)

formula_before : (g : ℕ → ℕ) (f : FormulaTree) → IsFormula (formula_by g f) → IsFormula f
formula_before g (number ty z) h = h
formula_before g (array k) h = tt
formula_before g (unary op f) h = formula_before g f h
formula_before g (convert ty f) h = formula_before g f h
formula_before g (binary op e f) h = (h.0, formula_before g e h.1, formula_before g f h.2)

older_before : (g : ℕ → ℕ) → IsApart g → IsRising g → (u : World) (r : ℕ) (ks : List ℕ) → AreOlder (renamed g u) (g r) (map g ks) → AreOlder u r ks
older_before g apart rising u r [] h = tt
older_before g apart rising u r (k ∷ ks) h = (rises_back g rising k r h.0, live_before g apart u k h.1, older_before g apart rising u r ks h.2)

one_path : (g : ℕ → ℕ) → IsApart g → (ps : List ℕ) (r : ℕ) → map g ps ≡ g r ∷ [] → ps ≡ r ∷ []
one_path g apart [] r e = cc
one_path g apart (p ∷ []) r e = ap (λ n. n ∷ []) (apart p r (ap first e))
  where
    first : List ℕ → ℕ
    first [] = 0
    first (x ∷ xs) = x
one_path g apart (p ∷ q ∷ ps) r e = cc

look_before : (g : ℕ → ℕ) → IsApart g → (o : Option Look) (r : ℕ) (l : Look) → option_map (with_root g) o ≡ Some (look_of_root (g r) l.ty l.dims) → o ≡ Some (look_of_root r l.ty l.dims)
look_before g apart None r l e = cc
look_before g apart (Some m) r l e =
    let root_is : g m.root ≡ g r = ap (λ (o : Option Look). option_map_or (λ x. x.root) o 0) e in
    let ty_is : m.ty ≡ l.ty = ap (λ (o : Option Look). option_map_or (λ x. x.ty) o l.ty) e in
    let dims_are : m.dims ≡ l.dims = ap (λ (o : Option Look). option_map_or (λ x. x.dims) o []) e in
    let places_are : m.places ≡ (look_of_root r l.ty l.dims).places = ap (λ (o : Option Look). option_map_or (λ x. x.places) o []) e in
    four (apart m.root r root_is) ty_is dims_are places_are
  where
    of_parts : ℕ → Ty → List ℕ → List (Option ℕ) → Option Look
    of_parts n ty ds ps = Some (record { root = n; ty = ty; dims = ds; places = ps })

    four : {n k : ℕ} {t t' : Ty} {ds ds' : List ℕ} {ps ps' : List (Option ℕ)} → n ≡ k → t ≡ t' → ds ≡ ds' → ps ≡ ps' → of_parts n t ds ps ≡ of_parts k t' ds' ps'
    four p q o i = cc

-- a flow is one where it is under other numbers
flow_before : (g : ℕ → ℕ) → IsRising g → (a b : Arrays) → AreAlike true g a b → b.world ≡ renamed g a.world → (f : Flow) → IsFlow b (flow_by g f) → IsFlow a f
flow_before g rising a b alike is f h =
    let apart : IsApart g = alike.apart in
    let ks : List ℕ = arrays_in f.formula in
    let P : World → List ℕ → Type 0 = λ w js. AreOlder w (g f.root) js in
    let older : AreOlder (renamed g a.world) (g f.root) (map g ks) =
    subst (λ (js : List ℕ). P (renamed g a.world) js) (arrays_by g f.formula) (subst (λ (w : World). P w (arrays_in (formula_by g f.formula))) is h.older) in
    record {
      seen = h.seen;
      is_root = record {
        look_is = look_before g apart (look a.world f.root) f.root h.seen (sym (look_renamed g apart alike.world f.root) ∙ h.is_root.look_is);
        path_is = one_path g apart (path a.world f.root) f.root (sym (path_renamed g apart alike.world f.root) ∙ h.is_root.path_is);
      };
      is_formula = formula_before g f.formula h.is_formula;
      older = older_before g apart rising a.world f.root ks older;
      equals = sym (meaning_by (array_in b) g f.formula ∙ meaning_same (λ k. array_in b (g k)) (array_in a) f.formula (all_same (λ k. array_in b (g k)) (array_in a) (array_alike g a b alike) ks))
          ∙ h.equals ∙ ap value_is (array_alike g a b alike f.root);
    }
  where
    value_is : Made → Result Made OpRefusal
    value_is m = Ok m

above_before : (g : ℕ → ℕ) → IsRising g → (n : ℕ) (flows : Flows) → RootsAbove (g n) (map (flow_by g) flows) → RootsAbove n flows
above_before g rising n [] h = tt
above_before g rising n (f ∷ flows) h = (rises_back g rising n f.root h.0, above_before g rising n flows h.1)

flows_before : (g : ℕ → ℕ) → IsRising g → (a b : Arrays) → AreAlike true g a b → b.world ≡ renamed g a.world → (flows : Flows) → AreFlows b (map (flow_by g) flows) → AreFlows a flows
flows_before g rising a b alike is [] h = tt
flows_before g rising a b alike is (f ∷ flows) h = (flow_before g rising a b alike is f h.0, above_before g rising f.root flows h.1, flows_before g rising a b alike is flows h.2)

pub tidying_keeps_flows : ReachedAreSeenAsBefore → TidyingKeepsFlows
tidying_keeps_flows seen s whole =
    let order : IsInOrder s = in_order s whole in
    let g = former_numbers s in
    let h : StateAlike false g (tidy s) (settled s) = tidied_alike s order in
    let b : Arrays = record s.arrays { world = kept s } in
    let flows : AreFlows b (needs s).flows = letting_go_keeps_flows seen s.arrays b s.flows (held s) (needs s).arrays whole.sound whole.flows refl (λ v t. t) in
    let alike : AreAlike true g (tidy s).arrays b = record {
      apart = h.arrays.apart;
      world = subst (λ (w : World). Renames g true (tidy s).arrays.world w) (sym (swept_is s order)) (all_renamed g (tidy s).arrays.world);
      next = h.arrays.next;
      on = h.arrays.on;
    } in
    flows_before g (former_rising s order) (tidy s).arrays b alike (swept_is s order) (tidy s).flows (subst (AreFlows b) h.flows flows)
