-- Watchers are told of assignments alone: no other statement changes what an array shows that was
-- there and is watched.
use Rattle.std.proofs.Common.{◌≡◌, ℕ, ◌+◌, ℤ, List, [], ◌∷◌, ◌++◌, length, Bool, true, false, Option, Some, None, Result, Ok, Err, refl, sym, ap, subst, ◌∙◌, eqb-true, eq-eqb, arith}
use Rattle.std.specs.Prelude.{◌==◌, if◌then◌else◌, IfOk, IsSomeAnd}
use Rattle.std.proofs.lemmas.Bool.{or_parts}
use Rattle.std.specs.Option.{option_map_or}
use Rattle.std.proofs.lemmas.List.Elements.{All-cons}
use Rattle.pdl_lemmas.specs.Tests.{by_test}
use Rattle.pdl_elem.specs.declared.Ty.{Ty}
use Rattle.pdl_elem.specs.declared.Ty.TheVariants.{Byte}
use Rattle.pdl_buf.specs.declared.made.Made.{Made}
use Rattle.pdl_shape.specs.Shape.{size_of}
use Rattle.pdl_world.specs.World.{World, ArrayDef, root, Look, look, elements, dims_in, ty_in}
use Rattle.pdl_world.specs.Sound.{IsSound, IsLive}
use Rattle.pdl_world.specs.Swept.{is_listed}
use Rattle.pdl_world.specs.Laws.{OlderStay, OlderElementsStay, OlderPathsStay, NewIsLive}
use Rattle.pdl_world.specs.Cut.{breaks, replaced, sever, reshape, fitted}
use Rattle.pdl_world.specs.BreakLaws.{ReshapesLeaveOthers}
use Rattle.pdl_world.specs.Paths.{path}
use Rattle.pdl_world.specs.SweepLaws.{IsSeenAsBefore}
use Rattle.pdl_world.specs.CutLaws.{CutsLeaveElements, CutsLeaveNumbers}
use Rattle.pdl_syntax.specs.Tree.{Tree, number, named, literal, unary, binary, call}
use Rattle.pdl_syntax.specs.StatementTree.{StatementTree, bind, bind_list, assign, show, show_text, sever as severs, reshape as reshapes, undef, vars, dump, flow, pp_def, watch, unwatch}
use Rattle.pdl_watch.specs.declared.notice.Notice.{Notice}
use Rattle.pdl_watch.specs.Changes.{SameHaveNoChanges, changes}
use Rattle.pdl_watch.specs.Slots.{IsQuiet}
use Rattle.pdl_machine.specs.declared.fault.Fault.{Fault}
use Rattle.pdl_machine.specs.Then.{and_then}
use Rattle.pdl_machine.specs.Names.{bound_to, unbind, bind as bind_name, define}
use Rattle.pdl_machine.specs.Arrays.{Arrays, array_in}
use Rattle.pdl_machine.specs.State.{State, with_arrays, held, AreLive, IsWhole}
use Rattle.pdl_machine.specs.Watches.{Watches, attached, attaching, detaching, notices}
use Rattle.pdl_machine.specs.Outcome.{Given, all_seen, Valued, new_root}
use Rattle.pdl_machine.specs.Cuts.{cut, dims_given, is_watched, is_read, reshaped}
use Rattle.pdl_machine.specs.Flows.{is_flow, is_reached}
use Rattle.pdl_machine.specs.Formulas.{formula_of}
use Rattle.pdl_machine.specs.Kernels.{defined}
use Rattle.pdl_machine.specs.Dumps.{dumped}
use Rattle.pdl_machine.specs.Calls.{Callee, callee_of, several, value_by}
use Rattle.pdl_machine.specs.Value.{value_of, taken}
use Rattle.pdl_machine.specs.Step.{Stepped, bind_value, bound, ending, bind_severed, begun, flowing, roots_bound, outputs_bound, kernel_named, list_bound, several_bound, after_printing, severing, reshaping, watching, effect}
use Rattle.pdl_machine.specs.Laws.{AreGrown, Assigns, OnlyAssignmentsTell, GrowingTellsTheSame}
use Rattle.pdl_machine.proofs.ArraysRenamed.{look-other}
use Rattle.pdl_machine.proofs.TidyNumbering.{in_world, IsOrderly, orderly_sound, bound_in, IsInOrder, in_order}
use Rattle.pdl_machine.proofs.FlowLemmas.{listed_back}
use Rattle.pdl_machine.proofs.OutcomeOrder.{ok_then, ok_always, FineValue, FineTaken, grown_self, grown_trans, self, later, value_by_fine, taken_fine, grows_self, state_value_fine, bound_to_fine, orderly_replaced, refused_by, effect_in_order}
use Rattle.pdl_machine.proofs.StepWatches.{SameWatches, effect_watches}

-- the laws of worlds, and of their elements, that are used here
pub record WorldLaws : Type 0 where
  pub older : OlderStay
  pub older_elements : OlderElementsStay
  pub older_paths : OlderPathsStay
  pub new_live : NewIsLive
  pub cuts : CutsLeaveElements
  pub cut_numbers : CutsLeaveNumbers
  pub reshapes : ReshapesLeaveOthers
  pub unchanged : SameHaveNoChanges

-- two looks alike are of an array that is there in both or in neither
pub live_as : (w u : World) (v : ℕ) → look u v ≡ look w v → IsLive w v → IsLive u v
live_as w u v same live = let P : Option Look → Type 0 = λ o. IsSomeAnd o (λ l. Unit {0}) in subst P (sym same) live

-- arrays in front leave what is seen of the others
pub look_more : OlderStay → (more w : World) (v : ℕ) → IsOrderly (more ++ w) → IsLive w v → look (more ++ w) v ≡ look w v
look_more older [] w v order live = refl
look_more older ((k, d) ∷ more) w v order live =
    let rest : look (more ++ w) v ≡ look w v = look_more older more w v order.2 live in
    older (more ++ w) k v d order.0 (live_as w (more ++ w) v rest live) ∙ rest

pub elements_more : OlderStay → OlderElementsStay → (more w : World) (v : ℕ) → IsOrderly (more ++ w) → IsLive w v → elements (more ++ w) v ≡ elements w v
elements_more older stay [] w v order live = refl
elements_more older stay ((k, d) ∷ more) w v order live =
    stay (more ++ w) k v d order.0 (live_as w (more ++ w) v (look_more older more w v order.2 live) live) ∙ elements_more older stay more w v order.2 live

pub replaced_more : (more w : World) (v : ℕ) (d : ArrayDef) → replaced (more ++ w) v d ≡ replaced more v d ++ replaced w v d
replaced_more [] w v d = refl
replaced_more ((k, e) ∷ more) w v d = ap (λ (u : World). (k, if k == v then d else e) ∷ u) (replaced_more more w v d)

pub replaced_none : (w : World) (v : ℕ) (d : ArrayDef) → in_world w v ≡ false → replaced w v d ≡ w
replaced_none [] v d none = refl
replaced_none ((k, e) ∷ w) v d none =
    by_test (k == v)
    (λ same. absurd (clash same))
    (λ other. let rest : in_world w v ≡ false = rw other at none in rw other (ap (λ (u : World). (k, e) ∷ u) (replaced_none w v d rest)))
  where
    clash : (k == v) ≡ true → ⊥
    clash same = let t : (if k == v then true else in_world w v) ≡ true = ap (λ b. if b then true else in_world w v) same in cc

-- a root in the place of an array is seen behind others as without them
root_more : WorldLaws → (more w : World) (v u : ℕ) (ty : Ty) (ds : List ℕ) (es : List ℤ) → IsOrderly (more ++ w) → IsLive (replaced w v (root ty ds es)) u
    → elements (replaced (more ++ w) v (root ty ds es)) u ≡ elements (replaced w v (root ty ds es)) u
root_more laws more w v u ty ds es order live =
    let d : ArrayDef = root ty ds es in
    let e : replaced (more ++ w) v d ≡ replaced more v d ++ replaced w v d = replaced_more more w v d in
    ap (λ (x : World). elements x u) e ∙ elements_more laws.older laws.older_elements (replaced more v d) (replaced w v d) u (subst IsOrderly e (orderly_replaced (more ++ w) v ty ds es order)) live

-- an array of a sound world can be looked at
pub sound_live : WorldLaws → (w : World) (v : ℕ) → IsSound w → in_world w v ≡ true → IsLive w v
sound_live laws [] v sound there = cc
sound_live laws ((k, d) ∷ w) v sound there =
    by_test (k == v)
    (λ same. subst (IsLive ((k, d) ∷ w)) (eqb-true k v same) (laws.new_live w k d sound.1))
    (λ other. let rest : in_world w v ≡ true = rw other at there in live_as w ((k, d) ∷ w) v (look-other k v d w other) (sound_live laws w v sound.2 rest))

abbrev root_def : Ty → List ℕ → List ℤ → ArrayDef
root_def ty ds es = root ty ds es

-- a cut leaves the elements of what was there before
cut_quiet : WorldLaws → (more w : World) (v u : ℕ) → IsSound w → IsOrderly (more ++ w) → IsLive w u → elements (sever (more ++ w) v) u ≡ elements w u
cut_quiet laws more w v u sound order live = by_test (in_world w v) old new
  where
    all_same : {t t' : Ty} {ds ds' : List ℕ} {es es' : List ℤ} → t ≡ t' → ds ≡ ds' → es ≡ es' → root_def t ds es ≡ root_def t' ds' es'
    all_same p q s = cc

    old : in_world w v ≡ true → elements (sever (more ++ w) v) u ≡ elements w u
    old there =
        let seen : look (more ++ w) v ≡ look w v = look_more laws.older more w v order (sound_live laws w v sound there) in
        let same : root_def (ty_in (more ++ w) v) (dims_in (more ++ w) v) (elements (more ++ w) v) ≡ root_def (ty_in w v) (dims_in w v) (elements w v) =
        all_same (ap (λ (o : Option Look). option_map_or (λ l. l.ty) o Byte) seen) (ap (λ (o : Option Look). option_map_or (λ l. l.dims) o []) seen) (elements_more laws.older laws.older_elements more w v order (sound_live laws w v sound there)) in
        ap (λ (d : ArrayDef). elements (replaced (more ++ w) v d) u) same
        ∙ root_more laws more w v u (ty_in w v) (dims_in w v) (elements w v) order ((laws.cut_numbers w v sound).live u live)
        ∙ (laws.cuts w v u sound).elems_are

    new : in_world w v ≡ false → elements (sever (more ++ w) v) u ≡ elements w u
    new none =
        let ty = ty_in (more ++ w) v in
        let ds = dims_in (more ++ w) v in
        let es = elements (more ++ w) v in
        let same : replaced w v (root_def ty ds es) ≡ w = replaced_none w v (root_def ty ds es) none in
        root_more laws more w v u ty ds es order (subst (λ (x : World). IsLive x u) (sym same) live) ∙ ap (λ (x : World). elements x u) same

-- arrays in front leave the paths of the others
pub path_more : WorldLaws → (more w : World) (v : ℕ) → IsOrderly (more ++ w) → IsLive w v → path (more ++ w) v ≡ path w v
path_more laws [] w v order live = refl
path_more laws ((k, d) ∷ more) w v order live =
    laws.older_paths (more ++ w) k v d order.0 (live_as w (more ++ w) v (look_more laws.older more w v order.2 live) live) ∙ path_more laws more w v order.2 live

-- other dimensions leave the elements of what isn't shown through the array
reshape_quiet : WorldLaws → (more w : World) (v u : ℕ) (ds : List ℕ) → IsSound w → IsOrderly (more ++ w) → IsLive w v → IsLive w u → is_listed (path (more ++ w) u) v ≡ false
    → elements (reshape (more ++ w) v ds) u ≡ elements w u
reshape_quiet laws more w v u ds sound order here live other =
    let seen : look (more ++ w) v ≡ look w v = look_more laws.older more w v order here in
    let fit : List ℤ → List ℤ = λ es. fitted (size_of ds) es in
    let same : root_def (ty_in (more ++ w) v) ds (fit (elements (more ++ w) v)) ≡ root_def (ty_in w v) ds (fit (elements w v)) =
    all_same (ap (λ (o : Option Look). option_map_or (λ l. l.ty) o Byte) seen) (ap fit (elements_more laws.older laws.older_elements more w v order here)) in
    let apart : is_listed (path w u) v ≡ false = ap (λ ps. is_listed ps v) (sym (path_more laws more w u order live)) ∙ other in
    let stays : IsSeenAsBefore w (reshape w v ds) u = laws.reshapes w v u ds sound apart in
    ap (λ (d : ArrayDef). elements (replaced (more ++ w) v d) u) same
    ∙ root_more laws more w v u (ty_in w v) ds (fit (elements w v)) order (live_as w (reshape w v ds) u stays.look_is live)
    ∙ stays.elems_are
  where
    all_same : {t t' : Ty} {es es' : List ℤ} → t ≡ t' → es ≡ es' → root_def t ds es ≡ root_def t' ds es'
    all_same p s = cc

-- what is watched has the elements that it had
abbrev KeepsElements : World → World → Watches → Type 0
KeepsElements w new ws = (u : ℕ) → is_listed (attached ws) u ≡ true → elements new u ≡ elements w u

abbrev Keeps : State → State × List ℕ → Type 0
Keeps s after = KeepsElements s.arrays.world after.0.arrays.world after.0.watches

held_live : (w : World) (vs : List ℕ) (u : ℕ) → AreLive w vs → is_listed vs u ≡ true → IsLive w u
held_live w [] u live h = cc
held_live w (v ∷ vs) u live h =
    by_test (v == u) (λ same. subst (IsLive w) (eqb-true v u same) live.0) (λ other. let rest : is_listed vs u ≡ true = rw other at h in held_live w vs u live.1 rest)

watched_live : (s : State) → IsWhole s → (u : ℕ) → is_listed (attached s.watches) u ≡ true → IsLive s.arrays.world u
watched_live s whole u h = held_live s.arrays.world (held s) u whole.live (listed_back (bound_in s.names) (attached s.watches) u h)

-- only new arrays came
abbrev pub GrownStep : State → State × List ℕ → Type 0
GrownStep s after = AreGrown s.arrays after.0.arrays

pub grown_value : (a : Arrays) (x : Valued) → IfOk x (FineValue a) → IfOk x (λ v. AreGrown a v.0)
grown_value a (Ok v) fine = fine.2
grown_value a (Err e) fine = tt

pub bound_grown : (s : State) (x : List ℕ) (valued : Valued) → IfOk valued (λ v. AreGrown s.arrays v.0) → IfOk (bound s x valued) (GrownStep s)
bound_grown s x valued grown =
    ok_then (λ v. AreGrown s.arrays v.0) (GrownStep s) valued (bind_value s x) grown (λ v g.
    ok_always (GrownStep s) (bind_name s.names x v.1) (λ names. Ok (record s { names = names; arrays = v.0 }, [])) (λ names. g))

grown_on : (a : Arrays) (t : State) → AreGrown a t.arrays → (r : Stepped) → IfOk r (GrownStep t) → IfOk r (λ after. AreGrown a after.0.arrays)
grown_on a t g (Ok after) h = grown_trans a t.arrays after.0.arrays g h
grown_on a t g (Err e) h = tt

-- one root more
root_grown : (a : Arrays) (m : Made) → AreGrown a (record { world = (a.next, root m.ty m.dims m.elems) ∷ a.world; next = a.next + 1 })
root_grown a m = record { more = (a.next, root m.ty m.dims m.elems) ∷ []; is = refl }

roots_grown : (s : State) (xs : List (List ℕ)) (ms : List Made) → IfOk (roots_bound s xs ms) (GrownStep s)
roots_grown s [] ms = grown_self s.arrays
roots_grown s (x ∷ xs) [] = grown_self s.arrays
roots_grown s (x ∷ xs) (m ∷ ms) =
    ok_then (GrownStep s) (GrownStep s) (bound s x (new_root s.arrays m)) (λ after. roots_bound after.0 xs ms) (bound_grown s x (new_root s.arrays m) (root_grown s.arrays m)) (λ p g.
    grown_on s.arrays p.0 g (roots_bound p.0 xs ms) (roots_grown p.0 xs ms))

many_grown : (s : State) (xs : List (List ℕ)) (t : Arrays × List Given) (c : Callee) → AreGrown s.arrays t.0
    → IfOk (and_then (several (length xs) (all_seen t.0 t.1) c) (roots_bound (with_arrays s t.0) xs)) (GrownStep s)
many_grown s xs t c g =
    ok_always (GrownStep s) (several (length xs) (all_seen t.0 t.1) c) (roots_bound (with_arrays s t.0) xs) (λ ms.
    grown_on s.arrays (with_arrays s t.0) g (roots_bound (with_arrays s t.0) xs ms) (roots_grown (with_arrays s t.0) xs ms))

outputs_grown : (s : State) (xs : List (List ℕ)) (t : Arrays × List Given) (c : Callee) → FineTaken s.arrays t → IfOk (outputs_bound s xs t c) (GrownStep s)
outputs_grown s (x ∷ []) (b, given) c fine =
    bound_grown s x (value_by b given c) (grown_value s.arrays (value_by b given c)
    (later s.arrays b fine.0 fine.2 (value_by b given c) (value_by_fine b given c (self s.arrays b fine.0) fine.1)))
outputs_grown s [] (b, given) c fine = many_grown s [] (b, given) c fine.2
outputs_grown s (x ∷ y ∷ xs) (b, given) c fine = many_grown s (x ∷ y ∷ xs) (b, given) c fine.2

pub several_grown : (s : State) → IsInOrder s → (xs : List (List ℕ)) (e : Tree) → IfOk (several_bound s xs e) (GrownStep s)
several_grown s order xs (call f args) =
    ok_then (FineTaken s.arrays) (GrownStep s) (taken s.names s.arrays args) (list_bound s xs f) (taken_fine s.names args s.arrays (grows_self s order) order.inside) (λ t fine.
    ok_always (GrownStep s) (callee_of s.names f) (outputs_bound s xs t) (λ c. outputs_grown s xs t c fine))
several_grown s order xs (number n) = tt
several_grown s order xs (named x) = tt
several_grown s order xs (literal ty ds es) = tt
several_grown s order xs (unary op e) = tt
several_grown s order xs (binary op e f) = tt

-- where only new arrays came, what is watched shows what it showed
grown_keeps : WorldLaws → (s : State) → IsWhole s → (x : Stepped) → IfOk x (λ after. IsInOrder after.0) → IfOk x (SameWatches s) → IfOk x (GrownStep s) → IfOk x (Keeps s)
grown_keeps laws s whole (Err e) order same grown = tt
grown_keeps laws s whole (Ok after) order same grown = λ u h.
    let P : Watches → Type 0 = λ ws. is_listed (attached ws) u ≡ true in
    ap (λ (w : World). elements w u) grown.is
    ∙ elements_more laws.older laws.older_elements grown.more s.arrays.world u (subst IsOrderly grown.is order.orderly) (watched_live s whole u (subst P same h))

-- so it does after a cut
cut_keeps : WorldLaws → (s : State) → IsWhole s → (a : Arrays) (v u : ℕ) → AreGrown s.arrays a → IsOrderly a.world → is_listed (attached s.watches) u ≡ true → elements (cut a v).world u ≡ elements s.arrays.world u
cut_keeps laws s whole a v u grown order h =
    ap (λ (w : World). elements (sever w v) u) grown.is
    ∙ cut_quiet laws grown.more s.arrays.world v u whole.sound (subst IsOrderly grown.is order) (watched_live s whole u h)

severed_keeps : WorldLaws → (s : State) → IsWhole s → (x : List ℕ) (v : Arrays × ℕ) → FineValue s.arrays v → IfOk (bind_severed s x v) (Keeps s)
severed_keeps laws s whole x v fine =
    ok_always (Keeps s) (bind_name s.names x v.1) (λ names. Ok (record (ending s v.1) { names = names; arrays = cut v.0 v.1 }, [])) (λ names u h.
    cut_keeps laws s whole v.0 v.1 u fine.2 fine.0.orderly h)

flowing_grown : (s : State) (x : List ℕ) (e : Tree) (v : Arrays × ℕ) → FineValue s.arrays v → IfOk (flowing s x e v) (GrownStep s)
flowing_grown s x e v fine =
    ok_always (GrownStep s) (formula_of s.names e) (λ f. bound (begun s v.0 f) x (new_root v.0 (array_in v.0 v.1))) (λ f.
    bound_grown (begun s v.0 f) x (new_root v.0 (array_in v.0 v.1)) (grown_trans s.arrays v.0 (new_arrays v) fine.2 (root_grown v.0 (array_in v.0 v.1))))
  where
    new_arrays : Arrays × ℕ → Arrays
    new_arrays v =
        let m : Made = array_in v.0 v.1 in
        record { world = (v.0.next, root m.ty m.dims m.elems) ∷ v.0.world; next = v.0.next + 1 }

-- and after other dimensions, which are refused for what a watched array is shown through
pub unreached : (w : World) (us : List ℕ) (v u : ℕ) → is_reached w us v ≡ false → is_listed us u ≡ true → is_listed (path w u) v ≡ false
unreached w [] v u none h = cc
unreached w (k ∷ us) v u none h =
    let parts = or_parts (is_listed (path w k) v) (is_reached w us v) none in
    by_test (k == u)
    (λ same. ap (λ x. is_listed (path w x) v) (sym (eqb-true k u same)) ∙ parts.0)
    (λ other. let rest : is_listed us u ≡ true = rw other at h in unreached w us v u parts.1 rest)

reshaping_keeps : WorldLaws → (s : State) → IsWhole s → (v : ℕ) → in_world s.arrays.world v ≡ true → (t : Arrays × List Given) → FineTaken s.arrays t → IfOk (reshaping s v t) (Keeps s)
reshaping_keeps laws s whole v here (b, given) fine =
    ok_always (Keeps s) (dims_given (b, given)) (λ ds. and_then (reshaped s.watches s.flows b v ds) (λ a. Ok (with_arrays s a, []))) (λ ds.
    by_tests ds (breaks b.world v ds) (is_watched s.watches b.world v) (is_flow s.flows v) (is_read s.flows b.world v) refl)
  where
    by_tests : (ds : List ℕ) (x y z r : Bool) → is_watched s.watches b.world v ≡ y
        → IfOk (and_then (refused_by x y z r (record b { world = reshape b.world v ds })) (λ a. Ok (with_arrays s a, []))) (Keeps s)
    by_tests ds true y z r is = tt
    by_tests ds false true z r is = tt
    by_tests ds false false true r is = tt
    by_tests ds false false false true is = tt
    by_tests ds false false false false is = λ u h.
        let apart : is_listed (path b.world u) v ≡ false = unreached b.world (attached s.watches) v u is h in
        ap (λ (w : World). elements (reshape w v ds) u) fine.2.is
        ∙ reshape_quiet laws fine.2.more s.arrays.world v u ds whole.sound (subst IsOrderly fine.2.is fine.0.orderly) (sound_live laws s.arrays.world v whole.sound here) (watched_live s whole u h)
        (ap (λ (w : World). is_listed (path w u) v) (sym fine.2.is) ∙ apart)

-- other watches change no array
rewatched_keeps : (s : State) (x : Result Watches Fault) → IfOk (and_then x (λ ws. Ok (record s { watches = ws }, []))) (Keeps s)
rewatched_keeps s x = ok_always (Keeps s) x (λ ws. Ok (record s { watches = ws }, [])) (λ ws u h. refl)

effect_keeps : WorldLaws → (present : List Bool) (s : State) → IsWhole s → (statement : StatementTree) → (Assigns statement → ⊥) → IfOk (effect present s statement) (Keeps s)
effect_keeps laws present s whole (bind x e false) other =
    let order : IsInOrder s = in_order s whole in
    grown_keeps laws s whole (effect present s (bind x e false)) (effect_in_order present s order (bind x e false)) (effect_watches present s (bind x e false) tt)
    (bound_grown s x (value_of s.names s.arrays e) (grown_value s.arrays (value_of s.names s.arrays e) (state_value_fine s order e)))
effect_keeps laws present s whole (bind x e true) other =
    ok_then (FineValue s.arrays) (Keeps s) (value_of s.names s.arrays e) (bind_severed s x) (state_value_fine s (in_order s whole) e) (severed_keeps laws s whole x)
effect_keeps laws present s whole (bind_list xs e) other =
    let order : IsInOrder s = in_order s whole in
    grown_keeps laws s whole (effect present s (bind_list xs e)) (effect_in_order present s order (bind_list xs e)) (effect_watches present s (bind_list xs e) tt) (several_grown s order xs e)
effect_keeps laws present s whole (assign x views sign e) other = absurd (other tt)
effect_keeps laws present s whole (show e is_info) other =
    let order : IsInOrder s = in_order s whole in
    grown_keeps laws s whole (effect present s (show e is_info)) (effect_in_order present s order (show e is_info)) (effect_watches present s (show e is_info) tt)
    (ok_then (FineValue s.arrays) (GrownStep s) (value_of s.names s.arrays e) (λ v. Ok (after_printing s is_info v)) (state_value_fine s order e) (λ v fine. fine.2))
effect_keeps laws present s whole (show_text t) other = λ u h. refl
effect_keeps laws present s whole (severs x) other =
    ok_always (Keeps s) (bound_to s.names x) (severing s) (λ v u h. cut_keeps laws s whole s.arrays v u (grown_self s.arrays) (orderly_sound s.arrays.world whole.sound) h)
effect_keeps laws present s whole (reshapes x sizes) other =
    let order : IsInOrder s = in_order s whole in
    ok_then (λ v. in_world s.arrays.world v ≡ true) (Keeps s) (bound_to s.names x) (λ v. and_then (taken s.names s.arrays sizes) (reshaping s v)) (bound_to_fine s x order) (λ v here.
    ok_then (FineTaken s.arrays) (Keeps s) (taken s.names s.arrays sizes) (reshaping s v) (taken_fine s.names sizes s.arrays (grows_self s order) order.inside) (reshaping_keeps laws s whole v here))
effect_keeps laws present s whole (undef x) other =
    ok_always (Keeps s) (unbind s.names x) (λ names. Ok (record s { names = names }, [])) (λ names u h. refl)
effect_keeps laws present s whole vars other = λ u h. refl
effect_keeps laws present s whole dump other = ok_always (Keeps s) (dumped s) (λ text. Ok (s, text)) (λ text u h. refl)
effect_keeps laws present s whole (flow x e) other =
    let order : IsInOrder s = in_order s whole in
    grown_keeps laws s whole (effect present s (flow x e)) (effect_in_order present s order (flow x e)) (effect_watches present s (flow x e) tt)
    (ok_then (FineValue s.arrays) (GrownStep s) (value_of s.names s.arrays e) (flowing s x e) (state_value_fine s order e) (flowing_grown s x e))
effect_keeps laws present s whole (pp_def f a b) other =
    ok_always (Keeps s) (defined f a b) (kernel_named s f) (λ k. ok_always (Keeps s) (define s.names f k) (λ names. Ok (record s { names = names }, [])) (λ names u h. refl))
effect_keeps laws present s whole (watch x k) other = ok_always (Keeps s) (bound_to s.names x) (watching present s k) (λ v. rewatched_keeps s (attaching present s.watches k v))
effect_keeps laws present s whole (unwatch k) other = rewatched_keeps s (detaching s.watches k)

abbrev NoNotices : List Notice → Type 0
NoNotices ns = ns ≡ []

quiet : SameHaveNoChanges → (n : ℕ) (w new : World) (ws : Watches) → KeepsElements w new ws → IsQuiet (notices n w new ws)
quiet same_none n w new [] keeps = λ k d lt. absurd (omega arith)
quiet same_none n w new (None ∷ ws) keeps = All-cons NoNotices [] (notices n w new ws) refl (quiet same_none n w new ws keeps)
quiet same_none n w new (Some v ∷ ws) keeps =
    let self : (v == v) ≡ true = eq-eqb v v refl in
    let here : is_listed (v ∷ attached ws) v ≡ true = rw self refl in
    let first : changes n (elements w v) (elements new v) ≡ [] = ap (λ (es : List ℤ). changes n (elements w v) es) (keeps v here) ∙ same_none n (elements w v) in
    All-cons NoNotices (changes n (elements w v) (elements new v)) (notices n w new ws) first
    (quiet same_none n w new ws (λ u h. keeps u (by_test (v == u) (λ same. rw same refl) (λ other. rw other h))))

pub only_assignments_tell : WorldLaws → OnlyAssignmentsTell
only_assignments_tell laws n present s statement after whole other is =
    let P : Stepped → Type 0 = λ x. IfOk x (Keeps s) in
    quiet laws.unchanged n s.arrays.world after.0.arrays.world after.0.watches (subst P is (effect_keeps laws present s whole statement other))

-- new arrays leave what is told of those that were there
pub growing_tells_the_same : OlderStay → OlderElementsStay → GrowingTellsTheSame
growing_tells_the_same older stay n old mid new [] grown sound live = refl
growing_tells_the_same older stay n old mid new (None ∷ ws) grown sound live =
    ap (λ (all : List (List Notice)). [] ∷ all) (growing_tells_the_same older stay n old mid new ws grown sound live)
growing_tells_the_same older stay n old mid new (Some v ∷ ws) grown sound live =
    let order : IsOrderly (grown.more ++ old.world) = subst IsOrderly grown.is (orderly_sound mid.world sound) in
    let same : elements mid.world v ≡ elements old.world v = ap (λ (w : World). elements w v) grown.is ∙ elements_more older stay grown.more old.world v order live.0 in
    ap (λ (es : List ℤ). changes n es (elements new v) ∷ notices n mid.world new ws) same
    ∙ ap (λ (all : List (List Notice)). changes n (elements old.world v) (elements new v) ∷ all) (growing_tells_the_same older stay n old mid new ws grown sound live.1)
