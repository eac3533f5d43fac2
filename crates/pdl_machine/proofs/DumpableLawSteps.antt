-- A statement leaves what a script can spell.
use Rattle.std.proofs.Common.{◌≡◌, ℕ, ℤ, ◌≤◌, List, [], ◌∷◌, ◌++◌, length, All, Bool, true, false, Option, Some, None, Result, Ok, Err, inl, inr, refl, sym, ap, subst, ◌∙◌, eq-eqb}
use Rattle.std.specs.Prelude.{◌==◌, if◌then◌else◌, IfOk}
use Rattle.std.proofs.lemmas.List.Elements.{All-head, All-tail}
use Rattle.pdl_lemmas.specs.Tests.{by_test}
use Rattle.pdl_shape.specs.Places.{write}
use Rattle.pdl_shape.specs.Shape.{size_of}
use Rattle.pdl_buf.specs.declared.made.Made.{Made}
use Rattle.pdl_kernel.specs.Kernels.{Kernel}
use Rattle.pdl_world.specs.Cut.{breaks, replaced, sever as sever_in, reshape as reshape_in, fitted}
use Rattle.pdl_world.specs.Sound.{IsSound}
use Rattle.pdl_world.specs.Swept.{sweep}
use Rattle.pdl_world.specs.World.{World, ArrayDef, root, Look, look, root_elements, set_elements, assign as assign_in, assign_through, ty_in, dims_in, elements}
use Rattle.pdl_lexemes.specs.declared.AssignOp.{AssignOp}
use Rattle.pdl_lexemes.specs.Texts.{IsName, IsQuotable}
use Rattle.pdl_syntax.specs.Tree.{Tree, number, named, literal, unary, binary, call}
use Rattle.pdl_syntax.specs.StatementTree.{StatementTree, bind, bind_list, assign, show, show_text, sever, reshape, undef, vars, dump, flow, pp_def, watch, unwatch}
use Rattle.pdl_syntax.specs.WellMade.{IsWellMade}
use Rattle.pdl_machine.specs.declared.fault.Fault.{Fault}
use Rattle.pdl_machine.specs.declared.fault.Fault.TheVariants.{WrongArguments, TooManyNames, TooManyKernels}
use Rattle.pdl_machine.specs.Then.{and_then}
use Rattle.pdl_machine.specs.Names.{KernelTexts, with_name, without_name, bound_to, unbind, is_full_for, names_limit, kernels_limit}
use Rattle.pdl_machine.specs.Arrays.{Arrays, array_in}
use Rattle.pdl_ops.specs.Elementwise.{OpRefusal}
use Rattle.pdl_flow.specs.Meaning.{meaning}
use Rattle.pdl_machine.specs.Flows.{Flows, is_flow, all_read}
use Rattle.pdl_machine.specs.Following.{given, follow, followed}
use Rattle.pdl_machine.specs.Formulas.{formula_of}
use Rattle.pdl_machine.specs.State.{State, with_arrays, held, needs, kept, IsWhole}
use Rattle.pdl_machine.specs.Tidy.{older}
use Rattle.pdl_machine.specs.Watches.{attaching, detaching}
use Rattle.pdl_machine.specs.Laws.{AreGrown}
use Rattle.pdl_machine.specs.Outcome.{Given, Valued, all_seen, new_root}
use Rattle.pdl_machine.specs.Operators.{values_for}
use Rattle.pdl_machine.specs.Cuts.{cut, dims_given, reshaped, is_watched, is_read}
use Rattle.pdl_machine.specs.Kernels.{can_name, kernel_of, texts_of, defined}
use Rattle.pdl_machine.specs.Calls.{Callee, callee_of, several, value_by}
use Rattle.pdl_machine.specs.Value.{value_of, taken}
use Rattle.pdl_machine.specs.Dumps.{dumped}
use Rattle.pdl_machine.specs.Step.{Stepped, bind_value, bound, ending, bind_severed, begun, flowing, roots_bound, outputs_bound, kernel_named, list_bound, several_bound, target, target_in, assigned, flowed, assigning, after_printing, severing, reshaping, watching, unwatching, effect}
use Rattle.pdl_machine.specs.Dumpable.{AreEach, AreNames, IsDefined, ViewsAreWritable, IsSpelled}
use Rattle.pdl_machine.specs.DumpableLaws.{EffectsKeepSpelled}
use Rattle.pdl_machine.proofs.TidyNumbering.{AreIn, append_in, front_in, back_in, orderly_sound, live_in, flows_in}
use Rattle.pdl_machine.proofs.StateSteps.{needs_in}
use Rattle.pdl_machine.proofs.OutcomeOrder.{ok_then, ok_always, unless_ok, refused_by, in_world-set, in_world-replaced}
use Rattle.pdl_machine.proofs.NamesSpelled.{each_with, each_without, few_with, names_renumbered}
use Rattle.pdl_machine.proofs.DumpableViews.{Laws, writable_swept, writable_replaced, writable_set, writable_renumbered, newer_go, set_apart, replaced_apart, replaced_above, below_before}
use Rattle.pdl_machine.proofs.ArraysSpelled.{Keeps, keeps_trans, IsNew, Arrives, keeps_new, keeps_of, value_by_arrives, value_arrives, taken_keeps}

-- what a statement leaves, before its arrays are numbered anew
record IsLeft (t : State) : Type 0 where
  names : AreNames t.names.arrays
  kernels : AreEach IsDefined t.names.kernels
  few : length t.names.kernels ≤ kernels_limit
  views : ViewsAreWritable (kept t)

-- it leaves that where the arrays are sound
abbrev Leaves : State × List ℕ → Type 0
Leaves p = IsWhole p.0 → IsLeft p.0

-- all views can be spelled, where the arrays are sound
record IsSpelledSo (t : State) : Type 0 where
  names : AreNames t.names.arrays
  kernels : AreEach IsDefined t.names.kernels
  few : length t.names.kernels ≤ kernels_limit
  views : IsSound t.arrays.world → ViewsAreWritable t.arrays.world

abbrev SpelledSo : State × List ℕ → Type 0
SpelledSo p = IsSpelledSo p.0

kept_views : (t : State) → ViewsAreWritable t.arrays.world → ViewsAreWritable (kept t)
kept_views t views = writable_swept t.arrays.world (needs t).arrays views

left_so : (t : State) → IsSpelledSo t → IsWhole t → IsLeft t
left_so t so whole = record { names = so.names; kernels = so.kernels; few = so.few; views = kept_views t (so.views whole.sound) }

spelled_so : (s : State) → IsSpelled s → IsSpelledSo s
spelled_so s spelled = record { names = spelled.names; kernels = spelled.kernels; few = spelled.few; views = λ sound. spelled.views }

all_left : (x : Stepped) → IfOk x SpelledSo → IfOk x Leaves
all_left (Ok p) so = left_so p.0 so
all_left (Err e) so = tt

-- ---- bindings

abbrev IsSpelledValue : Arrays × ℕ → Type 0
IsSpelledValue p = IsSound p.0.world → ViewsAreWritable p.0.world

bound_so : (s : State) (x : List ℕ) → IsSpelledSo s → IsName x → (valued : Valued) → IfOk valued IsSpelledValue → IfOk (bound s x valued) SpelledSo
bound_so s x so name valued fine = ok_then IsSpelledValue SpelledSo valued (bind_value s x) fine (λ v here. by_room v here (is_full_for names_limit s.names.arrays x))
  where
    by_room : (v : Arrays × ℕ) → IsSpelledValue v → (b : Bool) →
        IfOk (and_then (and_then (if b then Err TooManyNames else Ok (with_name s.names.arrays x v.1)) (λ arrays. Ok (record s.names { arrays = arrays }))) (λ names. Ok (record s { names = names; arrays = v.0 }, []))) SpelledSo
    by_room v here true = tt
    by_room v here false = record { names = each_with (λ y u. IsName y) s.names.arrays x v.1 so.names name; kernels = so.kernels; few = so.few; views = here }

-- a value that came, where those that were there can be spelled
value_spelled : (s : State) → IsSpelled s → (x : Valued) → IfOk x (Arrives s.arrays) → IfOk x IsSpelledValue
value_spelled s spelled (Ok p) came = λ sound. (keeps_of s.arrays p came).views sound spelled.views
value_spelled s spelled (Err e) came = tt

new_spelled : (s : State) → IsSpelled s → (x : Valued) → IfOk x (IsNew s.arrays) → IfOk x IsSpelledValue
new_spelled s spelled (Ok p) came = λ sound. (keeps_new s.arrays p came).views sound spelled.views
new_spelled s spelled (Err e) came = tt

-- a value that is cut is a root
cut_spelled : (s : State) → IsSpelled s → (p : Arrays × ℕ) → Arrives s.arrays p → IsSpelledValue (cut p.0 p.1, p.1)
cut_spelled s spelled p (inl e) =
    let P : Arrays → Type 0 = λ a. IsSound (sever_in a.world p.1) → ViewsAreWritable (sever_in a.world p.1) in
    subst P (sym e) (λ sound. writable_replaced s.arrays.world p.1 (ty_in s.arrays.world p.1) (dims_in s.arrays.world p.1) (elements s.arrays.world p.1) spelled.views)
cut_spelled s spelled p (inr n) =
    let P : Arrays × ℕ → Type 0 = λ q. IsSound (sever_in q.0.world q.1) → ViewsAreWritable (sever_in q.0.world q.1) in
    let k : ℕ = n.below.next in
    let w : World = n.below.world in
    let whole : World = (k, n.newest) ∷ w in
    let d : ArrayDef = root (ty_in whole k) (dims_in whole k) (elements whole k) in
    subst P n.is (λ sound.
    let same : replaced w k d ≡ w = replaced_above w k d (below_before k w k d sound.0) in
    let views : ViewsAreWritable w = n.kept.views (subst IsSound same sound.2) spelled.views in
    let self : (k == k) ≡ true = eq-eqb k k refl in
    (rw self tt, writable_replaced w k (ty_in whole k) (dims_in whole k) (elements whole k) views))

severed_so : (s : State) (x : List ℕ) → IsSpelled s → IsName x → (v : Arrays × ℕ) → Arrives s.arrays v → IfOk (bind_severed s x v) SpelledSo
severed_so s x spelled name v came =
    bound_so (ending s v.1) x (record { names = spelled.names; kernels = spelled.kernels; few = spelled.few; views = λ sound. spelled.views }) name
    (Ok (cut v.0 v.1, v.1)) (cut_spelled s spelled v came)

flowing_so : (s : State) (x : List ℕ) (e : Tree) → IsSpelled s → IsName x → (v : Arrays × ℕ) → Arrives s.arrays v → IfOk (flowing s x e v) SpelledSo
flowing_so s x e spelled name v came =
    ok_always SpelledSo (formula_of s.names e) (λ f. bound (begun s v.0 f) x (new_root v.0 (array_in v.0 v.1))) (λ f.
    bound_so (begun s v.0 f) x (record { names = spelled.names; kernels = spelled.kernels; few = spelled.few; views = λ sound. spelled.views }) name
    (new_root v.0 (array_in v.0 v.1)) (λ sound. (tt, (keeps_of s.arrays v came).views sound.2 spelled.views)))

roots_so : (s : State) (xs : List (List ℕ)) (ms : List Made) → IsSpelledSo s → All IsName xs → IfOk (roots_bound s xs ms) SpelledSo
roots_so s [] ms so names = so
roots_so s (x ∷ xs) [] so names = so
roots_so s (x ∷ xs) (m ∷ ms) so names =
    ok_then SpelledSo SpelledSo (bound s x (new_root s.arrays m)) (λ after. roots_bound after.0 xs ms)
    (bound_so s x so (All-head IsName x xs names) (new_root s.arrays m) (λ sound. (tt, so.views sound.2)))
    (λ p next. roots_so p.0 xs ms next (All-tail IsName x xs names))

many_so : Laws → (s : State) → IsSpelled s → (xs : List (List ℕ)) → All IsName xs → (t : Arrays × List Given) → Keeps s.arrays t.0 → (c : Callee)
    → IfOk (and_then (several (length xs) (all_seen t.0 t.1) c) (roots_bound (with_arrays s t.0) xs)) SpelledSo
many_so laws s spelled xs names t came c =
    ok_always SpelledSo (several (length xs) (all_seen t.0 t.1) c) (roots_bound (with_arrays s t.0) xs) (λ ms.
    roots_so (with_arrays s t.0) xs ms (record { names = spelled.names; kernels = spelled.kernels; few = spelled.few; views = λ sound. came.views sound spelled.views }) names)

outputs_so : Laws → (s : State) → IsSpelled s → (xs : List (List ℕ)) → All IsName xs → (t : Arrays × List Given) → Keeps s.arrays t.0 → (c : Callee) → IfOk (outputs_bound s xs t c) SpelledSo
outputs_so laws s spelled (x ∷ []) names t came c =
    bound_so s x (spelled_so s spelled) (All-head IsName x [] names) (value_by t.0 t.1 c) (new_spelled s spelled (value_by t.0 t.1 c) (value_by_arrives laws s.arrays t.0 came t.1 c))
outputs_so laws s spelled [] names t came c = many_so laws s spelled [] names t came c
outputs_so laws s spelled (x ∷ y ∷ xs) names t came c = many_so laws s spelled (x ∷ y ∷ xs) names t came c

abbrev Taken : State → Arrays × List Given → Type 0
Taken s t = Keeps s.arrays t.0

several_so : Laws → (s : State) → IsSpelled s → (xs : List (List ℕ)) → All IsName xs → (e : Tree) → IfOk (several_bound s xs e) SpelledSo
several_so laws s spelled xs names (call f args) =
    ok_then (Taken s) SpelledSo (taken s.names s.arrays args) (list_bound s xs f) (taken_keeps laws s.names args s.arrays) (λ t came.
    ok_always SpelledSo (callee_of s.names f) (outputs_bound s xs t) (λ c. outputs_so laws s spelled xs names t came c))
several_so laws s spelled xs names (number n) = tt
several_so laws s spelled xs names (named x) = tt
several_so laws s spelled xs names (literal ty ds es) = tt
several_so laws s spelled xs names (unary op e) = tt
several_so laws s spelled xs names (binary op e f) = tt

-- ---- changes, after which no new array is reached

-- what a state holds and what its formulas read is there
abbrev named_in : State → List ℕ
named_in s = held s ++ all_read s.flows

abbrev are_named : State → Type 0
are_named s = AreIn s.arrays.world (named_in s)

-- a world is one of such views, where these arrays are, behind newer ones
record IsSplit (hs : List ℕ) (whole : World) : Type 0 where
  front : World
  base : World
  is : whole ≡ front ++ base
  there : AreIn base hs
  views : ViewsAreWritable base

-- what is kept of older arrays and newer ones that nothing holds
older_views : (front w : World) (hs : List ℕ) → IsSound (front ++ w) → AreIn w hs → ViewsAreWritable w → ViewsAreWritable (sweep (front ++ w) hs)
older_views front w hs sound there views =
    subst ViewsAreWritable (sym (newer_go front w hs (orderly_sound (front ++ w) sound) there)) (writable_swept w hs views)

split_views : (t : State) → IsSplit (named_in t) t.arrays.world → IsSound t.arrays.world → ViewsAreWritable (kept t)
split_views t split sound =
    let ks : List ℕ = (needs t).arrays in
    let there : AreIn split.base ks =
    needs_in split.base t.arrays.world t.flows (held t) (front_in split.base (held t) (all_read t.flows) split.there) (back_in split.base (held t) (all_read t.flows) split.there) in
    let P : World → Type 0 = λ u. ViewsAreWritable (sweep u ks) in
    subst P (sym split.is) (older_views split.front split.base ks (subst IsSound split.is sound) there split.views)

in_set : (w : World) (r : ℕ) (es : List ℤ) (hs : List ℕ) → AreIn w hs → AreIn (set_elements w r es) hs
in_set w r es [] there = tt
in_set w r es (v ∷ hs) there = (in_world-set w r v es ∙ there.0, in_set w r es hs there.1)

in_replaced : (w : World) (v : ℕ) (d : ArrayDef) (hs : List ℕ) → AreIn w hs → AreIn (replaced w v d) hs
in_replaced w v d [] there = tt
in_replaced w v d (u ∷ hs) there = (in_world-replaced w v u d ∙ there.0, in_replaced w v d hs there.1)

-- an assignment leaves such a world, and so do flows that follow
assigned_split : (hs : List ℕ) (w : World) → IsSplit hs w → (o : Option Look) (vs : List ℤ) → IsSplit hs (assign_through w o vs)
assigned_split hs w split None vs = split
assigned_split hs w split (Some l) vs =
    let es : List ℤ = write l.places vs (root_elements w l.root) in
    record {
      front = set_elements split.front l.root es;
      base = set_elements split.base l.root es;
      is = ap (λ (u : World). set_elements u l.root es) split.is ∙ set_apart split.front split.base l.root es;
      there = in_set split.base l.root es hs split.there;
      views = writable_set split.base l.root es split.views;
    }

followed_split : (hs : List ℕ) (a : Arrays) → IsSplit hs a.world → (flows : Flows) → IsSplit hs (followed a flows).world
followed_split hs a split [] = split
followed_split hs a split (f ∷ flows) = followed_split hs (follow a f) (by_value (meaning (array_in a) f.formula)) flows
  where
    by_value : (x : Result Made OpRefusal) → IsSplit hs (given a f.root x).world
    by_value (Ok m) = assigned_split hs a.world split (look a.world f.root) m.elems
    by_value (Err e) = split

assigning_left : Laws → (s : State) → IsSpelled s → are_named s → (to : Tree) (sign : AssignOp) (e : Tree) → IfOk (assigning s to sign e) Leaves
assigning_left laws s spelled there to sign e =
    ok_then (Arrives s.arrays) Leaves (target_in s to) (λ v. and_then (value_of s.names v.0 e) (λ u. last v.1 u))
    (unless_ok (Arrives s.arrays) s.flows (value_of s.names s.arrays to) (value_arrives laws s.names to s.arrays)) (λ v came.
    ok_then (Arrives v.0) Leaves (value_of s.names v.0 e) (λ u. last v.1 u) (value_arrives laws s.names e v.0) (λ u next.
    let grown : AreGrown s.arrays u.0 = (keeps_trans s.arrays v.0 u.0 (keeps_of s.arrays v came) (keeps_of v.0 u next)).grown in
    by_values v.1 u grown (values_for sign (array_in u.0 v.1) (array_in u.0 u.1))))
  where
    last : ℕ → Arrays × ℕ → Stepped
    last v u = and_then (assigned sign u.0 v u.1) (λ b. Ok (flowed (with_arrays s b), []))

    by_values : (v : ℕ) (u : Arrays × ℕ) → AreGrown s.arrays u.0 → (x : Result (List ℤ) Fault) →
        IfOk (and_then (and_then x (λ values. Ok (record u.0 { world = assign_in u.0.world v values }))) (λ b. Ok (flowed (with_arrays s b), []))) Leaves
    by_values v u grown (Err f) = tt
    by_values v u grown (Ok values) = λ whole.
        let hs : List ℕ = named_in s in
        let before : IsSplit hs u.0.world = record { front = grown.more; base = s.arrays.world; is = grown.is; there = there; views = spelled.views } in
        let b : Arrays = record u.0 { world = assign_in u.0.world v values } in
        record {
          names = spelled.names;
          kernels = spelled.kernels;
          few = spelled.few;
          views = split_views (flowed (with_arrays s b)) (followed_split hs b (assigned_split hs u.0.world before (look u.0.world v) values) s.flows) whole.sound;
        }

reshaping_left : (s : State) → IsSpelled s → are_named s → (v : ℕ) (t : Arrays × List Given) → Keeps s.arrays t.0 → IfOk (reshaping s v t) Leaves
reshaping_left s spelled there v t came =
    ok_always Leaves (dims_given t) (λ ds. and_then (reshaped s.watches s.flows t.0 v ds) (λ a. Ok (with_arrays s a, []))) (λ ds.
    by_tests ds (breaks t.0.world v ds) (is_watched s.watches t.0.world v) (is_flow s.flows v) (is_read s.flows t.0.world v))
  where
    by_tests : (ds : List ℕ) (x y z r : Bool) → IfOk (and_then (refused_by x y z r (record t.0 { world = reshape_in t.0.world v ds })) (λ a. Ok (with_arrays s a, []))) Leaves
    by_tests ds true y z r = tt
    by_tests ds false true z r = tt
    by_tests ds false false true r = tt
    by_tests ds false false false true = tt
    by_tests ds false false false false = λ whole.
        let w : World = s.arrays.world in
        let es : List ℤ = fitted (size_of ds) (elements t.0.world v) in
        let d : ArrayDef = root (ty_in t.0.world v) ds es in
        let a : Arrays = record t.0 { world = reshape_in t.0.world v ds } in
        record {
          names = spelled.names;
          kernels = spelled.kernels;
          few = spelled.few;
          views = split_views (with_arrays s a) (record {
            front = replaced came.grown.more v d;
            base = replaced w v d;
            is = ap (λ (u : World). replaced u v d) came.grown.is ∙ replaced_apart came.grown.more w v d;
            there = in_replaced w v d (named_in s) there;
            views = writable_replaced w v (ty_in t.0.world v) ds es spelled.views;
          }) whole.sound;
        }

-- ---- kernels, and the end of a name

texts_are : (f a b : List ℕ) (k : KernelTexts) → defined f a b ≡ Ok k → texts_of a b ≡ k
texts_are f a b k is = by_test (can_name f) (λ can. by_reading (kernel_of (texts_of a b)) (rw can at is)) (λ cannot. let e : Err WrongArguments ≡ Ok k = rw cannot at is in absurd (never e))
  where
    never : {e : Fault} {k : KernelTexts} → Err e ≡ Ok k → ⊥
    never e = cc

    texts_in : Result KernelTexts Fault → KernelTexts
    texts_in (Ok t) = t
    texts_in (Err e) = k

    by_reading : (x : Result Kernel Fault) → and_then x (λ k. Ok (texts_of a b)) ≡ Ok k → texts_of a b ≡ k
    by_reading (Ok kernel) e = ap texts_in e
    by_reading (Err fault) e = absurd (never e)

is_defined : (f a b : List ℕ) → IsQuotable a → IsQuotable b → (k : KernelTexts) → defined f a b ≡ Ok k → IsDefined f k
is_defined f a b signature code k is =
    let P : KernelTexts → Type 0 = λ t. defined f a b ≡ Ok t → IsDefined f t in
    subst P (texts_are f a b k is) (λ here. record { is = here; signature = signature; code = code }) is

named_so : (s : State) (f : List ℕ) (k : KernelTexts) → IsSpelledSo s → IsDefined f k → IfOk (kernel_named s f k) SpelledSo
named_so s f k so is = by_room (is_full_for kernels_limit s.names.kernels f) refl
  where
    by_room : (b : Bool) → is_full_for kernels_limit s.names.kernels f ≡ b →
        IfOk (and_then (and_then (if b then Err TooManyKernels else Ok (with_name s.names.kernels f k)) (λ kernels. Ok (record s.names { kernels = kernels }))) (λ names. Ok (record s { names = names }, []))) SpelledSo
    by_room true full = tt
    by_room false room = record {
      names = so.names;
      kernels = each_with IsDefined s.names.kernels f k so.kernels is;
      few = few_with kernels_limit s.names.kernels f k room so.few;
      views = so.views;
    }

defined_so : (s : State) → IsSpelledSo s → (f a b : List ℕ) → IsQuotable a → IsQuotable b → IfOk (and_then (defined f a b) (kernel_named s f)) SpelledSo
defined_so s so f a b signature code = by_texts (defined f a b) refl
  where
    by_texts : (x : Result KernelTexts Fault) → defined f a b ≡ x → IfOk (and_then x (kernel_named s f)) SpelledSo
    by_texts (Ok k) is = named_so s f k so (is_defined f a b signature code k is)
    by_texts (Err e) is = tt

unbound_so : (s : State) → IsSpelledSo s → (x : List ℕ) → IfOk (and_then (unbind s.names x) (λ names. Ok (record s { names = names }, []))) SpelledSo
unbound_so s so x = by_number (bound_to s.names x)
  where
    by_number : (o : Result ℕ Fault) → IfOk (and_then (and_then o (λ v. Ok (record s.names { arrays = without_name s.names.arrays x }))) (λ names. Ok (record s { names = names }, []))) SpelledSo
    by_number (Err e) = tt
    by_number (Ok v) = record { names = each_without (λ y u. IsName y) s.names.arrays x so.names; kernels = so.kernels; few = so.few; views = so.views }

-- the same names and arrays
rewatched_so : (s : State) → IsSpelledSo s → (x : Result (List (Option ℕ)) Fault) → IfOk (and_then x (λ ws. Ok (record s { watches = ws }, []))) SpelledSo
rewatched_so s so (Ok ws) = record { names = so.names; kernels = so.kernels; few = so.few; views = so.views }
rewatched_so s so (Err e) = tt

effect_left : Laws → (present : List Bool) (s : State) → IsSpelled s → are_named s → (statement : StatementTree) → IsWellMade statement → IfOk (effect present s statement) Leaves
effect_left laws present s spelled there (bind x e false) made =
    all_left (bound s x (value_of s.names s.arrays e))
    (bound_so s x (spelled_so s spelled) made.0 (value_of s.names s.arrays e) (value_spelled s spelled (value_of s.names s.arrays e) (value_arrives laws s.names e s.arrays)))
effect_left laws present s spelled there (bind x e true) made =
    all_left (and_then (value_of s.names s.arrays e) (bind_severed s x))
    (ok_then (Arrives s.arrays) SpelledSo (value_of s.names s.arrays e) (bind_severed s x) (value_arrives laws s.names e s.arrays) (severed_so s x spelled made.0))
effect_left laws present s spelled there (bind_list xs e) made = all_left (several_bound s xs e) (several_so laws s spelled xs made.0 e)
effect_left laws present s spelled there (assign x views sign e) made = assigning_left laws s spelled there (target x views) sign e
effect_left laws present s spelled there (show e is_info) made =
    ok_then (Arrives s.arrays) Leaves (value_of s.names s.arrays e) (λ v. Ok (after_printing s is_info v)) (value_arrives laws s.names e s.arrays) (λ v came.
    left_so (with_arrays s v.0) (record { names = spelled.names; kernels = spelled.kernels; few = spelled.few; views = λ sound. (keeps_of s.arrays v came).views sound spelled.views }))
effect_left laws present s spelled there (show_text t) made = left_so s (spelled_so s spelled)
effect_left laws present s spelled there (sever x) made =
    ok_always Leaves (bound_to s.names x) (severing s) (λ v.
    left_so (with_arrays (ending s v) (cut s.arrays v)) (record {
      names = spelled.names;
      kernels = spelled.kernels;
      few = spelled.few;
      views = λ sound. writable_replaced s.arrays.world v (ty_in s.arrays.world v) (dims_in s.arrays.world v) (elements s.arrays.world v) spelled.views;
    }))
effect_left laws present s spelled there (reshape x sizes) made =
    ok_always Leaves (bound_to s.names x) (λ v. and_then (taken s.names s.arrays sizes) (reshaping s v)) (λ v.
    ok_then (Taken s) Leaves (taken s.names s.arrays sizes) (reshaping s v) (taken_keeps laws s.names sizes s.arrays) (λ t came. reshaping_left s spelled there v t came))
effect_left laws present s spelled there (undef x) made =
    all_left (and_then (unbind s.names x) (λ names. Ok (record s { names = names }, []))) (unbound_so s (spelled_so s spelled) x)
effect_left laws present s spelled there vars made = left_so s (spelled_so s spelled)
effect_left laws present s spelled there dump made = ok_always Leaves (dumped s) (λ text. Ok (s, text)) (λ text. left_so s (spelled_so s spelled))
effect_left laws present s spelled there (flow x e) made =
    all_left (and_then (value_of s.names s.arrays e) (flowing s x e))
    (ok_then (Arrives s.arrays) SpelledSo (value_of s.names s.arrays e) (flowing s x e) (value_arrives laws s.names e s.arrays) (flowing_so s x e spelled made.0))
effect_left laws present s spelled there (pp_def f a b) made =
    all_left (and_then (defined f a b) (kernel_named s f)) (defined_so s (spelled_so s spelled) f a b made.1 made.2)
effect_left laws present s spelled there (watch x slot) made =
    ok_always Leaves (bound_to s.names x) (watching present s slot) (λ v. all_left (watching present s slot v) (rewatched_so s (spelled_so s spelled) (attaching present s.watches slot v)))
effect_left laws present s spelled there (unwatch slot) made = all_left (unwatching s slot) (rewatched_so s (spelled_so s spelled) (detaching s.watches slot))

pub effects_keep_spelled : Laws → EffectsKeepSpelled
effects_keep_spelled laws present s statement after whole spelled made is still =
    let P : Stepped → Type 0 = λ x. IfOk x Leaves in
    let there : are_named s = append_in s.arrays.world (held s) (all_read s.flows) (live_in s.arrays.world (held s) whole.live) (flows_in s.arrays s.flows whole.flows) in
    let left : Leaves after = subst P is (effect_left laws present s spelled there statement made) in
    let h : IsLeft after.0 = left still in
    record {
      names = names_renumbered (older (kept after.0)) after.0.names.arrays h.names;
      kernels = h.kernels;
      few = h.few;
      views = writable_renumbered (kept after.0) h.views;
    }
