-- What flows take that follow an assignment, from what their parts take.
use Rattle.std.proofs.Common.{◌≡◌, ℕ, ℤ, ◌+◌, ◌≤◌, ◌<◌, pos, Bool, true, false, List, [], ◌∷◌, ◌++◌, All, drop, get_or, int_eq, length, Option, Some, None, Result, Ok, Err, refl, sym, ap, subst, ◌∙◌, arith}
use Rattle.std.specs.Prelude.{◌==◌, if◌then◌else◌, OnErr, OnOk, is_some, not, sum_by}
use Rattle.std.specs.Option.{option_map_or}
use Rattle.std.proofs.lemmas.List.{drop_more}
use Rattle.std.proofs.lemmas.List.Sums.{count_by-le-length, sum_by-append, sum_by-cons}
use Rattle.pdl_lemmas.specs.Tests.{by_test}
use Rattle.pdl_numbers.specs.Typed.{count_moved}
use Rattle.pdl_shape.specs.Shape.{size_of}
use Rattle.pdl_buf.specs.declared.made.Made.{Made}
use Rattle.pdl_flow.specs.Formula.{FormulaTree, number, array, unary, binary, convert, arrays_in}
use Rattle.pdl_flow.specs.Inputs.{Given, input_of, made_or, value_in}
use Rattle.pdl_flow.specs.Laws.{MeaningLaws}
use Rattle.pdl_flow.specs.Meaning.{meaning}
use Rattle.pdl_flow.specs.Steps.{moved_in, moved_of, steps_in}
use Rattle.pdl_world.specs.Paths.{root_of}
use Rattle.pdl_world.specs.Sound.{IsLive, IsSound}
use Rattle.pdl_world.specs.Swept.{is_listed}
use Rattle.pdl_world.specs.World.{World, Look, assign, dims_in, elements, look}
use Rattle.pdl_lexemes.specs.declared.AssignOp.{AssignOp}
use Rattle.pdl_engine.specs.Reading.{read_steps}
use Rattle.pdl_engine.specs.Resting.{IsResting}
use Rattle.pdl_engine.specs.State.{State as Engine, SameArrays, StayFresh}
use Rattle.pdl_machine.specs.declared.fault.Fault.{Fault}
use Rattle.pdl_machine.specs.Arrays.{Arrays, array_in}
use Rattle.pdl_machine.specs.Flows.{Flow, Flows, affected, reads_from}
use Rattle.pdl_machine.specs.Following.{AreFlows, follow}
use Rattle.pdl_machine.specs.Operators.{values_for}
use Rattle.pdl_machine.specs.State.{AreLive}
use Rattle.pdl_machine.specs.Step.{assigned}
use Rattle.pdl_machine.specs.Then.{and_then}
use Rattle.pdl_watch.specs.Slots.{StartsWith}
use Rattle.pdl_scope.specs.Costs.{ReadsNoDearer}
use Rattle.pdl_scope.specs.FlowCosts.{GrowingMakesNoFlowDearer, find_steps, follow_steps, followed_steps, following_steps, input_steps, once}
use Rattle.pdl_scope.specs.Plans.{listed, met_by, planned, values_in}
use Rattle.pdl_scope.specs.Scope.{arrays_of, engine_of}
use Rattle.pdl_scope.specs.declared.following.Change.{Change}
use Rattle.pdl_scope.proofs.CostsDearer.{growing, untouched}
use Rattle.pdl_scope.proofs.FlowFollowers.{ShowAll, listed_all, older_live}
use Rattle.pdl_scope.proofs.CostForeseen.{rested}
use Rattle.pdl_scope.proofs.FlowingStays.{each_at, flow_live, listed_back, listed_front}
use Rattle.pdl_scope.proofs.ScopeGrowing.{readied_arrays}

-- at most all elements move
pub moved_few : (es : List ℤ) → count_moved es ≤ length es
moved_few es = count_by-le-length (λ x. not (int_eq x (pos 0))) es

-- what was moved at once, or not at all
pub moved_once : {T E : Type 0} (r : Result T E) (before after n : ℕ) → OnOk r (after ≡ before + n) → OnErr r (after ≡ before) → after ≤ before + n
moved_once (Ok x) before after n done none = omega (arith, done)
moved_once (Err e) before after n done none = omega (arith, none)

-- ---- inputs

-- an array has an input where it is among those that have
pub met_is : (is : List Given) (k : ℕ) → is_listed (met_by is) k ≡ is_some (input_of is k)
met_is [] k = refl
met_is (i ∷ is) k = by_test (i.array == k) (λ same. rw same refl) (λ other. rw other (met_is is k))

-- one more
pub met_more : (is : List Given) (i : Given) (k : ℕ) → i.array ≡ k → met_by (is ++ i ∷ []) ≡ met_by is ++ k ∷ []
met_more [] i k is = ap (λ n. n ∷ []) is
met_more (j ∷ js) i k is = ap (λ ns. j.array ∷ ns) (met_more js i k is)

-- an array that was read and moved
pub input_taken : (e : Engine) (a : Arrays) (k : ℕ) (es : List ℤ) (before now after : ℕ) → es ≡ elements a.world k → now ≤ before + read_steps e k → after ≤ now + count_moved es → after ≤ before + input_steps e a k
input_taken e a k es before now after is read moved = (let same : count_moved es ≡ count_moved (elements a.world k) = ap count_moved is in omega (arith, same, read, moved))

-- it takes no more where arrays were made ready before
pub input_less : (e t : Engine) (cs : List Change) (k : ℕ) → IsResting e → IsResting t → SameArrays e t → StayFresh e t → IsLive e.world k → input_steps t (planned (arrays_of t) cs) k ≤ input_steps e (planned (arrays_of e) cs) k
input_less e t cs k old new same stay live =
    let less : read_steps t k ≤ read_steps e k = (rested e t old new same stay).reads k live in
    let moved : count_moved (elements (planned (arrays_of t) cs).world k) ≡ count_moved (elements (planned (arrays_of e) cs).world k) =
    ap (λ (a : Arrays). count_moved (elements (planned a cs).world k)) (readied_arrays e t same) in
    omega (arith, less, moved)

abbrev opened : (ks : List ℕ) (i : ℕ) → i < length ks → drop i ks ≡ get_or ks i 0 ∷ drop (i + 1) ks
opened ks i lt = drop_more ks i 0 lt

unmet_next : (f : ℕ → ℕ) (met ks : List ℕ) (i : ℕ) → i < length ks → sum_by f (once met (drop i ks)) ≡ sum_by f (if is_listed met (get_or ks i 0) then once met (drop (i + 1) ks) else get_or ks i 0 ∷ once (met ++ get_or ks i 0 ∷ []) (drop (i + 1) ks))
unmet_next f met ks i lt = ap (λ ns. sum_by f (once met ns)) (opened ks i lt)

-- one array more has an input
pub input_more : (f : ℕ → ℕ) (met more ks : List ℕ) (i now after begun cost : ℕ) → i < length ks → now + sum_by f (once met (drop i ks)) ≤ begun → cost ≤ f (get_or ks i 0) → after ≤ now + (if is_listed met (get_or ks i 0) then 0 else cost)
    → more ≡ (if is_listed met (get_or ks i 0) then met else met ++ get_or ks i 0 ∷ []) → after + sum_by f (once more (drop (i + 1) ks)) ≤ begun
input_more f met more ks i now after begun cost lt so_far low takes is = by_test (is_listed met (get_or ks i 0))
    (λ here.
    let same : more ≡ met = rw here at is in
    let taken : after ≤ now + 0 = rw here at takes in
    let next : sum_by f (once met (drop i ks)) ≡ sum_by f (once met (drop (i + 1) ks)) = rw here at (unmet_next f met ks i lt) in
    let rest : sum_by f (once more (drop (i + 1) ks)) ≡ sum_by f (once met (drop (i + 1) ks)) = ap (λ ns. sum_by f (once ns (drop (i + 1) ks))) same in
    omega (arith, so_far, taken, next, rest))
    (λ new.
    let k = get_or ks i 0 in
    let same : more ≡ met ++ k ∷ [] = rw new at is in
    let taken : after ≤ now + cost = rw new at takes in
    let next : sum_by f (once met (drop i ks)) ≡ sum_by f (k ∷ once (met ++ k ∷ []) (drop (i + 1) ks)) = rw new at (unmet_next f met ks i lt) in
    let rest : sum_by f (once more (drop (i + 1) ks)) ≡ sum_by f (once (met ++ k ∷ []) (drop (i + 1) ks)) = ap (λ ns. sum_by f (once ns (drop (i + 1) ks))) same in
    omega (arith, so_far, taken, next, rest, low, sum_by-cons f k (once (met ++ k ∷ []) (drop (i + 1) ks))))

-- or it hasn't, since memory ran out
pub input_short : (f : ℕ → ℕ) (met ks : List ℕ) (i now after begun cost : ℕ) → i < length ks → now + sum_by f (once met (drop i ks)) ≤ begun → cost ≤ f (get_or ks i 0) → after ≤ now + (if is_listed met (get_or ks i 0) then 0 else cost) → after ≤ begun
input_short f met ks i now after begun cost lt so_far low takes =
    (let all : after + sum_by f (once (if is_listed met (get_or ks i 0) then met else met ++ get_or ks i 0 ∷ []) (drop (i + 1) ks)) ≤ begun = input_more f met (if is_listed met (get_or ks i 0) then met else met ++ get_or ks i 0 ∷ []) ks i now after begun cost lt so_far low takes refl in omega (arith, all))

-- ---- formulas

-- what a formula moves goes by the arrays that it reads
pub steps_same : MeaningLaws → (g h : ℕ → Made) (f : FormulaTree) → ((k : ℕ) → is_listed (arrays_in f) k ≡ true → g k ≡ h k) → steps_in g f ≡ steps_in h f
steps_same laws g h f same = parts f same
  where
    each : (ks : List ℕ) → ((k : ℕ) → is_listed ks k ≡ true → g k ≡ h k) → All (λ k. g k ≡ h k) ks
    each ks is = each_at (λ k. g k ≡ h k) ks is

    moved : (f : FormulaTree) → ((k : ℕ) → is_listed (arrays_in f) k ≡ true → g k ≡ h k) → moved_in g f ≡ moved_in h f
    moved (number ty z) is = refl
    moved (array k) is = refl
    moved (unary op f) is = ap moved_of (laws.same g h (unary op f) (each (arrays_in f) is))
    moved (binary op f e) is = ap moved_of (laws.same g h (binary op f e) (each (arrays_in f ++ arrays_in e) is))
    moved (convert ty f) is = ap moved_of (laws.same g h (convert ty f) (each (arrays_in f) is))

    parts : (f : FormulaTree) → ((k : ℕ) → is_listed (arrays_in f) k ≡ true → g k ≡ h k) → steps_in g f ≡ steps_in h f
    parts (number ty z) is = refl
    parts (array k) is = refl
    parts (unary op f) is = (let a = parts f is in let b = moved f is in omega (arith, a, b))
    parts (convert ty f) is = (let a = parts f is in let b = moved f is in omega (arith, a, b))
    parts (binary op f e) is =
        let first : (k : ℕ) → is_listed (arrays_in f) k ≡ true → g k ≡ h k = λ k t. is k (listed_front (arrays_in f) (arrays_in e) k t) in
        let last : (k : ℕ) → is_listed (arrays_in e) k ≡ true → g k ≡ h k = λ k t. is k (listed_back (arrays_in f) (arrays_in e) k t) in
        let a = parts f first in
        let b = moved f first in
        let c = parts e last in
        let d = moved e last in
        omega (arith, a, b, c, d)

-- so it takes as much over inputs that are what the arrays show
pub found_within : MeaningLaws → (e : Engine) (b : Arrays) (f : Flow) (inputs : List Given) (before now after : ℕ) → ShowAll b inputs (arrays_in f.formula) → now ≤ before + sum_by (input_steps e b) (once [] (arrays_in f.formula)) → after ≤ now + steps_in (value_in inputs) f.formula
    → after ≤ before + find_steps e b f
found_within laws e b f inputs before now after is read moved =
    let same = steps_same laws (value_in inputs) (array_in b) f.formula (λ k t. ap made_or (listed_all (λ j. input_of inputs j ≡ Some (array_in b j)) (arrays_in f.formula) is k t)) in
    omega (arith, same, read, moved)

-- ---- flows

-- what is read once is there
once_live : (w : World) (met ks : List ℕ) → AreLive w ks → AreLive w (once met ks)
once_live w met [] live = tt
once_live w met (k ∷ ks) live = by_test (is_listed met k)
    (λ here. rw here (once_live w met ks live.1))
    (λ new. rw new (live.0, once_live w (met ++ k ∷ []) ks live.1))

inputs_less : (e t : Engine) (a : Arrays) (ks : List ℕ) → ReadsNoDearer e t → AreLive e.world ks → sum_by (input_steps t a) ks ≤ sum_by (input_steps e a) ks
inputs_less e t a [] costs live = omega arith
inputs_less e t a (k ∷ ks) costs live =
    let here : read_steps t k ≤ read_steps e k = costs k live.0 in
    let rest = inputs_less e t a ks costs live.1 in
    omega (arith, here, rest, sum_by-cons (input_steps t a) k ks, sum_by-cons (input_steps e a) k ks)

-- a flow's root, and what its formula reads, are there
pub record IsThere (w : World) (f : Flow) : Type 0 where
  pub root : IsLive w f.root
  pub reads : AreLive w (arrays_in f.formula)

-- a flow that follows takes no more where no array is dearer
pub follow_less : (e t : Engine) (a : Arrays) (f : Flow) → ReadsNoDearer e t → dims_in t.world f.root ≡ dims_in e.world f.root → IsThere e.world f → follow_steps t a f ≤ follow_steps e a f
follow_less e t a f costs same there =
    let inputs = inputs_less e t a (once [] (arrays_in f.formula)) costs (once_live e.world [] (arrays_in f.formula) there.reads) in
    let root : read_steps t f.root ≤ read_steps e f.root = costs f.root there.root in
    let size : size_of (dims_in t.world f.root) ≡ size_of (dims_in e.world f.root) = ap size_of same in
    omega (arith, inputs, root, size)

abbrev AreThere : World → Flows → Type 0
AreThere w [] = Unit {0}
AreThere w (f ∷ flows) = IsThere w f × AreThere w flows

followed_less : (e t : Engine) (a : Arrays) (flows : Flows) → ReadsNoDearer e t → ((v : ℕ) → IsLive e.world v → dims_in t.world v ≡ dims_in e.world v) → AreThere e.world flows → followed_steps t a flows ≤ followed_steps e a flows
followed_less e t a [] costs same there = omega arith
followed_less e t a (f ∷ flows) costs same there =
    let one = follow_less e t a f costs (same f.root there.0.root) there.0 in
    let rest = followed_less e t (follow a f) flows costs same there.1 in
    omega (arith, one, rest)

-- those that follow are there
affected_there : (a : Arrays) (w : World) (flows : Flows) (rs : List ℕ) → AreFlows a flows → AreThere a.world (affected w flows rs)
affected_there a w [] rs h = tt
affected_there a w (f ∷ flows) rs h = by_test (reads_from w f rs)
    (λ reads. rw reads (record { root = flow_live a f h.0; reads = older_live a.world f.root (arrays_in f.formula) h.0.older }, affected_there a w flows (f.root ∷ rs) h.2))
    (λ none. rw none (affected_there a w flows rs h.2))

-- so it is of all that follow an assignment
pub following_less : (e t : Engine) (w : World) (fs : Flows) (rs : List ℕ) (count : ℕ) (after : Result Arrays Fault) → ReadsNoDearer e t → ((v : ℕ) → IsLive e.world v → dims_in t.world v ≡ dims_in e.world v) → AreFlows (arrays_of e) fs
    → following_steps t (affected w fs rs) count after ≤ following_steps e (affected w fs rs) count after
following_less e t w fs rs count after costs same flows = by_flows (affected w fs rs) after (affected_there (arrays_of e) w fs rs flows)
  where
    by_flows : (gs : Flows) (x : Result Arrays Fault) → AreThere e.world gs → following_steps t gs count x ≤ following_steps e gs count x
    by_flows [] x there = omega arith
    by_flows (f ∷ gs) (Err refusal) there = omega arith
    by_flows (f ∷ gs) (Ok a) there = (let all = followed_less e t a (f ∷ gs) costs same there in omega (arith, all))

pub growing_flows : GrowingMakesNoFlowDearer
growing_flows old new first last grown w v count after =
    following_less (engine_of old) (engine_of new) w old.flows (root_of w v ∷ []) count after (growing old new first last grown).reads
    (λ u live. ap (λ (o : Option Look). option_map_or (λ (l : Look). l.dims) o []) (seen u live))
    first.whole.flows
  where
    seen : (u : ℕ) → IsLive old.arrays.world u → look new.arrays.world u ≡ look old.arrays.world u
    seen u live =
        ap (λ (w : World). look w u) grown.arrays.is
        ∙ (untouched grown.arrays.more old.arrays.world u (subst IsSound grown.arrays.is last.whole.sound) live).look_is

-- ---- plans

-- values that were written at first are written still
values_first : (cs ds : List Change) → StartsWith ds cs → values_in cs ≤ values_in ds
values_first cs ds starts =
    let len : Change → ℕ = λ c. length (listed c.values) in
    let all : values_in ds ≡ values_in (cs ++ starts.0) = ap values_in starts.1 in
    omega (arith, all, sum_by-append len cs starts.0)

-- one more assignment
pub values_more : (cs : List Change) (d : Change) → values_in (cs ++ d ∷ []) ≡ values_in cs + length (listed d.values)
values_more cs d =
    let len : Change → ℕ = λ c. length (listed c.values) in
    let one : values_in (d ∷ []) ≡ 0 + length (listed d.values) = refl in
    omega (arith, one, sum_by-append len cs (d ∷ []))

-- what was paid with what will be written is paid without it
pub paid_first : (cs ds : List Change) (begun spent rest all : ℕ) → StartsWith ds cs → spent + values_in ds + rest ≤ begun + values_in cs + all → spent + rest ≤ begun + all
paid_first cs ds begun spent rest all starts paid = (let few = values_first cs ds starts in omega (arith, few, paid))

-- the values of an assignment are kept, and flows follow it
pub kept_and_followed : (e : Engine) (fs : Flows) (a : Arrays) (is_read : Bool) (size before now after : ℕ) → (fs ≡ [] → is_read ≡ false) → (is_read ≡ false → now ≡ before) → now ≤ before + size → after ≤ now + followed_steps e a fs
    → after ≤ before + following_steps e fs size (Ok a)
kept_and_followed e [] a is_read size before now after none unread kept followed = (let same = unread (none refl) in omega (arith, same, followed))
kept_and_followed e (f ∷ fs) a is_read size before now after none unread kept followed = omega (arith, kept, followed)

-- and what will be written is paid as well
pub kept_and_followed_and : (e : Engine) (fs : Flows) (a : Arrays) (is_read : Bool) (size before now after late : ℕ) → (fs ≡ [] → is_read ≡ false) → (is_read ≡ false → now ≡ before) → now ≤ before + size → after + late ≤ now + size + followed_steps e a fs
    → after + late ≤ before + size + following_steps e fs size (Ok a)
kept_and_followed_and e [] a is_read size before now after late none unread kept followed = (let same = unread (none refl) in omega (arith, same, followed))
kept_and_followed_and e (f ∷ fs) a is_read size before now after late none unread kept followed = omega (arith, kept, followed)

-- a flow that follows, from what it takes to find its elements: these are kept and will be written
pub flow_paid : (e t : Engine) (b : Arrays) (f : Flow) (es : List ℤ) (before found now kept : ℕ) → read_steps t f.root ≤ read_steps e f.root → length es ≡ size_of (dims_in e.world f.root) → found ≤ before + find_steps e b f → now ≤ found + read_steps t f.root → kept ≤ now + count_moved es
    → kept + length es ≤ before + follow_steps e b f
flow_paid e t b f es before found now kept less long finds reads keeps = omega (arith, less, long, finds, reads, keeps, moved_few es)

-- where arrays were made ready before, it takes no more than at the start
pub following_readied : (e t : Engine) (fs gs : Flows) (sign : AssignOp) (v u : ℕ) (vs : List ℤ) → ReadsNoDearer e t → SameArrays e t → AreFlows (arrays_of e) fs → gs ≡ fs → values_for sign (array_in (arrays_of t) v) (array_in (arrays_of t) u) ≡ Ok vs
    → following_steps t (affected t.world gs (root_of t.world v ∷ [])) (size_of (dims_in t.world v)) (Ok (record (arrays_of t) { world = assign t.world v vs }))
    ≤ following_steps e (affected e.world fs (root_of e.world v ∷ [])) (size_of (dims_in e.world v)) (assigned sign (arrays_of e) v u)
following_readied e t fs gs sign v u vs costs same flows one values =
    let here : values_for sign (array_in (arrays_of e) v) (array_in (arrays_of e) u) ≡ Ok vs = subst (λ (a : Arrays). values_for sign (array_in a v) (array_in a u) ≡ Ok vs) (readied_arrays e t same) values in
    let after : assigned sign (arrays_of e) v u ≡ Ok (written (arrays_of e)) = ap (λ (x : Result (List ℤ) Fault). and_then x (λ us. Ok (record (arrays_of e) { world = assign e.world v us }))) here in
    let took : takes gs (arrays_of t) ≡ takes fs (arrays_of e) = ap (λ (hs : Flows). takes hs (arrays_of t)) one ∙ ap (takes fs) (readied_arrays e t same) in
    let less = following_less e t e.world fs (root_of e.world v ∷ []) (size_of (dims_in e.world v)) (Ok (written (arrays_of e))) costs (λ k live. ap (λ (w : World). dims_in w k) same.world) flows in
    let now : following_steps e (affected e.world fs (root_of e.world v ∷ [])) (size_of (dims_in e.world v)) (assigned sign (arrays_of e) v u) ≡ following_steps e (affected e.world fs (root_of e.world v ∷ [])) (size_of (dims_in e.world v)) (Ok (written (arrays_of e))) =
    ap (following_steps e (affected e.world fs (root_of e.world v ∷ [])) (size_of (dims_in e.world v))) after in
    omega (arith, took, less, now)
  where
    written : Arrays → Arrays
    written a = record a { world = assign a.world v vs }

    takes : Flows → Arrays → ℕ
    takes hs a = following_steps t (affected a.world hs (root_of a.world v ∷ [])) (size_of (dims_in a.world v)) (Ok (written a))
