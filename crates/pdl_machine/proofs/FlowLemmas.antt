-- Flows under other numbers, and where arrays are let go.
use Rattle.std.proofs.Common.{◌≡◌, ℕ, List, [], ◌∷◌, ◌++◌, map, Bool, true, false, Result, Ok, Err, refl, sym, ap, subst, ◌∙◌, eqb-true, eq-eqb}
use Rattle.std.specs.Prelude.{◌==◌, ◌||◌, if◌then◌else◌}
use Rattle.std.proofs.lemmas.List.{map-append}
use Rattle.pdl_lemmas.specs.Tests.{by_test}
use Rattle.pdl_buf.specs.declared.made.Made.{Made}
use Rattle.pdl_ops.specs.Elementwise.{OpRefusal, converted, elementwise, unary_each}
use Rattle.pdl_flow.specs.Formula.{FormulaTree, number, array, unary, binary, convert, arrays_in}
use Rattle.pdl_flow.specs.Meaning.{and_then, meaning}
use Rattle.pdl_world.specs.Paths.{path}
use Rattle.pdl_world.specs.Swept.{is_listed, parents, kept_onto, sweep}
use Rattle.pdl_world.specs.World.{World, ArrayDef, root, view}
use Rattle.pdl_machine.specs.Arrays.{Arrays, array_in}
use Rattle.pdl_machine.specs.Flows.{Flow, Flows, is_flow, all_read, without_flow, formula_by, flow_by, is_reached, Needs, needs_with, needs_of}
use Rattle.pdl_machine.specs.Following.{given, follow, followed}
use Rattle.pdl_machine.proofs.ArraysRenamed.{IsApart, same_test, Renames, AreAlike, holds_renamed, path_renamed, assign_renamed, array_alike}

abbrev Value : Type 0
Value = Result Made OpRefusal

-- a formula under other numbers is what it was of the arrays under these
pub meaning_by : (value : ℕ → Made) (g : ℕ → ℕ) (f : FormulaTree) → meaning value (formula_by g f) ≡ meaning (λ k. value (g k)) f
meaning_by value g (number ty z) = refl
meaning_by value g (array k) = refl
meaning_by value g (unary op f) = ap (λ (x : Value). and_then x (λ a. Ok (unary_each op a))) (meaning_by value g f)
meaning_by value g (convert ty f) = ap (λ (x : Value). and_then x (λ a. Ok (converted ty a))) (meaning_by value g f)
meaning_by value g (binary op e f) =
    ap (λ (x : Value). and_then x (λ a. and_then (meaning value (formula_by g f)) (λ b. elementwise op a b))) (meaning_by value g e)
    ∙ ap (λ (x : Value). and_then (meaning (λ k. value (g k)) e) (λ a. and_then x (λ b. elementwise op a b))) (meaning_by value g f)

-- two values of each of these arrays are the same
abbrev pub AreSame : (v u : ℕ → Made) → List ℕ → Type 0
AreSame v u [] = Unit {0}
AreSame v u (k ∷ ks) = (v k ≡ u k) × AreSame v u ks

front_same : (v u : ℕ → Made) (ks ls : List ℕ) → AreSame v u (ks ++ ls) → AreSame v u ks
front_same v u [] ls h = tt
front_same v u (k ∷ ks) ls h = (h.0, front_same v u ks ls h.1)

back_same : (v u : ℕ → Made) (ks ls : List ℕ) → AreSame v u (ks ++ ls) → AreSame v u ls
back_same v u [] ls h = h
back_same v u (k ∷ ks) ls h = back_same v u ks ls h.1

pub all_same : (v u : ℕ → Made) → ((k : ℕ) → v k ≡ u k) → (ks : List ℕ) → AreSame v u ks
all_same v u h [] = tt
all_same v u h (k ∷ ks) = (h k, all_same v u h ks)

-- a formula goes by the arrays that it reads
pub meaning_same : (v u : ℕ → Made) (f : FormulaTree) → AreSame v u (arrays_in f) → meaning v f ≡ meaning u f
meaning_same v u (number ty z) h = refl
meaning_same v u (array k) h = ap (λ (m : Made). value_is m) h.0
  where
    value_is : Made → Value
    value_is m = Ok m
meaning_same v u (unary op f) h = ap (λ (x : Value). and_then x (λ a. Ok (unary_each op a))) (meaning_same v u f h)
meaning_same v u (convert ty f) h = ap (λ (x : Value). and_then x (λ a. Ok (converted ty a))) (meaning_same v u f h)
meaning_same v u (binary op e f) h =
    ap (λ (x : Value). and_then x (λ a. and_then (meaning v f) (λ b. elementwise op a b))) (meaning_same v u e (front_same v u (arrays_in e) (arrays_in f) h))
    ∙ ap (λ (x : Value). and_then (meaning u e) (λ a. and_then x (λ b. elementwise op a b))) (meaning_same v u f (back_same v u (arrays_in e) (arrays_in f) h))

pub arrays_by : (g : ℕ → ℕ) (f : FormulaTree) → arrays_in (formula_by g f) ≡ map g (arrays_in f)
arrays_by g (number ty z) = refl
arrays_by g (array k) = refl
arrays_by g (unary op f) = arrays_by g f
arrays_by g (convert ty f) = arrays_by g f
arrays_by g (binary op e f) =
    ap (λ (ks : List ℕ). ks ++ arrays_in (formula_by g f)) (arrays_by g e)
    ∙ ap (λ (ks : List ℕ). map g (arrays_in e) ++ ks) (arrays_by g f)
    ∙ sym (map-append g (arrays_in e) (arrays_in f))

pub all_read_by : (g : ℕ → ℕ) (flows : Flows) → all_read (map (flow_by g) flows) ≡ map g (all_read flows)
all_read_by g [] = refl
all_read_by g (f ∷ flows) =
    ap (λ (ks : List ℕ). ks ++ all_read (map (flow_by g) flows)) (arrays_by g f.formula)
    ∙ ap (λ (ks : List ℕ). map g (arrays_in f.formula) ++ ks) (all_read_by g flows)
    ∙ sym (map-append g (arrays_in f.formula) (all_read flows))

pub is_flow_by : (g : ℕ → ℕ) → IsApart g → (flows : Flows) (v : ℕ) → is_flow (map (flow_by g) flows) (g v) ≡ is_flow flows v
is_flow_by g apart [] v = refl
is_flow_by g apart (f ∷ flows) v =
    ap (λ b. b || is_flow (map (flow_by g) flows) (g v)) (same_test g apart f.root v) ∙ ap (λ b. (f.root == v) || b) (is_flow_by g apart flows v)

pub without_flow_by : (g : ℕ → ℕ) → IsApart g → (flows : Flows) (v : ℕ) → without_flow (map (flow_by g) flows) (g v) ≡ map (flow_by g) (without_flow flows v)
without_flow_by g apart [] v = refl
without_flow_by g apart (f ∷ flows) v = by_test (f.root == v)
    (λ is. let e : (g f.root == g v) ≡ true = same_test g apart f.root v ∙ is in rw (e, is) (without_flow_by g apart flows v))
    (λ other. let e : (g f.root == g v) ≡ false = same_test g apart f.root v ∙ other in
    rw (e, other) (ap (λ (fs : Flows). flow_by g f ∷ fs) (without_flow_by g apart flows v)))

-- numbers that become others, and then these
formula_twice : (f g h : ℕ → ℕ) → ((k : ℕ) → f (g k) ≡ h k) → (x : FormulaTree) → formula_by f (formula_by g x) ≡ formula_by h x
formula_twice f g h same (number ty z) = refl
formula_twice f g h same (array k) = ap array (same k)
formula_twice f g h same (unary op x) = ap (unary op) (formula_twice f g h same x)
formula_twice f g h same (convert ty x) = ap (convert ty) (formula_twice f g h same x)
formula_twice f g h same (binary op x y) =
    ap (λ (z : FormulaTree). binary op z (formula_by f (formula_by g y))) (formula_twice f g h same x) ∙ ap (binary op (formula_by h x)) (formula_twice f g h same y)

abbrev pub flow_of : ℕ → FormulaTree → Flow
flow_of r x = record { root = r; formula = x }

pub flows_twice : (f g h : ℕ → ℕ) → ((k : ℕ) → f (g k) ≡ h k) → (flows : Flows) → map (flow_by f) (map (flow_by g) flows) ≡ map (flow_by h) flows
flows_twice f g h same [] = refl
flows_twice f g h same (x ∷ flows) =
    ap (λ (r : ℕ). flow_of r (formula_by f (formula_by g x.formula)) ∷ map (flow_by f) (map (flow_by g) flows)) (same x.root)
    ∙ ap (λ (y : FormulaTree). flow_of (h x.root) y ∷ map (flow_by f) (map (flow_by g) flows)) (formula_twice f g h same x.formula)
    ∙ ap (λ (fs : Flows). flow_of (h x.root) (formula_by h x.formula) ∷ fs) (flows_twice f g h same flows)

-- the same is reached under other numbers
pub reached_by : (g : ℕ → ℕ) → IsApart g → {all : Bool} {w u : World} → Renames g all w u → (hs : List ℕ) (v : ℕ) → is_reached u (map g hs) (g v) ≡ is_reached w hs v
reached_by g apart r [] v = refl
reached_by g apart {all} {w} {u} r (h ∷ hs) v =
    ap (λ x. x || is_reached u (map g hs) (g v)) (ap (λ ps. is_listed ps (g v)) (path_renamed g apart r h) ∙ holds_renamed g apart (path w h) v)
    ∙ ap (λ x. is_listed (path w h) v || x) (reached_by g apart r hs v)

abbrev pub needs_by : (ℕ → ℕ) → Needs → Needs
needs_by g n = record { flows = map (flow_by g) n.flows; arrays = map g n.arrays }

needs_with_by : (g : ℕ → ℕ) (stays : Bool) (f : Flow) (n : Needs) → needs_with stays (flow_by g f) (needs_by g n) ≡ needs_by g (needs_with stays f n)
needs_with_by g true f n = ap (λ (ks : List ℕ). needing ks) (ap (λ (ks : List ℕ). ks ++ map g n.arrays) (arrays_by g f.formula) ∙ sym (map-append g (arrays_in f.formula) n.arrays))
  where
    needing : List ℕ → Needs
    needing ks = record { flows = flow_by g f ∷ map (flow_by g) n.flows; arrays = ks }
needs_with_by g false f n = refl

-- the same flows stay, and the same arrays are needed
pub needs_renamed : (g : ℕ → ℕ) → IsApart g → {all : Bool} {w u : World} → Renames g all w u → (flows : Flows) (hs : List ℕ)
    → needs_of u (map (flow_by g) flows) (map g hs) ≡ needs_by g (needs_of w flows hs)
needs_renamed g apart r [] hs = refl
needs_renamed g apart {all} {w} {u} r (f ∷ flows) hs =
    let n : Needs = needs_of w flows hs in
    ap (λ (m : Needs). needs_with (is_reached u m.arrays (g f.root)) (flow_by g f) m) (needs_renamed g apart r flows hs)
    ∙ ap (λ (stays : Bool). needs_with stays (flow_by g f) (needs_by g n)) (reached_by g apart r n.arrays f.root)
    ∙ needs_with_by g (is_reached w n.arrays f.root) f n

given_alike : {all : Bool} (g : ℕ → ℕ) (a b : Arrays) → AreAlike all g a b → (r : ℕ) (x : Value) → AreAlike all g (given a r x) (given b (g r) x)
given_alike g a b h r (Ok m) = record { apart = h.apart; world = assign_renamed g h.apart h.world r m.elems; next = h.next; on = h.on }
given_alike g a b h r (Err e) = h

-- flows follow alike
follow_alike : {all : Bool} (g : ℕ → ℕ) (a b : Arrays) → AreAlike all g a b → (f : Flow) → AreAlike all g (follow a f) (follow b (flow_by g f))
follow_alike {all} g a b h f =
    let same : meaning (array_in b) (formula_by g f.formula) ≡ meaning (array_in a) f.formula =
    meaning_by (array_in b) g f.formula
    ∙ meaning_same (λ k. array_in b (g k)) (array_in a) f.formula (all_same (λ k. array_in b (g k)) (array_in a) (array_alike g a b h) (arrays_in f.formula)) in
    let P : Value → Type 0 = λ x. AreAlike all g (follow a f) (given b (g f.root) x) in
    subst P (sym same) (given_alike g a b h f.root (meaning (array_in a) f.formula))

pub followed_alike : {all : Bool} (g : ℕ → ℕ) (a b : Arrays) → AreAlike all g a b → (flows : Flows) → AreAlike all g (followed a flows) (followed b (map (flow_by g) flows))
followed_alike g a b h [] = h
followed_alike g a b h (f ∷ flows) = followed_alike g (follow a f) (follow b (flow_by g f)) (follow_alike g a b h f) flows

-- ---- where arrays are let go

pub listed_front : (vs us : List ℕ) (k : ℕ) → is_listed vs k ≡ true → is_listed (vs ++ us) k ≡ true
listed_front [] us k h = cc
listed_front (v ∷ vs) us k h = by_test (v == k) (λ same. rw same refl) (λ other. let t : is_listed vs k ≡ true = rw other at h in rw other (listed_front vs us k t))

pub listed_back : (vs us : List ℕ) (k : ℕ) → is_listed us k ≡ true → is_listed (vs ++ us) k ≡ true
listed_back [] us k h = h
listed_back (v ∷ vs) us k h = by_test (v == k) (λ same. rw same refl) (λ other. rw other (listed_back vs us k h))

pub first_listed : (v : ℕ) (vs : List ℕ) → is_listed (v ∷ vs) v ≡ true
first_listed v vs = let self : (v == v) ≡ true = eq-eqb v v refl in rw self refl

pub later_listed : (v u : ℕ) (vs : List ℕ) → is_listed vs u ≡ true → is_listed (v ∷ vs) u ≡ true
later_listed v u vs t = by_test (v == u) (λ same. rw same refl) (λ other. rw other t)

more_needed : (stays : Bool) (f : Flow) (n : Needs) (v : ℕ) → is_listed n.arrays v ≡ true → is_listed (needs_with stays f n).arrays v ≡ true
more_needed true f n v h = listed_back (arrays_in f.formula) n.arrays v h
more_needed false f n v h = h

-- what is held is needed
pub held_needed : (w : World) (flows : Flows) (hs : List ℕ) (v : ℕ) → is_listed hs v ≡ true → is_listed (needs_of w flows hs).arrays v ≡ true
held_needed w [] hs v h = h
held_needed w (f ∷ flows) hs v h =
    let n : Needs = needs_of w flows hs in
    more_needed (is_reached w n.arrays f.root) f n v (held_needed w flows hs v h)

-- the newest array isn't on the path of another one
pub path_other : (k v : ℕ) (d : ArrayDef) (w : World) → (k == v) ≡ false → path ((k, d) ∷ w) v ≡ path w v
path_other k v (root ty ds es) w other = rw other refl
path_other k v (view p t) w other = rw other refl

-- the path of what is held stays
pub path_kept : (w : World) (many : List ℕ) (u : ℕ) → is_listed many u ≡ true → path (sweep w many) u ≡ path w u
path_kept [] many u held_u = refl
path_kept ((k, d) ∷ w) many u held_u = by_keeps d (λ m v h. path_kept w m v h) (is_listed many k) refl
  where
    by_keeps : (d : ArrayDef) → ((m : List ℕ) (v : ℕ) → is_listed m v ≡ true → path (sweep w m) v ≡ path w v) → (keeps : Bool) → is_listed many k ≡ keeps
        → path (kept_onto keeps (k, d) (sweep w (if keeps then parents d ++ many else many))) u ≡ path ((k, d) ∷ w) u
    by_keeps d rest false is = by_test (k == u)
        (λ same. let e : k ≡ u = eqb-true k u same in let t : is_listed many k ≡ true = ap (is_listed many) e ∙ held_u in cc)
        (λ other. rest many u held_u ∙ sym (path_other k u d w other))
    by_keeps (root ty ds es) rest true is = by_test (k == u) (λ same. rw same refl) (λ other. rw other (rest many u held_u))
    by_keeps (view p t) rest true is = by_test (k == u)
        (λ same. rw same (ap (λ (ps : List ℕ). k ∷ ps) (rest (p ∷ many) p (first_listed p many))))
        (λ other. rw other (rest (p ∷ many) u (later_listed p u many held_u)))

-- and so what is reached from it
reached_kept : (w : World) (many hs : List ℕ) (v : ℕ) → ((u : ℕ) → is_listed hs u ≡ true → is_listed many u ≡ true) → is_reached (sweep w many) hs v ≡ is_reached w hs v
reached_kept w many [] v all_held = refl
reached_kept w many (h ∷ hs) v all_held =
    ap (λ ps. is_listed ps v || is_reached (sweep w many) hs v) (path_kept w many h (all_held h (first_listed h hs)))
    ∙ ap (λ x. is_listed (path w h) v || x) (reached_kept w many hs v (λ u t. all_held u (later_listed h u hs t)))

-- and what is needed
pub needs_kept : (w : World) (many : List ℕ) (flows : Flows) (hs : List ℕ) → ((v : ℕ) → is_listed (needs_of w flows hs).arrays v ≡ true → is_listed many v ≡ true)
    → needs_of (sweep w many) flows hs ≡ needs_of w flows hs
needs_kept w many [] hs all_held = refl
needs_kept w many (f ∷ flows) hs all_held =
    let n : Needs = needs_of w flows hs in
    let below : (v : ℕ) → is_listed n.arrays v ≡ true → is_listed many v ≡ true = λ v t. all_held v (more_needed (is_reached w n.arrays f.root) f n v t) in
    ap (λ (m : Needs). needs_with (is_reached (sweep w many) m.arrays f.root) f m) (needs_kept w many flows hs below)
    ∙ ap (λ (stays : Bool). needs_with stays f n) (reached_kept w many n.arrays f.root below)

-- the flows that stay need no more than they did
pub needs_again : (w : World) (flows : Flows) (hs : List ℕ) → needs_of w (needs_of w flows hs).flows hs ≡ needs_of w flows hs
needs_again w [] hs = refl
needs_again w (f ∷ flows) hs = by_stays (needs_again w flows hs) (is_reached w (needs_of w flows hs).arrays f.root) refl
  where
    n : Needs
    n = needs_of w flows hs

    by_stays : needs_of w n.flows hs ≡ n → (stays : Bool) → is_reached w n.arrays f.root ≡ stays → needs_of w (needs_with stays f n).flows hs ≡ needs_with stays f n
    by_stays rest false is = rest
    by_stays rest true is =
        ap (λ (m : Needs). needs_with (is_reached w m.arrays f.root) f m) rest
        ∙ ap (λ (b : Bool). needs_with b f n) is
