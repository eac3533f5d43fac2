-- States that differ in numbers, and in arrays that only one has, are the same once they are tidied.
use Rattle.std.proofs.Common.{◌≡◌, ◌≢◌, ℕ, suc, List, [], ◌∷◌, ◌++◌, length, map, Bool, true, false, Some, None, refl, sym, ap, subst, ◌∙◌, eqb-true}
use Rattle.std.specs.Prelude.{◌==◌, if◌then◌else◌, option_map}
use Rattle.pdl_lemmas.specs.Tests.{by_test}
use Rattle.pdl_world.specs.World.{World, ArrayDef, root, view}
use Rattle.pdl_machine.specs.Names.{KernelTexts, Named, Names}
use Rattle.pdl_machine.specs.Flows.{Flows, flow_by, Needs, needs_of}
use Rattle.pdl_machine.specs.State.{State, held, needs, kept}
use Rattle.pdl_machine.specs.Laws.{LettingGoUnseen, SettlingUnseen, SweepsByFewer}
use Rattle.pdl_world.specs.Swept.{is_listed, parents, kept_onto, sweep}
use Rattle.pdl_machine.specs.Tidy.{older, with_parent, renumber, renumbered, with_numbers, settled, tidy}
use Rattle.std.proofs.lemmas.List.{map-append}
use Rattle.pdl_machine.specs.Watches.{Watches, attached}
use Rattle.pdl_machine.proofs.WatchLemmas.{attached_renamed}
use Rattle.pdl_machine.proofs.ArraysRenamed.{IsApart, same_test, holds_renamed, Renames, empty, more, same, StateAlike}
use Rattle.pdl_machine.proofs.FlowLemmas.{needs_by, needs_renamed, needs_kept, needs_again, flows_twice}

-- a world under other numbers
abbrev pub renamed : (ℕ → ℕ) → World → World
renamed g [] = []
renamed g ((i, d) ∷ w) = (g i, with_parent g d) ∷ renamed g w

holds_never : (g : ℕ → ℕ) (hs : List ℕ) (k : ℕ) → ((i : ℕ) → g i ≢ k) → is_listed (map g hs) k ≡ false
holds_never g [] k left = refl
holds_never g (h ∷ hs) k left =
    let other : (g h == k) ≡ false = by_test (g h == k) (λ same. absurd (left h (eqb-true (g h) k same))) (λ o. o) in
    rw other (holds_never g hs k left)

parents_renamed : (g : ℕ → ℕ) (d : ArrayDef) (hs : List ℕ) → parents (with_parent g d) ++ map g hs ≡ map g (parents d ++ hs)
parents_renamed g (root ty ds es) hs = refl
parents_renamed g (view p t) hs = refl

-- both are swept alike, and arrays that only one has go
pub sweep_renamed : (g : ℕ → ℕ) → IsApart g → {all : Bool} {w u : World} → Renames g all w u → (hs : List ℕ) → sweep u (map g hs) ≡ renamed g (sweep w hs)
sweep_renamed g apart empty hs = refl
sweep_renamed g apart (more {w = w} {u = u} k d left r) hs =
    let P : Bool → Type 0 = λ keeps. kept_onto keeps (k, d) (sweep u (if keeps then parents d ++ map g hs else map g hs)) ≡ renamed g (sweep w hs) in
    subst P (sym (holds_never g hs k left)) (sweep_renamed g apart r hs)
sweep_renamed g apart (same {w = w} {u = u} i d r) hs =
    let P : Bool → Type 0 = λ keeps. kept_onto keeps (g i, with_parent g d) (sweep u (if keeps then parents (with_parent g d) ++ map g hs else map g hs)) ≡ renamed g (sweep ((i, d) ∷ w) hs) in
    subst P (sym (holds_renamed g apart hs i)) (by_keeps (sweep_renamed g apart r) (is_listed hs i))
  where
    by_keeps : ((hs : List ℕ) → sweep u (map g hs) ≡ renamed g (sweep w hs)) → (keeps : Bool)
        → kept_onto keeps (g i, with_parent g d) (sweep u (if keeps then parents (with_parent g d) ++ map g hs else map g hs)) ≡ renamed g (kept_onto keeps (i, d) (sweep w (if keeps then parents d ++ hs else hs)))
    by_keeps rest true = ap (λ x. (g i, with_parent g d) ∷ sweep u x) (parents_renamed g d hs) ∙ ap (λ x. (g i, with_parent g d) ∷ x) (rest (parents d ++ hs))
    by_keeps rest false = rest hs

pub length-renamed : (g : ℕ → ℕ) (w : World) → length (renamed g w) ≡ length w
length-renamed g [] = refl
length-renamed g ((i, d) ∷ w) = ap suc (length-renamed g w)

pub older_renamed : (g : ℕ → ℕ) → IsApart g → (w : World) (v : ℕ) → older (renamed g w) (g v) ≡ older w v
older_renamed g apart [] v = refl
older_renamed g apart ((i, d) ∷ w) v =
    ap (λ b. if b then length (renamed g w) else older (renamed g w) (g v)) (same_test g apart i v)
    ∙ ap (λ n. if i == v then n else older (renamed g w) (g v)) (length-renamed g w)
    ∙ ap (λ n. if i == v then length w else n) (older_renamed g apart w v)

parent_renamed : (g : ℕ → ℕ) → IsApart g → (w : World) (d : ArrayDef) → with_parent (older (renamed g w)) (with_parent g d) ≡ with_parent (older w) d
parent_renamed g apart w (root ty ds es) = refl
parent_renamed g apart w (view p t) = ap (λ n. view n t) (older_renamed g apart w p)

abbrev entry : ℕ → ArrayDef → World → World
entry n d w = (n, d) ∷ w

-- numbered anew both are the same
pub renumber_renamed : (g : ℕ → ℕ) → IsApart g → (w : World) → renumber (renamed g w) ≡ renumber w
renumber_renamed g apart [] = refl
renumber_renamed g apart ((i, d) ∷ w) = three (length-renamed g w) (parent_renamed g apart w d) (renumber_renamed g apart w)
  where
    three : {n m : ℕ} {x y : ArrayDef} {u v : World} → n ≡ m → x ≡ y → u ≡ v → entry n x u ≡ entry m y v
    three p q s = cc

pub names_renamed : (g : ℕ → ℕ) → IsApart g → (w : World) (names : Named ℕ) → renumbered (older (renamed g w)) (renumbered g names) ≡ renumbered (older w) names
names_renamed g apart w [] = refl
names_renamed g apart w (n ∷ names) =
    ap (λ v. (n.0, v) ∷ renumbered (older (renamed g w)) (renumbered g names)) (older_renamed g apart w n.1) ∙ ap (λ rest. (n.0, older w n.1) ∷ rest) (names_renamed g apart w names)

pub held_renamed : (g : ℕ → ℕ) (names : Named ℕ) → map (λ n. n.1) (renumbered g names) ≡ map g (map (λ n. n.1) names)
held_renamed g [] = refl
held_renamed g (n ∷ names) = ap (λ rest. g n.1 ∷ rest) (held_renamed g names)

-- and all that a state holds
pub held_alike : {all : Bool} (g : ℕ → ℕ) (s t : State) → StateAlike all g s t → held t ≡ map g (held s)
held_alike g s t h =
    ap (λ (vs : List ℕ). vs ++ attached t.watches) (ap (λ (names : Names). map (λ n. n.1) names.arrays) h.names ∙ held_renamed g s.names.arrays)
    ∙ ap (λ (ws : Watches). map g (map (λ n. n.1) s.names.arrays) ++ attached ws) h.watches
    ∙ ap (λ (vs : List ℕ). map g (map (λ n. n.1) s.names.arrays) ++ vs) (attached_renamed g s.watches)
    ∙ sym (map-append g (map (λ n. n.1) s.names.arrays) (attached s.watches))

watches_renamed : (g : ℕ → ℕ) → IsApart g → (w : World) (ws : Watches) → map (option_map (older (renamed g w))) (map (option_map g) ws) ≡ map (option_map (older w)) ws
watches_renamed g apart w [] = refl
watches_renamed g apart w (None ∷ ws) = ap (λ (us : Watches). None ∷ us) (watches_renamed g apart w ws)
watches_renamed g apart w (Some v ∷ ws) =
    ap (λ (u : ℕ). Some u ∷ map (option_map (older (renamed g w))) (map (option_map g) ws)) (older_renamed g apart w v)
    ∙ ap (λ (us : Watches). Some (older w v) ∷ us) (watches_renamed g apart w ws)

-- and all that it needs
pub needs_alike : {all : Bool} (g : ℕ → ℕ) (s t : State) → StateAlike all g s t → needs t ≡ needs_by g (needs s)
needs_alike g s t h =
    ap (λ (flows : Flows). needs_of t.arrays.world flows (held t)) h.flows
    ∙ ap (λ (hs : List ℕ). needs_of t.arrays.world (map (flow_by g) s.flows) hs) (held_alike g s t h)
    ∙ needs_renamed g h.arrays.apart h.arrays.world s.flows (held s)

-- both keep the same arrays
pub kept_alike : {all : Bool} (g : ℕ → ℕ) (s t : State) → StateAlike all g s t → kept t ≡ renamed g (kept s)
kept_alike g s t h =
    ap (λ (n : Needs). sweep t.arrays.world n.arrays) (needs_alike g s t h) ∙ sweep_renamed g h.arrays.apart h.arrays.world (needs s).arrays

abbrev pub state_of : Names → World → ℕ → Watches → Flows → State
state_of names w n ws flows = record { names = names; arrays = record { world = w; next = n }; watches = ws; flows = flows }

-- arrays' names beside kernels
abbrev beside : Named KernelTexts → Named ℕ → Names
beside ks bound = record { arrays = bound; kernels = ks }

-- states that are alike are the same once they are tidied
pub tidy_alike : {all : Bool} (g : ℕ → ℕ) (s t : State) → StateAlike all g s t → tidy t ≡ tidy s
tidy_alike g s t h =
    let apart : IsApart g = h.arrays.apart in
    let u : World = kept s in
    let swept : kept t ≡ renamed g u = kept_alike g s t h in
    let names : with_numbers (older (kept t)) t.names ≡ with_numbers (older u) s.names =
    ap (λ w. with_numbers (older w) t.names) swept ∙ ap (with_numbers (older (renamed g u))) h.names ∙ ap (beside s.names.kernels) (names_renamed g apart u s.names.arrays) in
    let world : renumber (kept t) ≡ renumber u = ap renumber swept ∙ renumber_renamed g apart u in
    let next : length (kept t) ≡ length u = ap length swept ∙ length-renamed g u in
    let watches : map (option_map (older (kept t))) t.watches ≡ map (option_map (older u)) s.watches =
    ap (λ (w : World). map (option_map (older w)) t.watches) swept ∙ ap (λ (ws : Watches). map (option_map (older (renamed g u))) ws) h.watches ∙ watches_renamed g apart u s.watches in
    let flows : map (flow_by (older (kept t))) (needs t).flows ≡ map (flow_by (older u)) (needs s).flows =
    ap (λ (w : World). map (flow_by (older w)) (needs t).flows) swept
    ∙ ap (λ (n : Needs). map (flow_by (older (renamed g u))) n.flows) (needs_alike g s t h)
    ∙ flows_twice (older (renamed g u)) g (older u) (older_renamed g apart u) (needs s).flows in
    all_same names world next watches flows
  where
    all_same : {n m : Names} {w x : World} {k l : ℕ} {ws xs : Watches} {fs hs : Flows} → n ≡ m → w ≡ x → k ≡ l → ws ≡ xs → fs ≡ hs → state_of n w k ws fs ≡ state_of m x l xs hs
    all_same p q r o f = cc

-- a sweep by fewer after a sweep by more is the sweep by fewer
pub sweep_again : SweepsByFewer
sweep_again [] many few h = refl
sweep_again ((k, d) ∷ w) many few h = by_keeps (λ m f i. sweep_again w m f i) (is_listed many k) (is_listed few k) refl refl
  where
    wider : (d : ArrayDef) (v : ℕ) → is_listed few v ≡ true → is_listed (parents d ++ many) v ≡ true
    wider (root ty ds es) v t = h v t
    wider (view p u) v t = by_test (p == v) (λ same. rw same refl) (λ other. rw other (h v t))

    both : (d : ArrayDef) (v : ℕ) → is_listed (parents d ++ few) v ≡ true → is_listed (parents d ++ many) v ≡ true
    both (root ty ds es) v t = h v t
    both (view p u) v t = by_test (p == v) (λ same. rw same refl) (λ other. rw other (h v (rw other at t)))

    clash : is_listed many k ≡ false → is_listed many k ≡ true → ⊥
    clash f t = cc

    by_keeps : ((m f : List ℕ) → ((v : ℕ) → is_listed f v ≡ true → is_listed m v ≡ true) → sweep (sweep w m) f ≡ sweep w f) → (m f : Bool) → is_listed many k ≡ m → is_listed few k ≡ f
        → sweep (kept_onto m (k, d) (sweep w (if m then parents d ++ many else many))) few ≡ kept_onto f (k, d) (sweep w (if f then parents d ++ few else few))
    by_keeps rest true true a b = rw b (ap (λ x. (k, d) ∷ x) (rest (parents d ++ many) (parents d ++ few) (both d)))
    by_keeps rest true false a b = rw b (rest (parents d ++ many) few (wider d))
    by_keeps rest false true a b = absurd (clash a (h k b))
    by_keeps rest false false a b = rest many few h

abbrev numbered_by : State → Flows → World → State
numbered_by s flows w = state_of (with_numbers (older w) s.names) (renumber w) (length w) (map (option_map (older w)) s.watches) (map (flow_by (older w)) flows)

pub letting_go_is_unseen : LettingGoUnseen
letting_go_is_unseen = λ s many h.
    ap (λ (n : Needs). numbered_by s n.flows (sweep (sweep s.arrays.world many) n.arrays)) (needs_kept s.arrays.world many s.flows (held s) h)
    ∙ ap (numbered_by s (needs s).flows) (sweep_again s.arrays.world many (needs s).arrays h)

-- what is needed is needed again
pub settling_is_unseen : SettlingUnseen
settling_is_unseen s =
    let again : needs (settled s) ≡ needs s = needs_again s.arrays.world s.flows (held s) in
    letting_go_is_unseen (settled s) (needs s).arrays (λ v t. ap (λ (n : Needs). is_listed n.arrays v) (sym again) ∙ t)
    ∙ ap (λ (n : Needs). numbered_by s n.flows (sweep s.arrays.world n.arrays)) again
