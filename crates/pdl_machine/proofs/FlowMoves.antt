-- Flows stay flows where what they read, and their roots, are shown as they were.
use Rattle.std.proofs.Common.{◌≡◌, ℕ, ℤ, List, [], ◌∷◌, ◌++◌, true, false, Option, Some, Result, Ok, refl, sym, ap, subst, ◌∙◌, eqb-true, eq-eqb}
use Rattle.std.specs.Prelude.{◌==◌, ◌||◌, IsSomeAnd}
use Rattle.std.specs.Option.{option_map_or}
use Rattle.pdl_lemmas.specs.Tests.{by_test}
use Rattle.pdl_elem.specs.declared.Ty.{Ty}
use Rattle.pdl_elem.specs.declared.Ty.TheVariants.{Byte}
use Rattle.pdl_buf.specs.declared.made.Made.{Made}
use Rattle.pdl_shape.specs.Shape.{size_of}
use Rattle.pdl_ops.specs.Elementwise.{OpRefusal}
use Rattle.pdl_flow.specs.Formula.{arrays_in}
use Rattle.pdl_world.specs.World.{World, ArrayDef, root, Look, look_of_root, look, elements, dims_in, ty_in}
use Rattle.pdl_world.specs.Sound.{IsSound, IsLive}
use Rattle.pdl_world.specs.Swept.{is_listed}
use Rattle.pdl_world.specs.Cut.{replaced, sever, reshape, fitted}
use Rattle.pdl_world.specs.CutLaws.{ShowsTheSame, CutsLeaveOthers}
use Rattle.pdl_world.specs.Paths.{path}
use Rattle.pdl_world.specs.SweepLaws.{IsSeenAsBefore}
use Rattle.pdl_machine.specs.Arrays.{Arrays, array_in}
use Rattle.pdl_machine.specs.Flows.{Flow, Flows, is_flow, all_read, without_flow, is_reached}
use Rattle.pdl_machine.specs.Following.{AreOlder, IsFlow, RootsAbove, AreFlows}
use Rattle.pdl_machine.specs.FlowLaws.{FlowsStay}
use Rattle.pdl_machine.specs.Laws.{AreGrown}
use Rattle.pdl_machine.proofs.FlowLemmas.{AreSame, meaning_same, first_listed, listed_front, listed_back}
use Rattle.pdl_machine.proofs.TidyNumbering.{in_world, IsOrderly}
use Rattle.pdl_machine.proofs.OutcomeOrder.{orderly_replaced}
use Rattle.pdl_machine.proofs.StepQuiet.{WorldLaws, live_as, look_more, elements_more, path_more, replaced_more, replaced_none, sound_live, unreached}

-- ---- one flow

abbrev made_of : Ty → List ℕ → List ℤ → Made
made_of ty ds es = record { ty = ty; dims = ds; elems = es }

pub shown_same : (a b : Arrays) (k : ℕ) → ShowsTheSame a.world b.world k → array_in b k ≡ array_in a k
shown_same a b k h = three h.ty_is h.dims_are h.elems_are
  where
    three : {t t' : Ty} {ds ds' : List ℕ} {es es' : List ℤ} → t ≡ t' → ds ≡ ds' → es ≡ es' → made_of t ds es ≡ made_of t' ds' es'
    three p q r = cc

pub seen_shows : (w u : World) (k : ℕ) → IsSeenAsBefore w u k → ShowsTheSame w u k
seen_shows w u k h = record {
  ty_is = ap (λ (o : Option Look). option_map_or (λ l. l.ty) o Byte) h.look_is;
  dims_are = ap (λ (o : Option Look). option_map_or (λ l. l.dims) o []) h.look_is;
  elems_are = h.elems_are;
}

-- these arrays show what they showed, and are there
abbrev pub AreShown : (w u : World) → List ℕ → Type 0
AreShown w u [] = Unit {0}
AreShown w u (k ∷ ks) = ShowsTheSame w u k × IsLive u k × AreShown w u ks

pub same_shown : (a b : Arrays) (ks : List ℕ) → AreShown a.world b.world ks → AreSame (array_in b) (array_in a) ks
same_shown a b [] h = tt
same_shown a b (k ∷ ks) h = (shown_same a b k h.0, same_shown a b ks h.2)

older_shown : (w u : World) (r : ℕ) (ks : List ℕ) → AreOlder w r ks → AreShown w u ks → AreOlder u r ks
older_shown w u r [] older h = tt
older_shown w u r (k ∷ ks) older h = (older.0, h.1, older_shown w u r ks older.2 h.2)

abbrev value_is : Made → Result Made OpRefusal
value_is m = Ok m

pub flow_moved : (a b : Arrays) (f : Flow) → IsFlow a f → AreShown a.world b.world (arrays_in f.formula) → IsSeenAsBefore a.world b.world f.root → IsFlow b f
flow_moved a b f h shown root_seen = record {
  seen = h.seen;
  is_root = record { look_is = root_seen.look_is ∙ h.is_root.look_is; path_is = root_seen.path_is ∙ h.is_root.path_is };
  is_formula = h.is_formula;
  older = older_shown a.world b.world f.root (arrays_in f.formula) h.older shown;
  equals = meaning_same (array_in b) (array_in a) f.formula (same_shown a b (arrays_in f.formula) shown)
      ∙ h.equals ∙ ap value_is (sym (shown_same a b f.root (seen_shows a.world b.world f.root root_seen)));
}

look_live : (w : World) (v : ℕ) (l : Look) → look w v ≡ Some l → IsLive w v
look_live w v l is = let P : Option Look → Type 0 = λ o. IsSomeAnd o (λ x. Unit {0}) in subst P (sym is) tt

pub flow_live : (a : Arrays) (f : Flow) → IsFlow a f → IsLive a.world f.root
flow_live a f h = look_live a.world f.root (look_of_root f.root h.seen.ty h.seen.dims) h.is_root.look_is

-- ---- all flows

-- what they read, and their roots
abbrev pub AreMoved : (w u : World) → Flows → Type 0
AreMoved w u [] = Unit {0}
AreMoved w u (f ∷ flows) = AreShown w u (arrays_in f.formula) × IsSeenAsBefore w u f.root × AreMoved w u flows

pub flows_moved : (a b : Arrays) (flows : Flows) → AreFlows a flows → AreMoved a.world b.world flows → AreFlows b flows
flows_moved a b [] h moved = tt
flows_moved a b (f ∷ flows) h moved = (flow_moved a b f h.0 moved.0 moved.1, h.1, flows_moved a b flows h.2 moved.2)

older_seen : (w u : World) (r : ℕ) (ks : List ℕ) → AreOlder w r ks → ((k : ℕ) → is_listed ks k ≡ true → IsLive w k → ShowsTheSame w u k × IsLive u k) → AreShown w u ks
older_seen w u r [] older each = tt
older_seen w u r (k ∷ ks) older each =
    let here = each k (first_listed k ks) older.1 in
    (here.0, here.1, older_seen w u r ks older.2 (λ j t. each j (by_test (k == j) (λ same. rw same refl) (λ other. rw other t))))

-- by what holds of each array that is read, and of each root
pub all_moved : (a : Arrays) (u : World) (flows : Flows) → AreFlows a flows
    → ((k : ℕ) → is_listed (all_read flows) k ≡ true → IsLive a.world k → ShowsTheSame a.world u k × IsLive u k)
    → ((r : ℕ) → is_flow flows r ≡ true → IsLive a.world r → path a.world r ≡ r ∷ [] → IsSeenAsBefore a.world u r) → AreMoved a.world u flows
all_moved a u [] h reads roots = tt
all_moved a u (f ∷ flows) h reads roots =
    let ks : List ℕ = arrays_in f.formula in
    let self : (f.root == f.root) ≡ true = eq-eqb f.root f.root refl in
    let here : is_flow (f ∷ flows) f.root ≡ true = rw self refl in (
      older_seen a.world u f.root ks h.0.older (λ k t. reads k (listed_front ks (all_read flows) k t)),
      roots f.root here (flow_live a f h.0) h.0.is_root.path_is,
      all_moved a u flows h.2 (λ k t. reads k (listed_back ks (all_read flows) k t)) (λ r t. roots r (by_test (f.root == r) (λ same. rw same refl) (λ other. rw other t))),
    )

pub flows_stay : FlowsStay
flows_stay a b flows h reads roots = flows_moved a b flows h (all_moved a b.world flows h reads roots)

above_without : (n : ℕ) (flows : Flows) (v : ℕ) → RootsAbove n flows → RootsAbove n (without_flow flows v)
above_without n [] v h = tt
above_without n (f ∷ flows) v h = by_test (f.root == v) (λ same. rw same (above_without n flows v h.1)) (λ other. rw other (h.0, above_without n flows v h.1))

pub flows_without : (a : Arrays) (flows : Flows) (v : ℕ) → AreFlows a flows → AreFlows a (without_flow flows v)
flows_without a [] v h = tt
flows_without a (f ∷ flows) v h = by_test (f.root == v)
    (λ same. rw same (flows_without a flows v h.2))
    (λ other. rw other (h.0, above_without f.root flows v h.1, flows_without a flows v h.2))

pub not_without : (flows : Flows) (v : ℕ) → is_flow (without_flow flows v) v ≡ false
not_without [] v = refl
not_without (f ∷ flows) v = by_test (f.root == v) (λ same. rw same (not_without flows v)) (λ other. rw other (ap (λ b. b || is_flow (without_flow flows v) v) other ∙ not_without flows v))

-- ---- where new arrays come

pub seen_more : WorldLaws → (more w : World) (k : ℕ) → IsOrderly (more ++ w) → IsLive w k → IsSeenAsBefore w (more ++ w) k
seen_more laws more w k order live = record {
  look_is = look_more laws.older more w k order live;
  elems_are = elements_more laws.older laws.older_elements more w k order live;
  path_is = path_more laws more w k order live;
}

seen_live : (w u : World) (k : ℕ) → IsSeenAsBefore w u k → IsLive w k → IsLive u k
seen_live w u k h live = live_as w u k h.look_is live

seen_then : (w u x : World) (k : ℕ) → IsSeenAsBefore w u k → IsSeenAsBefore u x k → IsSeenAsBefore w x k
seen_then w u x k h i = record { look_is = i.look_is ∙ h.look_is; elems_are = i.elems_are ∙ h.elems_are; path_is = i.path_is ∙ h.path_is }

shows_then : (w u x : World) (k : ℕ) → ShowsTheSame w u k → ShowsTheSame u x k → ShowsTheSame w x k
shows_then w u x k h i = record { ty_is = i.ty_is ∙ h.ty_is; dims_are = i.dims_are ∙ h.dims_are; elems_are = i.elems_are ∙ h.elems_are }

pub grown_seen : WorldLaws → (a b : Arrays) → AreGrown a b → IsOrderly b.world → (k : ℕ) → IsLive a.world k → IsSeenAsBefore a.world b.world k
grown_seen laws a b grown order k live =
    subst (λ (u : World). IsSeenAsBefore a.world u k) (sym grown.is) (seen_more laws grown.more a.world k (subst IsOrderly grown.is order) live)

pub grown_flows : WorldLaws → (a b : Arrays) → AreGrown a b → IsOrderly b.world → (flows : Flows) → AreFlows a flows → AreFlows b flows
grown_flows laws a b grown order flows h =
    flows_moved a b flows h (all_moved a b.world flows h
    (λ k t live. let s = grown_seen laws a b grown order k live in (seen_shows a.world b.world k s, seen_live a.world b.world k s live))
    (λ r t live own. grown_seen laws a b grown order r live))

-- ---- where an array becomes a root, with new ones in front

abbrev root_def : Ty → List ℕ → List ℤ → ArrayDef
root_def ty ds es = root ty ds es

alike_defs : {t t' : Ty} {ds ds' : List ℕ} {es es' : List ℤ} → t ≡ t' → ds ≡ ds' → es ≡ es' → root_def t ds es ≡ root_def t' ds' es'
alike_defs p q s = cc

-- the world behind new arrays is the one that the array becomes a root in
record IsBehind (whole rest : World) : Type 0 where
  front : World
  is : whole ≡ front ++ rest

cut_behind : WorldLaws → (more w : World) (v : ℕ) → IsSound w → IsOrderly (more ++ w) → IsBehind (sever (more ++ w) v) (sever w v)
cut_behind laws more w v sound order = by_test (in_world w v) old new
  where
    whole : World
    whole = more ++ w

    d : World → ArrayDef
    d u = root_def (ty_in u v) (dims_in u v) (elements u v)

    old : in_world w v ≡ true → IsBehind (sever whole v) (sever w v)
    old there =
        let s = seen_shows w whole v (seen_more laws more w v order (sound_live laws w v sound there)) in
        let same : d whole ≡ d w = alike_defs s.ty_is s.dims_are s.elems_are in
        record { front = replaced more v (d w); is = ap (replaced whole v) same ∙ replaced_more more w v (d w) }

    new : in_world w v ≡ false → IsBehind (sever whole v) (sever w v)
    new none = record {
      front = replaced more v (d whole);
      is = replaced_more more w v (d whole)
          ∙ ap (λ (u : World). replaced more v (d whole) ++ u) (replaced_none w v (d whole) none ∙ sym (replaced_none w v (d w) none));
    }

-- what is seen behind new arrays
behind_seen : WorldLaws → (whole rest : World) → IsBehind whole rest → IsOrderly whole → (k : ℕ) → IsLive rest k → IsSeenAsBefore rest whole k
behind_seen laws whole rest h order k live =
    subst (λ (u : World). IsSeenAsBefore rest u k) (sym h.is) (seen_more laws h.front rest k (subst IsOrderly h.is order) live)

apart_alone : (r v : ℕ) (w : World) → path w r ≡ r ∷ [] → (r == v) ≡ false → is_listed (path w r) v ≡ false
apart_alone r v w own other = ap (λ (ps : List ℕ). is_listed ps v) own ∙ ap (λ b. b || false) other

flow_apart : (flows : Flows) (r v : ℕ) → is_flow flows r ≡ true → is_flow flows v ≡ false → (r == v) ≡ false
flow_apart flows r v here none = by_test (r == v) (λ same. let e : r ≡ v = eqb-true r v same in let t : is_flow flows v ≡ true = ap (is_flow flows) (sym e) ∙ here in cc) (λ other. other)

-- a cut of another array leaves flows
pub cut_flows : WorldLaws → CutsLeaveOthers → (a b : Arrays) → AreGrown a b → IsSound a.world → IsOrderly b.world → (v : ℕ) (flows : Flows) → AreFlows a flows → is_flow flows v ≡ false
    → (c : Arrays) → c.world ≡ sever b.world v → AreFlows c flows
cut_flows laws others a b grown sound order v flows h none c is =
    flows_moved a c flows h (subst (λ (u : World). AreMoved a.world u flows) (sym (is ∙ whole_is)) (all_moved a (sever (grown.more ++ w) v) flows h reads roots))
  where
    w : World
    w = a.world

    whole_is : sever b.world v ≡ sever (grown.more ++ w) v
    whole_is = ap (λ (u : World). sever u v) grown.is

    both : IsOrderly (grown.more ++ w)
    both = subst IsOrderly grown.is order

    u : World
    u = sever (grown.more ++ w) v

    in_order' : IsOrderly u
    in_order' = orderly_replaced (grown.more ++ w) v (ty_in (grown.more ++ w) v) (dims_in (grown.more ++ w) v) (elements (grown.more ++ w) v) both

    behind : (k : ℕ) → IsLive (sever w v) k → IsSeenAsBefore (sever w v) u k
    behind = behind_seen laws u (sever w v) (cut_behind laws grown.more w v sound both) in_order'

    reads : (k : ℕ) → is_listed (all_read flows) k ≡ true → IsLive w k → ShowsTheSame w u k × IsLive u k
    reads k t live =
        let still : IsLive (sever w v) k = (laws.cut_numbers w v sound).live k live in (
          shows_then w (sever w v) u k (laws.cuts w v k sound) (seen_shows (sever w v) u k (behind k still)),
          seen_live (sever w v) u k (behind k still) still,
        )

    roots : (r : ℕ) → is_flow flows r ≡ true → IsLive w r → path w r ≡ r ∷ [] → IsSeenAsBefore w u r
    roots r t live own =
        let s : IsSeenAsBefore w (sever w v) r = others w v r sound (apart_alone r v w own (flow_apart flows r v t none)) in
        seen_then w (sever w v) u r s (behind r (seen_live w (sever w v) r s live))

reshape_behind : WorldLaws → (more w : World) (v : ℕ) (ds : List ℕ) → IsSound w → IsOrderly (more ++ w) → IsLive w v → IsBehind (reshape (more ++ w) v ds) (reshape w v ds)
reshape_behind laws more w v ds sound order here =
    let s = seen_shows w (more ++ w) v (seen_more laws more w v order here) in
    let fit : List ℤ → List ℤ = λ es. fitted (size_of ds) es in
    let d : ArrayDef = root_def (ty_in w v) ds (fit (elements w v)) in
    let same : root_def (ty_in (more ++ w) v) ds (fit (elements (more ++ w) v)) ≡ d = alike_defs s.ty_is refl (ap fit s.elems_are) in
    record { front = replaced more v d; is = ap (replaced (more ++ w) v) same ∙ replaced_more more w v d }

-- other dimensions of an array that no formula reads, neither itself nor through another one, leave flows
pub reshape_flows : WorldLaws → (a b : Arrays) → AreGrown a b → IsSound a.world → IsOrderly b.world → (v : ℕ) → IsLive a.world v → (ds : List ℕ) (flows : Flows) → AreFlows a flows → is_flow flows v ≡ false
    → is_reached b.world (all_read flows) v ≡ false → AreFlows (record b { world = reshape b.world v ds }) flows
reshape_flows laws a b grown sound order v here ds flows h none unread =
    flows_moved a (record b { world = reshape b.world v ds }) flows h (subst (λ (x : World). AreMoved a.world x flows) (sym whole_is) (all_moved a u flows h reads roots))
  where
    w : World
    w = a.world

    whole_is : reshape b.world v ds ≡ reshape (grown.more ++ w) v ds
    whole_is = ap (λ (x : World). reshape x v ds) grown.is

    both : IsOrderly (grown.more ++ w)
    both = subst IsOrderly grown.is order

    u : World
    u = reshape (grown.more ++ w) v ds

    in_order' : IsOrderly u
    in_order' = orderly_replaced (grown.more ++ w) v (ty_in (grown.more ++ w) v) ds (fitted (size_of ds) (elements (grown.more ++ w) v)) both

    seen_apart : (k : ℕ) → is_listed (path w k) v ≡ false → IsLive w k → IsSeenAsBefore w u k
    seen_apart k apart live =
        let s : IsSeenAsBefore w (reshape w v ds) k = laws.reshapes w v k ds sound apart in
        seen_then w (reshape w v ds) u k s
        (behind_seen laws u (reshape w v ds) (reshape_behind laws grown.more w v ds sound both here) in_order' k (seen_live w (reshape w v ds) k s live))

    reads : (k : ℕ) → is_listed (all_read flows) k ≡ true → IsLive w k → ShowsTheSame w u k × IsLive u k
    reads k t live =
        let far : is_listed (path b.world k) v ≡ false = unreached b.world (all_read flows) v k unread t in
        let near : path b.world k ≡ path w k = (grown_seen laws a b grown order k live).path_is in
        let s : IsSeenAsBefore w u k = seen_apart k (ap (λ (ps : List ℕ). is_listed ps v) (sym near) ∙ far) live in
        (seen_shows w u k s, seen_live w u k s live)

    roots : (r : ℕ) → is_flow flows r ≡ true → IsLive w r → path w r ≡ r ∷ [] → IsSeenAsBefore w u r
    roots r t live own = seen_apart r (apart_alone r v w own (flow_apart flows r v t none)) live
