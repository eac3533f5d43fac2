-- Flows that read nothing that changed change nothing when they follow.
use Rattle.std.proofs.Common.{◌≡◌, ℕ, List, [], ◌∷◌, Bool, true, false, Option, Some, Result, Ok, Err, refl, sym, ap, ◌∙◌, arith, eqb-true, eq-eqb}
use Rattle.std.specs.Prelude.{◌==◌, ◌||◌, if◌then◌else◌}
use Rattle.std.specs.List.{list_any}
use Rattle.std.specs.Option.{option_map_or}
use Rattle.std.proofs.lemmas.Bool.{or_parts}
use Rattle.pdl_lemmas.specs.Tests.{by_test}
use Rattle.pdl_buf.specs.declared.made.Made.{Made}
use Rattle.pdl_ops.specs.Elementwise.{OpRefusal}
use Rattle.pdl_flow.specs.Formula.{arrays_in}
use Rattle.pdl_flow.specs.Meaning.{meaning}
use Rattle.pdl_world.specs.World.{World, Look, look, look_of_root, elements, ty_in, assign}
use Rattle.pdl_world.specs.Paths.{root_of}
use Rattle.pdl_world.specs.Sound.{IsSound, IsLive}
use Rattle.pdl_world.specs.Swept.{is_listed}
use Rattle.pdl_machine.specs.Arrays.{Arrays, array_in}
use Rattle.pdl_machine.specs.Flows.{Flow, Flows, is_flow, reads_from, affected}
use Rattle.pdl_machine.specs.Following.{given, follow, followed, AreOlder, IsFlow, RootsAbove, AreFlows}
use Rattle.pdl_machine.specs.FlowLaws.{KeepsLooks, OnlyAffectedFollow}
use Rattle.pdl_machine.proofs.FlowLemmas.{AreSame, meaning_same}
use Rattle.pdl_machine.proofs.TidyNumbering.{orderly_sound}
use Rattle.pdl_machine.proofs.FlowMoves.{shown_same, flow_live}
use Rattle.pdl_machine.proofs.StepQuiet.{live_as}
use Rattle.pdl_machine.proofs.FlowFollows.{Laws, elsewhere, formed, formed_seen, follow_keeps, live_look, follow_one, assign_same}

-- arrays of these roots alone are changed
abbrev AreLeft : (c b : Arrays) (roots : List ℕ) → Type 0
AreLeft c b roots = (v : ℕ) → IsLive c.world v → is_listed roots (root_of b.world v) ≡ false → elements b.world v ≡ elements c.world v

left_same : (c b : Arrays) (v : ℕ) → look b.world v ≡ look c.world v → elements b.world v ≡ elements c.world v → array_in b v ≡ array_in c v
left_same c b v looks elems = shown_same c b v (record {
  ty_is = ap (λ (o : Option Look). option_map_or (λ l. l.ty) o (ty_in [] v)) looks;
  dims_are = ap (λ (o : Option Look). option_map_or (λ l. l.dims) o []) looks;
  elems_are = elems;
})

-- what a formula reads that reads none of them is as it was
reads_left : (c b : Arrays) (roots : List ℕ) → KeepsLooks c.world b.world → AreLeft c b roots → (r : ℕ) (ks : List ℕ) → AreOlder c.world r ks
    → list_any (λ k. is_listed roots (root_of b.world k)) ks ≡ false → AreSame (array_in b) (array_in c) ks
reads_left c b roots keeps left r [] older none = tt
reads_left c b roots keeps left r (k ∷ ks) older none =
    let parts = or_parts (is_listed roots (root_of b.world k)) (list_any (λ j. is_listed roots (root_of b.world j)) ks) none in
    (left_same c b k (keeps k older.1).0 (left k older.1 parts.0), reads_left c b roots keeps left r ks older.2 parts.1)

root_itself : (w : World) (r : ℕ) (l : Look) → look w r ≡ Some (look_of_root r l.ty l.dims) → root_of w r ≡ r
root_itself w r l is = ap (λ (o : Option Look). option_map_or (λ x. x.root) o r) is

abbrev value_is : Made → Result Made OpRefusal
value_is m = Ok m

-- such a flow changes nothing
stays_so : (c b : Arrays) (roots : List ℕ) (f : Flow) → IsSound b.world → IsFlow c f → KeepsLooks c.world b.world → AreLeft c b roots → is_listed roots f.root ≡ false
    → reads_from b.world f roots ≡ false → follow b f ≡ b
stays_so c b roots f sound h keeps left apart none =
    let live : IsLive c.world f.root = flow_live c f h in
    let own : root_of b.world f.root ≡ f.root = root_itself b.world f.root h.seen ((keeps f.root live).0 ∙ h.is_root.look_is) in
    let root_same : array_in b f.root ≡ array_in c f.root =
    left_same c b f.root (keeps f.root live).0 (left f.root live (ap (is_listed roots) own ∙ apart)) in
    let same : meaning (array_in b) f.formula ≡ Ok (array_in b f.root) =
    meaning_same (array_in b) (array_in c) f.formula (reads_left c b roots keeps left f.root (arrays_in f.formula) h.older none) ∙ h.equals ∙ ap value_is (sym root_same) in
    ap (given b f.root) same ∙ ap with_world (assign_same b.world f.root (orderly_sound b.world sound))
  where
    with_world : World → Arrays
    with_world w = record b { world = w }

-- one that follows changes arrays of its root alone
left_more : Laws → (c b : Arrays) (roots : List ℕ) (f : Flow) → IsFlow c f → KeepsLooks c.world b.world → AreLeft c b roots → AreLeft c (follow b f) (f.root ∷ roots)
left_more laws c b roots f h keeps left v live apart = by_value (meaning (array_in b) f.formula) apart
  where
    by_value : (x : Result Made OpRefusal) → is_listed (f.root ∷ roots) (root_of (given b f.root x).world v) ≡ false → elements (given b f.root x).world v ≡ elements c.world v
    by_value (Err e) apart = left v live ((or_parts (f.root == root_of b.world v) (is_listed roots (root_of b.world v)) apart).1)
    by_value (Ok m) apart =
        let w : World = b.world in
        let u : World = assign w f.root m.elems in
        let looks : look u v ≡ look w v = laws.looks w f.root v m.elems in
        let same : root_of u v ≡ root_of w v = ap (λ (o : Option Look). option_map_or (λ x. x.root) o v) looks in
        let parts = or_parts (f.root == root_of w v) (is_listed roots (root_of w v)) (ap (is_listed (f.root ∷ roots)) (sym same) ∙ apart) in
        let seen = live_look w v (live_as c.world w v (keeps v live).0 live) in
        let at : root_of w v ≡ seen.0.root = ap (λ (o : Option Look). option_map_or (λ x. x.root) o v) seen.1 in
        let other : (seen.0.root == f.root) ≡ false =
        by_test (seen.0.root == f.root) (λ is. let t : (f.root == root_of w v) ≡ true = eq-eqb f.root (root_of w v) (sym (at ∙ eqb-true seen.0.root f.root is)) in absurd (clash t parts.0)) (λ o. o) in
        (elsewhere laws w f.root (look_of_root f.root h.seen.ty h.seen.dims) m.elems ((keeps f.root (flow_live c f h)).0 ∙ h.is_root.look_is) refl v seen.0 seen.1 other).elems_are
        ∙ left v live parts.1
      where
        clash : {b : Bool} → b ≡ true → b ≡ false → ⊥
        clash t f = cc

above_apart : (n : ℕ) (flows : Flows) (r : ℕ) → RootsAbove n flows → is_flow flows r ≡ true → (n == r) ≡ false
above_apart n [] r above here = cc
above_apart n (f ∷ flows) r above here = by_test (f.root == r)
    (λ is. by_test (n == r) (λ same. let d : f.root ≡ r = eqb-true f.root r is in let e : n ≡ r = eqb-true n r same in absurd (omega (arith, d, e, above.0))) (λ o. o))
    (λ other. let t : is_flow flows r ≡ true = rw other at here in above_apart n flows r above.1 t)

only_affected : Laws → (c b : Arrays) (w : World) (flows : Flows) (roots : List ℕ) → AreFlows c flows → IsSound b.world → KeepsLooks c.world b.world → AreLeft c b roots
    → ((v : ℕ) → root_of b.world v ≡ root_of w v) → ((r : ℕ) → is_flow flows r ≡ true → is_listed roots r ≡ false) → followed b flows ≡ followed b (affected w flows roots)
only_affected laws c b w [] roots h sound keeps left alike apart = refl
only_affected laws c b w (f ∷ flows) roots h sound keeps left alike apart =
    by_reads (reads_from w f roots) refl
    (only_affected laws c b w flows roots h.2 sound keeps left alike (λ r t. apart r (by_test (f.root == r) (λ same. rw same refl) (λ other. rw other t))))
    (only_affected laws c (follow b f) w flows (f.root ∷ roots) h.2 (follow_one laws b f sound (formed_seen laws c b f (formed c f h.0) keeps)).sound
    (λ v live. let k = keeps v live in let m = follow_keeps laws b f v (live_as c.world b.world v k.0 live) in (m.0 ∙ k.0, m.1 ∙ k.1))
    (left_more laws c b roots f h.0 keeps left)
    (λ v. roots_stay v (meaning (array_in b) f.formula) ∙ alike v)
    (λ r t. let first : (f.root == r) ≡ false = above_apart f.root flows r h.1 t in
    rw first (apart r (by_test (f.root == r) (λ same. rw same refl) (λ other. rw other t)))))
  where
    roots_stay : (v : ℕ) (x : Result Made OpRefusal) → root_of (given b f.root x).world v ≡ root_of b.world v
    roots_stay v (Ok m) = ap (λ (o : Option Look). option_map_or (λ l. l.root) o v) (laws.looks b.world f.root v m.elems)
    roots_stay v (Err e) = refl

    none_read : (ks : List ℕ) → list_any (λ k. is_listed roots (root_of w k)) ks ≡ false → list_any (λ k. is_listed roots (root_of b.world k)) ks ≡ false
    none_read ks none = same_reads ks ∙ none
      where
        same_reads : (ks : List ℕ) → list_any (λ k. is_listed roots (root_of b.world k)) ks ≡ list_any (λ k. is_listed roots (root_of w k)) ks
        same_reads [] = refl
        same_reads (k ∷ ks) =
            ap (λ r. is_listed roots r || list_any (λ j. is_listed roots (root_of b.world j)) ks) (alike k)
            ∙ ap (λ x. is_listed roots (root_of w k) || x) (same_reads ks)

    by_reads : (reads : Bool) → reads_from w f roots ≡ reads → followed b flows ≡ followed b (affected w flows roots)
        → followed (follow b f) flows ≡ followed (follow b f) (affected w flows (f.root ∷ roots))
        → followed (follow b f) flows ≡ followed b (if reads then f ∷ affected w flows (f.root ∷ roots) else affected w flows roots)
    by_reads true is others more = more
    by_reads false is others more =
        let self : (f.root == f.root) ≡ true = eq-eqb f.root f.root refl in
        let here : is_flow (f ∷ flows) f.root ≡ true = rw self refl in
        ap (λ (d : Arrays). followed d flows) (stays_so c b roots f sound h.0 keeps left (apart f.root here) (none_read (arrays_in f.formula) is)) ∙ others

pub only_affected_follow : Laws → OnlyAffectedFollow
only_affected_follow laws s a r whole sound keeps none left =
    only_affected laws s.arrays a a.world s.flows (r ∷ []) whole.flows sound keeps
    (λ v live apart. left v live ((or_parts (r == root_of a.world v) false apart).0)) (λ v. refl)
    (λ q t. let other : (r == q) ≡ false = by_test (r == q) (λ same. let e : r ≡ q = eqb-true r q same in let u : is_flow s.flows r ≡ true = ap (is_flow s.flows) e ∙ t in absurd (clash u none)) (λ o. o) in rw other refl)
  where
    clash : {b : Bool} → b ≡ true → b ≡ false → ⊥
    clash t f = cc
