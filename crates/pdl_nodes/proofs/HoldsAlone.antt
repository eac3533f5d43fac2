-- One hold less where nothing is loose: nothing goes, or one array alone, or it and some above it.
use Rattle.std.proofs.Common.{◌≡◌, ◌≢◌, ℕ, ◌+◌, ◌<◌, ◌||◌, Bool, true, false, nat_lt, [], ◌∷◌, Option, Some, None, is_some, inl, inr, refl, sym, ◌∙◌, ap, subst, arith}
use Rattle.std.proofs.Math.Path.{fun_ext}
use Rattle.std.proofs.lemmas.Bool.{cases_Bool, or_right, ltb-true, lt-ltb, both_ways}
use Rattle.std.proofs.lemmas.Bool.Decides.{eqb_tells}
use Rattle.pdl_lemmas.specs.Numbers.{at_other, at_same}
use Rattle.pdl_nodes.specs.declared.holds.Hold.{Hold}
use Rattle.pdl_nodes.specs.Children.{children, left, one_of}
use Rattle.pdl_nodes.specs.Families.{IsWaiting, InOrder}
use Rattle.pdl_nodes.specs.Going.{goes_from, going_at, going_sum}
use Rattle.pdl_nodes.specs.Holds.{Counts, Beside, hold_at, is_held, stands, count, count_in, going, going_in, goes_in, with_going}
use Rattle.pdl_nodes.specs.Outcomes.{IsReady}
use Rattle.pdl_nodes.specs.Released.{KeepsWaiting}
use Rattle.pdl_nodes.specs.Risen.{AreMarked, AreTight, ComesFrom, GoesAlone, IsFewer, IsForgotten, IsLetGo, IsLoose, IsRisen}
use Rattle.pdl_nodes.specs.Row.{parent_of}
use Rattle.pdl_nodes.specs.Rows.{Rows, row_at, has, other, reached, without}
use Rattle.pdl_nodes.specs.Staying.{staying}
use Rattle.pdl_nodes.specs.Still.{IsStill}
use Rattle.pdl_nodes.proofs.ChildrenCounted.{views_counted}
use Rattle.pdl_nodes.proofs.WorldFamilies.{still_falls}
use Rattle.pdl_nodes.proofs.RowFinds.{has_gone, has_stays}
use Rattle.pdl_nodes.proofs.HoldsGone.{let_go_is}
use Rattle.pdl_nodes.proofs.StayingLeavings.{has_staying, still_parents}
use Rattle.pdl_nodes.proofs.ChildrenLeft.{left_all, left_less, no_one, one_is, told}
use Rattle.pdl_nodes.proofs.HoldsLetGo.{fewer_then, letting_last, letting_none, loose_listed, marked_none}
use Rattle.pdl_nodes.proofs.AlikePaths.{parent_live}
use Rattle.pdl_nodes.proofs.HoldsReached.{none_of, staying_live}
use Rattle.pdl_nodes.proofs.HoldsRemoved.{staying_all}
use Rattle.pdl_nodes.proofs.HoldsRising.{IsRising, fewer_same, none_less, noted_some, rising_goes, rising_none, rising_room}
use Rattle.pdl_nodes.specs.Released.{GoingIsSettled}
use Rattle.std.proofs.lemmas.Bool.{ne_eqb, eq-eqb}
use Rattle.pdl_nodes.proofs.RowOrigins.{own_root}
use Rattle.pdl_nodes.proofs.GoingFalling.{none_sum}

-- ---- where what waits stays, nothing is written back
goes_none : (t : ℕ → Bool) (o : Option ℕ) → ((v : ℕ) → o ≡ Some v → t v ≡ true) → goes_from t o ≡ None
goes_none t None f = refl
goes_none t (Some v) f = rw (f v refl) refl

none_going : (t : ℕ → Bool) (rs : Rows) (r : ℕ) → KeepsWaiting t rs → has rs r ≡ true → going_at rs t r ≡ None
none_going t rs r k h = elim (eqb_tells (row_at rs r).root r) [
  | inl a ↦ elim (cases_Bool (t r)) [
    | inl y ↦ rw (a.0, y) (goes_none t (row_at rs r).waiting (λ v e. k r v (h, a.1) y e))
    | inr n ↦ rw (a.0, n) refl
  ]
  | inr a ↦ rw a.0 refl
]

pub nothing_goes : (t : ℕ → Bool) (rs : Rows) → KeepsWaiting t rs → going_sum rs t rs ≡ 0
nothing_goes t rs k = none_sum rs t rs (λ r h. none_going t rs r k h)

kept_risen : (rs : Rows) (hs : Counts) (id : ℕ) → IsStill rs → Beside rs hs → AreTight [] rs hs → IsRisen (id ∷ []) rs hs hs
kept_risen rs hs id s b t =
    let one : AreTight (id ∷ []) rs hs = λ v h d u. t v h refl u in
    letting_last rs hs hs hs [] [] id s b one (letting_none rs hs [] id b one) (λ v. refl) (marked_none rs hs b) (fewer_same hs)
    (λ v l. (let z : false ≡ true = loose_listed rs hs [] v b t l in absurd (cc)))

pub all_stand : (rs : Rows) (hs : Counts) → Beside rs hs → rs ≡ staying (stands hs) rs
all_stand rs hs b = sym (staying_live (stands hs) (λ v. true) rs (λ v h. b.numbers v ∙ h) ∙ staying_all rs)

pub kept_tells : (rs : Rows) (hs : Counts) (v : ℕ) → InOrder rs → Beside rs hs → AreTight [] rs hs → has rs v ≡ true → stands hs v ≡ reached rs (is_held hs) v
kept_tells rs hs v o b t h = (kept_risen rs hs v o.still b t).tells v h

-- ---- one was forgotten that none held
-- the holds before: none of it
abbrev none_held : Hold
none_held = record { count = 0; going = 0 }

abbrev with_none : ℕ → Counts → Counts
with_none id gs = (id, none_held) ∷ gs

none_here : (id : ℕ) (gs : Counts) → hold_at (with_none id gs) id ≡ Some none_held
none_here id gs = rw (at_same id id refl) refl

none_there : (id : ℕ) (gs : Counts) (v : ℕ) → v ≢ id → hold_at (with_none id gs) v ≡ hold_at gs v
none_there id gs v n = rw (at_other v id (λ e. n (sym e))) refl

one_less : (rs : Rows) (gs : Counts) (id : ℕ) → Beside (without id rs) gs → without id rs ≡ staying (stands gs) rs
one_less rs gs id b = staying_live (other id) (stands gs) rs (λ v h. has_staying (other id) rs v h ∙ sym (b.numbers v))

is_other : (id v : ℕ) → v ≢ id → other id v ≡ true
is_other id v n = rw (ne_eqb v id n) refl

gone_here : (rs : Rows) (id : ℕ) → has (without id rs) id ≡ false
gone_here rs id = has_gone (other id) rs id (rw (eq-eqb id id refl) refl)

stays_there : (rs : Rows) (id v : ℕ) → v ≢ id → has (without id rs) v ≡ has rs v
stays_there rs id v n = has_stays (other id) rs v (is_other id v n)

none_now : (rs : Rows) (gs : Counts) (id : ℕ) → Beside (without id rs) gs → hold_at gs id ≡ None
none_now rs gs id b = none_of (hold_at gs id) (b.numbers id ∙ gone_here rs id)

none_beside : (rs : Rows) (gs : Counts) (id : ℕ) → has rs id ≡ true → Beside (without id rs) gs → Beside rs (with_none id gs)
none_beside rs gs id h b = record {
  numbers = λ v. elim (eqb_tells v id) [
    | inl y ↦ ap (stands (with_none id gs)) y.1 ∙ ap is_some (none_here id gs) ∙ sym (ap (has rs) y.1 ∙ h)
    | inr y ↦ ap is_some (none_there id gs v y.1) ∙ b.numbers v ∙ stays_there rs id v y.1
  ];
  clear = λ v. elim (eqb_tells v id) [
    | inl y ↦ ap (going (with_none id gs)) y.1 ∙ ap going_in (none_here id gs)
    | inr y ↦ ap going_in (none_there id gs v y.1) ∙ b.clear v
  ];
}

none_count : (rs : Rows) (gs : Counts) (id v : ℕ) → Beside (without id rs) gs → count (with_none id gs) v ≡ count gs v
none_count rs gs id v b = elim (eqb_tells v id) [
  | inl y ↦ ap (count (with_none id gs)) y.1 ∙ ap count_in (none_here id gs) ∙ sym (ap (count gs) y.1 ∙ ap count_in (none_now rs gs id b))
  | inr y ↦ ap count_in (none_there id gs v y.1)
]

none_tight : (rs : Rows) (gs : Counts) (id : ℕ) → Beside (without id rs) gs → AreTight (id ∷ []) rs gs → AreTight (id ∷ []) rs (with_none id gs)
none_tight rs gs id b t v h d u = t v h d (ap (nat_lt 0) (sym (none_count rs gs id v b)) ∙ u)

none_goes : (rs : Rows) (gs : Counts) (id : ℕ) → IsForgotten rs gs id → goes_in (children rs id) (hold_at (with_none id gs) id) ≡ true
none_goes rs gs id f =
    let c : children rs id ≡ 0 = none_less (children rs id) (sym (views_counted rs id) ∙ f.viewless) in
    ap (goes_in (children rs id)) (none_here id gs) ∙ ap (λ n. goes_in n (Some none_held)) c

none_rising : (rs : Rows) (gs : Counts) (id : ℕ) → IsForgotten rs gs id → IsRising rs (with_none id gs) (with_none id gs) id (Some id)
none_rising rs gs id f = rising_none rs (with_none id gs) id (marked_none rs (with_none id gs) (none_beside rs gs id f.live f.beside)) f.live

parent_other : (rs : Rows) (id p : ℕ) → IsStill rs → has rs id ≡ true → parent_of (row_at rs id) ≡ Some p → p ≢ id
parent_other rs id p s h e y = (let l : p < id = (parent_live rs id p s h e).1 in let z : ⊥ = omega (arith, l, y) in z)

-- room for the note of a parent
pub view_room : (rs : Rows) (gs : Counts) (id p : ℕ) → IsForgotten rs gs id → parent_of (row_at rs id) ≡ Some p → going gs p < children rs p
view_room rs gs id p f e =
    let a : going (with_none id gs) p < children rs p = rising_room rs (with_none id gs) (with_none id gs) id (Some id) id p f.still (none_rising rs gs id f) refl (none_goes rs gs id f) e in
    subst (λ n. n < children rs p) (ap going_in (none_there id gs p (parent_other rs id p f.still f.live e))) a

-- once the parent was told
pub view_rising : (rs : Rows) (gs mid : Counts) (id p : ℕ) → IsForgotten rs gs id → parent_of (row_at rs id) ≡ Some p → hold_at mid p ≡ with_going (going gs p + 1) (hold_at gs p) → ((v : ℕ) → v ≢ p → hold_at mid v ≡ hold_at gs v)
    → IsRising rs (with_none id gs) mid id (Some p)
view_rising rs gs mid id p f e h o =
    let n : p ≢ id = parent_other rs id p f.still f.live e in
    let here : hold_at (with_none id mid) p ≡ with_going (going (with_none id gs) p + 1) (hold_at (with_none id gs) p) =
    none_there id mid p n ∙ h ∙ ap (λ x. with_going (going_in x + 1) x) (sym (none_there id gs p n)) in
    let others : (v : ℕ) → v ≢ p → hold_at (with_none id mid) v ≡ hold_at (with_none id gs) v = λ v d. elim (eqb_tells v id) [
      | inl y ↦ ap (hold_at (with_none id mid)) y.1 ∙ none_here id mid ∙ sym (ap (hold_at (with_none id gs)) y.1 ∙ none_here id gs)
      | inr y ↦ none_there id mid v y.1 ∙ o v d ∙ sym (none_there id gs v y.1)
    ] in
    let P : Option ℕ → Type 0 = λ x. IsRising rs (with_none id gs) mid id x in
    subst P e (rising_goes rs (with_none id gs) (with_none id gs) (with_none id mid) mid id (Some id) id f.still (none_rising rs gs id f) refl (none_goes rs gs id f)
    (noted_some (λ n. n + 1) (with_none id gs) (with_none id mid) (parent_of (row_at rs id)) p e here others)
    (o id (λ y. n (sym y)) ∙ none_now rs gs id f.beside) (λ v d. sym (none_there id mid v d)))

risen_as : (rs : Rows) (hs gs new : Counts) (id : ℕ) → ((v : ℕ) → count hs v ≡ count gs v) → IsRisen (id ∷ []) rs hs new → IsRisen (id ∷ []) rs gs new
risen_as rs hs gs new id e r = record {
  numbers = r.numbers;
  counts = λ v y. r.counts v y ∙ e v;
  tells = λ v h. r.tells v h ∙ ap (λ f. reached rs f v) (fun_ext (λ x. ap (nat_lt 0) (e x)));
  noted = r.noted;
  from = r.from;
}

risen_last : (rs : Rows) (gs new : Counts) (id : ℕ) → IsForgotten rs gs id → AreMarked rs new → IsFewer (with_none id gs) new → ((v : ℕ) → IsLoose rs new v → IsLoose rs (with_none id gs) v × (v ≢ id)) → IsRisen (id ∷ []) rs gs new
risen_last rs gs new id f m w l =
    let b : Beside rs (with_none id gs) = none_beside rs gs id f.live f.beside in
    let t : AreTight (id ∷ []) rs (with_none id gs) = none_tight rs gs id f.beside f.tight in
    risen_as rs (with_none id gs) gs new id (λ v. none_count rs gs id v f.beside)
    (letting_last rs (with_none id gs) (with_none id gs) new [] [] id f.still b t (letting_none rs (with_none id gs) [] id b t) (λ v. refl) m w l)

pub view_risen : (rs : Rows) (gs mid new : Counts) (id p : ℕ) → IsForgotten rs gs id → IsRising rs (with_none id gs) mid id (Some p) → AreMarked rs new → IsFewer mid new → ((v : ℕ) → IsLoose rs new v → IsLoose rs mid v × (v ≢ p)) → IsRisen (id ∷ []) rs gs new
view_risen rs gs mid new id p f i m w l =
    risen_last rs gs new id f m (fewer_then (with_none id gs) mid new i.fewer w)
    (λ v y. (let x : IsLoose rs mid v × (v ≢ p) = l v y in i.loose v x.0 (λ z. x.1 (let q : p ≡ v = cc in sym q))))

-- ---- one that goes alone: a root, or a view of an array that stays
-- each other stands
other_stands : (rs : Rows) (gs : Counts) (id v : ℕ) → Beside (without id rs) gs → v ≢ id → stands gs v ≡ has rs v
other_stands rs gs id v b n = b.numbers v ∙ stays_there rs id v n

pub alone_from : (rs : Rows) (gs : Counts) (id : ℕ) → Beside (without id rs) gs → ComesFrom (id ∷ []) rs gs
alone_from rs gs id b v h g d = elim (eqb_tells id v) [
  | inl y ↦ (let z : true ≡ false = rw y.0 at d in absurd (cc))
  | inr y ↦ absurd (both_ways (stands gs v) g (other_stands rs gs id v b (λ q. y.1 (sym q)) ∙ h))
]

-- the views that are left of each: it is one of its parent's
views_left : (rs : Rows) (gs : Counts) (id v : ℕ) → IsForgotten rs gs id → children rs v ≡ one_of (parent_of (row_at rs id)) v + left rs (stands gs) v
views_left rs gs id v f =
    let b : Beside rs (with_none id gs) = none_beside rs gs id f.live f.beside in
    sym (left_all rs (stands (with_none id gs)) v (λ k h. b.numbers k ∙ h))
    ∙ left_less rs (stands (with_none id gs)) (stands gs) id v (still_falls rs f.still) f.live (ap is_some (none_here id gs)) (ap is_some (none_now rs gs id f.beside))
    (λ x n. ap is_some (sym (none_there id gs x n)))

-- one that isn't held has a view that is left
left_free : (rs : Rows) (gs : Counts) (id v : ℕ) → IsForgotten rs gs id → GoesAlone rs gs id → v ≢ id → has rs v ≡ true → is_held gs v ≡ false → 0 < left rs (stands gs) v
left_free rs gs id v f a n h u =
    let e : children rs v ≡ one_of (parent_of (row_at rs id)) v + left rs (stands gs) v = views_left rs gs id v f in
    let c : 0 < children rs v = ltb-true 0 (children rs v) (sym (views_counted rs v) ∙ f.tight v h (rw (ne_eqb id v (λ q. n (sym q))) refl) u) in
    by (parent_of (row_at rs id)) refl e c where
      by : (o : Option ℕ) → parent_of (row_at rs id) ≡ o → children rs v ≡ one_of (parent_of (row_at rs id)) v + left rs (stands gs) v → 0 < children rs v → 0 < left rs (stands gs) v
      by None q e c = (let z : one_of (parent_of (row_at rs id)) v ≡ 0 = ap (λ o. one_of o v) q in omega (arith, e, c, z))
      by (Some p) q e c = elim (eqb_tells p v) [
        | inl y ↦ (let z : one_of (parent_of (row_at rs id)) v ≡ 1 = one_is (parent_of (row_at rs id)) v (q ∙ ap Some y.1) in
            let m : 1 < children rs v = a v (q ∙ ap Some y.1) u in omega (arith, e, m, z))
        | inr y ↦ (let z : one_of (parent_of (row_at rs id)) v ≡ 0 = no_one (parent_of (row_at rs id)) v (λ w. y.1 (let s : Some p ≡ Some v = sym q ∙ w in cc)) in omega (arith, e, c, z))
      ]

-- it has none
none_left_of : (rs : Rows) (gs : Counts) (id : ℕ) → IsForgotten rs gs id → left rs (stands gs) id ≡ 0
none_left_of rs gs id f =
    let e : children rs id ≡ one_of (parent_of (row_at rs id)) id + left rs (stands gs) id = views_left rs gs id id f in
    let c : children rs id ≡ 0 = none_less (children rs id) (sym (views_counted rs id) ∙ f.viewless) in
    omega (arith, e, c)

-- what stands is what the held arrays reach
pub alone_tells : (rs : Rows) (gs : Counts) (id : ℕ) → IsForgotten rs gs id → GoesAlone rs gs id → (v : ℕ) → has rs v ≡ true → stands gs v ≡ reached rs (is_held gs) v
alone_tells rs gs id f a = told rs (stands gs) (is_held gs) (still_falls rs f.still) (still_parents rs f.still) (λ v h. elim (eqb_tells v id) [
  | inl y ↦ (let n : hold_at gs v ≡ None = ap (hold_at gs) y.1 ∙ none_now rs gs id f.beside in
      let s : stands gs v ≡ false = ap is_some n in
      let u : is_held gs v ≡ false = ap (λ o. nat_lt 0 (count_in o)) n in
      let l : nat_lt 0 (left rs (stands gs) v) ≡ false = ap (λ x. nat_lt 0 (left rs (stands gs) x)) y.1 ∙ ap (nat_lt 0) (none_left_of rs gs id f) in
      let w : false ≡ (is_held gs v || nat_lt 0 (left rs (stands gs) v)) = rw (u, l) refl in s ∙ w)
  | inr y ↦ other_stands rs gs id v f.beside y.1 ∙ h ∙ elim (cases_Bool (is_held gs v)) [
    | inl z ↦ (let w : true ≡ (is_held gs v || nat_lt 0 (left rs (stands gs) v)) = rw z refl in w)
    | inr z ↦ sym (or_right (is_held gs v) (nat_lt 0 (left rs (stands gs) v)) (lt-ltb 0 (left rs (stands gs) v) (left_free rs gs id v f a y.1 h z)))
  ]
])

-- the rows that were settled are counted as those before
beside_settled : (rs mid : Rows) (gs : Counts) (id : ℕ) → IsReady rs mid → Beside (without id rs) gs → Beside (without id mid) gs
beside_settled rs mid gs id k b = record {
  numbers = λ v. b.numbers v ∙ elim (eqb_tells v id) [
    | inl y ↦ ap (has (without id rs)) y.1 ∙ gone_here rs id ∙ sym (ap (has (without id mid)) y.1 ∙ gone_here mid id)
    | inr y ↦ stays_there rs id v y.1 ∙ sym (k.alike.has_is v) ∙ sym (stays_there mid id v y.1)
  ];
  clear = b.clear;
}

pub alone_let_go : (rs mid new : Rows) (gs : Counts) (id : ℕ) → InOrder rs → IsForgotten rs gs id → GoesAlone rs gs id → GoingIsSettled rs mid gs → new ≡ without id mid → IsLetGo rs (count gs) new gs
alone_let_go rs mid new gs id o f a s n =
    let b : Beside (without id mid) gs = beside_settled rs mid gs id s.kept f.beside in
    let P : Rows → Type 0 = λ x. IsLetGo rs (count gs) x gs in
    subst P (sym n) (let_go_is rs mid (without id mid) gs gs gs o (λ v y. refl) (alone_tells rs gs id f a) s (one_less mid gs id b) b (λ v. refl))

-- it waits in no family
pub root_waits : (rs : Rows) (gs : Counts) (id : ℕ) → InOrder rs → has rs id ≡ true → parent_of (row_at rs id) ≡ None → Beside (without id rs) gs → KeepsWaiting (stands gs) rs
root_waits rs gs id o h e b r v i y z =
    let w : IsWaiting rs r v = (o.family r i).waits v z in
    let n : v ≢ id = λ q. w.not_root (q ∙ sym (own_root rs id o.still h e) ∙ ap (λ x. (row_at rs x).root) (sym q) ∙ w.of_root) in
    b.numbers v ∙ stays_there rs id v n ∙ w.live

-- it was the last
pub last_beside : (rs : Rows) (hs gs : Counts) (id : ℕ) → Beside rs hs → hold_at gs id ≡ None → ((v : ℕ) → v ≢ id → hold_at gs v ≡ hold_at hs v) → Beside (without id rs) gs
last_beside rs hs gs id b h o = record {
  numbers = λ v. elim (eqb_tells v id) [
    | inl y ↦ ap (stands gs) y.1 ∙ ap is_some h ∙ sym (ap (has (without id rs)) y.1 ∙ gone_here rs id)
    | inr y ↦ ap is_some (o v y.1) ∙ b.numbers v ∙ sym (stays_there rs id v y.1)
  ];
  clear = λ v. elim (eqb_tells v id) [
    | inl y ↦ ap (going gs) y.1 ∙ ap going_in h
    | inr y ↦ ap going_in (o v y.1) ∙ b.clear v
  ];
}
