-- What is so of the starts, and goes from views to their parents, is so of all that goes: so nothing
-- that waits goes.
use Rattle.std.proofs.Common.{◌≡◌, ℕ, suc, zero, ◌+◌, ◌<◌, ◌≤◌, Bool, true, false, List, [], ◌∷◌, Option, Some, None, inl, inr, refl, sym, ◌∙◌, ap, arith}
use Rattle.std.proofs.lemmas.Bool.{cases_Bool}
use Rattle.pdl_world.specs.Swept.{is_listed}
use Rattle.pdl_nodes.specs.Families.{IsWaiting, InOrder}
use Rattle.pdl_nodes.specs.Going.{going_at, going_size, going_sum, goes_from, IsGoing}
use Rattle.pdl_nodes.specs.Holds.{Counts, stands}
use Rattle.pdl_nodes.specs.Outcomes.{IsReady, waiting_size}
use Rattle.pdl_nodes.specs.Risen.{IsParentOfGone, ComesFrom}
use Rattle.pdl_nodes.specs.Row.{parent_of}
use Rattle.pdl_nodes.specs.Rows.{Rows, row_at, has, newest, NumbersBelow, Falls}
use Rattle.pdl_nodes.specs.Still.{IsStill}
use Rattle.pdl_nodes.proofs.WorldFamilies.{still_falls}
use Rattle.pdl_nodes.proofs.RowFinds.{has_below, below_more, head_has, older_has}
use Rattle.pdl_nodes.specs.Going.{IsGoing}
use Rattle.pdl_nodes.proofs.AlikePaths.{parent_live, parent_root}
use Rattle.pdl_nodes.proofs.RowRests.{size_of}
use Rattle.std.proofs.lemmas.Bool.Decides.{eqb_tells}
use Rattle.pdl_nodes.specs.Staying.{stays_from}

from_is : (t : ℕ → Bool) (o : Option ℕ) (v : ℕ) → goes_from t o ≡ Some v → (o ≡ Some v) × (t v ≡ false)
from_is t None v h = cc
from_is t (Some u) v h = elim (cases_Bool (t u)) [
  | inl y ↦ (let z : None ≡ Some v = rw y at h in cc)
  | inr n ↦ (let z : Some u ≡ Some v = rw n at h in let e : u ≡ v = cc in (z, ap t (sym e) ∙ n))
]

pub is_going : (rs : Rows) (t : ℕ → Bool) (r v : ℕ) → going_at rs t r ≡ Some v → IsGoing rs t r v
is_going rs t r v h = elim (eqb_tells (row_at rs r).root r) [
  | inl a ↦ elim (cases_Bool (t r)) [
    | inl y ↦ (let z : goes_from t (row_at rs r).waiting ≡ Some v = rw (a.0, y) at h in
        let f = from_is t (row_at rs r).waiting v z in
        record { root = a.1; waits = f.0; gone = f.1 })
    | inr n ↦ (let z : None ≡ Some v = rw (a.0, n) at h in cc)
  ]
  | inr a ↦ (let z : None ≡ Some v = rw a.0 at h in cc)
]

pub stays_all : (t : ℕ → Bool) (o : Option ℕ) → ((v : ℕ) → o ≡ Some v → t v ≡ true) → o ≡ stays_from t o
stays_all t None f = refl
stays_all t (Some v) f = rw (f v refl) refl

below_newest : (rs : Rows) → Falls rs → NumbersBelow (size_of (newest rs)) rs
below_newest [] f = tt
below_newest ((k, r) ∷ rs) f = (omega arith, below_more rs k (k + 1) (omega arith) f.0)

-- what is so of the starts, and of the parent of each of which it is so, is so of all that go
pub climb : (rs : Rows) (hs : Counts) (starts : List ℕ) (P : ℕ → Type 0) → IsStill rs → ComesFrom starts rs hs
    → ((v : ℕ) → is_listed starts v ≡ true → has rs v ≡ true → stands hs v ≡ false → P v)
    → ((c p : ℕ) → has rs c ≡ true → stands hs c ≡ false → parent_of (row_at rs c) ≡ Some p → stands hs p ≡ false → P c → P p)
    → (v : ℕ) → has rs v ≡ true → stands hs v ≡ false → P v
climb rs hs starts P s f b u v h g = walk (size_of (newest rs)) v h g (omega arith) where
  walk : (d v : ℕ) → has rs v ≡ true → stands hs v ≡ false → size_of (newest rs) ≤ v + d → P v
  walk zero v h g l = (let m : v < size_of (newest rs) = has_below rs (size_of (newest rs)) v (below_newest rs (still_falls rs s)) h in absurd (omega (arith, l, m)))
  walk (suc d) v h g l = elim (cases_Bool (is_listed starts v)) [
    | inl t ↦ b v t h g
    | inr t ↦ (let i : IsParentOfGone rs hs v = f v h g t in
        let o : (has rs v ≡ true) × (v < i.child) = parent_live rs i.child v s i.live i.parent in
        u i.child v i.live i.gone i.parent g (walk d i.child i.live i.gone (omega (arith, l, o.1))))
  ]

pub none_sum : (w : Rows) (t : ℕ → Bool) (part : Rows) → ((r : ℕ) → has part r ≡ true → going_at w t r ≡ None) → going_sum w t part ≡ 0
none_sum w t [] f = refl
none_sum w t ((k, x) ∷ part) f =
    let a : going_size w t k ≡ 0 = ap (waiting_size w) (f k (head_has k x part)) in
    let b : going_sum w t part ≡ 0 = none_sum w t part (λ r h. f r (older_has k x part r h)) in
    omega (arith, a, b)

-- nothing goes any more
pub none_goes : (t0 table : Rows) (hs : Counts) (starts : List ℕ) → InOrder t0 → IsReady t0 table → ComesFrom starts t0 hs → ((u : ℕ) → is_listed starts u ≡ true → going_at table (stands hs) (row_at t0 u).root ≡ None)
    → (r : ℕ) → has table r ≡ true → going_at table (stands hs) r ≡ None
none_goes t0 table hs starts o k f d r h = by (going_at table (stands hs) r) refl where
  by : (x : Option ℕ) → going_at table (stands hs) r ≡ x → going_at table (stands hs) r ≡ None
  by None e = e
  by (Some v) e =
      let i : IsGoing table (stands hs) r v = is_going table (stands hs) r v e in
      let w : IsWaiting table r v = (k.order.family r (h, i.root)).waits v i.waits in
      let n : going_at table (stands hs) (row_at t0 v).root ≡ None = climb t0 hs starts (λ x. going_at table (stands hs) (row_at t0 x).root ≡ None) o.still f (λ u y l g. d u y)
      (λ c p l g q s x. ap (going_at table (stands hs)) (parent_root t0 c p o.still l q) ∙ x) v (sym (k.alike.has_is v) ∙ w.live) i.gone in
      ap (going_at table (stands hs)) (sym w.of_root ∙ k.alike.root_is v) ∙ n
