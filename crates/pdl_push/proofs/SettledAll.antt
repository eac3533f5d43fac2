-- The families of some starts are settled one after the other: so are all of which a waiting view goes.
use Rattle.std.proofs.Common.{◌≡◌, ℕ, ◌+◌, ◌||◌, Bool, true, false, eqb, cond, List, [], ◌∷◌, Option, Some, None, inl, inr, refl, sym, ◌∙◌, ap, subst, arith}
use Rattle.std.proofs.lemmas.Bool.{cases_Bool, cases_eq}
use Rattle.std.proofs.lemmas.Bool.Decides.{eqb_tells}
use Rattle.pdl_world.specs.Swept.{is_listed}
use Rattle.pdl_nodes.specs.Alike.{numbers}
use Rattle.pdl_nodes.specs.Families.{InOrder}
use Rattle.pdl_nodes.specs.Going.{going_at, going_size, going_sum, LeavesWaiting}
use Rattle.pdl_nodes.specs.Holds.{Counts, stands}
use Rattle.pdl_nodes.specs.Known.{AreKnown}
use Rattle.pdl_nodes.specs.Outcomes.{IsReady, waiting_size}
use Rattle.pdl_nodes.specs.Released.{KeepsWaiting}
use Rattle.pdl_nodes.specs.Risen.{ComesFrom}
use Rattle.pdl_nodes.specs.RowLaws.{RowLaws}
use Rattle.pdl_nodes.specs.Rows.{Rows, row_at, has, Falls}
use Rattle.pdl_nodes.specs.Sized.{AreSized}
use Rattle.pdl_nodes.specs.Staying.{stays_from}
use Rattle.pdl_nodes.specs.Worlds.{IsRoot}
use Rattle.pdl_push.specs.Settled.{IsSettledAt}
use Rattle.pdl_push.proofs.LateGoings.{going_same, size_same, stays_by}

stays_twice : (t : ℕ → Bool) (o : Option ℕ) → stays_from t (stays_from t o) ≡ stays_from t o
stays_twice t None = refl
stays_twice t (Some v) = elim (cases_Bool (t v)) [ inl y ↦ rw y (rw y refl) | inr y ↦ rw y refl ]

-- what waited of the families of some starts was written back; the steps, and what is still to be
-- written back, are what was
pub record IsSettling (t : ℕ → Bool) (t0 table : Rows) (rest : List ℕ) (loose : List ℕ) (s0 s : ℕ) : Type 0 where
  pub kept : IsReady t0 table
  pub sized : AreSized t0 → AreSized table
  pub left : (r : ℕ) → IsRoot t0 r → t r ≡ true → stays_from t (row_at table r).waiting ≡ stays_from t (row_at t0 r).waiting
  pub done : (u : ℕ) → is_listed loose u ≡ true → is_listed rest u ≡ false → going_at table t (row_at t0 u).root ≡ None
  pub counted : s + going_sum table t table ≡ s0 + going_sum t0 t t0

-- at first all starts are left
pub settling_none : (facts : RowLaws) → (t : ℕ → Bool) (t0 : Rows) (loose : List ℕ) (s : ℕ) → InOrder t0 → AreKnown t0 → IsSettling t t0 t0 loose loose s s
settling_none facts t t0 loose s o a = record {
  kept = facts.kept.ready_same t0 o a;
  sized = λ z. z;
  left = λ r i y. refl;
  done = λ u h n. (let z : true ≡ false = sym h ∙ n in absurd (cc));
  counted = refl;
}

-- what goes of one family, and what is left then
sum_settled : (facts : RowLaws) → (t : ℕ → Bool) (old new : Rows) (r : ℕ) (part : Rows) → IsSettledAt t old new r → Falls part → going_sum old t part ≡ cond (has part r) (going_size old t r) 0 + going_sum new t part
sum_settled facts t old new r [] s f = refl
sum_settled facts t old new r ((k, x) ∷ part) s f =
    let rest : going_sum old t part ≡ cond (has part r) (going_size old t r) 0 + going_sum new t part = sum_settled facts t old new r part s f.1 in
    elim (eqb_tells k r) [
      | inl e ↦ (let n : has part r ≡ false = elim (cases_Bool (has part r)) [ inl y ↦ absurd (facts.numbers.not_newest part k r f.0 y e.1) | inr y ↦ y ] in
          let z : going_sum old t part ≡ going_sum new t part = rest ∙ (let w : cond (has part r) (going_size old t r) 0 ≡ 0 = ap (λ b. cond b (going_size old t r) 0) n in omega (arith, w)) in
          let q : going_size new t k ≡ 0 = ap (waiting_size new) (ap (going_at new t) e.1 ∙ s.here) in
          let m : going_size old t k ≡ going_size old t r = ap (going_size old t) e.1 in
          rw e.0 (omega (arith, z, q, m)))
      | inr e ↦ (let q : going_size new t k ≡ going_size old t k = size_same old new t k s.kept.alike (s.others k e.1) in
          rw e.0 (omega (arith, rest, q)))
    ]

-- it depends on the numbers alone
sum_numbers : (w : Rows) (t : ℕ → Bool) (a b : Rows) → numbers a ≡ numbers b → going_sum w t a ≡ going_sum w t b
sum_numbers w t a b e = of a ∙ ap (sum_of (going_size w t)) e ∙ sym (of b) where
  sum_of : (ℕ → ℕ) → List ℕ → ℕ
  sum_of f [] = 0
  sum_of f (k ∷ ks) = f k + sum_of f ks

  of : (a : Rows) → going_sum w t a ≡ sum_of (going_size w t) (numbers a)
  of [] = refl
  of ((k, x) ∷ a) = ap (λ n. going_size w t k + n) (of a)

sum_left : (facts : RowLaws) → (t : ℕ → Bool) (old new : Rows) (r : ℕ) → InOrder old → IsSettledAt t old new r → has old r ≡ true → going_sum old t old ≡ going_size old t r + going_sum new t new
sum_left facts t old new r o s h =
    sum_settled facts t old new r old s (facts.seen.falls old o.still)
    ∙ ap (λ b. cond b (going_size old t r) 0 + going_sum new t old) h
    ∙ ap (λ n. going_size old t r + n) (sum_numbers new t old new (sym s.kept.alike.numbers_are))

-- the families of some starts were settled, and then that of one more
settled_more : (t : ℕ → Bool) (table new : Rows) (r u : ℕ) → IsSettledAt t table new r → going_at table t u ≡ None → going_at new t u ≡ None
settled_more t table new r u y e = elim (cases_eq u r) [
  | inl q ↦ ap (going_at new t) q ∙ y.here
  | inr q ↦ going_same table new t u (y.kept.alike.root_is u) (y.others u q) ∙ e
]

-- what stays is left where it waits
left_more : (t : ℕ → Bool) (t0 table new : Rows) (r q : ℕ) → IsReady t0 table → IsSettledAt t table new r → IsRoot t0 q → t q ≡ true → stays_from t (row_at table q).waiting ≡ stays_from t (row_at t0 q).waiting
    → stays_from t (row_at new q).waiting ≡ stays_from t (row_at t0 q).waiting
left_more t t0 table new r q k y i h e = elim (cases_eq q r) [
  | inl z ↦ (let P : ℕ → Type 0 = λ x. IsRoot table x → t x ≡ true → (row_at new x).waiting ≡ stays_from t (row_at table x).waiting in
      let w : (row_at new q).waiting ≡ stays_from t (row_at table q).waiting = (subst P (sym z) y.left) (k.alike.has_is q ∙ i.0, k.alike.root_is q ∙ i.1) h in
      ap (stays_from t) w ∙ stays_twice t (row_at table q).waiting ∙ e)
  | inr z ↦ ap (stays_from t) (y.others q z) ∙ e
]

-- one start less
pub settling_more : (facts : RowLaws) → (t : ℕ → Bool) (t0 table new : Rows) (rest less loose : List ℕ) (s0 s m at : ℕ) → IsSettling t t0 table rest loose s0 s → ((v : ℕ) → is_listed rest v ≡ (eqb at v || is_listed less v)) → has t0 at ≡ true
    → IsSettledAt t table new (row_at table at).root → m ≡ s + going_size table t (row_at table at).root → IsSettling t t0 new less loose s0 m
settling_more facts t t0 table new rest less loose s0 s m at c e h y n = record {
  kept = facts.kept.ready_trans t0 table new c.kept y.kept;
  sized = λ z. y.sized (c.sized z);
  left = λ r i w. left_more t t0 table new (row_at table at).root r c.kept y i w (c.left r i w);
  done = λ u l d. elim (eqb_tells at u) [
    | inl q ↦ ap (going_at new t) (ap (λ x. (row_at t0 x).root) (sym q.1) ∙ sym (c.kept.alike.root_is at)) ∙ y.here
    | inr q ↦ settled_more t table new (row_at table at).root (row_at t0 u).root y (c.done u l (e u ∙ ap (λ b. b || is_listed less u) q.0 ∙ d))
  ];
  counted = (let a : going_sum table t table ≡ going_size table t (row_at table at).root + going_sum new t new = sum_left facts t table new (row_at table at).root c.kept.order y (facts.seen.root_live table (row_at table at).root at c.kept.order.still (c.kept.alike.has_is at ∙ h) refl).0 in
      let b : s + going_sum table t table ≡ s0 + going_sum t0 t t0 = c.counted in omega (arith, a, b, n));
}

-- all starts were settled
pub record IsSettledAll (t : ℕ → Bool) (t0 table : Rows) (s0 s : ℕ) : Type 0 where
  pub kept : IsReady t0 table
  pub sized : AreSized t0 → AreSized table
  pub waits : KeepsWaiting t table
  pub leaves : LeavesWaiting t t0 table
  pub counted : s ≡ s0 + going_sum t0 t t0

settled_all : (facts : RowLaws) → (t0 table : Rows) (hs : Counts) (starts : List ℕ) (s0 s : ℕ) → InOrder t0 → ComesFrom starts t0 hs → IsSettling (stands hs) t0 table [] starts s0 s → IsSettledAll (stands hs) t0 table s0 s
settled_all facts t0 table hs starts s0 s o f c =
    let none : (r : ℕ) → has table r ≡ true → going_at table (stands hs) r ≡ None = facts.leaving.none_goes t0 table hs starts o c.kept f (λ u h. c.done u h refl) in
    record {
      kept = c.kept;
      sized = c.sized;
      waits = λ r v i h w. stays_by (stands hs) table r v i h w (none r i.0);
      leaves = λ r i h. (let l : has table r ≡ true = c.kept.alike.has_is r ∙ i.0 in
          let j : IsRoot table r = (l, c.kept.alike.root_is r ∙ i.1) in
          facts.leaving.stays_all (stands hs) (row_at table r).waiting (λ v w. stays_by (stands hs) table r v j h w (none r l)) ∙ c.left r i h);
      counted = (let a : going_sum table (stands hs) table ≡ 0 = facts.leaving.none_sum table (stands hs) table none in
          let b : s + going_sum table (stands hs) table ≡ s0 + going_sum t0 (stands hs) t0 = c.counted in omega (arith, a, b));
    }

-- the last one: then none is left
pub settled_last : (facts : RowLaws) → (t0 table new : Rows) (hs : Counts) (rest starts : List ℕ) (s0 s m at : ℕ) → InOrder t0 → ComesFrom starts t0 hs → IsSettling (stands hs) t0 table rest starts s0 s → ((v : ℕ) → is_listed rest v ≡ (eqb at v || false)) → has t0 at ≡ true
    → IsSettledAt (stands hs) table new (row_at table at).root → m ≡ s + going_size table (stands hs) (row_at table at).root → IsSettledAll (stands hs) t0 new s0 m
settled_last facts t0 table new hs rest starts s0 s m at o f c e h y n =
    settled_all facts t0 new hs starts s0 m o f (settling_more facts (stands hs) t0 table new rest [] starts s0 s m at c e h y n)
