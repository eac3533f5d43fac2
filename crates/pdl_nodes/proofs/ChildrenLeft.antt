-- The views that are left of each array, and what the held arrays reach.
use Rattle.std.proofs.Common.{◌≡◌, ◌≢◌, ℕ, ◌+◌, ◌<◌, ◌||◌, Bool, true, false, eqb, cond, [], ◌∷◌, Option, Some, None, nat_lt, inl, inr, refl, sym, ◌∙◌, ap, subst, arith}
use Rattle.std.proofs.lemmas.Bool.{cases_Bool}
use Rattle.std.proofs.lemmas.Bool.Decides.{eqb_tells, leb_tells}
use Rattle.pdl_world.specs.Cut.{has_views}
use Rattle.pdl_nodes.specs.Children.{children, left, one_of}
use Rattle.pdl_nodes.specs.Row.{Row, parent_of}
use Rattle.pdl_nodes.specs.Rows.{Rows, row_at, has, reached, NumbersBelow, Falls, HasParents}
use Rattle.pdl_nodes.specs.Staying.{staying, passed}
use Rattle.pdl_nodes.specs.Still.{IsStill}
use Rattle.pdl_nodes.specs.Worlds.{shape}
use Rattle.pdl_nodes.proofs.ChildrenCounted.{views_counted}
use Rattle.pdl_nodes.proofs.WorldFamilies.{still_falls}
use Rattle.pdl_nodes.proofs.RowFinds.{not_newest, older_has, head_has, newest_gone}
use Rattle.pdl_nodes.proofs.StayingLeavings.{still_parents}
use Rattle.pdl_nodes.proofs.RowRests.{not_parent}
use Rattle.pdl_nodes.proofs.RowsSeen.{row_older}
use Rattle.std.proofs.Math.Bool.{or-true, or-false}
use Rattle.std.proofs.lemmas.Bool.{eq-eqb, ne_eqb}

pub no_one : (o : Option ℕ) (v : ℕ) → (o ≡ Some v → ⊥) → one_of o v ≡ 0
no_one None v n = refl
no_one (Some q) v n = rw (ne_eqb q v (λ e. n (ap Some e))) refl

pub one_is : (o : Option ℕ) (v : ℕ) → o ≡ Some v → one_of o v ≡ 1
one_is o v e = ap (λ x. one_of x v) e ∙ (let z : one_of (Some v) v ≡ 1 = rw (eq-eqb v v refl) refl in z)

pub none_if : (b : Bool) (n : ℕ) → n ≡ 0 → cond b n 0 ≡ 0
none_if true n e = e
none_if false n e = refl

-- what isn't there has no views
none_left : (rs : Rows) (t : ℕ → Bool) (v : ℕ) → HasParents rs → has rs v ≡ false → left rs t v ≡ 0
none_left [] t v p h = refl
none_left ((k, r) ∷ rs) t v p h = elim (eqb_tells k v) [
  | inl y ↦ (let z : true ≡ false = rw y.0 at h in absurd (cc))
  | inr y ↦ (let g : has rs v ≡ false = rw y.0 at h in
      let a : cond (t k) (one_of (parent_of r) v) 0 ≡ 0 = none_if (t k) (one_of (parent_of r) v) (no_one (parent_of r) v (not_parent rs (parent_of r) v p.0 g)) in
      let b : left rs t v ≡ 0 = none_left rs t v p.1 g in
      omega (arith, a, b))
]

-- nor has the newest
newest_left : (k : ℕ) (r : Row) (rs : Rows) (t : ℕ → Bool) → NumbersBelow k rs → HasParents ((k, r) ∷ rs) → left ((k, r) ∷ rs) t k ≡ 0
newest_left k r rs t b p =
    let g : has rs k ≡ false = newest_gone k rs b in
    let x : cond (t k) (one_of (parent_of r) k) 0 ≡ 0 = none_if (t k) (one_of (parent_of r) k) (no_one (parent_of r) k (not_parent rs (parent_of r) k p.0 g)) in
    let y : left rs t k ≡ 0 = none_left rs t k p.1 g in
    omega (arith, x, y)

pub left_all : (rs : Rows) (t : ℕ → Bool) (v : ℕ) → ((k : ℕ) → has rs k ≡ true → t k ≡ true) → left rs t v ≡ children rs v
left_all [] t v a = refl
left_all ((k, r) ∷ rs) t v a =
    ap (λ b. cond b (one_of (parent_of r) v) 0 + left rs t v) (a k (head_has k r rs))
    ∙ ap (λ n. one_of (parent_of r) v + n) (left_all rs t v (λ x h. a x (older_has k r rs x h)))

pub left_same : (rs : Rows) (t u : ℕ → Bool) (v : ℕ) → ((k : ℕ) → has rs k ≡ true → t k ≡ u k) → left rs t v ≡ left rs u v
left_same [] t u v a = refl
left_same ((k, r) ∷ rs) t u v a =
    ap (λ b. cond b (one_of (parent_of r) v) 0 + left rs t v) (a k (head_has k r rs))
    ∙ ap (λ n. cond (u k) (one_of (parent_of r) v) 0 + n) (left_same rs t u v (λ x h. a x (older_has k r rs x h)))

-- one less of what its parent has
pub left_less : (rs : Rows) (t u : ℕ → Bool) (k v : ℕ) → Falls rs → has rs k ≡ true → t k ≡ true → u k ≡ false → ((x : ℕ) → x ≢ k → u x ≡ t x) → left rs t v ≡ one_of (parent_of (row_at rs k)) v + left rs u v
left_less [] t u k v f h a b o = (let z : false ≡ true = h in absurd (cc))
left_less ((j, r) ∷ rs) t u k v f h a b o = elim (eqb_tells j k) [
  | inl y ↦ (let tj : t j ≡ true = ap t y.1 ∙ a in
      let uj : u j ≡ false = ap u y.1 ∙ b in
      let rest : left rs t v ≡ left rs u v = left_same rs t u v (λ x g. sym (o x (λ e. not_newest rs j x f.0 g (y.1 ∙ sym e)))) in
      rw (y.0, tj, uj) (omega (arith, rest)))
  | inr y ↦ (let same_head : u j ≡ t j = o j y.1 in
      let rest : left rs t v ≡ one_of (parent_of (row_at rs k)) v + left rs u v = left_less rs t u k v f.1 (rw y.0 at h) a b o in
      rw (y.0, same_head) (omega (arith, rest)))
]

lt_more : (n : ℕ) → nat_lt 0 (1 + n) ≡ true
lt_more n = elim (leb_tells 1 (1 + n)) [ inl l ↦ l.0 | inr l ↦ absurd (omega (arith, l.1)) ]

lt_none : (n : ℕ) → nat_lt 0 (0 + n) ≡ nat_lt 0 n
lt_none n = ap (nat_lt 0) (let z : 0 + n ≡ n = omega arith in z)

-- a view that is left holds its parent
one_passed : (o : Option ℕ) (b : Bool) (held : ℕ → Bool) (x n : ℕ) → (held x || nat_lt 0 (cond b (one_of o x) 0 + n)) ≡ (passed o b held x || nat_lt 0 n)
one_passed None true held x n = ap (λ c. held x || c) (lt_none n)
one_passed None false held x n = ap (λ c. held x || c) (lt_none n)
one_passed (Some q) false held x n = elim (eqb_tells q x) [
  | inl y ↦ rw y.0 (ap (λ c. held x || c) (lt_none n))
  | inr y ↦ rw y.0 (ap (λ c. held x || c) (lt_none n))
]
one_passed (Some q) true held x n = elim (eqb_tells q x) [
  | inl y ↦ rw y.0 (ap (λ c. held x || c) (lt_more n) ∙ or-true (held x))
  | inr y ↦ rw y.0 (ap (λ c. held x || c) (lt_none n))
]

-- a test that holds exactly of what is held and of what has a view of which it holds tells what is reached
pub told : (rs : Rows) (t held : ℕ → Bool) → Falls rs → HasParents rs → ((v : ℕ) → has rs v ≡ true → t v ≡ (held v || nat_lt 0 (left rs t v))) → (v : ℕ) → has rs v ≡ true → t v ≡ reached rs held v
told [] t held f p e v h = (let z : false ≡ true = h in absurd (cc))
told ((k, r) ∷ rs) t held f p e v h =
    let here : t k ≡ held k = e k (head_has k r rs) ∙ ap (λ n. held k || nat_lt 0 n) (newest_left k r rs t f.0 p) ∙ or-false (held k) in
    elim (eqb_tells k v) [
      | inl y ↦ rw y.0 (ap t (sym y.1) ∙ here)
      | inr y ↦ rw y.0 (told rs t (passed (parent_of r) (held k) held) f.1 p.1
          (λ x g. e x (older_has k r rs x g) ∙ ap (λ b. held x || nat_lt 0 (cond b (one_of (parent_of r) x) 0 + left rs t x)) here ∙ one_passed (parent_of r) (held k) held x (left rs t x))
          v (rw y.0 at h))
    ]

-- and what is reached is such a test
reached_by : (rs : Rows) (held : ℕ → Bool) → Falls rs → HasParents rs → (v : ℕ) → has rs v ≡ true → reached rs held v ≡ (held v || nat_lt 0 (left rs (reached rs held) v))
reached_by [] held f p v h = (let z : false ≡ true = h in absurd (cc))
reached_by ((k, r) ∷ rs) held f p v h =
    let t : ℕ → Bool = reached ((k, r) ∷ rs) held in
    let u : ℕ → Bool = reached rs (passed (parent_of r) (held k) held) in
    let tk : reached ((k, r) ∷ rs) held k ≡ held k = rw (eq-eqb k k refl) refl in
    let older : (x : ℕ) → has rs x ≡ true → reached ((k, r) ∷ rs) held x ≡ u x = λ x g. rw (ne_eqb k x (not_newest rs k x f.0 g)) refl in
    elim (eqb_tells k v) [
      | inl y ↦ (let n : left ((k, r) ∷ rs) t k ≡ 0 = newest_left k r rs t f.0 p in
          let P : ℕ → Type 0 = λ x. t x ≡ (held x || nat_lt 0 (left ((k, r) ∷ rs) t x)) in
          subst P y.1 (tk ∙ sym (ap (λ m. held k || nat_lt 0 m) n ∙ or-false (held k))))
      | inr y ↦ (let g : has rs v ≡ true = rw y.0 at h in
          older v g
          ∙ reached_by rs (passed (parent_of r) (held k) held) f.1 p.1 v g
          ∙ sym (one_passed (parent_of r) (held k) held v (left rs u v))
          ∙ ap (λ n. held v || nat_lt 0 (cond (held k) (one_of (parent_of r) v) 0 + n)) (sym (left_same rs t u v older))
          ∙ ap (λ b. held v || nat_lt 0 (cond b (one_of (parent_of r) v) 0 + left rs t v)) (sym tk))
    ]

-- a view of which the test holds is left
pub left_some : (rs : Rows) (t : ℕ → Bool) (c v : ℕ) → Falls rs → has rs c ≡ true → t c ≡ true → parent_of (row_at rs c) ≡ Some v → 0 < left rs t v
left_some rs t c v f h y e =
    let u : ℕ → Bool = λ x. cond (eqb x c) false (t x) in
    let a : left rs t v ≡ one_of (parent_of (row_at rs c)) v + left rs u v = left_less rs t u c v f h y (rw (eq-eqb c c refl) refl) (λ x d. rw (ne_eqb x c d) refl) in
    let b : one_of (parent_of (row_at rs c)) v ≡ 1 = one_is (parent_of (row_at rs c)) v e in
    omega (arith, a, b)

-- v has a view
pub record IsViewed (rs : Rows) (v : ℕ) : Type 0 where
  pub child : ℕ
  pub live : has rs child ≡ true
  pub parent : parent_of (row_at rs child) ≡ Some v

pub child_of : (rs : Rows) (v : ℕ) → Falls rs → 0 < children rs v → IsViewed rs v
child_of [] v f l = absurd (omega (arith, l))
child_of ((k, r) ∷ rs) v f l = elim (cases_Bool (is_one (parent_of r) v)) [
  | inl y ↦ record { child = k; live = head_has k r rs; parent = ap parent_of (let z : row_at ((k, r) ∷ rs) k ≡ r = rw (eq-eqb k k refl) refl in z) ∙ one_some (parent_of r) v y }
  | inr n ↦ (let i : IsViewed rs v = child_of rs v f.1 (no_some (parent_of r) v (children rs v) n l) in
      record { child = i.child; live = older_has k r rs i.child i.live; parent = ap parent_of (row_older k r rs i.child (not_newest rs k i.child f.0 i.live)) ∙ i.parent })
] where
  is_one : Option ℕ → ℕ → Bool
  is_one None v = false
  is_one (Some q) v = eqb q v

  one_some : (o : Option ℕ) (v : ℕ) → is_one o v ≡ true → o ≡ Some v
  one_some None v y = (let z : false ≡ true = y in absurd (cc))
  one_some (Some q) v y = elim (eqb_tells q v) [ inl t ↦ ap Some t.1 | inr t ↦ (let z : false ≡ true = sym t.0 ∙ y in absurd (cc)) ]

  no_some : (o : Option ℕ) (v n : ℕ) → is_one o v ≡ false → 0 < one_of o v + n → 0 < n
  no_some None v n y l = omega (arith, l)
  no_some (Some q) v n y l = (let z : one_of (Some q) v ≡ 0 = rw y refl in omega (arith, l, z))

-- what is left of each array's views
children_left : (rs : Rows) (t : ℕ → Bool) (v : ℕ) → children (staying t rs) v ≡ left rs t v
children_left [] t v = refl
children_left ((k, r) ∷ rs) t v = elim (cases_Bool (t k)) [
  | inl y ↦ rw y (ap (λ n. one_of (parent_of r) v + n) (children_left rs t v))
  | inr n ↦ rw n (let e : children (staying t rs) v ≡ left rs t v = children_left rs t v in omega (arith, e))
]

views_left : (rs : Rows) (t : ℕ → Bool) (v : ℕ) → nat_lt 0 (left rs t v) ≡ true → has_views (shape (staying t rs)) v ≡ true
views_left rs t v e = views_counted (staying t rs) v ∙ ap (nat_lt 0) (children_left rs t v) ∙ e

-- what is reached and isn't held has a view that is reached
pub reached_viewed : (rs : Rows) (held : ℕ → Bool) (v : ℕ) → IsStill rs → has rs v ≡ true → reached rs held v ≡ true → held v ≡ false → has_views (shape (staying (reached rs held) rs)) v ≡ true
reached_viewed rs held v still h y n =
    views_left rs (reached rs held) v (let e : reached rs held v ≡ (held v || nat_lt 0 (left rs (reached rs held) v)) = reached_by rs held (still_falls rs still) (still_parents rs still) v h in
    let z : (held v || nat_lt 0 (left rs (reached rs held) v)) ≡ nat_lt 0 (left rs (reached rs held) v) = rw n refl in sym (e ∙ z) ∙ y)
