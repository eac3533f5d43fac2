-- Taking the holds from all that no held array reaches: from some arrays up.
use Rattle.std.proofs.Common.{◌≡◌, ◌≢◌, ℕ, ◌+◌, ◌<◌, ◌≤◌, ◌||◌, true, false, eqb, List, ◌∷◌, length, get_or, drop, nat_lt, inl, inr, refl, sym, ◌∙◌, ap, arith}
use Rattle.std.proofs.lemmas.Bool.{cases_Bool, or_right, ltb-true, both_ways}
use Rattle.std.proofs.lemmas.Bool.Decides.{leb_tells}
use Rattle.std.proofs.lemmas.List.{drop_all, drop_more}
use Rattle.pdl_world.specs.Swept.{is_listed}
use Rattle.pdl_nodes.specs.Children.{children, left}
use Rattle.pdl_nodes.specs.Holds.{Counts, Beside, is_held, going, stands}
use Rattle.pdl_nodes.specs.Risen.{AreMarked, AreTight, IsFewer, IsLoose, IsRisen}
use Rattle.pdl_nodes.specs.Rows.{Rows, has, reached}
use Rattle.pdl_nodes.specs.Still.{IsStill}
use Rattle.pdl_nodes.proofs.ChildrenCounted.{views_counted}
use Rattle.pdl_nodes.proofs.WorldFamilies.{still_falls}
use Rattle.pdl_nodes.proofs.StayingLeavings.{still_parents}
use Rattle.pdl_nodes.proofs.ChildrenLeft.{IsViewed, child_of, left_all, left_some, told}
use Rattle.pdl_nodes.proofs.HoldsRising.{fewer_same}
use Rattle.std.proofs.lemmas.Bool.{ne_eqb}

-- ---- lists that a loop goes over
-- what is in the rest is the next, or in what is left then
pub holds_next : (xs : List ℕ) (n d v : ℕ) → n < length xs → is_listed (drop n xs) v ≡ (eqb (get_or xs n d) v || is_listed (drop (n + 1) xs) v)
holds_next xs n d v l = ap (λ ys. is_listed ys v) (drop_more xs n d l)

pub holds_end : (xs : List ℕ) (n v : ℕ) → length xs ≤ n → is_listed (drop n xs) v ≡ false
holds_end xs n v l = ap (λ ys. is_listed ys v) (drop_all n xs l)

-- ---- the loop
-- all that is loose is still to come
pub record IsLetting (rs : Rows) (h0 hs : Counts) (rest : List ℕ) (id : ℕ) : Type 0 where
  pub marked : AreMarked rs hs
  pub fewer : IsFewer h0 hs
  pub loose : (v : ℕ) → IsLoose rs hs v → (eqb id v || is_listed rest v) ≡ true

pub marked_none : (rs : Rows) (hs : Counts) → Beside rs hs → AreMarked rs hs
marked_none rs hs b = record {
  numbers = λ v e. sym (b.numbers v) ∙ e;
  spent = λ v h e. absurd (both_ways (stands hs v) e (b.numbers v ∙ h));
  noted = λ v e. (let a : left rs (stands hs) v ≡ children rs v = left_all rs (stands hs) v (λ k g. b.numbers k ∙ g) in
      let c : going hs v ≡ 0 = b.clear v in omega (arith, a, c));
}

pub loose_listed : (rs : Rows) (hs : Counts) (starts : List ℕ) (v : ℕ) → Beside rs hs → AreTight starts rs hs → IsLoose rs hs v → is_listed starts v ≡ true
loose_listed rs hs starts v b t l = elim (cases_Bool (is_listed starts v)) [
  | inl y ↦ y
  | inr n ↦ (let a : left rs (stands hs) v ≡ children rs v = left_all rs (stands hs) v (λ k g. b.numbers k ∙ g) in
      let c : left rs (stands hs) v ≡ 0 = l.viewless in
      let m : 0 < children rs v = ltb-true 0 (children rs v) (sym (views_counted rs v) ∙ t v (sym (b.numbers v) ∙ l.standing) n l.free) in
      absurd (omega (arith, a, c, m)))
]

pub letting_none : (rs : Rows) (hs : Counts) (loose : List ℕ) (id : ℕ) → Beside rs hs → AreTight (id ∷ loose) rs hs → IsLetting rs hs hs loose id
letting_none rs hs loose id b t = record {
  marked = marked_none rs hs b;
  fewer = fewer_same hs;
  loose = λ v l. loose_listed rs hs (id ∷ loose) v b t l;
}

pub fewer_then : (a b c : Counts) → IsFewer a b → IsFewer b c → IsFewer a c
fewer_then a b c x y = record {
  standing = λ v e. x.standing v (y.standing v e);
  counts = λ v e. y.counts v e ∙ x.counts v (y.standing v e);
  free = λ v e n. elim (cases_Bool (stands b v)) [
    | inl z ↦ ap (nat_lt 0) (sym (x.counts v z)) ∙ y.free v z n
    | inr z ↦ x.free v e z
  ];
}

-- one more was passed
pub letting_more : (rs : Rows) (h0 hs later : Counts) (rest less : List ℕ) (id at : ℕ) → IsLetting rs h0 hs rest id → ((v : ℕ) → is_listed rest v ≡ (eqb at v || is_listed less v)) → AreMarked rs later → IsFewer hs later
    → ((v : ℕ) → IsLoose rs later v → IsLoose rs hs v × (v ≢ at)) → IsLetting rs h0 later less id
letting_more rs h0 hs later rest less id at i e m f l = record {
  marked = m;
  fewer = fewer_then h0 hs later i.fewer f;
  loose = λ v y. (let x : IsLoose rs hs v × (v ≢ at) = l v y in
      let d : eqb at v ≡ false = ne_eqb at v (λ z. x.1 (sym z)) in
      ap (λ b. eqb id v || b) (sym (e v ∙ ap (λ b. b || is_listed less v) d)) ∙ i.loose v x.0);
}

-- the last was passed: nothing is loose
record IsSpent (rs : Rows) (h0 hs : Counts) : Type 0 where
  marked : AreMarked rs hs
  fewer : IsFewer h0 hs
  none : (v : ℕ) → IsLoose rs hs v → ⊥

spent_last : (rs : Rows) (h0 hs later : Counts) (rest : List ℕ) (id : ℕ) → IsLetting rs h0 hs rest id → ((v : ℕ) → is_listed rest v ≡ false) → AreMarked rs later → IsFewer hs later
    → ((v : ℕ) → IsLoose rs later v → IsLoose rs hs v × (v ≢ id)) → IsSpent rs h0 later
spent_last rs h0 hs later rest id i e m f l = record {
  marked = m;
  fewer = fewer_then h0 hs later i.fewer f;
  none = λ v y. (let x : IsLoose rs hs v × (v ≢ id) = l v y in
      let d : eqb id v ≡ false = ne_eqb id v (λ z. x.1 (sym z)) in
      let z : (eqb id v || is_listed rest v) ≡ true = i.loose v x.0 in
      let w : false ≡ true = sym (ap (λ b. b || is_listed rest v) d ∙ e v) ∙ z in absurd (cc));
}

spent_tells : (rs : Rows) (h0 hs : Counts) → IsStill rs → Beside rs h0 → IsSpent rs h0 hs → (v : ℕ) → has rs v ≡ true → stands hs v ≡ reached rs (is_held h0) v
spent_tells rs h0 hs still b s = told rs (stands hs) (is_held h0) (still_falls rs still) (still_parents rs still) (λ v h. elim (cases_Bool (stands hs v)) [
  | inl y ↦ y ∙ elim (cases_Bool (is_held h0 v)) [
    | inl z ↦ (let w : true ≡ (is_held h0 v || nat_lt 0 (left rs (stands hs) v)) = rw z refl in w)
    | inr z ↦ sym (or_right (is_held h0 v) (nat_lt 0 (left rs (stands hs) v)) (elim (leb_tells 1 (left rs (stands hs) v)) [
      | inl t ↦ t.0
      | inr t ↦ absurd (s.none v (record { standing = y; free = ap (nat_lt 0) (s.fewer.counts v y) ∙ z; viewless = omega (arith, t.1) }))
    ]))
  ]
  | inr y ↦ y ∙ (let a : is_held h0 v ≡ false = s.fewer.free v (b.numbers v ∙ h) y in
      let c : nat_lt 0 (left rs (stands hs) v) ≡ false = ap (nat_lt 0) (s.marked.spent v h y) in
      let w : false ≡ (is_held h0 v || nat_lt 0 (left rs (stands hs) v)) = rw (a, c) refl in w)
])

pub letting_last : (rs : Rows) (h0 hs later : Counts) (loose rest : List ℕ) (id : ℕ) → IsStill rs → Beside rs h0 → AreTight (id ∷ loose) rs h0 → IsLetting rs h0 hs rest id → ((v : ℕ) → is_listed rest v ≡ false) → AreMarked rs later → IsFewer hs later
    → ((v : ℕ) → IsLoose rs later v → IsLoose rs hs v × (v ≢ id)) → IsRisen (id ∷ loose) rs h0 later
letting_last rs h0 hs later loose rest id still b t i e m f l =
    let s : IsSpent rs h0 later = spent_last rs h0 hs later rest id i e m f l in
    record {
      numbers = s.marked.numbers;
      counts = s.fewer.counts;
      tells = spent_tells rs h0 later still b s;
      noted = s.marked.noted;
      from = λ v h y d. (let free : is_held h0 v ≡ false = s.fewer.free v (b.numbers v ∙ h) y in
          let w : IsViewed rs v = child_of rs v (still_falls rs still) (ltb-true 0 (children rs v) (sym (views_counted rs v) ∙ t v h d free)) in
          record {
            child = w.child;
            live = w.live;
            gone = elim (cases_Bool (stands later w.child)) [
              | inl z ↦ (let a : 0 < left rs (stands later) v = left_some rs (stands later) w.child v (still_falls rs still) w.live z w.parent in
                  let n : left rs (stands later) v ≡ 0 = s.marked.spent v h y in absurd (omega (arith, a, n)))
              | inr z ↦ z
            ];
            parent = w.parent;
          });
    }
