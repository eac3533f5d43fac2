-- A walk over the views below an array, the oldest first.
use Rattle.std.proofs.Common.{◌≡◌, ℕ, zero, suc, ◌+◌, ◌<◌, ◌≤◌, Bool, true, false, eqb, List, [], ◌∷◌, Option, Some, None, inl, inr, refl, sym, ◌∙◌, ap, arith}
use Rattle.std.proofs.lemmas.Bool.{both_ways, cases_Bool, cases_eq, cases_lt, eq-eqb, eqb-true, or_cases, or_left, or_right}
use Rattle.pdl_world.specs.Swept.{is_listed}
use Rattle.pdl_nodes.specs.Below.{AreBelow, IsRising, has_parent_in}
use Rattle.pdl_nodes.specs.Row.{parent_of}
use Rattle.pdl_nodes.specs.Rows.{Rows, row_at, has}
use Rattle.pdl_nodes.specs.Still.{IsStill}
use Rattle.pdl_nodes.proofs.ChildrenFound.{first_listed, rest_listed}
use Rattle.pdl_nodes.proofs.AlikePaths.{parent_live}

-- whether the test holds of the parent
abbrev pub of_parent : (ℕ → Bool) → Option ℕ → Bool
of_parent t None = false
of_parent t (Some p) = t p

-- the test holds of v, of its views and theirs, and of no other
pub record IsBelow (rs : Rows) (v : ℕ) (t : ℕ → Bool) : Type 0 where
  pub top : t v ≡ true
  pub older : (p : ℕ) → has rs p ≡ true → p < v → t p ≡ false
  pub follows : (u : ℕ) → has rs u ≡ true → (u ≡ v → ⊥) → t u ≡ of_parent t (parent_of (row_at rs u))

-- each newer array of which it holds is among the views below v
all_listed : (n : ℕ) (rs : Rows) (v : ℕ) (t : ℕ → Bool) (us : List ℕ) → IsStill rs → IsBelow rs v t → AreBelow rs v us → (u : ℕ) → u < n → has rs u ≡ true → v < u → t u ≡ true → is_listed us u ≡ true
all_listed zero rs v t us s i b u l h up e = absurd (omega (arith, l))
all_listed (suc n) rs v t us s i b u l h up e = b.views u h ∙ by (all_listed n rs v t us s i b) (parent_of (row_at rs u)) refl where
  by : ((p : ℕ) → p < n → has rs p ≡ true → v < p → t p ≡ true → is_listed us p ≡ true) → (o : Option ℕ) → parent_of (row_at rs u) ≡ o → has_parent_in (v ∷ us) o ≡ true
  by older None q = (let z : false ≡ true = sym (i.follows u h (λ y. absurd (omega (arith, up, y))) ∙ ap (of_parent t) q) ∙ e in absurd (cc))
  by older (Some p) q =
      let holds : t p ≡ true = sym (i.follows u h (λ y. absurd (omega (arith, up, y))) ∙ ap (of_parent t) q) ∙ e in
      let above : (has rs p ≡ true) × (p < u) = parent_live rs u p s h q in
      elim (cases_eq p v) [
        | inl y ↦ or_left (eqb v p) (is_listed us p) (eq-eqb v p (sym y))
        | inr y ↦ elim (cases_lt p v) [
          | inl z ↦ absurd (both_ways (t p) (i.older p above.0 z) holds)
          | inr z ↦ or_right (eqb v p) (is_listed us p) (older p (omega (arith, above.1, l)) above.0 (omega (arith, y, z)) holds)
        ]
      ]

-- of the arrays from the bound on of which the test holds, each is still to come
pub record IsLeft (rs : Rows) (t : ℕ → Bool) (bound : ℕ) (ws : List ℕ) : Type 0 where
  pub rises : IsRising ws
  pub above : (u : ℕ) → is_listed ws u ≡ true → bound ≤ u
  pub there : (u : ℕ) → is_listed ws u ≡ true → has rs u ≡ true
  pub all : (u : ℕ) → has rs u ≡ true → bound ≤ u → t u ≡ true → is_listed ws u ≡ true

pub left_begins : (rs : Rows) (v : ℕ) (t : ℕ → Bool) (us : List ℕ) → IsStill rs → IsBelow rs v t → AreBelow rs v us → IsLeft rs t (v + 1) us
left_begins rs v t us s i b = record {
  rises = b.rises.1;
  above = λ u h. (let up : v < u = b.rises.0 u h in omega (arith, up));
  there = b.there;
  all = λ u h l e. all_listed (u + 1) rs v t us s i b u (omega arith) h (omega (arith, l)) e;
}

pub left_next : (rs : Rows) (t : ℕ → Bool) (b x : ℕ) (ws : List ℕ) → IsLeft rs t b (x ∷ ws) → IsLeft rs t (x + 1) ws
left_next rs t b x ws l = record {
  rises = l.rises.1;
  above = λ u h. (let up : x < u = l.rises.0 u h in omega (arith, up));
  there = λ u h. l.there u (rest_listed x u ws h);
  all = λ u h m e. (let low : b ≤ x = l.above x (first_listed x ws) in
      elim (or_cases (eqb x u) (is_listed ws u) (l.all u h (omega (arith, low, m)) e)) [
        | inl y ↦ (let same : x ≡ u = eqb-true x u y in absurd (omega (arith, same, m)))
        | inr y ↦ y
      ]);
}

-- up to the next it holds of none
pub left_passed : (rs : Rows) (t : ℕ → Bool) (b x : ℕ) (ws : List ℕ) → IsLeft rs t b (x ∷ ws) → (u : ℕ) → has rs u ≡ true → b ≤ u → u < x → t u ≡ false
left_passed rs t b x ws l u h m n = elim (cases_Bool (t u)) [
  | inl y ↦ elim (or_cases (eqb x u) (is_listed ws u) (l.all u h m y)) [
    | inl z ↦ (let same : x ≡ u = eqb-true x u z in absurd (omega (arith, same, n)))
    | inr z ↦ (let up : x < u = l.rises.0 u z in absurd (omega (arith, up, n)))
  ]
  | inr y ↦ y
]

pub left_done : (rs : Rows) (t : ℕ → Bool) (b : ℕ) → IsLeft rs t b [] → (u : ℕ) → has rs u ≡ true → b ≤ u → t u ≡ false
left_done rs t b l u h m = elim (cases_Bool (t u)) [
  | inl y ↦ (let z : false ≡ true = l.all u h m y in absurd (cc))
  | inr y ↦ y
]
