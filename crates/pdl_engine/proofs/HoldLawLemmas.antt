-- How often arrays are held after one hold more, one less, or a sweep.
use Rattle.std.proofs.Common.{◌≡◌, ℕ, List, [], ◌∷◌, inl, inr, refl, sym, ◌∙◌, true, false, arith, cond, ap, nat_lt, lt-ltb, ◌<◌}
use Rattle.std.proofs.lemmas.Bool.{ne_eqb, eq-eqb, cases_Bool}
use Rattle.std.proofs.lemmas.Bool.Decides.{eqb_tells, nat_tests}
use Rattle.pdl_world.specs.Swept.{is_listed}
use Rattle.pdl_nodes.specs.Holds.{Counts}
use Rattle.pdl_nodes.specs.RowLaws.{RowLaws}
use Rattle.pdl_nodes.specs.Rows.{has, Rows, NumbersBelow}
use Rattle.pdl_nodes.specs.Staying.{staying}
use Rattle.pdl_nodes.specs.Still.{IsStill}
use Rattle.pdl_engine.specs.Held.{count_at, one_more_at, held_among, holders, AllHaveHolds, AreApart}
use Rattle.pdl_engine.specs.HoldLaws.{OneMoreCounts, OneLessCounts, StayingCount, CountedAreHeld, HeldAreCounted, OthersDontCount}
use Rattle.pdl_engine.specs.StateOf.{holds_in, state_of}
use Rattle.pdl_engine.proofs.StateOfWorlds.{look_has}

-- the others are held as before
others : (hs : List (ℕ × ℕ)) (v u : ℕ) → (v ≡ u → ⊥) → count_at (one_more_at hs v) u ≡ count_at hs u
others [] v u d = refl
others ((k, n) ∷ hs) v u d = elim (eqb_tells k u) [
  | inl t ↦ rw (t.0, ne_eqb k v (λ e. d (sym e ∙ t.1))) refl
  | inr t ↦ rw t.0 (others hs v u d)
]

pub one_more : OneMoreCounts
one_more [] v u known = (let z : false ≡ true = known in absurd (cc))
one_more ((k, n) ∷ hs) v u known = elim (eqb_tells k v) [
  | inl y ↦ elim (eqb_tells k u) [
    | inl t ↦ rw (t.0, y.0, eq-eqb v u (sym y.1 ∙ t.1)) refl
    | inr t ↦ (let no : v ≡ u → ⊥ = λ e. t.1 (y.1 ∙ e) in rw (t.0, ne_eqb v u no) (others hs v u no ∙ omega arith))
  ]
  | inr y ↦ elim (eqb_tells k u) [
    | inl t ↦ rw (t.0, y.0, ne_eqb v u (λ e. y.1 (t.1 ∙ sym e))) (omega arith)
    | inr t ↦ rw t.0 (one_more hs v u (rw y.0 at known))
  ]
]

pub one_less : OneLessCounts
one_less [] v u = elim (eqb_tells v u) [ inl t ↦ rw t.0 refl | inr t ↦ rw t.0 refl ]
one_less ((k, n) ∷ hs) v u = elim (eqb_tells k u) [
  | inl t ↦ elim (eqb_tells k v) [
    | inl y ↦ rw (t.0, y.0, eq-eqb v u (sym y.1 ∙ t.1)) refl
    | inr y ↦ rw (t.0, y.0, ne_eqb v u (λ e. y.1 (t.1 ∙ sym e))) (omega arith)
  ]
  | inr t ↦ rw t.0 (one_less hs v u)
]

pub stay : StayingCount
stay t [] u = elim (cases_Bool (t u)) [ inl y ↦ rw y refl | inr y ↦ rw y refl ]
stay t ((k, n) ∷ hs) u = elim (cases_Bool (t k)) [
  | inl y ↦ elim (eqb_tells k u) [
    | inl e ↦ rw (y, e.0, ap t (sym e.1) ∙ y) refl
    | inr e ↦ rw (y, e.0) (stay t hs u)
  ]
  | inr y ↦ elim (eqb_tells k u) [
    | inl e ↦ (let no : t u ≡ false = ap t (sym e.1) ∙ y in
        let rest : count_at (staying t hs) u ≡ cond (t u) (count_at hs u) 0 = stay t hs u in
        rw (y, no) (rw no at rest))
    | inr e ↦ rw (y, e.0) (stay t hs u)
  ]
]

pub counted : CountedAreHeld
counted [] u l = absurd (omega (arith, l))
counted ((k, n) ∷ hs) u l = elim (eqb_tells k u) [
  | inl t ↦ rw (lt-ltb 0 n (rw t.0 at l)) (rw t.0 refl)
  | inr t ↦ (let rest : is_listed (held_among hs) u ≡ true = counted hs u (rw t.0 at l) in
      elim (cases_Bool (nat_lt 0 n)) [ inl p ↦ rw p (rw t.0 rest) | inr p ↦ rw p rest ])
]

-- what is held has holds
has_holds : (hs : List (ℕ × ℕ)) (u : ℕ) → is_listed (held_among hs) u ≡ true → is_listed (holders hs) u ≡ true
has_holds [] u h = h
has_holds ((k, n) ∷ hs) u h = elim (eqb_tells k u) [
  | inl t ↦ rw t.0 refl
  | inr t ↦ rw t.0 (elim (cases_Bool (nat_lt 0 n)) [
    | inl p ↦ has_holds hs u (rw (p, t.0) at h)
    | inr p ↦ has_holds hs u (rw p at h)
  ])
]

pub held : HeldAreCounted
held [] u a h = (let z : false ≡ true = h in absurd (cc))
held ((k, n) ∷ hs) u a h = elim (eqb_tells k u) [
  | inl t ↦ rw t.0 (elim (cases_Bool (nat_lt 0 n)) [
    | inl p ↦ (let some : nat_lt 0 n ≡ true = p in grind (arith, nat_tests))
    | inr p ↦ (let z : false ≡ true = sym a.0 ∙ ap (is_listed (holders hs)) t.1 ∙ has_holds hs u (rw p at h) in absurd (cc))
  ])
  | inr t ↦ rw t.0 (elim (cases_Bool (nat_lt 0 n)) [
    | inl p ↦ held hs u a.1 (rw (p, t.0) at h)
    | inr p ↦ held hs u a.1 (rw p at h)
  ])
]

pub uncounted : OthersDontCount
uncounted [] u h = refl
uncounted ((k, n) ∷ hs) u h = elim (eqb_tells k u) [
  | inl t ↦ (let z : true ≡ false = rw t.0 at h in absurd (cc))
  | inr t ↦ rw t.0 (uncounted hs u (rw t.0 at h))
]

-- the rows have holds
holders_are : (rs : Rows) (hs : Counts) (v : ℕ) → is_listed (holders (holds_in rs hs)) v ≡ has rs v
holders_are [] hs v = refl
holders_are ((k, r) ∷ rs) hs v = elim (eqb_tells k v) [
  | inl t ↦ rw t.0 refl
  | inr t ↦ rw t.0 (holders_are rs hs v)
]

pub have_holds : (facts : RowLaws) → (rs : Rows) (hs : Counts) (n : ℕ) → IsStill rs → AllHaveHolds (state_of rs hs n)
have_holds facts rs hs n s v = holders_are rs hs v ∙ sym (look_has facts rs s v)

-- each once, since the rows' numbers fall
none_below : (facts : RowLaws) → (rs : Rows) (hs : Counts) (k : ℕ) → NumbersBelow k rs → is_listed (holders (holds_in rs hs)) k ≡ false
none_below facts rs hs k b = elim (cases_Bool (has rs k)) [
  | inl t ↦ (let below : k < k = facts.numbers.has_below rs k k b t in absurd (omega (arith, below)))
  | inr t ↦ holders_are rs hs k ∙ t
]

pub apart : (facts : RowLaws) → (rs : Rows) (hs : Counts) → IsStill rs → AreApart (holders (holds_in rs hs))
apart facts [] hs s = tt
apart facts ((k, r) ∷ rs) hs s = (none_below facts rs hs k s.0, apart facts rs hs s.2)
