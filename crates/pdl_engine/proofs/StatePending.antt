-- Lists of what waits, by roots, and of arrays that can be lent.
use Rattle.std.proofs.Common.{◌≡◌, ℕ, List, [], ◌∷◌, ◌++◌, true, false, Bool, None, Some, Option, All, refl, sym, ap, ◌∙◌, inl, inr, arith, ◌⊎◌, map, suc}
use Rattle.std.specs.Prelude.{◌≢◌, ◌==◌, filter, not}
use Rattle.std.proofs.lemmas.Bool.{cases_Bool, eq-eqb, ne_eqb}
use Rattle.std.proofs.lemmas.Bool.Decides.{eqb_tells}
use Rattle.pdl_world.specs.Swept.{is_listed}
use Rattle.pdl_nodes.specs.Staying.{stays_from}
use Rattle.pdl_engine.specs.Held.{AreApart}
use Rattle.pdl_engine.specs.State.{waiting_at}
use Rattle.pdl_engine.specs.StateOf.{pending_onto}
use Rattle.pdl_engine.specs.Worked.{but_of}

-- what stands in a list that a test left
pub listed_filter : (t : ℕ → Bool) (xs : List ℕ) (v : ℕ) → is_listed (filter t xs) v ≡ true → (is_listed xs v ≡ true) × (t v ≡ true)
listed_filter t [] v h = let z : false ≡ true = h in absurd (cc)
listed_filter t (x ∷ xs) v h = elim (cases_Bool (t x)) [
  | inl y ↦ elim (eqb_tells x v) [
    | inl e ↦ (rw e.0 refl, ap t (sym e.1) ∙ y)
    | inr e ↦ (let rest : (is_listed xs v ≡ true) × (t v ≡ true) = listed_filter t xs v (rw (y, e.0) at h) in (rw e.0 rest.0, rest.1))
  ]
  | inr y ↦ (let rest : (is_listed xs v ≡ true) × (t v ≡ true) = listed_filter t xs v (rw y at h) in
      elim (eqb_tells x v) [ inl e ↦ (rw e.0 refl, rest.1) | inr e ↦ (rw e.0 rest.0, rest.1) ])
]

pub listed_append : (xs ys : List ℕ) (v : ℕ) → is_listed (xs ++ ys) v ≡ true → (is_listed xs v ≡ true) ⊎ (is_listed ys v ≡ true)
listed_append [] ys v h = inr h
listed_append (x ∷ xs) ys v h = elim (eqb_tells x v) [
  | inl e ↦ inl (rw e.0 refl)
  | inr e ↦ elim (listed_append xs ys v (rw e.0 at h)) [ inl i ↦ inl (rw e.0 i) | inr i ↦ inr i ]
]

pub all_listed : (t : ℕ → Bool) (xs : List ℕ) (v : ℕ) → All (λ x. t x ≡ true) xs → is_listed xs v ≡ true → t v ≡ true
all_listed t [] v a h = let z : false ≡ true = h in absurd (cc)
all_listed t (x ∷ xs) v a h = elim (eqb_tells x v) [
  | inl e ↦ ap t (sym e.1) ∙ a 0 v (omega arith)
  | inr e ↦ all_listed t xs v (λ k d l. a (suc k) d (omega (arith, l))) (rw e.0 at h)
]

-- what waits in families that a test leaves, and that it takes
pub waits_kept : (t : ℕ × ℕ → Bool) (ps : List (ℕ × ℕ)) (r : ℕ) → ((b : ℕ) → t (r, b) ≡ true) → waiting_at (filter t ps) r ≡ waiting_at ps r
waits_kept t [] r h = refl
waits_kept t ((k, b) ∷ ps) r h = elim (eqb_tells k r) [
  | inl e ↦ (let y : t (k, b) ≡ true = ap (λ x. t (x, b)) e.1 ∙ h b in rw (y, e.0) refl)
  | inr e ↦ elim (cases_Bool (t (k, b))) [
    | inl y ↦ rw (y, e.0) (waits_kept t ps r h)
    | inr y ↦ rw (y, e.0) (waits_kept t ps r h)
  ]
]

pub waits_taken : (t : ℕ × ℕ → Bool) (ps : List (ℕ × ℕ)) (r : ℕ) → ((b : ℕ) → t (r, b) ≡ false) → waiting_at (filter t ps) r ≡ None
waits_taken t [] r h = refl
waits_taken t ((k, b) ∷ ps) r h = elim (eqb_tells k r) [
  | inl e ↦ (let y : t (k, b) ≡ false = ap (λ x. t (x, b)) e.1 ∙ h b in rw y (waits_taken t ps r h))
  | inr e ↦ elim (cases_Bool (t (k, b))) [
    | inl y ↦ rw (y, e.0) (waits_taken t ps r h)
    | inr y ↦ rw y (waits_taken t ps r h)
  ]
]

-- but the families of one root
pub but_kept : (ps : List (ℕ × ℕ)) (q r : ℕ) → r ≢ q → waiting_at (but_of q ps) r ≡ waiting_at ps r
but_kept ps q r n = waits_kept (λ p. not (p.0 == q)) ps r (λ b. ap not (ne_eqb r q n))

pub but_taken : (ps : List (ℕ × ℕ)) (q r : ℕ) → r ≡ q → waiting_at (but_of q ps) r ≡ None
but_taken ps q r e = waits_taken (λ p. not (p.0 == q)) ps r (λ b. ap not (eq-eqb r q e))

pub waits_here : (r q : ℕ) (o : Option ℕ) (ps : List (ℕ × ℕ)) → q ≡ r → waiting_at ps q ≡ None → waiting_at (pending_onto r o ps) q ≡ o
waits_here r q None ps e n = n
waits_here r q (Some b) ps e n = rw (eq-eqb r q (sym e)) refl

pub waits_there : (r q : ℕ) (o : Option ℕ) (ps : List (ℕ × ℕ)) → (r ≡ q → ⊥) → waiting_at (pending_onto r o ps) q ≡ waiting_at ps q
waits_there r q None ps n = refl
waits_there r q (Some b) ps n = rw (ne_eqb r q n) refl

-- what waits of the views that a test leaves, where each root has one at most
pub none_waits : (ps : List (ℕ × ℕ)) (r : ℕ) → is_listed (map (λ p. p.0) ps) r ≡ false → (t : ℕ → Bool) → waiting_at (filter (λ p. t p.1) ps) r ≡ None
none_waits [] r h t = refl
none_waits ((k, b) ∷ ps) r h t = elim (eqb_tells k r) [
  | inl e ↦ (let z : true ≡ false = rw e.0 at h in absurd (cc))
  | inr e ↦ elim (cases_Bool (t b)) [
    | inl y ↦ rw (y, e.0) (none_waits ps r (rw e.0 at h) t)
    | inr y ↦ rw y (none_waits ps r (rw e.0 at h) t)
  ]
]

pub waits_left : (ps : List (ℕ × ℕ)) (r : ℕ) (t : ℕ → Bool) → AreApart (map (λ p. p.0) ps) → waiting_at (filter (λ p. t p.1) ps) r ≡ stays_from t (waiting_at ps r)
waits_left [] r t a = refl
waits_left ((k, b) ∷ ps) r t a = elim (eqb_tells k r) [
  | inl e ↦ elim (cases_Bool (t b)) [
    | inl y ↦ rw (y, e.0, y) refl
    | inr y ↦ rw (y, e.0, y) (none_waits ps r (ap (is_listed (map (λ p. p.0) ps)) (sym e.1) ∙ a.0) t)
  ]
  | inr e ↦ elim (cases_Bool (t b)) [
    | inl y ↦ rw (y, e.0) (waits_left ps r t a.1)
    | inr y ↦ rw (y, e.0) (waits_left ps r t a.1)
  ]
]

pub filter_listed : (t : ℕ → Bool) (xs : List ℕ) (v : ℕ) → is_listed xs v ≡ true → t v ≡ true → is_listed (filter t xs) v ≡ true
filter_listed t [] v h y = h
filter_listed t (x ∷ xs) v h y = elim (eqb_tells x v) [
  | inl e ↦ (let at : t x ≡ true = ap t e.1 ∙ y in rw (at, e.0) refl)
  | inr e ↦ elim (cases_Bool (t x)) [
    | inl z ↦ rw (z, e.0) (filter_listed t xs v (rw e.0 at h) y)
    | inr z ↦ rw z (filter_listed t xs v (rw e.0 at h) y)
  ]
]

pub append_first : (xs ys : List ℕ) (v : ℕ) → is_listed xs v ≡ true → is_listed (xs ++ ys) v ≡ true
append_first [] ys v h = let z : false ≡ true = h in absurd (cc)
append_first (x ∷ xs) ys v h = elim (eqb_tells x v) [
  | inl e ↦ rw e.0 refl
  | inr e ↦ rw e.0 (append_first xs ys v (rw e.0 at h))
]

pub append_second : (xs ys : List ℕ) (v : ℕ) → is_listed ys v ≡ true → is_listed (xs ++ ys) v ≡ true
append_second [] ys v h = h
append_second (x ∷ xs) ys v h = elim (eqb_tells x v) [ inl e ↦ rw e.0 refl | inr e ↦ rw e.0 (append_second xs ys v h) ]

-- the first numbers of pairs that a test left
keys_left : (t : ℕ × ℕ → Bool) (ps : List (ℕ × ℕ)) (k : ℕ) → is_listed (map (λ p. p.0) ps) k ≡ false → is_listed (map (λ p. p.0) (filter t ps)) k ≡ false
keys_left t [] k h = refl
keys_left t ((j, b) ∷ ps) k h = elim (eqb_tells j k) [
  | inl e ↦ (let z : true ≡ false = rw e.0 at h in absurd (cc))
  | inr e ↦ elim (cases_Bool (t (j, b))) [
    | inl y ↦ rw (y, e.0) (keys_left t ps k (rw e.0 at h))
    | inr y ↦ rw y (keys_left t ps k (rw e.0 at h))
  ]
]

pub apart_left : (t : ℕ × ℕ → Bool) (ps : List (ℕ × ℕ)) → AreApart (map (λ p. p.0) ps) → AreApart (map (λ p. p.0) (filter t ps))
apart_left t [] a = tt
apart_left t ((k, b) ∷ ps) a = elim (cases_Bool (t (k, b))) [
  | inl y ↦ rw y (keys_left t ps k a.0, apart_left t ps a.1)
  | inr y ↦ rw y (apart_left t ps a.1)
]

none_but : (ps : List (ℕ × ℕ)) (r : ℕ) → is_listed (map (λ p. p.0) (but_of r ps)) r ≡ false
none_but [] r = refl
none_but ((k, b) ∷ ps) r = elim (eqb_tells k r) [ inl e ↦ rw e.0 (none_but ps r) | inr e ↦ rw (e.0, e.0) (none_but ps r) ]

pub apart_then : (r : ℕ) (o : Option ℕ) (ps : List (ℕ × ℕ)) → AreApart (map (λ p. p.0) ps) → AreApart (map (λ p. p.0) (pending_onto r o (but_of r ps)))
apart_then r None ps a = apart_left (λ p. not (p.0 == r)) ps a
apart_then r (Some b) ps a = (none_but ps r, apart_left (λ p. not (p.0 == r)) ps a)
