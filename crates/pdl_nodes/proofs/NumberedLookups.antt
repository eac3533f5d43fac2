-- Look-ups of numbers in lists that rise.
use Rattle.std.proofs.Common.{◌≡◌, ℕ, ◌<◌, true, List, [], ◌∷◌, is_some, None, inl, inr, refl, arith}
use Rattle.std.proofs.lemmas.Bool.Decides.{eqb_tells}
use Rattle.pdl_lemmas.specs.Numbers.{at_other, at_same}
use Rattle.pdl_registry.specs.Numbered.{AllAbove, IsAbove, value_at}

module _ {V : Type 0} where
  -- a number below all has no value
  pub none_below : (v : ℕ) (es : List (ℕ × V)) → AllAbove v es → value_at es v ≡ None
  none_below v [] a = refl
  none_below v (e ∷ es) a = rw (at_other v e.0 (λ (y : e.0 ≡ v). let z : ⊥ = omega (arith, a.0, y) in z)) (none_below v es a.1)

  with_more : (e : ℕ × V) (es : List (ℕ × V)) (u : ℕ) → is_some (value_at es u) ≡ true → is_some (value_at (e ∷ es) u) ≡ true
  with_more e es u h = elim (eqb_tells e.0 u) [
    | inl t ↦ rw (at_same u e.0 t.1) refl
    | inr t ↦ rw (at_other u e.0 t.1) h
  ]

  -- a number above all that have a value is above all
  pub is_above : (v : ℕ) (es : List (ℕ × V)) → ((u : ℕ) → is_some (value_at es u) ≡ true → u < v) → IsAbove v es
  is_above v [] h = tt
  is_above v (e ∷ es) h = (h e.0 (rw (at_same e.0 e.0 refl) refl), is_above v es (λ u g. h u (with_more e es u g)))
