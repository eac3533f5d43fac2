-- The newest view of an array, beside the others.
use Rattle.std.proofs.Common.{◌≡◌, ℕ, ◌||◌, Bool, true, false, cond, eqb, List, ◌∷◌, inl, inr, refl, sym}
use Rattle.std.proofs.lemmas.Bool.Decides.{eqb_tells}
use Rattle.pdl_lemmas.specs.Numbers.{at_other, at_same}
use Rattle.pdl_nodes.specs.Children.{has_number}

or_all : (b : Bool) → (b || true) ≡ true
or_all true = refl
or_all false = refl

-- a number that was put into one list stands in the other as well
pub put_beside : (x u : ℕ) (ks os : List ℕ) → (cond (eqb x u) true (has_number ks u) || has_number os u) ≡ (has_number ks u || has_number (x ∷ os) u)
put_beside x u ks os = elim (eqb_tells x u) [
  | inl y ↦ rw (y.0, at_same u x y.1) (sym (or_all (has_number ks u)))
  | inr y ↦ rw (y.0, at_other u x y.1) refl
]
