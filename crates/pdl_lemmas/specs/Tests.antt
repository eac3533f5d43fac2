-- What follows in each case of a test.
use Rattle.std.specs.Prelude.{◌≡◌, Bool, true, false}
use Rattle.std.proofs.Common.{ℕ, ◌<◌, ◌≤◌, inl, inr, refl}
use Rattle.std.proofs.lemmas.Bool.{cases_lt}

-- a test passes, or fails
pub by_test : {P : Type 0} (b : Bool) → (b ≡ true → P) → (b ≡ false → P) → P
by_test true yes' no' = yes' refl
by_test false yes' no' = no' refl

-- a number is below another, or at least as large
pub by_lt : {P : Type 0} (a b : ℕ) → (a < b → P) → (b ≤ a → P) → P
by_lt a b below above = elim (cases_lt a b) [ inl h ↦ below h | inr h ↦ above h ]
