-- What a formula goes by.
use Rattle.std.specs.Prelude.{◌≡◌, ℕ, All, Ok}
use Rattle.pdl_buf.specs.declared.made.Made.{Made}
use Rattle.pdl_ops.specs.Laws.{IsArray, IsUndivided, form, form_of}
use Rattle.pdl_flow.specs.Formula.{FormulaTree, IsFormula, arrays_in}
use Rattle.pdl_flow.specs.Meaning.{meaning}

-- A formula goes by the arrays that it reads: the same values of these give the same, and values of
-- the same types and dimensions give the same type and dimensions, or are refused alike. It is
-- never refused for a divisor 0. Of arrays it is an array.
pub record MeaningLaws : Type 0 where
  pub same : (g h : ℕ → Made) (f : FormulaTree) → All (λ k. g k ≡ h k) (arrays_in f)
      → meaning g f ≡ meaning h f
  pub alike : (g h : ℕ → Made) (f : FormulaTree) → IsFormula f
      → All (λ k. form_of (g k) ≡ form_of (h k)) (arrays_in f)
      → form (meaning g f) ≡ form (meaning h f)
  pub undivided : (g : ℕ → Made) (f : FormulaTree) → IsFormula f → IsUndivided (meaning g f)
  pub arrays : (g : ℕ → Made) (f : FormulaTree) (m : Made) → IsFormula f
      → All (λ k. IsArray (g k)) (arrays_in f) → meaning g f ≡ Ok m → IsArray m
