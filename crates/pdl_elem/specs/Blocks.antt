-- The operators on blocks: lists of numbers of one length.
use Rattle.std.specs.Prelude.{ℕ, ℤ, pos, List, [], ◌∷◌, Option, None, if◌then◌else◌, position}
use Rattle.std.specs.Ordering.{int_eq}
use Rattle.pdl_elem.specs.declared.BinaryOp.{BinaryOp}
use Rattle.pdl_elem.specs.Operators.{divides}

-- a function of the two numbers at each place of two lists
abbrev pub pairwise : (ℤ → ℤ → ℤ) → List ℤ → List ℤ → List ℤ
pairwise f [] ys = []
pairwise f (x ∷ xs) [] = []
pairwise f (x ∷ xs) (y ∷ ys) = f x y ∷ pairwise f xs ys

-- where the operator divides, the place of the first divisor 0
abbrev pub zero_at : BinaryOp → List ℤ → Option ℕ
zero_at op divisors = if divides op then position (λ b. int_eq b (pos 0)) divisors else None
