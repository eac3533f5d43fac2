-- Numbers of one type, and how many of them are moved into a new buffer.
use Rattle.std.specs.Prelude.{ℕ, ℤ, pos, List, count_by, not}
use Rattle.std.specs.Ordering.{int_eq}
use Rattle.pdl_elem.specs.declared.Ty.{Ty}

-- a type and the elements in order
pub record TypedElements : Type 0 where
  pub ty : Ty
  pub elems : List ℤ

-- how many of the numbers aren't 0
abbrev pub count_moved : List ℤ → ℕ
count_moved es = count_by (λ e. not (int_eq e (pos 0))) es
