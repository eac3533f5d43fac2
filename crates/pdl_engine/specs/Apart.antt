-- Increments that lie apart: by them no two coordinates have one place.
use Rattle.std.specs.Prelude.{◌≡◌, ◌≤◌, ℕ, ℤ, pos, ◌+ℤ◌, List}
use Rattle.pdl_shape.specs.Shape.{IsWithin}
use Rattle.pdl_shape.specs.Triple.{Triple, moved, place_of}

-- two coordinates and two numbers up to n lead equally far by these increments only where they are
-- the same
abbrev pub KeepApart : (n : ℕ) → (incs : List ℤ) → (dims : List ℕ) → Type 0
KeepApart n is ds =
    (a b : ℕ) (cs us : List ℕ) → a ≤ n → b ≤ n → IsWithin ds cs → IsWithin ds us
    → pos a +ℤ moved is cs ≡ pos b +ℤ moved is us
    → (a ≡ b) × (cs ≡ us)

-- no two coordinates of a triple have one place
abbrev pub LiesApart : Triple → Type 0
LiesApart t =
    (cs us : List ℕ) → IsWithin t.dims cs → IsWithin t.dims us → place_of t cs ≡ place_of t us
    → cs ≡ us
