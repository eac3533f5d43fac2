-- Numbers that are taken in one after another, where what they come to is kept in the width of its type.
use Rattle.std.specs.Prelude.{◌≡◌, ◌<◌, ◌≤◌, ◌+◌, ℕ, ℤ, pos, List, length, get_or}
use Rattle.pdl_elem.specs.declared.Ty.{Ty}
use Rattle.pdl_elem.specs.Numbers.{wrapped}
use Rattle.pdl_shape.specs.Triple.{Triple}
use Rattle.pdl_numbers.specs.Reads.{across}
use Rattle.pdl_numbers.specs.Shown.{place_at}

-- whatever the type is, what others come to may be wrapped to it before a number is taken in
abbrev pub WrapsLate : (taken : ℤ → ℤ → ℤ) → Type 0
WrapsLate taken =
    (t : Ty) (so_far number : ℤ) → wrapped t (taken (wrapped t so_far) number) ≡ wrapped t (taken so_far number)

-- the number that a triple shows so many steps along dimension 1 after a position
abbrev pub shown_across : Triple → (elems : List ℤ) → (first steps : ℕ) → ℤ
shown_across t es first steps = get_or es (place_at t (across t.dims first steps)) (pos 0)

-- into so many numbers from a place on one number each was taken in, and what came of that was wrapped
-- to a type; the others are what they were
pub record HasFolded (ty : Ty) (f : ℤ → ℤ → ℤ) (number : ℕ → ℤ) (start count : ℕ) (old new : List ℤ) : Type 0 where
  pub as_many : length new ≡ length old
  pub taken : (k : ℕ) → k < count → get_or new (start + k) (pos 0)
      ≡ wrapped ty (f (get_or old (start + k) (pos 0)) (number k))
  pub before : (m : ℕ) → m < start → get_or new m (pos 0) ≡ get_or old m (pos 0)
  pub after : (m : ℕ) → start + count ≤ m → get_or new m (pos 0) ≡ get_or old m (pos 0)
