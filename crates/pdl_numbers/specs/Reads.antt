-- Reading what a triple shows in blocks.
use Rattle.std.specs.Prelude.{◌≡◌, ◌<◌, ◌≤◌, ◌+◌, ◌*◌, ◌/◌, ◌%◌, ℕ, ℤ, pos, ◌<ℤ◌, ◌+ℤ◌, ◌*ℤ◌, unsigned_abs, List, get_or, length}
use Rattle.pdl_shape.specs.Triple.{IsPlace, Triple}
use Rattle.pdl_numbers.specs.Shown.{place_at}

-- a place in a list of n numbers, and in a buffer of the largest size
pub record IsInside (n : ℕ) (z : ℤ) : Type 0 where
  pub place : IsPlace z
  pub high : z <ℤ pos n

-- all of these places, each so far after the one before, are such places
abbrev pub LiesInside : (n place : ℕ) → (inc : ℤ) → (count : ℕ) → Type 0
LiesInside n place inc count =
    (j : ℕ) → j < count → IsInside n (pos place +ℤ inc *ℤ pos j)

-- the first count of these numbers are what the triple shows from a position on
abbrev pub HasRead : Triple → (elems : List ℤ) → (first count : ℕ) → (read : List ℤ) → Type 0
HasRead t es first count rs = (k : ℕ) → k < count →
    get_or rs k (pos 0) ≡ get_or es (place_at t (first + k)) (pos 0)

-- the position so many steps along dimension 1 after another
abbrev pub across : (ds : List ℕ) → (first steps : ℕ) → ℕ
across ds first steps = first + steps * get_or ds 0 1

-- so many positions along dimension 1 from one on are there
abbrev pub LieAcross : (ds : List ℕ) → (first count : ℕ) → Type 0
LieAcross ds first count = (first / get_or ds 0 1) % get_or ds 1 1 + count ≤ get_or ds 1 1

-- each of these is what it was with the number taken in that the triple shows so many steps along
-- dimension 1 after a position
abbrev pub HasTakenAcross : (taken : ℤ → ℤ → ℤ) → Triple → (elems : List ℤ) → (first : ℕ)
    → (old new : List ℤ) → Type 0
HasTakenAcross taken t es first old new =
    (k : ℕ) → k < length old → get_or new k (pos 0)
    ≡ taken (get_or old k (pos 0)) (get_or es (place_at t (across t.dims first k)) (pos 0))

-- the first count of these numbers stand from a place on, each so far after the one before
abbrev pub HasStepped : (elems : List ℤ) → (place : ℕ) → (inc : ℤ) → (count : ℕ) → List ℤ → Type 0
HasStepped es place inc count rs =
    (j : ℕ) → j < count → get_or rs j (pos 0)
    ≡ get_or es (unsigned_abs (pos place +ℤ inc *ℤ pos j)) (pos 0)
