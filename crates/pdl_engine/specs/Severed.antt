-- What a cut, or other dimensions, leave of the other arrays.
use Rattle.std.specs.Prelude.{◌≡◌, ◌≢◌, ◌==◌, ℕ, true, None}
use Rattle.pdl_nodes.specs.Alike.{is_fresh_in, numbers}
use Rattle.pdl_nodes.specs.Families.{InOrder}
use Rattle.pdl_nodes.specs.Known.{AreKnown}
use Rattle.pdl_nodes.specs.Outcomes.{waiting_of}
use Rattle.pdl_nodes.specs.Rows.{Rows, row_at, has}
use Rattle.pdl_nodes.specs.Sized.{AreSized}

-- all is in order, the same arrays are there; those whose root isn't v now can be lent that could
-- be, and in other families than that of v what waited waits
pub record ChangesRows (old : Rows) (v : ℕ) (new : Rows) : Type 0 where
  pub order : InOrder new
  pub known : AreKnown new
  pub sized : AreSized new
  pub numbers_are : numbers new ≡ numbers old
  pub has_is : (u : ℕ) → has new u ≡ has old u
  pub fresh :
      (u : ℕ) → has old u ≡ true → (row_at new u).root ≢ v → is_fresh_in old u ≡ true
      → is_fresh_in new u ≡ true
  pub waits :
      (u : ℕ) → has old u ≡ true → (row_at old u).root ≢ (row_at old v).root
      → waiting_of new u ≡ waiting_of old u

-- wherever the arrays of the family of v are now, nothing waits
abbrev pub RowsAreSettled : (old : Rows) (v : ℕ) (new : Rows) → Type 0
RowsAreSettled old v new =
    (u : ℕ) → has old u ≡ true → (row_at old u).root ≡ (row_at old v).root → waiting_of new u ≡ None

-- each array that can be lent can be lent still
abbrev pub RowsStayFresh : (old new : Rows) → Type 0
RowsStayFresh old new = (u : ℕ) → has old u ≡ true → is_fresh_in old u ≡ true →
    is_fresh_in new u ≡ true

-- of the arrays whose root is v exactly those can be lent whose base is v
abbrev pub BasesAreFresh : (v : ℕ) → Rows → Type 0
BasesAreFresh v rs =
    (u : ℕ) → has rs u ≡ true → (row_at rs u).root ≡ v
    → is_fresh_in rs u ≡ ((row_at rs u).base == v)
