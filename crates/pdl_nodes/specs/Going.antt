-- What is written back before arrays go: the elements that wait in a view that goes while its root
-- stays.
use Rattle.std.specs.Prelude.{◌≡◌, ℕ, ◌+◌, ◌==◌, if◌then◌else◌, Bool, true, false, [], ◌∷◌, Option, Some, None}
use Rattle.std.specs.List.{filter}
use Rattle.pdl_nodes.specs.Alike.{is_fresh_in, numbers}
use Rattle.pdl_nodes.specs.Known.{AreKnown}
use Rattle.pdl_nodes.specs.Outcomes.{waiting_of, waiting_size}
use Rattle.pdl_nodes.specs.Rows.{Rows, row_at, has}
use Rattle.pdl_nodes.specs.Sized.{AreSized}
use Rattle.pdl_nodes.specs.Staying.{stays_from}
use Rattle.pdl_nodes.specs.Worlds.{IsRoot}

-- a waiting view of which the test doesn't hold
abbrev pub goes_from : (ℕ → Bool) → Option ℕ → Option ℕ
goes_from stays None = None
goes_from stays (Some v) = if stays v then None else Some v

-- in the families of roots that stay what waits are the views that waited and stay
abbrev pub LeavesWaiting : (stays : ℕ → Bool) (old new : Rows) → Type 0
LeavesWaiting stays old new =
    (r : ℕ) → IsRoot old r → stays r ≡ true
    → (row_at new r).waiting ≡ stays_from stays (row_at old r).waiting

-- the view that waits in the family of r and goes, where r is a root that stays
abbrev pub going_at : Rows → (stays : ℕ → Bool) → ℕ → Option ℕ
going_at rs stays r =
    if (row_at rs r).root == r
    then (if stays r then goes_from stays (row_at rs r).waiting else None) else None

-- the view v that waits in the family of the root r and goes
pub record IsGoing (rs : Rows) (stays : ℕ → Bool) (r v : ℕ) : Type 0 where
  pub root : (row_at rs r).root ≡ r
  pub waits : (row_at rs r).waiting ≡ Some v
  pub gone : stays v ≡ false

-- how many elements wait in it
abbrev pub going_size : Rows → (stays : ℕ → Bool) → ℕ → ℕ
going_size rs stays r = waiting_size rs (going_at rs stays r)

-- the elements that wait so in the families of these rows together
abbrev pub going_sum : Rows → (stays : ℕ → Bool) → (part : Rows) → ℕ
going_sum rs stays [] = 0
going_sum rs stays ((k, r) ∷ part) = going_size rs stays k + going_sum rs stays part

-- each array that is left stands in its place as it was, and can be lent if it could be; what
-- waited waits if it is left
pub record IsLeft (old new : Rows) : Type 0 where
  pub known : AreKnown new
  pub sized : AreSized old → AreSized new
  pub numbers_are : numbers new ≡ filter (has new) (numbers old)
  pub there : (v : ℕ) → has new v ≡ true → has old v ≡ true
  pub root_is : (v : ℕ) → has new v ≡ true → (row_at new v).root ≡ (row_at old v).root
  pub base_is : (v : ℕ) → has new v ≡ true → (row_at new v).base ≡ (row_at old v).base
  pub fresh : (v : ℕ) → has new v ≡ true → is_fresh_in old v ≡ true → is_fresh_in new v ≡ true
  pub waits :
      (v : ℕ) → has new v ≡ true → waiting_of new v ≡ stays_from (has new) (waiting_of old v)
