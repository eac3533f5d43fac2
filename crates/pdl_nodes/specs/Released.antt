-- What letting go leaves.
use Rattle.std.specs.Prelude.{◌≡◌, ℕ, Bool, true, Some}
use Rattle.pdl_nodes.specs.Rows.{Rows, row_at}
use Rattle.pdl_nodes.specs.Worlds.{IsRoot}
use Rattle.pdl_nodes.specs.Outcomes.{IsReady}
use Rattle.pdl_nodes.specs.Sized.{AreSized}
use Rattle.pdl_nodes.specs.Holds.{Counts, stands}
use Rattle.pdl_nodes.specs.Going.{LeavesWaiting}

-- no buffer that waits goes while its root stays
abbrev pub KeepsWaiting : (ℕ → Bool) → Rows → Type 0
KeepsWaiting t rs =
    (r v : ℕ) → IsRoot rs r → t r ≡ true → (row_at rs r).waiting ≡ Some v → t v ≡ true

-- what waited in views that go, which are those that don't stand, was written back, and what waited
-- in the others waits
pub record GoingIsSettled (old mid : Rows) (hs : Counts) : Type 0 where
  pub kept : IsReady old mid
  pub sized : AreSized old → AreSized mid
  pub waits : KeepsWaiting (stands hs) mid
  pub leaves : LeavesWaiting (stands hs) old mid
