-- What writing back leaves: in the family of one array, and where arrays go.
use Rattle.std.specs.Prelude.{◌≡◌, ◌≢◌, ℕ, Bool, true, None}
use Rattle.pdl_nodes.specs.Going.{going_at}
use Rattle.pdl_nodes.specs.Outcomes.{IsReady}
use Rattle.pdl_nodes.specs.Rows.{Rows, row_at, has}
use Rattle.pdl_nodes.specs.Sized.{AreSized}
use Rattle.pdl_nodes.specs.Staying.{stays_from}
use Rattle.pdl_nodes.specs.Worlds.{IsRoot}

-- what waits in other families than v's is what waited
abbrev pub OthersWait : (old : Rows) (v : ℕ) (new : Rows) → Type 0
OthersWait old v new =
    (r : ℕ) → has old r ≡ true → (r ≡ (row_at old v).root → ⊥)
    → (row_at new r).waiting ≡ (row_at old r).waiting

-- the world is the same, no mark is lost, nothing waits in the family of v, and in others what
-- waited
pub record IsSettled (old : Rows) (v : ℕ) (new : Rows) : Type 0 where
  pub ready : IsReady old new
  pub nothing : (row_at new (row_at new v).root).waiting ≡ None
  pub others : OthersWait old v new

-- the world is the same and no mark is lost; in the family of a root r that stays, what waited and
-- stays waits, and nothing that goes; in other families what waited
pub record IsSettledAt (stays : ℕ → Bool) (old new : Rows) (r : ℕ) : Type 0 where
  pub kept : IsReady old new
  pub sized : AreSized old → AreSized new
  pub here : going_at new stays r ≡ None
  pub left :
      IsRoot old r → stays r ≡ true
      → (row_at new r).waiting ≡ stays_from stays (row_at old r).waiting
  pub others : (u : ℕ) → u ≢ r → (row_at new u).waiting ≡ (row_at old u).waiting
