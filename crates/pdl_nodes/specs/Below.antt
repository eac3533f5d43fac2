-- The views below an array: those that reach it by parents.
use Rattle.std.specs.Prelude.{◌≡◌, ℕ, ◌<◌, Bool, true, false, List, [], ◌∷◌, Option, Some, None}
use Rattle.pdl_world.specs.Swept.{is_listed}
use Rattle.pdl_nodes.specs.Row.{parent_of}
use Rattle.pdl_nodes.specs.Rows.{Rows, row_at, has}

-- each number is below those after it
abbrev pub IsRising : List ℕ → Type 0
IsRising [] = Unit {0}
IsRising (n ∷ ns) = ((u : ℕ) → is_listed ns u ≡ true → n < u) × IsRising ns

-- whether a view with this parent is a view of one of these arrays
abbrev pub has_parent_in : List ℕ → (parent : Option ℕ) → Bool
has_parent_in us None = false
has_parent_in us (Some p) = is_listed us p

-- us are the views of v, their views, and so on, and no other arrays, the oldest first
pub record AreBelow (rs : Rows) (v : ℕ) (us : List ℕ) : Type 0 where
  pub rises : IsRising (v ∷ us)
  pub there : (u : ℕ) → is_listed us u ≡ true → has rs u ≡ true
  pub views :
      (u : ℕ) → has rs u ≡ true
      → is_listed us u ≡ has_parent_in (v ∷ us) (parent_of (row_at rs u))
