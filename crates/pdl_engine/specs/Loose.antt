-- Which arrays may be loose: those that a cut left, which are listed until the next release.
use Rattle.std.specs.Prelude.{◌≡◌, ◌||◌, ◌++◌, ℕ, nat_lt, if◌then◌else◌, true, List, [], ◌∷◌, Option, Some, None}
use Rattle.pdl_world.specs.Swept.{is_listed}
use Rattle.pdl_nodes.specs.Children.{children}
use Rattle.pdl_nodes.specs.Holds.{Counts, is_held}
use Rattle.pdl_nodes.specs.Risen.{AreTight}
use Rattle.pdl_nodes.specs.Rows.{Rows, has}

-- all but those that are listed are held, or have views, and those that are listed are there
pub record IsTight (listed : List ℕ) (rs : Rows) (hs : Counts) : Type 0 where
  pub live : (v : ℕ) → is_listed listed v ≡ true → has rs v ≡ true
  pub tight : AreTight listed rs hs

-- the arrays that are listed once one was cut from this parent: the parent with them, where it isn't
-- held and has no other view
abbrev pub listed_with : Rows → Counts → (listed : List ℕ) → (parent : Option ℕ) → List ℕ
listed_with rs hs listed None = listed
listed_with rs hs listed (Some p) =
    if is_held hs p || nat_lt 1 (children rs p) then listed else listed ++ p ∷ []
