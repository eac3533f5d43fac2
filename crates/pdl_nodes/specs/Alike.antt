-- Tables of the same arrays.
use Rattle.std.specs.Prelude.{◌≡◌, ℕ, Bool, true, List, [], ◌∷◌}
use Rattle.pdl_nodes.specs.Row.{parent_of}
use Rattle.pdl_nodes.specs.Rows.{Rows, row_at, has}
use Rattle.pdl_nodes.specs.Worlds.{shape}

abbrev pub numbers : Rows → List ℕ
numbers [] = []
numbers ((k, r) ∷ rs) = k ∷ numbers rs

-- whether v can be lent: its base is marked
abbrev pub is_fresh_in : Rows → ℕ → Bool
is_fresh_in rs v = (row_at rs (row_at rs v).base).mark

-- the same numbers and records, and each array is shown over its base as before
pub record IsAlike (old new : Rows) : Type 0 where
  pub numbers_are : numbers new ≡ numbers old
  pub has_is : (v : ℕ) → has new v ≡ has old v
  pub shape_is : shape new ≡ shape old
  pub origin_is : (v : ℕ) → (row_at new v).origin ≡ (row_at old v).origin
  pub root_is : (v : ℕ) → (row_at new v).root ≡ (row_at old v).root
  pub base_is : (v : ℕ) → (row_at new v).base ≡ (row_at old v).base
  pub ty_is : (v : ℕ) → (row_at new v).ty ≡ (row_at old v).ty
  pub parent_is : (v : ℕ) → parent_of (row_at new v) ≡ parent_of (row_at old v)
  pub triple_is : (v : ℕ) → (row_at new v).triple ≡ (row_at old v).triple

-- no mark is lost
abbrev pub KeepsMarks : (old new : Rows) → Type 0
KeepsMarks old new = (v : ℕ) → (row_at old v).mark ≡ true → (row_at new v).mark ≡ true
