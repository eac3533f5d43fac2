-- Changes of rows that leave what is derived of each, within one family.
use Rattle.std.specs.Prelude.{◌≡◌, ℕ}
use Rattle.pdl_nodes.specs.Row.{Row}
use Rattle.pdl_nodes.specs.Rows.{Rows, row_at}

-- a change that leaves what is derived
pub record IsQuiet (f : ℕ → Row → Row) : Type 0 where
  pub origin : (k : ℕ) (r : Row) → (f k r).origin ≡ r.origin
  pub ty : (k : ℕ) (r : Row) → (f k r).ty ≡ r.ty
  pub root : (k : ℕ) (r : Row) → (f k r).root ≡ r.root
  pub base : (k : ℕ) (r : Row) → (f k r).base ≡ r.base
  pub triple : (k : ℕ) (r : Row) → (f k r).triple ≡ r.triple

-- and all rows outside the family of rt
pub record LeavesOthers (rt : ℕ) (f : ℕ → Row → Row) (rs : Rows) : Type 0 where
  pub outside : (k : ℕ) → ((row_at rs k).root ≡ rt → ⊥) → f k (row_at rs k) ≡ row_at rs k
