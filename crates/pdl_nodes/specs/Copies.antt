-- Elements of an array that are copied to the positions of another one.
use Rattle.std.specs.Prelude.{◌≡◌, ◌≢◌, ℕ, ℤ, List, true}
use Rattle.pdl_numbers.specs.Shown.{shown_through}
use Rattle.pdl_nodes.specs.Alike.{is_fresh_in}
use Rattle.pdl_nodes.specs.Families.{InOrder}
use Rattle.pdl_nodes.specs.Known.{AreKnown}
use Rattle.pdl_nodes.specs.Rows.{Rows, row_at, has}

-- the elements of v, as its base keeps them
abbrev pub shown_at : Rows → (v : ℕ) → List ℤ
shown_at rs v = shown_through (row_at rs v).triple (row_at rs (row_at rs v).base).kept

-- rows are in order, v and u can be lent, and u is of another root and has the type and the
-- dimensions of v
pub record CanCopy (rs : Rows) (v u : ℕ) : Type 0 where
  pub order : InOrder rs
  pub known : AreKnown rs
  pub live : has rs v ≡ true
  pub fresh : is_fresh_in rs v ≡ true
  pub source_live : has rs u ≡ true
  pub source_fresh : is_fresh_in rs u ≡ true
  pub apart : (row_at rs u).root ≢ (row_at rs v).root
  pub same_type : (row_at rs u).ty ≡ (row_at rs v).ty
  pub same_dims : (row_at rs u).triple.dims ≡ (row_at rs v).triple.dims
