-- Laws of a row that joins others.
use Rattle.std.specs.Prelude.{◌≡◌, ◌∷◌, ℕ, ℤ, List, length}
use Rattle.pdl_elem.specs.declared.Ty.{Ty}
use Rattle.pdl_nodes.specs.Families.{InOrder}
use Rattle.pdl_nodes.specs.Joined.{IsNew, joined_def}
use Rattle.pdl_nodes.specs.Row.{Row, root_row}
use Rattle.pdl_nodes.specs.Rows.{NumbersBelow, Rows}
use Rattle.pdl_nodes.specs.Worlds.{world_of}
use Rattle.pdl_shape.specs.Shape.{size_of}

pub record JoinLaws : Type 0 where
  -- under a number above all others a root is new that has an element for each position
  pub new_root :
      (rs : Rows) (k : ℕ) (ty : Ty) (ds : List ℕ) (es : List ℤ) → NumbersBelow k rs
      → length es ≡ size_of ds → IsNew rs k (root_row k ty ds es)
  -- with a new row rows in order stay in order
  pub pushed : (rs : Rows) (k : ℕ) (r : Row) → IsNew rs k r → InOrder rs → InOrder ((k, r) ∷ rs)
  -- and their world has one array more
  pub world_pushed :
      (rs : Rows) (k : ℕ) (r : Row) → IsNew rs k r → InOrder rs
      → world_of ((k, r) ∷ rs) ≡ (k, joined_def r) ∷ world_of rs
