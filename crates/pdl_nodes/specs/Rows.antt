-- The node table: rows by their numbers, newest first.
use Rattle.std.specs.Prelude.{◌≡◌, ℕ, ◌==◌, nat_le, if◌then◌else◌, Bool, true, false, List, [], ◌∷◌, Option, Some, None}
use Rattle.pdl_elem.specs.declared.Ty.TheVariants.{Byte}
pub use Rattle.pdl_world.specs.Sound.{NumbersBelow}
use Rattle.pdl_nodes.specs.Staying.{staying, passed}
use Rattle.pdl_nodes.specs.declared.origin.Origin.TheVariants.{Root}
use Rattle.pdl_nodes.specs.Row.{Row, parent_of}

abbrev pub Rows : Type 0
Rows = List (ℕ × Row)

-- no array
abbrev pub no_row : Row
no_row = record {
  origin = Root;
  ty = Byte;
  root = 0;
  base = 0;
  triple = record { offset = 0; incs = []; dims = 0 ∷ [] };
  kept = [];
  mark = false;
  repeats = false;
  places = None;
  waiting = None;
}

-- the row of a number
abbrev pub row_at : Rows → ℕ → Row
row_at [] v = no_row
row_at ((k, r) ∷ rs) v = if k == v then r else row_at rs v

-- whether the number is live
abbrev pub has : Rows → ℕ → Bool
has [] v = false
has ((k, r) ∷ rs) v = if k == v then true else has rs v

-- each number is above those after it
abbrev pub Falls : Rows → Type 0
Falls [] = Unit {0}
Falls ((k, r) ∷ rs) = NumbersBelow k rs × Falls rs

-- the newest number
abbrev pub newest : Rows → Option ℕ
newest [] = None
newest ((k, r) ∷ rs) = Some k

-- the oldest number from n on
abbrev pub or_newer : Option ℕ → ℕ → Option ℕ
or_newer None k = Some k
or_newer (Some older) k = Some older

abbrev pub from : Rows → ℕ → Option ℕ
from [] n = None
from ((k, r) ∷ rs) n = if nat_le n k then or_newer (from rs n) k else from rs n

-- with another row for each
abbrev pub each : (ℕ → Row → Row) → Rows → Rows
each f [] = []
each f ((k, r) ∷ rs) = (k, f k r) ∷ each f rs

-- whether k is another number than v
abbrev pub other : ℕ → ℕ → Bool
other v k = if k == v then false else true

-- the rows but for the number v
abbrev pub without : ℕ → Rows → Rows
without v rs = staying (other v) rs

-- whether a held number reaches v by parents, itself counted
abbrev pub reached : Rows → (ℕ → Bool) → ℕ → Bool
reached [] held v = held v
reached ((k, r) ∷ rs) held v =
    if k == v then held k else reached rs (passed (parent_of r) (held k) held) v

abbrev pub HasParent : Rows → Option ℕ → Type 0
HasParent rs None = Unit {0}
HasParent rs (Some p) = has rs p ≡ true

-- each parent is one of the older rows
abbrev pub HasParents : Rows → Type 0
HasParents [] = Unit {0}
HasParents ((k, r) ∷ rs) = HasParent rs (parent_of r) × HasParents rs
