-- The views of each array.
use Rattle.std.specs.Prelude.{◌≡◌, ℕ, ◌+◌, ◌==◌, if◌then◌else◌, Bool, false, length, List, [], ◌∷◌, Option, Some, None, IfSome}
use Rattle.std.specs.List.{list_any}
use Rattle.std.specs.Ordering.{nat_cmp}
use Rattle.std.specs.Map.{lookup}
use Rattle.std.specs.BTreeMap.{is_at}
use Rattle.std.specs.BTreeSet.{BTreeSet}
use Rattle.pdl_nodes.specs.Row.{parent_of}
use Rattle.pdl_nodes.specs.Rows.{Rows}

abbrev pub Noted : Type 0
Noted = List (ℕ × List ℕ)

abbrev pub numbers_or : Option (List ℕ) → List ℕ
numbers_or None = []
numbers_or (Some us) = us

-- the views of v that are noted
abbrev pub views : Noted → ℕ → List ℕ
views c v = numbers_or (lookup (is_at (nat_cmp v)) c)

-- how many views of v are noted
abbrev pub noted : Noted → ℕ → ℕ
noted c v = length (views c v)

-- whether a number is among these, as an ordered set says it
abbrev pub has_number : List ℕ → ℕ → Bool
has_number us u = list_any (is_at (nat_cmp u)) us

-- the newest view, if it is kept apart, and the others
abbrev pub numbers_of : (newest : Option ℕ) → (others : BTreeSet ℕ) → List ℕ
numbers_of None s = s.keys
numbers_of (Some u) s = u ∷ s.keys

-- the newest view isn't among the others
abbrev pub IsApart : (newest : Option ℕ) → (others : BTreeSet ℕ) → Type 0
IsApart newest s = IfSome newest (λ u. has_number s.keys u ≡ false)

-- whether u is noted as a view of v
abbrev pub notes : Noted → (v u : ℕ) → Bool
notes c v u = has_number (views c v) u

-- 1 where a view with this parent is a view of v
abbrev pub one_of : (parent : Option ℕ) → ℕ → ℕ
one_of None v = 0
one_of (Some p) v = if p == v then 1 else 0

-- whether a view with this parent is a view of v
abbrev pub is_view_of : (parent : Option ℕ) → ℕ → Bool
is_view_of None v = false
is_view_of (Some p) v = p == v

-- how many rows are views of v
abbrev pub children : Rows → ℕ → ℕ
children [] v = 0
children ((k, r) ∷ rs) v = one_of (parent_of r) v + children rs v

-- how many rows are views of v of which the test holds
abbrev pub left : Rows → (ℕ → Bool) → ℕ → ℕ
left [] t v = 0
left ((k, r) ∷ rs) t v = (if t k then one_of (parent_of r) v else 0) + left rs t v

-- whether there is a row of u, which has v as its parent
abbrev pub is_view : Rows → (v u : ℕ) → Bool
is_view [] v u = false
is_view ((k, r) ∷ rs) v u = if k == u then is_view_of (parent_of r) v else is_view rs v u

-- the views of each number are noted, and no others
pub record AreCounted (rs : Rows) (c : Noted) : Type 0 where
  pub count : (v : ℕ) → noted c v ≡ children rs v
  pub those : (v u : ℕ) → notes c v u ≡ is_view rs v u

-- d notes what c does and one view more, of this parent, if there is one
pub record IsMore (c d : Noted) (parent : Option ℕ) (view : ℕ) : Type 0 where
  pub count : (v : ℕ) → noted d v ≡ one_of parent v + noted c v
  pub those : (v u : ℕ) → notes d v u ≡ if view == u then is_view_of parent v else notes c v u
  pub absent : (v : ℕ) → notes c v view ≡ false

-- both note the same
pub record AreSame (c d : Noted) : Type 0 where
  pub count : (v : ℕ) → noted d v ≡ noted c v
  pub those : (v u : ℕ) → notes d v u ≡ notes c v u
