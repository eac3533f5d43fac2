-- Which views are listed as those that may be marked.
use Rattle.std.specs.Prelude.{◌≡◌, ℕ, true, List, [], Option, Some, None, Vec}
use Rattle.std.specs.Global.{Global}
use Rattle.std.specs.Ordering.{nat_cmp}
use Rattle.std.specs.BTreeMap.{BTreeMap, get}
use Rattle.pdl_world.specs.Swept.{is_listed}
use Rattle.pdl_nodes.specs.declared.marked.Marked.{Marked}
use Rattle.pdl_nodes.specs.Rows.{Rows, row_at, has}

abbrev pub views_or : Option (Vec ℕ Global) → List ℕ
views_or None = []
views_or (Some vs) = vs.items

abbrev pub listed_in : BTreeMap ℕ (Vec ℕ Global) → ℕ → List ℕ
listed_in m r = views_or (get nat_cmp m r)

-- the views that are listed of a root
abbrev pub listed : Marked → ℕ → List ℕ
listed m r = listed_in m.by_root r

-- each marked view is listed of its root, if that is there
abbrev pub AreListed : Rows → Marked → Type 0
AreListed rs m =
    (v : ℕ) → has rs v ≡ true → (row_at rs v).mark ≡ true → ((row_at rs v).root ≡ v → ⊥)
    → has rs (row_at rs v).root ≡ true → is_listed (listed m (row_at rs v).root) v ≡ true
