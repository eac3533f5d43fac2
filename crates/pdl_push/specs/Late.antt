-- What an assignment, and writing back, do to each row.
use Rattle.std.specs.Prelude.{ℕ, ℤ, ◌==◌, if◌then◌else◌, Bool, true, false, List, Some, None}
use Rattle.pdl_nodes.specs.Changes.{kept_in, wait_in}
use Rattle.pdl_nodes.specs.Row.{Row}

-- of the family of the root rt, b is marked and, where it is said, the root, and no other
abbrev pub marks_in : (rt b : ℕ) → (both : Bool) → (k : ℕ) → Row → Row
marks_in rt b both k r = record r {
  mark = (if r.root == rt then (if k == b then true else (if both then k == rt else false))
      else r.mark);
}

-- the root rt keeps these elements, nothing waits, and b is marked, and the root where it is said
abbrev pub settle : (rt : ℕ) (es : List ℤ) (b : ℕ) → (both : Bool) → (k : ℕ) → Row → Row
settle rt es b both k r = wait_in rt None k (marks_in rt b both k (kept_in rt es k r))

-- the base b keeps these elements, which wait, and is marked alone
abbrev pub await : (rt b : ℕ) (ks : List ℤ) → (k : ℕ) → Row → Row
await rt b ks k r = wait_in rt (Some b) k (marks_in rt b false k (kept_in b ks k r))
