-- Values that are put into a root at places, and the root marked.
use Rattle.std.proofs.Common.{◌≡◌, ℕ, ℤ, false, List, drop, inl, inr, refl, sym, ◌∙◌, ap}
use Rattle.std.proofs.lemmas.Bool.{cases_Bool}
use Rattle.pdl_shape.specs.Places.{write}
use Rattle.pdl_nodes.specs.Changes.{kept_in, mark_in}
use Rattle.pdl_nodes.specs.Row.{Row}
use Rattle.pdl_nodes.specs.RowLaws.{RowLaws}
use Rattle.pdl_nodes.specs.Rows.{Rows, row_at, has, each}
use Rattle.pdl_nodes.specs.Worlds.{places_seen, IsRoot}
use Rattle.pdl_push.specs.Late.{settle}
use Rattle.pdl_push.specs.Targets.{IsAssignedAt, IsWriteThrough}
use Rattle.pdl_push.proofs.LateAssignments.{assigned_root}
use Rattle.pdl_push.proofs.LateRows.{rooted_all}

-- what waits stays where a change leaves it
pub waits_each : (facts : RowLaws) → (f : ℕ → Row → Row) (rs : Rows) (v : ℕ) → ((k : ℕ) (r : Row) → (f k r).waiting ≡ r.waiting) → (row_at (each f rs) v).waiting ≡ (row_at rs v).waiting
waits_each facts f rs v h = elim (cases_Bool (has rs v)) [
  | inl l ↦ ap (λ (r : Row). r.waiting) (facts.numbers.each_at f rs v l) ∙ h v (row_at rs v)
  | inr n ↦ ap (λ (r : Row). r.waiting) (facts.numbers.each_past f rs v n)
]

-- the values are assigned
pub through : (facts : RowLaws) → (rs new : Rows) (v first : ℕ) (vs : List ℤ) → IsWriteThrough rs v first vs
    → new ≡ each (mark_in (row_at rs v).root (row_at rs v).root) (each (kept_in (row_at rs v).root (write (drop first (places_seen rs v)) vs (row_at rs (row_at rs v).root).kept)) rs)
    → IsAssignedAt (row_at rs v).root rs v first vs new
through facts rs new v first vs w e =
    let rt : ℕ = (row_at rs v).root in
    let i : IsRoot rs rt = facts.seen.root_live rs rt v w.order.still w.live refl in
    assigned_root facts rs new rt v first vs w.order w.known w.live refl
    (e ∙ rooted_all facts rs rt _ w.order.still i w.settled
    ∙ ap (λ es. each (settle rt (write (drop first (places_seen rs v)) vs es) rt false) rs) (sym (facts.seen.latest_none rs rt w.settled)))
