-- An array that was made fresh, after what waited in its family was written back.
use Rattle.std.proofs.Common.{◌∙◌, ℕ, ◌≤◌, arith, sym, subst, ◌≡◌, true, None, ap, ◌+◌}
use Rattle.std.specs.Prelude.{sum_by}
use Rattle.std.proofs.lemmas.List.Sums.{sum_by-le-sum_by}
use Rattle.pdl_world.specs.Paths.{path}
use Rattle.pdl_world.specs.World.{World}
use Rattle.pdl_nodes.specs.Alike.{IsAlike, KeepsMarks, is_fresh_in}
use Rattle.pdl_nodes.specs.Families.{InOrder}
use Rattle.pdl_pull.specs.Filled.{IsKept}
use Rattle.pdl_nodes.specs.Outcomes.{IsReady, outdated_at, waiting_of, waiting_size}
use Rattle.pdl_pull.specs.Outdated.{outdated}
use Rattle.pdl_push.specs.Settled.{OthersWait, IsSettled}
use Rattle.pdl_nodes.specs.RowLaws.{RowLaws}
use Rattle.pdl_nodes.specs.Rows.{Rows, row_at, has}
use Rattle.pdl_nodes.specs.Sized.{AreSized}
use Rattle.pdl_nodes.specs.Worlds.{shape}
use Rattle.pdl_engine.specs.Severed.{RowsStayFresh, RowsAreSettled, ChangesRows}

-- what was written back, and then made fresh, is ready
pub ready_then : (facts : RowLaws) → (a b c : Rows) → IsReady a b → IsKept b c → IsReady a c
ready_then facts a b c x y = facts.kept.ready_trans a b c x (record { order = y.order; known = y.known; world = y.world; alike = y.alike; marks = y.marks })

-- what is outdated on a path doesn't grow
pub less_path : (facts : RowLaws) → (old new : Rows) (v : ℕ) → IsAlike old new → KeepsMarks old new → outdated new v ≤ outdated old v
less_path facts old new v a m =
    let P : World → Type 0 = λ w. sum_by (outdated_at new) (path w v) ≤ outdated old v in
    subst P (sym a.shape_is) (sum_by-le-sum_by (outdated_at new) (outdated_at old) (path (shape old) v) (λ x. facts.kept.less_outdated old new x a m))

-- the rows once an array was made fresh
pub record IsFreshly (old mid : Rows) (v : ℕ) : Type 0 where
  pub ready : IsReady old mid
  pub sized : AreSized mid
  pub live : has mid v ≡ true
  pub fresh : is_fresh_in mid v ≡ true
  pub nothing : (row_at mid (row_at mid v).root).waiting ≡ None
  pub others : OthersWait old v mid

-- what could be lent can be lent still
pub ready_fresh : (old mid : Rows) → IsReady old mid → RowsStayFresh old mid
ready_fresh old mid r = λ u h m. ap (λ x. (row_at mid x).mark) (r.alike.base_is u) ∙ r.marks (row_at old u).base m

-- what waits once what waited in the family of v was written back, and v was made fresh: in other
-- families what waited, and in its own nothing
pub others_on : (old first mid : Rows) (v : ℕ) → IsSettled old v first → IsKept first mid → OthersWait old v mid
others_on old first mid v s k = λ r h n. k.waits r ∙ s.others r h n

pub settled_on : (old first mid : Rows) (v : ℕ) → IsSettled old v first → IsKept first mid → RowsAreSettled old v mid
settled_on old first mid v s k = λ u h e.
    ap (λ x. (row_at mid x).waiting) (k.alike.root_is u ∙ s.ready.alike.root_is u ∙ e ∙ sym (s.ready.alike.root_is v))
    ∙ k.waits (row_at first v).root ∙ s.nothing

-- an array that was only made fresh
pub only_ready : (facts : RowLaws) → (old mid : Rows) (v : ℕ) → InOrder old → AreSized old → IsReady old mid → OthersWait old v mid → ChangesRows old v mid
only_ready facts old mid v o z r w = record {
  order = r.order;
  known = r.known;
  sized = facts.kept.sized_alike old mid o.still r.order.still r.alike z;
  numbers_are = r.alike.numbers_are;
  has_is = λ u. r.alike.has_is u;
  fresh = λ u h d m. ready_fresh old mid r u h m;
  waits = λ u h d. ap (λ x. (row_at mid x).waiting) (r.alike.root_is u) ∙ w (row_at old u).root (facts.seen.is_seen old o.still u h).root_has d;
}

-- what waited was written back, and then the array was made fresh
pub freshly : (facts : RowLaws) → (old first mid : Rows) (v : ℕ) → InOrder old → AreSized old → has old v ≡ true → IsSettled old v first → IsKept first mid → is_fresh_in mid v ≡ true → IsFreshly old mid v
freshly facts old first mid v o z h s k f =
    let r : IsReady old mid = ready_then facts old first mid s.ready k in
    record {
      ready = r;
      sized = facts.kept.sized_alike old mid o.still r.order.still r.alike z;
      live = r.alike.has_is v ∙ h;
      fresh = f;
      nothing = ap (λ x. (row_at mid x).waiting) (k.alike.root_is v) ∙ k.waits (row_at first v).root ∙ s.nothing;
      others = others_on old first mid v s k;
    }

-- the steps of the two
pub ready_steps : (facts : RowLaws) → (old first : Rows) (v a b n : ℕ) → IsSettled old v first → a ≡ n + waiting_size old (waiting_of old v) → b ≤ a + outdated first v → b ≤ n + (outdated old v + waiting_size old (waiting_of old v))
ready_steps facts old first v a b n s x y = (let l : outdated first v ≤ outdated old v = less_path facts old first v s.ready.alike s.ready.marks in omega (arith, l, x, y))
