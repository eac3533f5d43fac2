-- What an assignment leaves, at the root or in a base.
use Rattle.std.proofs.Common.{drop, ◌≡◌, ℕ, ℤ, Bool, true, false, eqb, cond, List, refl, sym, ◌∙◌, ap, subst}
use Rattle.std.proofs.lemmas.Bool.{eqb-true}
use Rattle.pdl_shape.specs.Places.{write}
use Rattle.pdl_nodes.specs.Alike.{IsAlike}
use Rattle.pdl_nodes.specs.Families.{InOrder}
use Rattle.pdl_nodes.specs.Changes.{mark_in}
use Rattle.pdl_nodes.specs.Known.{AreKnown}
use Rattle.pdl_nodes.specs.Put.{IsWrite, put_at, put_in}
use Rattle.pdl_nodes.specs.Row.{Row, shown_of}
use Rattle.pdl_nodes.specs.RowLaws.{RowLaws}
use Rattle.pdl_nodes.specs.Rows.{Rows, row_at, has, each}
use Rattle.pdl_nodes.specs.Seen.{IsSeen}
use Rattle.pdl_nodes.specs.declared.node.Goal.TheVariants.{Root, Base}
use Rattle.pdl_nodes.specs.declared.node.Shown.{Shown}
use Rattle.pdl_nodes.specs.Worlds.{places_seen, latest, world_of, IsRoot}
use Rattle.pdl_push.specs.Late.{settle, await}
use Rattle.pdl_push.specs.Targets.{MarksAlone, target, IsAssigned, IsAssignedAt, WaitsTarget}
use Rattle.pdl_push.proofs.LateAtBase.{IsThrough, await_quiet, awaited, world_awaited}
use Rattle.pdl_push.proofs.LateAtRoot.{settle_quiet, rooted, world_rooted}
use Rattle.pdl_push.proofs.RowsKnown.{known_each, kept_by}
use Rattle.pdl_push.proofs.LateRows.{as_it_is, rooted_all}
use Rattle.pdl_push.proofs.TargetLemmas.{nothing_target, once_target, waits_base, waits_root}

-- the marks of the family of a root where b alone is marked
marks_only : (t x y m : Bool) → cond t (cond x true (cond false y false)) m ≡ true → (t ≡ true → x ≡ true → m ≡ true) → m ≡ true
marks_only true true y m h g = g refl refl
marks_only true false y m h g = absurd (cc)
marks_only false x y m h g = h

-- one alone is marked in its family
alone_marks : (facts : RowLaws) → (rs new : Rows) (f : ℕ → Row → Row) (rt b v : ℕ) → (row_at rs v).root ≡ rt → new ≡ each f rs → ((k : ℕ) (r : Row) → (f k r).mark ≡ cond (eqb r.root rt) (cond (eqb k b) true (cond false (eqb k rt) false)) r.mark) → MarksAlone b rs v new
alone_marks facts rs new f rt b v e n m u h =
    ap (λ x. (row_at x u).mark) n ∙ ap (λ r. r.mark) (facts.numbers.each_at f rs u h) ∙ m u (row_at rs u)
    ∙ ap (λ x. cond (eqb (row_at rs u).root rt) x (row_at rs u).mark) (as_it_is (eqb u b))
    ∙ ap (λ x. cond (eqb (row_at rs u).root x) (eqb u b) (row_at rs u).mark) (sym e)

-- the target is the one
pub by_target : (rs new : Rows) (b v first : ℕ) (vs : List ℤ) → target rs v ≡ b → IsAssignedAt b rs v first vs new → IsAssigned rs v first vs new
by_target rs new b v first vs t a = subst (λ (x : ℕ). IsAssignedAt x rs v first vs new) (sym t) a

-- values that are written into the root where nothing waits are assigned
pub assigned_root : (facts : RowLaws) → (rs new : Rows) (rt v first : ℕ) (vs : List ℤ) → InOrder rs → AreKnown rs → has rs v ≡ true → (row_at rs v).root ≡ rt → new ≡ each (settle rt (write (drop first (places_seen rs v)) vs (latest rs rt)) rt false) rs → IsAssignedAt rt rs v first vs new
assigned_root facts rs new rt v first vs o a h e n =
    let i : IsRoot rs rt = facts.seen.root_live rs rt v o.still h e in
    let es : List ℤ = write (drop first (places_seen rs v)) vs (latest rs rt) in
    record {
      order = subst (λ (x : Rows). InOrder x) (sym n) (rooted facts rs rt v first vs o i);
      known = subst (λ (x : Rows). AreKnown x) (sym n) (known_each facts (settle rt es rt false) rs (settle_quiet rt es rt false) (λ k r. refl) (λ k r. refl)
          (λ k y m. marks_only (eqb (row_at rs k).root rt) (eqb k rt) (eqb k rt) (row_at rs k).mark m (λ p q. absurd (y (eqb-true (row_at rs k).root rt p ∙ sym (eqb-true k rt q)))))
          (λ k y. kept_by rs rt k es (facts.seen.root_own rs rt o.still i) y) a);
      world = ap world_of n ∙ world_rooted facts rs rt v first vs o i h e;
      alike = subst (λ (x : Rows). IsAlike rs x) (sym n) (facts.quiet.is_alike (settle rt es rt false) rs (settle_quiet rt es rt false));
      marks = alone_marks facts rs new (settle rt es rt false) rt rt v e n (λ k r. refl);
    }

-- and so are those that wait in a base without repeats
pub assigned_base : (facts : RowLaws) → (rs new : Rows) (rt b v first : ℕ) (vs : List ℤ) → IsThrough rs rt b v → AreKnown rs → (b ≡ rt → ⊥) → new ≡ each (await rt b (put_at Base rs v first vs)) rs → IsAssignedAt b rs v first vs new
assigned_base facts rs new rt b v first vs t a d n =
    let ks : List ℤ = put_at Base rs v first vs in
    let own : (row_at rs b).base ≡ b = ap (λ x. (row_at rs x).base) (sym t.base_is) ∙ (facts.seen.is_seen rs t.order.still v t.live).base_base ∙ t.base_is in
    record {
      order = subst (λ (x : Rows). InOrder x) (sym n) (awaited facts rs rt b v first vs t d);
      known = subst (λ (x : Rows). AreKnown x) (sym n) (known_each facts (await rt b ks) rs (await_quiet rt b ks) (λ k r. refl) (λ k r. refl)
          (λ k y m. marks_only (eqb (row_at rs k).root rt) (eqb k b) (eqb k rt) (row_at rs k).mark m (λ p q. ap (λ x. (row_at rs x).mark) (eqb-true k b q) ∙ t.marked))
          (λ k y. kept_by rs b k ks own y) a);
      world = ap world_of n ∙ world_awaited facts rs rt b v first vs t d;
      alike = subst (λ (x : Rows). IsAlike rs x) (sym n) (facts.quiet.is_alike (await rt b ks) rs (await_quiet rt b ks));
      marks = alone_marks facts rs new (await rt b ks) rt b v t.root_is n (λ k r. refl);
    }

-- ---- by what was written
-- values were put into the root, which is marked alone
pub at_root : (facts : RowLaws) → (rs new : Rows) (v first : ℕ) (vs : List ℤ) → IsWrite rs v first vs → target rs v ≡ (row_at rs v).root
    → new ≡ each (mark_in (row_at rs v).root (row_at rs v).root) (each (put_in Root rs v first vs) rs) → IsAssigned rs v first vs new × WaitsTarget rs v new
at_root facts rs new v first vs w t e =
    let i : IsRoot rs (row_at rs v).root = facts.seen.root_live rs (row_at rs v).root v w.order.still w.live refl in
    let nothing = nothing_target facts rs v first vs w t in
    let settled : new ≡ each (settle (row_at rs v).root (write (drop first (places_seen rs v)) vs (latest rs (row_at rs v).root)) (row_at rs v).root false) rs =
    e ∙ rooted_all facts rs (row_at rs v).root _ w.order.still i nothing
    ∙ ap (λ es. each (settle (row_at rs v).root (write (drop first (places_seen rs v)) vs es) (row_at rs v).root false) rs) (sym (facts.seen.latest_none rs (row_at rs v).root nothing)) in
    (by_target rs new (row_at rs v).root v first vs t (assigned_root facts rs new (row_at rs v).root v first vs w.order w.known w.live refl settled), waits_root facts rs new (row_at rs v).root v _ refl t settled)

-- values were put into the base, where they wait
pub at_base : (facts : RowLaws) → (rs new : Rows) (v first : ℕ) (vs : List ℤ) → IsWrite rs v first vs → target rs v ≡ (row_at rs v).base → ((row_at rs v).base ≡ (row_at rs v).root → ⊥)
    → new ≡ each (await (row_at rs v).root (row_at rs v).base (put_at Base rs v first vs)) rs → IsAssigned rs v first vs new × WaitsTarget rs v new
at_base facts rs new v first vs w t d e =
    let through : IsThrough rs (row_at rs v).root (row_at rs v).base v = record {
      order = w.order;
      root = facts.seen.root_live rs (row_at rs v).root v w.order.still w.live refl;
      live = w.live;
      base_is = refl;
      root_is = refl;
      marked = w.fresh;
      once = once_target rs v t d;
    } in
    (by_target rs new (row_at rs v).base v first vs t (assigned_base facts rs new (row_at rs v).root (row_at rs v).base v first vs through w.known d e), waits_base facts rs new (row_at rs v).root (row_at rs v).base v _ refl t d e)

-- what is shown of an array that can be lent: its root, and its base, which is marked
pub record IsThere (rs : Rows) (at : Shown) : Type 0 where
  pub root : IsRoot rs at.root
  pub live : has rs at.base ≡ true
  pub root_is : (row_at rs at.base).root ≡ at.root
  pub marked : (row_at rs at.base).mark ≡ true

pub there : (facts : RowLaws) → (rs : Rows) (at : Shown) (first : ℕ) (vs : List ℤ) → IsWrite rs at.id first vs → at ≡ shown_of at.id (row_at rs at.id) → IsThere rs at
there facts rs at first vs w h =
    let s : IsSeen rs at.id = facts.seen.is_seen rs w.order.still at.id w.live in
    record {
      root = (ap (λ (x : Shown). has rs x.root) h ∙ s.root_has, ap (λ (x : Shown). (row_at rs x.root).root) h ∙ s.root_root ∙ ap (λ (x : Shown). x.root) (sym h));
      live = ap (λ (x : Shown). has rs x.base) h ∙ s.base_has;
      root_is = ap (λ (x : Shown). (row_at rs x.base).root) h ∙ s.base_root ∙ ap (λ (x : Shown). x.root) (sym h);
      marked = ap (λ (x : Shown). (row_at rs x.base).mark) h ∙ w.fresh;
    }

-- ---- at the root

-- where the elements stand, by the number of the array
pub shown_again : (t : Rows) (v : ℕ) (at : Shown) → at ≡ shown_of v (row_at t v) → at ≡ shown_of at.id (row_at t at.id)
shown_again t v at e = e ∙ ap (λ x. shown_of x (row_at t x)) (sym (ap (λ (s : Shown). s.id) e))

-- the rows once values were put at the root, which is marked alone
pub written_there : (t put new : Rows) (v : ℕ) (at : Shown) (f : ℕ → ℕ → Row → Row) → at ≡ shown_of v (row_at t v) → put ≡ each (f at.id) t → new ≡ each (mark_in at.root at.root) put
    → new ≡ each (mark_in (row_at t v).root (row_at t v).root) (each (f v) t)
written_there t put new v at f e h n =
    n ∙ ap (each (mark_in at.root at.root)) h ∙ ap (λ (s : Shown). each (mark_in s.root s.root) (each (f s.id) t)) e
