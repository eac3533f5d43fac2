-- What can be lent of a family, and what waits in it, in the words of the world.
use Rattle.std.proofs.Common.{◌≡◌, ℕ, true, sym, ◌∙◌, ap, Some, refl, Option, None, ◌∷◌, eqb, cond}
use Rattle.std.proofs.lemmas.Bool.{eq-eqb}
use Rattle.pdl_shape.specs.Triple.{Triple}
use Rattle.pdl_world.specs.Paths.{root_of}
use Rattle.pdl_world.specs.Swept.{is_listed}
use Rattle.pdl_world.specs.Windows.{over}
use Rattle.pdl_world.specs.declared.Trans.{Trans}
use Rattle.pdl_nodes.specs.Alike.{IsAlike}
use Rattle.pdl_push.specs.Targets.{WaitsTarget}
use Rattle.pdl_nodes.specs.Families.{has_repeats, IsWaiting, InFamily, InOrder}
use Rattle.pdl_nodes.specs.Holds.{Counts}
use Rattle.pdl_nodes.specs.Joined.{IsNewView}
use Rattle.pdl_push.specs.Settled.{OthersWait as RowsOthersWait}
use Rattle.pdl_nodes.specs.Row.{Row}
use Rattle.pdl_nodes.specs.RowLaws.{RowLaws}
use Rattle.pdl_nodes.specs.Rows.{Rows, row_at, has, NumbersBelow}
use Rattle.pdl_nodes.specs.Seen.{IsSeen}
use Rattle.pdl_nodes.specs.Still.{IsStill, base_over}
use Rattle.pdl_nodes.specs.Worlds.{world_of, IsRoot}
use Rattle.pdl_engine.specs.State.{base, AreWaiting, IsLazy, IsLentAs, waiting, target, kept_back, TargetWaits, OthersWait}
use Rattle.pdl_engine.specs.StateOf.{fresh_among, state_of}
use Rattle.pdl_engine.proofs.StateBounds.{base_are, places_are, none_outdated, waiting_is, target_is}
use Rattle.pdl_engine.proofs.StateOfWorlds.{fresh_is, live_has, has_live, root_are}

base_fresh : (facts : RowLaws) → (rs : Rows) (v : ℕ) → IsStill rs → has rs v ≡ true → is_listed (fresh_among rs rs) v ≡ is_listed (fresh_among rs rs) (base (world_of rs) v)
base_fresh facts rs v s h =
    let q : IsSeen rs v = facts.seen.is_seen rs s v h in
    fresh_is facts rs v s h ∙ ap (λ b. (row_at rs b).mark) (sym q.base_base) ∙ sym (fresh_is facts rs (row_at rs v).base s q.base_has) ∙ ap (is_listed (fresh_among rs rs)) (sym (base_are facts rs v s h))

are_waiting : (facts : RowLaws) → (rs : Rows) (hs : Counts) (n v b : ℕ) → InOrder rs → has rs v ≡ true → (row_at rs (row_at rs v).root).waiting ≡ Some b → AreWaiting (state_of rs hs n) v b
are_waiting facts rs hs n v b o h e =
    let f : InFamily rs (row_at rs v).root = o.family (row_at rs v).root (facts.seen.root_live rs (row_at rs v).root v o.still h refl) in
    let w : IsWaiting rs (row_at rs v).root b = f.waits b e in
    let own : (row_at rs b).base ≡ b = (f.marked b w.marked w.of_root).own in
    let root : root_of (world_of rs) v ≡ (row_at rs v).root = root_are facts rs v o.still h in
    record {
      live = has_live facts rs b o.still w.live;
      family = root_are facts rs b o.still w.live ∙ w.of_root ∙ sym root;
      own = base_are facts rs b o.still w.live ∙ own;
      view = λ y. w.not_root (y ∙ root);
      once = ap has_repeats (places_are facts rs b) ∙ w.once;
      fresh = fresh_is facts rs b o.still w.live ∙ ap (λ x. (row_at rs x).mark) own ∙ w.marked;
      only = λ u l r g. (let k : has rs u ≡ true = live_has facts rs u l in
          base_are facts rs u o.still k ∙ w.only (row_at rs u).base (sym (fresh_is facts rs u o.still k) ∙ g) ((facts.seen.is_seen rs o.still u k).base_root ∙ sym (root_are facts rs u o.still k) ∙ r ∙ root));
    }

pub is_lazy : (facts : RowLaws) → (rs : Rows) (hs : Counts) (n : ℕ) → InOrder rs → IsLazy (state_of rs hs n)
is_lazy facts rs hs n o = record {
  fresh_is = λ v l. base_fresh facts rs v o.still (live_has facts rs v l);
  waits = λ v b l e. are_waiting facts rs hs n v b o (live_has facts rs v l) (sym (waiting_is facts rs hs n v o.still (live_has facts rs v l)) ∙ e);
  lasts = λ v l e. (let h : has rs v ≡ true = live_has facts rs v l in
      let i : IsRoot rs (row_at rs v).root = facts.seen.root_live rs (row_at rs v).root v o.still h refl in
      ap (is_listed (fresh_among rs rs)) (root_are facts rs v o.still h) ∙ fresh_is facts rs (row_at rs v).root o.still i.0 ∙ ap (λ b. (row_at rs b).mark) (facts.seen.is_seen rs o.still v h).root_base
      ∙ (o.family (row_at rs v).root i).lasts (sym (waiting_is facts rs hs n v o.still h) ∙ e));
  spent = λ v h. none_outdated (state_of rs hs n) v h;
}

-- a new view
own_or : (k above : ℕ) (o : Option Triple) (b : ℕ) → b ≡ base_over k above o → (b ≡ k → ⊥) → b ≡ above
own_or k above None b e n = absurd (n e)
own_or k above (Some t) b e n = e

pub lent_as : (facts : RowLaws) → (rs : Rows) (hs gs : Counts) (n m k p : ℕ) (r : Row) (t : Trans) → IsStill rs → IsStill ((k, r) ∷ rs) → NumbersBelow k rs → has rs p ≡ true → IsNewView k p t (row_at rs p) r
    → IsLentAs (state_of rs hs n) p k (state_of ((k, r) ∷ rs) gs m)
lent_as facts rs hs gs n m k p r t s z b h w other =
    let new : Rows = (k, r) ∷ rs in
    let here : has ((k, r) ∷ rs) k ≡ true = rw (eq-eqb k k refl) refl in
    let row : row_at ((k, r) ∷ rs) k ≡ r = rw (eq-eqb k k refl) refl in
    let base : r.base ≡ (row_at rs p).base = own_or k (row_at rs p).base (over t (row_at rs p).triple) r.base w.derived.base_is (λ e. other (base_are facts new k z here ∙ ap (λ (x : Row). x.base) row ∙ e)) in
    let apart : k ≡ (row_at rs p).base → ⊥ = facts.numbers.not_newest rs k (row_at rs p).base b (facts.seen.is_seen rs s p h).base_has in
    fresh_is facts new k z here ∙ ap (λ (x : Row). (row_at new x.base).mark) row ∙ ap (λ x. (row_at new x).mark) base ∙ ap (λ (x : Row). x.mark) (facts.numbers.row_older k r rs (row_at rs p).base apart)
    ∙ sym (fresh_is facts rs p s h)

moved : (facts : RowLaws) → (old new : Rows) (gs : Counts) (m u : ℕ) → IsStill new → IsAlike old new → has old u ≡ true → waiting (state_of new gs m) u ≡ (row_at new (row_at old u).root).waiting
moved facts old new gs m u t a h = waiting_is facts new gs m u t (a.has_is u ∙ h) ∙ ap (λ r. (row_at new r).waiting) (a.root_is u)

pub target_waits : (facts : RowLaws) → (old new : Rows) (hs gs : Counts) (n m v : ℕ) → IsStill old → IsStill new → has old v ≡ true → IsAlike old new → WaitsTarget old v new → TargetWaits (state_of old hs n) v (state_of new gs m)
target_waits facts old new hs gs n m v s t h a w u l =
    let g : has old u ≡ true = live_has facts old u l in
    let last : (row_at old (row_at old u).root).waiting ≡ waiting (state_of old hs n) u = sym (waiting_is facts old hs n u s g) in
    moved facts old new gs m u t a g ∙ w (row_at old u).root (facts.seen.is_seen old s u g).root_has
    ∙ ap (λ x. cond (eqb (row_at old u).root (row_at old v).root) (cond (eqb x (row_at old v).root) None (Some x)) (row_at old (row_at old u).root).waiting) (sym (target_is facts old v s h))
    ∙ ap (λ x. cond (eqb (row_at old u).root x) (cond (eqb (target (world_of old) v) x) None (Some (target (world_of old) v))) (row_at old (row_at old u).root).waiting) (sym (root_are facts old v s h))
    ∙ ap (λ x. cond (eqb x (root_of (world_of old) v)) (kept_back (world_of old) v) (row_at old (row_at old u).root).waiting) (sym (root_are facts old u s g))
    ∙ ap (λ o. cond (eqb (root_of (world_of old) u) (root_of (world_of old) v)) (kept_back (world_of old) v) o) last

pub others_wait : (facts : RowLaws) → (old new : Rows) (hs gs : Counts) (n m v : ℕ) → IsStill old → IsStill new → has old v ≡ true → IsAlike old new → RowsOthersWait old v new → OthersWait (state_of old hs n) v (state_of new gs m)
others_wait facts old new hs gs n m v s t h a w u l x =
    let g : has old u ≡ true = live_has facts old u l in
    moved facts old new gs m u t a g ∙ w (row_at old u).root (facts.seen.is_seen old s u g).root_has (λ e. x (root_are facts old u s g ∙ e ∙ sym (root_are facts old v s h))) ∙ sym (waiting_is facts old hs n u s g)
