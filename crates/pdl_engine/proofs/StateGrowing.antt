-- One more array.
use Rattle.std.proofs.Common.{◌≡◌, ℕ, true, length, List, [], ◌∷◌, Option, Some, None, is_some, inl, inr, refl, sym, ◌∙◌, ap, ℤ, ◌<◌, ◌≢◌, ◌+◌, false, subst, arith}
use Rattle.std.proofs.lemmas.Bool.Decides.{eqb_tells}
use Rattle.pdl_elem.specs.declared.Ty.{Ty}
use Rattle.pdl_shape.specs.Shape.{IsDims, size_of}
use Rattle.pdl_shape.specs.Triple.{IsTriple, whole_triple}
use Rattle.pdl_world.specs.Sound.{IsSound}
use Rattle.pdl_world.specs.Sound.{NumbersBelow as NumbersBelowIn}
use Rattle.pdl_world.specs.World.{World, ArrayDef, root, view}
use Rattle.pdl_world.specs.declared.Trans.{Trans}
use Rattle.pdl_nodes.specs.Alike.{is_fresh_in}
use Rattle.pdl_nodes.specs.Holds.{Counts, Beside, hold_at, held_once, count, count_in}
use Rattle.pdl_nodes.specs.Joined.{IsNew, joined_def, IsNewView, joined_from}
use Rattle.pdl_nodes.specs.Known.{IsKnown, AreKnown}
use Rattle.pdl_nodes.specs.Row.{Row, root_row}
use Rattle.pdl_nodes.specs.RowLaws.{RowLaws}
use Rattle.pdl_nodes.specs.Rows.{Rows, row_at, NumbersBelow, has}
use Rattle.pdl_nodes.specs.Sized.{IsSized, LaidFrom}
use Rattle.pdl_nodes.specs.Still.{IsStill, StillFrom}
use Rattle.pdl_nodes.specs.Worlds.{def_of, shape, latest, world_of, with_elements}
use Rattle.pdl_nodes.specs.declared.origin.Layout.{Layout}
use Rattle.pdl_nodes.specs.declared.origin.Origin.{Origin}
use Rattle.pdl_nodes.specs.declared.origin.Origin.TheVariants.{View}
use Rattle.pdl_engine.specs.State.{Joins}
use Rattle.pdl_engine.specs.StateOf.{IsEngine, pending_in, pending_onto, holds_in, state_of, fresh_among}
use Rattle.pdl_engine.proofs.StateOfWorlds.{fresh_keeps, holds_same}

-- of a new row nothing is known yet
known_more : (facts : RowLaws) → (rs : Rows) (k : ℕ) (r : Row) → NumbersBelow k rs → AreKnown rs → r.places ≡ None → (r.mark ≡ true → (r.root ≡ k → ⊥) → ⊥) → ((r.base ≡ k → ⊥) → r.kept ≡ []) → AreKnown ((k, r) ∷ rs)
known_more facts rs k r b a e m w v h = elim (eqb_tells k v) [
  | inl t ↦ (let row : row_at ((k, r) ∷ rs) v ≡ r = rw t.0 refl in
      let no : (ps : List (Option ℕ)) → (row_at ((k, r) ∷ rs) v).places ≡ Some ps → ⊥ = λ ps g. (let x : None ≡ Some ps = sym e ∙ ap (λ y. y.places) (sym row) ∙ g in cc) in
      record {
        places = λ ps g. absurd (no ps g);
        repeats = λ ps g. absurd (no ps g);
        unlisted = λ ps g y. no ps g;
        found = λ g n. absurd (m (ap (λ y. y.mark) (sym row) ∙ g) (λ y. n (ap (λ z. z.root) row ∙ y ∙ t.1)));
        bare = λ n. ap (λ y. y.kept) row ∙ w (λ y. n (ap (λ z. z.base) row ∙ y ∙ t.1));
      })
  | inr t ↦ (let x : IsKnown rs v = a v (rw t.0 at h) in
      let row : row_at ((k, r) ∷ rs) v ≡ row_at rs v = facts.numbers.row_older k r rs v t.1 in
      record {
        places = λ ps g. x.places ps (ap (λ y. y.places) (sym row) ∙ g) ∙ sym (facts.numbers.places_older k r rs v t.1);
        repeats = λ ps g. ap (λ y. y.repeats) row ∙ x.repeats ps (ap (λ y. y.places) (sym row) ∙ g);
        found = λ g n. ap (λ y. is_some y.places) row ∙ x.found (ap (λ y. y.mark) (sym row) ∙ g) (λ y. n (ap (λ z. z.root) row ∙ y));
        unlisted = λ ps g y. x.unlisted ps (ap (λ z. z.places) (sym row) ∙ g) (ap (λ z. z.root) (sym row) ∙ y);
        bare = λ n. ap (λ y. y.kept) row ∙ x.bare (λ y. n (ap (λ z. z.base) row ∙ y));
      })
]

-- in the world, too, all numbers lie below
pub below_world : (rs : Rows) (k : ℕ) → NumbersBelow k rs → NumbersBelowIn k (world_of rs)
below_world rs k b = from (latest rs) rs b where
  one : (f : ℕ → List ℤ) (j : ℕ) (d : ArrayDef) (w : World) → j < k → NumbersBelowIn k (with_elements f w) → NumbersBelowIn k (with_elements f ((j, d) ∷ w))
  one f j (root ty ds es) w l t = (l, t)
  one f j (view p u) w l t = (l, t)

  from : (f : ℕ → List ℤ) (rs : Rows) → NumbersBelow k rs → NumbersBelowIn k (with_elements f (shape rs))
  from f [] b = tt
  from f ((j, r) ∷ rs) b = one f j (def_of r) (shape rs) b.0 (from f rs b.1)

-- what could be lent can be lent beside a new row
fresh_older : (facts : RowLaws) → (rs : Rows) (k : ℕ) (r : Row) (v : ℕ) → NumbersBelow k rs → IsStill rs → has rs v ≡ true → is_fresh_in rs v ≡ true → is_fresh_in ((k, r) ∷ rs) v ≡ true
fresh_older facts rs k r v b s h f =
    let row : row_at ((k, r) ∷ rs) v ≡ row_at rs v = facts.numbers.row_older k r rs v (facts.numbers.not_newest rs k v b h) in
    let base : row_at ((k, r) ∷ rs) (row_at rs v).base ≡ row_at rs (row_at rs v).base = facts.numbers.row_older k r rs (row_at rs v).base (facts.numbers.not_newest rs k (row_at rs v).base b (facts.seen.is_seen rs s v h).base_has) in
    ap (λ x. (row_at ((k, r) ∷ rs) x.base).mark) row ∙ ap (λ x. x.mark) base ∙ f

-- what is known of a new row and its hold
pub record IsGrown (rs : Rows) (hs gs : Counts) (k : ℕ) (r : Row) : Type 0 where
  pub new : IsNew rs k r
  pub unlisted : r.places ≡ None
  pub bare : (r.base ≡ k → ⊥) → r.kept ≡ []
  pub sized : IsSized rs r
  pub sound : IsSound ((k, joined_def r) ∷ world_of rs)
  pub beside : Beside ((k, r) ∷ rs) gs
  pub held : hold_at gs k ≡ Some held_once
  pub others : (v : ℕ) → v ≢ k → hold_at gs v ≡ hold_at hs v

-- it joins the engine
pub grown_engine : (facts : RowLaws) → (rs : Rows) (hs gs : Counts) (k n : ℕ) (r : Row) → IsEngine rs hs k → IsGrown rs hs gs k r → n ≡ k + 1 → n < 18446744073709551616 → IsEngine ((k, r) ∷ rs) gs n
grown_engine facts rs hs gs k n r i g e m = record {
  order = facts.joins.pushed rs k r g.new i.order;
  known = known_more facts rs k r i.below i.known g.unlisted (λ m y. (let c : true ≡ false = sym m ∙ g.new.unmarked y in cc)) g.bare;
  sized = (g.sized, i.sized);
  sound = subst (λ (w : World). IsSound w) (sym (facts.joins.world_pushed rs k r g.new i.order)) g.sound;
  beside = g.beside;
  below = (omega (arith, e), facts.numbers.below_more rs k n (omega (arith, e)) i.below);
  room = m;
}

-- none more
pub refused_engine : (rs new : Rows) (hs gs : Counts) (n : ℕ) → IsEngine rs hs n → new ≡ rs → Beside new gs → IsEngine new gs n
refused_engine rs new hs gs n i e b =
    let P : Rows → Type 0 = λ x. Beside x gs → IsEngine x gs n in
    (subst P (sym e) (λ y. record { order = i.order; known = i.known; sized = i.sized; sound = i.sound; beside = y; below = i.below; room = i.room })) b

-- and the state
pub grown_state : (facts : RowLaws) → (rs : Rows) (hs gs : Counts) (k n : ℕ) (r : Row) → IsEngine rs hs k → IsGrown rs hs gs k r → n ≡ k + 1 → Joins (state_of rs hs k) k (joined_def r) (state_of ((k, r) ∷ rs) gs n)
grown_state facts rs hs gs k n r i g e =
    let one : count gs k ≡ 1 = ap count_in g.held in
    let rest : holds_in rs gs ≡ holds_in rs hs = holds_same rs hs gs k i.below (λ v y. ap count_in (g.others v y)) in
    record {
      number = refl;
      world = facts.joins.world_pushed rs k r g.new i.order;
      holds = cc;
      pending = ap (λ o. pending_onto k o (pending_in rs)) g.new.nothing;
      next = e;
      stay = fresh_keeps facts rs ((k, r) ∷ rs) i.order.still (facts.joins.pushed rs k r g.new i.order).still (λ v h. facts.numbers.has_older k r rs v (facts.numbers.not_newest rs k v i.below h) ∙ h) (λ v h f. fresh_older facts rs k r v i.below i.order.still h f);
    }

-- a new root joins
pub root_grown : (facts : RowLaws) → (rs : Rows) (hs gs : Counts) (k : ℕ) (ty : Ty) (ds : List ℕ) (es : List ℤ) → NumbersBelow k rs → length es ≡ size_of ds → IsTriple (whole_triple ds) → IsDims ds → IsSound ((k, root ty ds es) ∷ world_of rs)
    → Beside ((k, root_row k ty ds es) ∷ rs) gs → hold_at gs k ≡ Some held_once → ((v : ℕ) → v ≢ k → hold_at gs v ≡ hold_at hs v) → IsGrown rs hs gs k (root_row k ty ds es)
root_grown facts rs hs gs k ty ds es w c x d s b l o = record {
  new = facts.joins.new_root rs k ty ds es w c;
  unlisted = refl;
  bare = λ n. absurd (n refl);
  sized = record { within = record { triple = x; limits = d }; laid = tt };
  sound = s;
  beside = b;
  held = l;
  others = o;
}

-- a view is a new row
pub new_view : (facts : RowLaws) → (rs : Rows) (k p : ℕ) (t : Trans) (r : Row) → IsStill rs → NumbersBelow k rs → has rs p ≡ true → IsNewView k p t (row_at rs p) r → IsNew rs k r
new_view facts rs k p t r s b h v =
    let no : r.root ≡ k → ⊥ = λ e. facts.numbers.not_newest rs k (row_at rs p).root b (facts.seen.is_seen rs s p h).root_has (sym e ∙ v.derived.root_is) in
    record {
      below = b;
      from = subst (λ (o : Origin). StillFrom rs k r o) (sym v.origin) (h, v.derived);
      nothing = v.nothing;
      unmarked = λ n. v.unmarked;
      marked = λ e. absurd (no e);
      own = λ e. absurd (no e);
      flat = λ e. absurd (no e);
      count = λ e. absurd (no e);
    }

-- the types of a new view keep what they keep
view_sized : (rs : Rows) (k p : ℕ) (t : Trans) (r : Row) → IsNewView k p t (row_at rs p) r → IsSized rs r
view_sized rs k p t r v = record { within = record { triple = v.triple; limits = v.limits }; laid = subst (LaidFrom rs) (sym v.origin) v.laid }

pub view_def : (r : Row) (p : ℕ) (t : Trans) (y : Layout) → r.origin ≡ View p t y → joined_def r ≡ view p t
view_def r p t y e = ap (λ o. joined_from r.ty r.triple.dims r.kept o) e

-- so it joins as a view of p
pub view_grown : (facts : RowLaws) → (rs : Rows) (hs gs : Counts) (k p : ℕ) (t : Trans) (r : Row) → IsEngine rs hs k → has rs p ≡ true → IsNewView k p t (row_at rs p) r → IsSound ((k, view p t) ∷ world_of rs)
    → Beside ((k, r) ∷ rs) gs → hold_at gs k ≡ Some held_once → ((v : ℕ) → v ≢ k → hold_at gs v ≡ hold_at hs v) → IsGrown rs hs gs k r
view_grown facts rs hs gs k p t r i h v s b l o = record {
  new = new_view facts rs k p t r i.order.still i.below h v;
  unlisted = v.unlisted;
  bare = λ n. v.bare;
  sized = view_sized rs k p t r v;
  sound = subst (λ (d : ArrayDef). IsSound ((k, d) ∷ world_of rs)) (sym (view_def r p t v.layout v.origin)) s;
  beside = b;
  held = l;
  others = o;
}

-- nothing is seen of a hold that came and went
pub err_state : (rs new : Rows) (hs gs : Counts) (k : ℕ) → NumbersBelow k rs → new ≡ rs → ((v : ℕ) → v ≢ k → hold_at gs v ≡ hold_at hs v) → state_of new gs k ≡ state_of rs hs k
err_state rs new hs gs k b e o =
    ap (λ t. state_of t gs k) e ∙ ap (λ h. record { world = world_of rs; fresh = fresh_among rs rs; pending = pending_in rs; holds = h; next = k }) (holds_same rs hs gs k b (λ v y. ap count_in (o v y)))

-- no array has a number above all as its root
pub no_root : (facts : RowLaws) → (rs : Rows) (n : ℕ) → IsStill rs → NumbersBelow n rs → (v : ℕ) → has rs v ≡ true → (row_at rs v).root ≡ n → ⊥
no_root facts rs n s b v h e = facts.numbers.not_newest rs n n b (facts.seen.root_live rs n v s h e).0 refl
