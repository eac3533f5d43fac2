-- What a change of one family leaves.
use Rattle.std.proofs.Common.{drop, ◌≡◌, ℕ, ℤ, Bool, true, false, eqb, cond, List, [], ◌∷◌, Option, Some, None, inl, inr, refl, sym, ◌∙◌, ap, subst}
use Rattle.std.proofs.lemmas.Bool.{cases_eq}
use Rattle.std.proofs.lemmas.Bool.Decides.{eqb_tells}
use Rattle.std.specs.Prelude.{Ok}
use Rattle.pdl_elem.specs.declared.Ty.{Ty}
use Rattle.pdl_shape.specs.Places.{read, write}
use Rattle.pdl_shape.specs.Places.{places_of as parent_places}
use Rattle.pdl_shape.specs.Triple.{Triple}
use Rattle.pdl_world.specs.declared.Trans.{Trans}
use Rattle.pdl_world.specs.Formula.{child_dims, source}
use Rattle.pdl_world.specs.Parts.{assign_part}
use Rattle.pdl_world.specs.World.{World, view, root_elements, elements}
use Rattle.pdl_world.specs.Windows.{over}
use Rattle.pdl_nodes.specs.declared.origin.Layout.{Layout}
use Rattle.pdl_nodes.specs.declared.origin.Origin.{Origin}
use Rattle.pdl_nodes.specs.declared.origin.Origin.TheVariants.{Root, View}
use Rattle.pdl_nodes.specs.Row.{Row}
use Rattle.pdl_nodes.specs.Rows.{Rows, row_at, has, each, NumbersBelow, Falls}
use Rattle.pdl_nodes.specs.Worlds.{shape, def_from, def_of, places_in, places_seen, latest, latest_from, world_of, with_elements, IsRoot}
use Rattle.pdl_nodes.specs.Still.{own_places, base_over, triple_over, IsWhole, IsLaid, IsDerived, StillFrom, IsStill}
use Rattle.pdl_nodes.specs.Families.{has_repeats, IsMarked, IsWaiting, InFamily, InOrder}
use Rattle.pdl_nodes.proofs.RowFinds.{not_newest, each_has, each_at, below_each}
use Rattle.pdl_nodes.proofs.RowsSeen.{is_seen}
use Rattle.pdl_nodes.proofs.RowShapes.{past_at, def_same, each_shape}
use Rattle.pdl_nodes.proofs.WorldLemmas.{assign_with, elements_with}
use Rattle.pdl_nodes.specs.Seen.{IsSeen}
use Rattle.std.proofs.lemmas.Bool.{eq-eqb, ne_eqb}
use Rattle.pdl_nodes.specs.Quiet.{IsQuiet}
use Rattle.pdl_nodes.specs.Quiet.{LeavesOthers}

-- all that a derivation says of two rows stays with what they say of themselves
derived_same : (k : ℕ) (a b r q : Row) (t : Trans) (y : Layout) → b.ty ≡ a.ty → b.root ≡ a.root → b.base ≡ a.base → b.triple ≡ a.triple → q.ty ≡ r.ty → q.root ≡ r.root → q.base ≡ r.base → q.triple ≡ r.triple → IsDerived k a r t y → IsDerived k b q t y
derived_same k a b r q t y ey er eb et fy fr fb ft d =
    let P : Triple → Triple → Type 0 = λ u s. IsLaid u (parent_places s.dims u.dims (source t u.dims)) (own_places s.dims y) s.dims (over t u) in
    record {
      allowed = ap (λ (u : Triple). child_dims t u.dims) et ∙ d.allowed ∙ ap (λ (u : Triple). Ok u.dims) (sym ft);
      ty_is = fy ∙ d.ty_is ∙ sym ey;
      root_is = fr ∙ d.root_is ∙ sym er;
      base_is = fb ∙ d.base_is ∙ ap (λ x. base_over k x (over t a.triple)) (sym eb) ∙ ap (λ u. base_over k b.base (over t u)) (sym et);
      triple_is = ft ∙ d.triple_is ∙ ap (λ (u : Triple). triple_over u.dims (over t a.triple)) (sym ft) ∙ ap (λ u. triple_over q.triple.dims (over t u)) (sym et);
      laid = subst (λ (u : Triple). P u q.triple) (sym et) (subst (λ (s : Triple). P a.triple s) (sym ft) d.laid);
    }

still_from : (f : ℕ → Row → Row) (rs : Rows) (k : ℕ) (r : Row) (o : Origin) → IsQuiet f → StillFrom rs k r o → StillFrom (each f rs) k (f k r) o
still_from f rs k r Root q s = record { root_is = q.root k r ∙ s.root_is; base_is = q.base k r ∙ s.base_is; whole = subst (λ (u : Triple). IsWhole u) (sym (q.triple k r)) s.whole }
still_from f rs k r (View p t y) q s =
    let e : row_at (each f rs) p ≡ f p (row_at rs p) = each_at f rs p s.0 in (
      each_has f rs p ∙ s.0,
      derived_same k (row_at rs p) (row_at (each f rs) p) r (f k r) t y
          (ap (λ x. x.ty) e ∙ q.ty p (row_at rs p)) (ap (λ x. x.root) e ∙ q.root p (row_at rs p)) (ap (λ x. x.base) e ∙ q.base p (row_at rs p)) (ap (λ x. x.triple) e ∙ q.triple p (row_at rs p))
          (q.ty k r) (q.root k r) (q.base k r) (q.triple k r) s.1,
    )

still_each : (f : ℕ → Row → Row) (rs : Rows) → IsQuiet f → IsStill rs → IsStill (each f rs)
still_each f [] q s = tt
still_each f ((k, r) ∷ rs) q s = (below_each f k rs s.0, (let P : Origin → Type 0 = λ o. StillFrom (each f rs) k (f k r) o in subst P (sym (q.origin k r)) (still_from f rs k r r.origin q s.1)), still_each f rs q s.2)

pub shape_each : (f : ℕ → Row → Row) (rs : Rows) → IsQuiet f → shape (each f rs) ≡ shape rs
shape_each f rs q = each_shape f rs (λ k r. def_same (f k r) r (q.origin k r) (q.ty k r) (q.triple k r))

pub places_each : (f : ℕ → Row → Row) (rs : Rows) (v : ℕ) → IsQuiet f → places_seen (each f rs) v ≡ places_seen rs v
places_each f rs v q = ap (λ w. places_in w v) (shape_each f rs q)

root_cases : (f : ℕ → Row → Row) (rs : Rows) (v : ℕ) (b : Bool) → has rs v ≡ b → IsQuiet f → (row_at (each f rs) v).root ≡ (row_at rs v).root
root_cases f rs v true h q = ap (λ x. x.root) (each_at f rs v h) ∙ q.root v (row_at rs v)
root_cases f rs v false h q = ap (λ x. x.root) (past_at (each f rs) v (each_has f rs v ∙ h)) ∙ sym (ap (λ x. x.root) (past_at rs v h))

pub root_each : (f : ℕ → Row → Row) (rs : Rows) (v : ℕ) → IsQuiet f → (row_at (each f rs) v).root ≡ (row_at rs v).root
root_each f rs v q = root_cases f rs v (has rs v) refl q

is_root_each : (f : ℕ → Row → Row) (rs : Rows) (r : ℕ) → IsQuiet f → IsRoot (each f rs) r → IsRoot rs r
is_root_each f rs r q i = (sym (each_has f rs r) ∙ i.0, sym (root_each f rs r q) ∙ i.1)

other_cases : (rt : ℕ) (f : ℕ → Row → Row) (rs : Rows) (v : ℕ) (b : Bool) → has rs v ≡ b → LeavesOthers rt f rs → ((row_at rs v).root ≡ rt → ⊥) → row_at (each f rs) v ≡ row_at rs v
other_cases rt f rs v true h w n = each_at f rs v h ∙ w.outside v n
other_cases rt f rs v false h w n = past_at (each f rs) v (each_has f rs v ∙ h) ∙ sym (past_at rs v h)

pub other_row : (rt : ℕ) (f : ℕ → Row → Row) (rs : Rows) (v : ℕ) → LeavesOthers rt f rs → ((row_at rs v).root ≡ rt → ⊥) → row_at (each f rs) v ≡ row_at rs v
other_row rt f rs v w n = other_cases rt f rs v (has rs v) refl w n

-- the elements of a root of which row and waiting row are known
pub latest_none : (rs : Rows) (r : ℕ) → (row_at rs r).waiting ≡ None → latest rs r ≡ (row_at rs r).kept
latest_none rs r e = ap (λ o. latest_from rs r o) e

pub latest_some : (rs : Rows) (r v : ℕ) → (row_at rs r).waiting ≡ Some v → latest rs r ≡ write (places_seen rs v) (row_at rs v).kept (row_at rs r).kept
latest_some rs r v e = ap (λ o. latest_from rs r o) e

other_latest : (rt : ℕ) (f : ℕ → Row → Row) (rs : Rows) (r : ℕ) (o : Option ℕ) → (row_at rs r).waiting ≡ o → IsQuiet f → LeavesOthers rt f rs → IsRoot rs r → InFamily rs r → (r ≡ rt → ⊥) → latest (each f rs) r ≡ latest rs r
other_latest rt f rs r None e q w i m n =
    let s : row_at (each f rs) r ≡ row_at rs r = other_row rt f rs r w (λ h. n (sym i.1 ∙ h)) in
    latest_none (each f rs) r (ap (λ x. x.waiting) s ∙ e) ∙ ap (λ x. x.kept) s ∙ sym (latest_none rs r e)
other_latest rt f rs r (Some v) e q w i m n =
    let s : row_at (each f rs) r ≡ row_at rs r = other_row rt f rs r w (λ h. n (sym i.1 ∙ h)) in
    let u : row_at (each f rs) v ≡ row_at rs v = other_row rt f rs v w (λ h. n (sym (m.waits v e).of_root ∙ h)) in
    latest_some (each f rs) r v (ap (λ x. x.waiting) s ∙ e) ∙ rw (s, u, places_each f rs v q) (sym (latest_some rs r v e))

latest_other : (rt : ℕ) (f : ℕ → Row → Row) (rs : Rows) (r : ℕ) → IsQuiet f → LeavesOthers rt f rs → IsRoot rs r → InFamily rs r → (r ≡ rt → ⊥) → latest (each f rs) r ≡ latest rs r
latest_other rt f rs r q w i m n = other_latest rt f rs r (row_at rs r).waiting refl q w i m n

-- another family stays in order
family_other : (rt : ℕ) (f : ℕ → Row → Row) (rs : Rows) (r : ℕ) → IsQuiet f → LeavesOthers rt f rs → IsRoot rs r → InFamily rs r → (r ≡ rt → ⊥) → InFamily (each f rs) r
family_other rt f rs r q w i m n =
    let s : row_at (each f rs) r ≡ row_at rs r = other_row rt f rs r w (λ h. n (sym i.1 ∙ h)) in
    let row : (b : ℕ) → (row_at (each f rs) b).root ≡ r → row_at (each f rs) b ≡ row_at rs b = λ b h. other_row rt f rs b w (λ g. n (sym h ∙ root_each f rs b q ∙ g)) in
    record {
      marked = λ b h g. (let e : row_at (each f rs) b ≡ row_at rs b = row b g in
          let a : IsMarked rs b = m.marked b (ap (λ x. x.mark) (sym e) ∙ h) (ap (λ x. x.root) (sym e) ∙ g) in
          let lt : latest (each f rs) (row_at rs b).root ≡ latest rs (row_at rs b).root = rw (ap (λ x. x.root) (sym e) ∙ g) (latest_other rt f rs r q w i m n) in
          record {
            own = ap (λ x. x.base) e ∙ a.own;
            shows = ap (λ x. x.kept) e ∙ a.shows ∙ rw (e, places_each f rs b q, lt) refl;
            flag = ap (λ x. x.repeats) e ∙ a.flag ∙ rw (places_each f rs b q) refl;
          });
      waits = λ v h. (let a : IsWaiting rs r v = m.waits v (ap (λ x. x.waiting) (sym s) ∙ h) in
          let e : row_at (each f rs) v ≡ row_at rs v = other_row rt f rs v w (λ g. n (sym a.of_root ∙ g)) in
          record {
            live = each_has f rs v ∙ a.live;
            marked = ap (λ x. x.mark) e ∙ a.marked;
            of_root = ap (λ x. x.root) e ∙ a.of_root;
            not_root = a.not_root;
            once = rw (places_each f rs v q) a.once;
            only = λ u g d. (let k : row_at (each f rs) u ≡ row_at rs u = row u d in a.only u (ap (λ x. x.mark) (sym k) ∙ g) (ap (λ x. x.root) (sym k) ∙ d));
          });
      lasts = λ h. ap (λ x. x.mark) s ∙ m.lasts (ap (λ x. x.waiting) (sym s) ∙ h);
      count = rw s m.count;
      flat = ap (λ x. x.repeats) s ∙ m.flat ∙ sym (ap has_repeats (places_each f rs r q));
    }

-- all is in order where the changed family is
pub order_each : (rt : ℕ) (f : ℕ → Row → Row) (rs : Rows) → IsQuiet f → LeavesOthers rt f rs → InOrder rs → InFamily (each f rs) rt → InOrder (each f rs)
order_each rt f rs q w o m = record {
  still = still_each f rs q o.still;
  family = λ r i. elim (cases_eq r rt) [
    | inl e ↦ (let P : ℕ → Type 0 = λ x. InFamily (each f rs) x in subst P (sym e) m)
    | inr n ↦ (let j : IsRoot rs r = is_root_each f rs r q i in family_other rt f rs r q w j (o.family r j) n)
  ];
}

newer_root : (k : ℕ) (r : Row) (rs : Rows) (v : ℕ) → NumbersBelow k rs → IsRoot rs v → IsRoot ((k, r) ∷ rs) v
newer_root k r rs v b i = let n : k ≡ v → ⊥ = not_newest rs k v b i.0 in rw (ne_eqb k v n) i

-- worlds over the same records are equal where their roots have equal elements
roots_from : (f g : ℕ → List ℤ) (k : ℕ) (r : Row) (rs : Rows) (o : Origin) → StillFrom rs k r o → (IsRoot ((k, r) ∷ rs) k → f k ≡ g k) → (with_elements f (shape rs) ≡ with_elements g (shape rs)) → with_elements f ((k, def_from r.ty r.triple.dims o) ∷ shape rs) ≡ with_elements g ((k, def_from r.ty r.triple.dims o) ∷ shape rs)
roots_from f g k r rs Root s h t =
    let e : f k ≡ g k = h (rw (eq-eqb k k refl) (refl, s.root_is)) in
    cc
roots_from f g k r rs (View p u y) s h t = ap (λ x. (k, view p u) ∷ x) t

pub with_roots : (f g : ℕ → List ℤ) (rs : Rows) → IsStill rs → ((k : ℕ) → IsRoot rs k → f k ≡ g k) → with_elements f (shape rs) ≡ with_elements g (shape rs)
with_roots f g [] s h = refl
with_roots f g ((k, r) ∷ rs) s h = roots_from f g k r rs r.origin s.1 (h k) (with_roots f g rs s.2 (λ v i. h v (newer_root k r rs v s.0 i)))

here_from : (f : ℕ → List ℤ) (k : ℕ) (r : Row) (rs : Rows) (o : Origin) → IsStill rs → NumbersBelow k rs → StillFrom rs k r o → r.root ≡ k → root_elements (with_elements f ((k, def_from r.ty r.triple.dims o) ∷ shape rs)) k ≡ f k
here_from f k r rs Root i b s e = rw (eq-eqb k k refl) refl
here_from f k r rs (View p u y) i b s e = absurd (not_newest rs k (row_at rs p).root b (is_seen rs i p s.0).root_has (sym e ∙ s.1.root_is))

past_from : (f : ℕ → List ℤ) (k v : ℕ) (w : World) (ty : Ty) (ds : List ℕ) (o : Origin) → (k ≡ v → ⊥) → root_elements (with_elements f ((k, def_from ty ds o) ∷ w)) v ≡ root_elements (with_elements f w) v
past_from f k v w ty ds Root h = rw (ne_eqb k v h) refl
past_from f k v w ty ds (View p u y) h = refl

root_elements_with : (f : ℕ → List ℤ) (rs : Rows) (v : ℕ) → IsStill rs → IsRoot rs v → root_elements (with_elements f (shape rs)) v ≡ f v
root_elements_with f [] v s i = let n : false ≡ true = i.0 in cc
root_elements_with f ((k, r) ∷ rs) v s i = elim (eqb_tells k v) [
  | inl t ↦ (let here : r.root ≡ k = rw t.0 at i.1 ∙ sym t.1 in subst (λ (x : ℕ). root_elements (with_elements f ((k, def_of r) ∷ shape rs)) x ≡ f x) t.1 (here_from f k r rs r.origin s.2 s.0 s.1 here))
  | inr t ↦ past_from f k v (shape rs) r.ty r.triple.dims r.origin t.1 ∙ root_elements_with f rs v s.2 (rw t.0 at i)
]

-- the elements of an array
pub elements_are : (rs : Rows) (v : ℕ) → IsStill rs → has rs v ≡ true → elements (world_of rs) v ≡ read (places_seen rs v) (latest rs (row_at rs v).root)
elements_are rs v s h =
    let e : IsSeen rs v = is_seen rs s v h in
    elements_with (latest rs) (shape rs) v _ e.looks (root_elements_with (latest rs) rs (row_at rs v).root s (e.root_has, e.root_root))

-- the world after a change of one family
pub world_same : (rt : ℕ) (f : ℕ → Row → Row) (rs : Rows) → IsQuiet f → LeavesOthers rt f rs → InOrder rs → latest (each f rs) rt ≡ latest rs rt → world_of (each f rs) ≡ world_of rs
world_same rt f rs q w o h =
    ap (λ x. with_elements (latest (each f rs)) x) (shape_each f rs q)
    ∙ with_roots (latest (each f rs)) (latest rs) rs o.still (λ k i. elim (cases_eq k rt) [
      | inl e ↦ ap (latest (each f rs)) e ∙ h ∙ ap (latest rs) (sym e)
      | inr n ↦ latest_other rt f rs k q w i (o.family k i) n
    ])

pub world_assigned : (rt : ℕ) (f : ℕ → Row → Row) (rs : Rows) (v first : ℕ) (vs : List ℤ) → IsQuiet f → LeavesOthers rt f rs → InOrder rs → has rs v ≡ true → (row_at rs v).root ≡ rt → latest (each f rs) rt ≡ write (drop first (places_seen rs v)) vs (latest rs rt) → world_of (each f rs) ≡ assign_part (world_of rs) v first vs
world_assigned rt f rs v first vs q w o l e h =
    let s : IsSeen rs v = is_seen rs o.still v l in
    ap (λ x. with_elements (latest (each f rs)) x) (shape_each f rs q)
    ∙ with_roots (latest (each f rs)) (λ k. cond (eqb k (row_at rs v).root) (write (drop first (places_seen rs v)) vs (latest rs (row_at rs v).root)) (latest rs k)) rs o.still (λ k i. elim (eqb_tells k (row_at rs v).root) [
      | inl t ↦ rw t.0 (ap (latest (each f rs)) (t.1 ∙ e) ∙ h ∙ ap (λ x. write (drop first (places_seen rs v)) vs (latest rs x)) (sym e))
      | inr t ↦ rw t.0 (latest_other rt f rs k q w i (o.family k i) (λ g. t.1 (g ∙ sym e)))
    ])
    ∙ sym (assign_with (latest rs) (shape rs) v _ first vs s.looks (root_elements_with (latest rs) rs (row_at rs v).root o.still (s.root_has, s.root_root)))

pub still_falls : (rs : Rows) → IsStill rs → Falls rs
still_falls [] s = tt
still_falls ((k, r) ∷ rs) s = (s.0, still_falls rs s.2)
