-- What is derived of each array, its places, and the rows of views over those of their parents.
use Rattle.std.proofs.Common.{◌≡◌, ℕ, ◌+◌, ◌<◌, Bool, true, false, List, [], ◌∷◌, length, map, Option, Some, None, option_and_then, Ok, inl, inr, refl, sym, ◌∙◌, ap, subst, arith}
use Rattle.std.specs.List.{range_with_len}
use Rattle.std.proofs.lemmas.Bool.Decides.{eqb_tells}
use Rattle.std.proofs.lemmas.List.{length-map}
use Rattle.std.proofs.lemmas.List.FromFn.{length-map-range_with_len}
use Rattle.pdl_elem.specs.declared.Ty.{Ty}
use Rattle.pdl_shape.specs.Shape.{size_of}
use Rattle.pdl_shape.specs.Places.{AllBelow, places_of as parent_places}
use Rattle.pdl_shape.specs.Triple.{Triple, whole_triple}
use Rattle.pdl_world.specs.declared.Trans.{Trans}
use Rattle.pdl_world.specs.Formula.{child_dims, source}
use Rattle.pdl_world.specs.World.{World, ArrayDef, root, view, Look, look, through_places}
use Rattle.pdl_world.specs.Windows.{Window, window, over}
use Rattle.pdl_nodes.specs.declared.origin.Layout.{Layout}
use Rattle.pdl_nodes.specs.declared.origin.Origin.{Origin}
use Rattle.pdl_nodes.specs.declared.origin.Origin.TheVariants.{Root, View}
use Rattle.pdl_nodes.specs.Row.{Row}
use Rattle.pdl_nodes.specs.Rows.{Rows, row_at, has, NumbersBelow}
use Rattle.pdl_nodes.specs.Worlds.{shape, def_of, places_seen}
use Rattle.pdl_nodes.specs.Assigned.{entry}
use Rattle.pdl_nodes.specs.Spots.{spots, Below}
use Rattle.pdl_nodes.specs.Still.{own_places, base_over, triple_over, IsWhole, IsThroughBase, IsLaid, StillFrom, IsStill}
use Rattle.pdl_nodes.proofs.RowFinds.{has_below, not_newest}
use Rattle.pdl_nodes.proofs.SpotLemmas.{below_range, whole_in, whole_over, below_map, through_over, compose_in}
use Rattle.pdl_nodes.specs.Seen.{IsSeen, IsViewAt}
use Rattle.std.proofs.lemmas.Bool.{eq-eqb, ne_eqb}

pub look_older : (k : ℕ) (d : ArrayDef) (w : World) (v : ℕ) → (k ≡ v → ⊥) → look ((k, d) ∷ w) v ≡ look w v
look_older k (root ty ds es) w v h = rw (ne_eqb k v h) refl
look_older k (view p t) w v h = rw (ne_eqb k v h) refl

window_older : (k : ℕ) (d : ArrayDef) (w : World) (v : ℕ) → (k ≡ v → ⊥) → window ((k, d) ∷ w) v ≡ window w v
window_older k (root ty ds es) w v h = rw (ne_eqb k v h) refl
window_older k (view p t) w v h = rw (ne_eqb k v h) refl

pub row_older : (k : ℕ) (r : Row) (rs : Rows) (v : ℕ) → (k ≡ v → ⊥) → row_at ((k, r) ∷ rs) v ≡ row_at rs v
row_older k r rs v h = rw (ne_eqb k v h) refl

pub has_older : (k : ℕ) (r : Row) (rs : Rows) (v : ℕ) → (k ≡ v → ⊥) → has ((k, r) ∷ rs) v ≡ has rs v
has_older k r rs v h = rw (ne_eqb k v h) refl

pub places_older : (k : ℕ) (r : Row) (rs : Rows) (v : ℕ) → (k ≡ v → ⊥) → places_seen ((k, r) ∷ rs) v ≡ places_seen rs v
places_older k r rs v h = rw (look_older k (def_of r) (shape rs) v h) refl

-- the facts over rows and places that are given
record IsSeenAs (v : ℕ) (lk : Option Look) (wn : Option Window) (rv rb rt : Row) (pv pb pt : List (Option ℕ)) (hb ht : Bool) : Type 0 where
  looks : lk ≡ Some (record { root = rv.root; ty = rv.ty; dims = rv.triple.dims; places = pv })
  windows : wn ≡ Some (record { base = rv.base; triple = rv.triple })
  count : length pv ≡ size_of rv.triple.dims
  over : pv ≡ map (entry pb) (spots rv.triple)
  fits : Below (size_of rb.triple.dims) (spots rv.triple)
  within : AllBelow (size_of rt.triple.dims) pv
  base_has : hb ≡ true
  base_low : rv.base < v + 1
  base_base : rb.base ≡ rv.base
  base_root : rb.root ≡ rv.root
  base_ty : rb.ty ≡ rv.ty
  base_whole : IsWhole rb.triple
  root_has : ht ≡ true
  root_root : rt.root ≡ rv.root
  root_base : rt.base ≡ rv.root
  root_ty : rt.ty ≡ rv.ty
  root_places : pt ≡ map Some (range_with_len 0 (size_of rt.triple.dims))

abbrev SeenAt : Rows → ℕ → Type 0
SeenAt rs v = IsSeenAs v (look (shape rs) v) (window (shape rs) v) (row_at rs v) (row_at rs (row_at rs v).base) (row_at rs (row_at rs v).root) (places_seen rs v) (places_seen rs (row_at rs v).base) (places_seen rs (row_at rs v).root) (has rs (row_at rs v).base) (has rs (row_at rs v).root)

older : (k : ℕ) (r : Row) (rs : Rows) (v : ℕ) → NumbersBelow k rs → has rs v ≡ true → SeenAt rs v → SeenAt ((k, r) ∷ rs) v
older k r rs v b h s =
    let nv : k ≡ v → ⊥ = not_newest rs k v b h in
    let nb : k ≡ (row_at rs v).base → ⊥ = not_newest rs k (row_at rs v).base b s.base_has in
    let nr : k ≡ (row_at rs v).root → ⊥ = not_newest rs k (row_at rs v).root b s.root_has in
    rw (look_older k (def_of r) (shape rs) v nv, window_older k (def_of r) (shape rs) v nv, ne_eqb k v nv, look_older k (def_of r) (shape rs) (row_at rs v).base nb, look_older k (def_of r) (shape rs) (row_at rs v).root nr, ne_eqb k (row_at rs v).base nb, ne_eqb k (row_at rs v).root nr) s

-- with what it says of itself
abbrev told : Row → Origin → Ty → ℕ → ℕ → Triple → Row
told r o ty rt b t = record r { origin = o; ty = ty; root = rt; base = b; triple = t }

told_is : (r : Row) (o : Origin) (ty : Ty) (rt b : ℕ) (t : Triple) → r.origin ≡ o → r.ty ≡ ty → r.root ≡ rt → r.base ≡ b → r.triple ≡ t → told r o ty rt b t ≡ r
told_is r o ty rt b t eo ey er eb et =
    ap (λ x. told r x ty rt b t) (sym eo) ∙ ap (λ x. told r r.origin x rt b t) (sym ey) ∙ ap (λ x. told r r.origin r.ty x b t) (sym er) ∙ ap (λ x. told r r.origin r.ty r.root x t) (sym eb) ∙ ap (λ x. told r r.origin r.ty r.root r.base x) (sym et)

newest_root : (k : ℕ) (ds : List ℕ) (r : Row) (rs : Rows) → IsWhole (whole_triple ds) → SeenAt ((k, told r Root r.ty k k (whole_triple ds)) ∷ rs) k
newest_root k ds r rs w = rw (eq-eqb k k refl, eq-eqb k k refl) (record {
  looks = refl;
  windows = refl;
  count = length-map-range_with_len Some 0 (size_of ds);
  over = whole_over (map Some (range_with_len 0 (size_of ds))) (size_of ds) (length-map-range_with_len Some 0 (size_of ds)) ∙ ap (map (entry (map Some (range_with_len 0 (size_of ds))))) (sym w.in_order);
  fits = subst (λ (xs : List ℕ). Below (size_of ds) xs) (sym w.in_order) (below_range (size_of ds) 0 (size_of ds) (omega arith));
  within = whole_in (size_of ds);
  base_has = refl;
  base_low = omega arith;
  base_base = refl;
  base_root = refl;
  base_ty = refl;
  base_whole = w;
  root_has = refl;
  root_root = refl;
  root_base = refl;
  root_ty = refl;
  root_places = refl;
})

newest_own : (k p : ℕ) (t : Trans) (y : Layout) (ds : List ℕ) (r : Row) (rs : Rows) → NumbersBelow k rs → SeenAt rs p → child_dims t (row_at rs p).triple.dims ≡ Ok ds → over t (row_at rs p).triple ≡ None → IsWhole (whole_triple ds) → SeenAt ((k, told r (View p t y) (row_at rs p).ty (row_at rs p).root k (whole_triple ds)) ∷ rs) k
newest_own k p t y ds r rs b a d o w =
    let nr : k ≡ (row_at rs p).root → ⊥ = not_newest rs k (row_at rs p).root b a.root_has in
    let l : Look = record { root = (row_at rs p).root; ty = (row_at rs p).ty; dims = (row_at rs p).triple.dims; places = places_seen rs p } in
    let ps : List (Option ℕ) = parent_places ds l.dims (source t l.dims) in
    let count : length (through_places ps l.places) ≡ size_of ds = length-map ps (option_and_then (entry l.places)) ∙ length-map-range_with_len _ 0 (size_of ds) in
    rw (eq-eqb k k refl, eq-eqb k k refl, a.looks, a.windows, o, d, look_older k (view p t) (shape rs) (row_at rs p).root nr, ne_eqb k (row_at rs p).root nr) (record {
      looks = refl;
      windows = refl;
      count = count;
      over = whole_over (through_places ps l.places) (size_of ds) count ∙ ap (map (entry (through_places ps l.places))) (sym w.in_order);
      fits = subst (λ (xs : List ℕ). Below (size_of ds) xs) (sym w.in_order) (below_range (size_of ds) 0 (size_of ds) (omega arith));
      within = compose_in (size_of (row_at rs (row_at rs p).root).triple.dims) ps (places_seen rs p) a.within;
      base_has = refl;
      base_low = omega arith;
      base_base = refl;
      base_root = refl;
      base_ty = refl;
      base_whole = w;
      root_has = a.root_has;
      root_root = a.root_root;
      root_base = a.root_base;
      root_ty = a.root_ty;
      root_places = a.root_places;
    })

newest_over : (k p : ℕ) (t : Trans) (y : Layout) (u : Triple) (r : Row) (rs : Rows) → has rs p ≡ true → NumbersBelow k rs → SeenAt rs p → child_dims t (row_at rs p).triple.dims ≡ Ok u.dims → over t (row_at rs p).triple ≡ Some u → IsThroughBase (row_at rs p).triple (parent_places u.dims (row_at rs p).triple.dims (source t (row_at rs p).triple.dims)) u → SeenAt ((k, told r (View p t y) (row_at rs p).ty (row_at rs p).root (row_at rs p).base u) ∷ rs) k
newest_over k p t y u r rs h b a d o w =
    let low : (row_at rs p).base < k + 1 = (let x : (row_at rs p).base < p + 1 = a.base_low in let z : p < k = has_below rs k p b h in omega arith) in
    let nr : k ≡ (row_at rs p).root → ⊥ = not_newest rs k (row_at rs p).root b a.root_has in
    let nb : k ≡ (row_at rs p).base → ⊥ = not_newest rs k (row_at rs p).base b a.base_has in
    let l : Look = record { root = (row_at rs p).root; ty = (row_at rs p).ty; dims = (row_at rs p).triple.dims; places = places_seen rs p } in
    rw (eq-eqb k k refl, a.looks, a.windows, o, d, look_older k (view p t) (shape rs) (row_at rs p).base nb, look_older k (view p t) (shape rs) (row_at rs p).root nr, ne_eqb k (row_at rs p).base nb, ne_eqb k (row_at rs p).root nr) (record {
      looks = refl;
      windows = refl;
      count = length-map (parent_places u.dims l.dims (source t l.dims)) (option_and_then (entry l.places)) ∙ length-map-range_with_len _ 0 (size_of u.dims);
      over = ap (λ (xs : List (Option ℕ)). map (option_and_then (entry (places_seen rs p))) xs) w.places ∙ through_over (places_seen rs (row_at rs p).base) (places_seen rs p) (row_at rs p).triple w.at a.over w.below ∙ ap (map (entry (places_seen rs (row_at rs p).base))) (sym w.shows);
      fits = subst (λ (xs : List ℕ). Below (size_of (row_at rs (row_at rs p).base).triple.dims) xs) (sym w.shows) (below_map (size_of (row_at rs (row_at rs p).base).triple.dims) (row_at rs p).triple w.at a.fits w.below);
      within = compose_in (size_of (row_at rs (row_at rs p).root).triple.dims) (parent_places u.dims l.dims (source t l.dims)) (places_seen rs p) a.within;
      base_has = a.base_has;
      base_low = low;
      base_base = a.base_base;
      base_root = a.base_root;
      base_ty = a.base_ty;
      base_whole = a.base_whole;
      root_has = a.root_has;
      root_root = a.root_root;
      root_base = a.root_base;
      root_ty = a.root_ty;
      root_places = a.root_places;
    })

newest_view : (k p : ℕ) (t : Trans) (y : Layout) (r : Row) (rs : Rows) (o : Option Triple) → has rs p ≡ true → over t (row_at rs p).triple ≡ o → r.origin ≡ View p t y → NumbersBelow k rs → SeenAt rs p → child_dims t (row_at rs p).triple.dims ≡ Ok r.triple.dims → r.ty ≡ (row_at rs p).ty → r.root ≡ (row_at rs p).root → r.base ≡ base_over k (row_at rs p).base o → r.triple ≡ triple_over r.triple.dims o → IsLaid (row_at rs p).triple (parent_places r.triple.dims (row_at rs p).triple.dims (source t (row_at rs p).triple.dims)) (own_places r.triple.dims y) r.triple.dims o → SeenAt ((k, r) ∷ rs) k
newest_view k p t y r rs None hp e eo b a d ey er eb et w =
    subst (λ (x : Row). SeenAt ((k, x) ∷ rs) k) (told_is r (View p t y) (row_at rs p).ty (row_at rs p).root k (whole_triple r.triple.dims) eo ey er eb et) (newest_own k p t y r.triple.dims r rs b a d e w.whole)
newest_view k p t y r rs (Some u) hp e eo b a d ey er eb et w =
    let ds : r.triple.dims ≡ u.dims = ap (λ (x : Triple). x.dims) et in
    subst (λ (x : Row). SeenAt ((k, x) ∷ rs) k) (told_is r (View p t y) (row_at rs p).ty (row_at rs p).root (row_at rs p).base u eo ey er eb et)
    (newest_over k p t y u r rs hp b a (d ∙ ap Ok ds) e (subst (λ (x : List ℕ). IsThroughBase (row_at rs p).triple (parent_places x (row_at rs p).triple.dims (source t (row_at rs p).triple.dims)) u) ds w))

newest : (k : ℕ) (r : Row) (rs : Rows) (o : Origin) → r.origin ≡ o → NumbersBelow k rs → StillFrom rs k r o → ((v : ℕ) → has rs v ≡ true → SeenAt rs v) → SeenAt ((k, r) ∷ rs) k
newest k r rs Root e b d s =
    subst (λ (x : Row). SeenAt ((k, x) ∷ rs) k) (told_is r Root r.ty k k (whole_triple r.triple.dims) e refl d.root_is d.base_is d.whole.is) (newest_root k r.triple.dims r rs (subst (λ (x : Triple). IsWhole x) d.whole.is d.whole))
newest k r rs (View p t y) e b d s =
    newest_view k p t y r rs (over t (row_at rs p).triple) d.0 refl e b (s p d.0) d.1.allowed d.1.ty_is d.1.root_is d.1.base_is d.1.triple_is d.1.laid

seen_at : (rs : Rows) → IsStill rs → (v : ℕ) → has rs v ≡ true → SeenAt rs v
seen_at [] i v h = let x : false ≡ true = h in absurd (cc)
seen_at ((k, r) ∷ rs) i v h = elim (eqb_tells k v) [
  | inl t ↦ subst (λ (x : ℕ). SeenAt ((k, r) ∷ rs) x) t.1 (newest k r rs r.origin refl i.0 i.1 (seen_at rs i.2))
  | inr t ↦ (let l : has rs v ≡ true = rw t.0 at h in older k r rs v i.0 l (seen_at rs i.2 v l))
]

pub is_seen : (rs : Rows) → IsStill rs → (v : ℕ) → has rs v ≡ true → IsSeen rs v
is_seen rs i v h = let s : SeenAt rs v = seen_at rs i v h in
    record { looks = s.looks; windows = s.windows; count = s.count; over = s.over; fits = s.fits; within = s.within; base_has = s.base_has; base_low = s.base_low; base_base = s.base_base; base_root = s.base_root; base_ty = s.base_ty; base_whole = s.base_whole; root_has = s.root_has; root_root = s.root_root; root_base = s.root_base; root_ty = s.root_ty; root_places = s.root_places }

view_older : (k : ℕ) (r : Row) (rs : Rows) (v p : ℕ) (t : Trans) (y : Layout) → NumbersBelow k rs → has rs v ≡ true → IsViewAt rs v p t y → IsViewAt ((k, r) ∷ rs) v p t y
view_older k r rs v p t y b h a =
    let nv : k ≡ v → ⊥ = not_newest rs k v b h in
    let np : k ≡ p → ⊥ = not_newest rs k p b a.live in
    record { live = has_older k r rs p np ∙ a.live; older = a.older; derived = rw (ne_eqb k v nv, ne_eqb k p np) a.derived }

view_newest : (k : ℕ) (r : Row) (rs : Rows) (p : ℕ) (t : Trans) (y : Layout) → NumbersBelow k rs → StillFrom rs k r (View p t y) → IsViewAt ((k, r) ∷ rs) k p t y
view_newest k r rs p t y b s =
    let np : k ≡ p → ⊥ = not_newest rs k p b s.0 in
    record { live = has_older k r rs p np ∙ s.0; older = has_below rs k p b s.0; derived = rw (eq-eqb k k refl, ne_eqb k p np) s.1 }

pub view_at : (rs : Rows) → IsStill rs → (v p : ℕ) (t : Trans) (y : Layout) → has rs v ≡ true → (row_at rs v).origin ≡ View p t y → IsViewAt rs v p t y
view_at [] s v p t y h e = let x : false ≡ true = h in absurd (cc)
view_at ((k, r) ∷ rs) s v p t y h e = elim (eqb_tells k v) [
  | inl q ↦ (let o : r.origin ≡ View p t y = rw q.0 at e in
      let f : StillFrom rs k r (View p t y) = subst (λ (x : Origin). StillFrom rs k r x) o s.1 in
      subst (λ (x : ℕ). IsViewAt ((k, r) ∷ rs) x p t y) q.1 (view_newest k r rs p t y s.0 f))
  | inr q ↦ (let l : has rs v ≡ true = rw q.0 at h in view_older k r rs v p t y s.0 l (view_at rs s.2 v p t y l (rw q.0 at e)))
]
