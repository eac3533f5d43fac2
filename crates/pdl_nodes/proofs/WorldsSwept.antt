-- What stays is in order, and its world is what stays of the world.
use Rattle.std.proofs.Common.{◌≡◌, ℕ, ℤ, Bool, true, false, cond, List, [], ◌∷◌, ◌++◌, Option, Some, None, inl, inr, refl, sym, ◌∙◌, ap}
use Rattle.std.proofs.Math.Path.{fun_ext}
use Rattle.std.proofs.lemmas.Bool.Decides.{eqb_tells}
use Rattle.pdl_elem.specs.declared.Ty.{Ty}
use Rattle.pdl_world.specs.World.{World, ArrayDef, root, view}
use Rattle.pdl_world.specs.Swept.{is_listed, parents, kept_onto, sweep}
use Rattle.pdl_nodes.specs.Staying.{staying, passed, KeepsParents}
use Rattle.pdl_nodes.specs.declared.origin.Origin.{Origin}
use Rattle.pdl_nodes.specs.declared.origin.Origin.TheVariants.{Root, View}
use Rattle.pdl_nodes.specs.Row.{Row, parent_from, parent_of}
use Rattle.pdl_nodes.specs.Rows.{Rows, has, reached}
use Rattle.pdl_nodes.specs.Worlds.{shape, def_from, def_of, latest, world_of, with_elements, IsRoot}
use Rattle.pdl_nodes.specs.Still.{StillFrom, IsStill}
use Rattle.pdl_nodes.specs.Families.{IsWaiting, InOrder}
use Rattle.pdl_nodes.specs.Released.{KeepsWaiting}
use Rattle.pdl_nodes.proofs.WorldFamilies.{with_roots}
use Rattle.pdl_nodes.proofs.RowFinds.{not_newest, row_stays, has_stays, older_has}
use Rattle.pdl_nodes.proofs.HoldsReached.{staying_live}
use Rattle.pdl_nodes.proofs.FamilySames.{IsSame, IsSameFamily, latest_same, family_same}
use Rattle.pdl_nodes.proofs.RowShapes.{marked_live}
use Rattle.pdl_nodes.proofs.StayingLemmas.{stays, shape_stays, with_stays, places_stay, still_stays}
use Rattle.std.proofs.lemmas.Bool.{eq-eqb, ne_eqb}

is_same : (t : ℕ → Bool) (rs : Rows) (v : ℕ) → KeepsParents t (shape rs) → t v ≡ true → IsSame rs (staying t rs) v
is_same t rs v c h = record { row = row_stays t rs v h; places = places_stay t rs v c h }

root_stays : (t : ℕ → Bool) (rs : Rows) (r : ℕ) → IsRoot (staying t rs) r → IsRoot rs r
root_stays t rs r i =
    let y : t r ≡ true = stays t rs r i.0 in
    (sym (has_stays t rs r y) ∙ i.0, ap (λ x. x.root) (sym (row_stays t rs r y)) ∙ i.1)

same_family : (t : ℕ → Bool) (rs : Rows) (r : ℕ) → KeepsParents t (shape rs) → KeepsWaiting t rs → InOrder rs → IsRoot (staying t rs) r → IsSameFamily rs (staying t rs) r
same_family t rs r c w o i =
    let y : t r ≡ true = stays t rs r i.0 in
    let j : IsRoot rs r = root_stays t rs r i in
    record {
      root = is_same t rs r c y;
      marked = λ b mk g. is_same t rs b c (stays t rs b (marked_live (staying t rs) b mk));
      waits = λ v e. (let z : t v ≡ true = w r v j y e in
          let a : IsWaiting rs r v = (o.family r j).waits v e in
          (is_same t rs v c z, has_stays t rs v z ∙ a.live));
    }

-- what stays is in order
pub order_stays : (t : ℕ → Bool) (rs : Rows) → KeepsParents t (shape rs) → KeepsWaiting t rs → InOrder rs → InOrder (staying t rs)
order_stays t rs c w o = record {
  still = still_stays t rs c o.still;
  family = λ r i. family_same rs (staying t rs) r (same_family t rs r c w o i) (o.family r (root_stays t rs r i));
}

-- the world of what stays is what stays of the world
pub world_stays : (t : ℕ → Bool) (rs : Rows) → KeepsParents t (shape rs) → KeepsWaiting t rs → InOrder rs → world_of (staying t rs) ≡ staying t (world_of rs)
world_stays t rs c w o =
    with_roots (latest (staying t rs)) (latest rs) (staying t rs) (still_stays t rs c o.still) (λ r i. latest_same rs (staying t rs) r (same_family t rs r c w o i))
    ∙ ap (with_elements (latest rs)) (shape_stays t rs)
    ∙ with_stays t (latest rs) (shape rs)

either : (b : Bool) → cond b true true ≡ true
either true = refl
either false = refl

-- what was held is held on
held_on : (o : Option ℕ) (b : Bool) (held : ℕ → Bool) (v : ℕ) → held v ≡ true → passed o b held v ≡ true
held_on None b held v h = h
held_on (Some p) b held v h = elim (eqb_tells p v) [
  | inl e ↦ rw (e.0, h) (either b)
  | inr e ↦ rw e.0 h
]

-- a held array is reached
held_reached : (rs : Rows) (held : ℕ → Bool) (v : ℕ) → held v ≡ true → reached rs held v ≡ true
held_reached [] held v h = h
held_reached ((k, r) ∷ rs) held v h = elim (eqb_tells k v) [
  | inl e ↦ rw e.0 (ap held e.1 ∙ h)
  | inr e ↦ rw e.0 (held_reached rs (passed (parent_of r) (held k) held) v (held_on (parent_of r) (held k) held v h))
]

-- of an older array the rest of the table tells
reached_older : (k : ℕ) (r : Row) (rs : Rows) (held : ℕ → Bool) (v : ℕ) → (k ≡ v → ⊥) → reached ((k, r) ∷ rs) held v ≡ reached rs (passed (parent_of r) (held k) held) v
reached_older k r rs held v n = rw (ne_eqb k v n) refl

closed_from : (t u : ℕ → Bool) (rs : Rows) (k : ℕ) (r : Row) (o : Origin) → t k ≡ u k → ((p : ℕ) → has rs p ≡ true → t p ≡ u p) → StillFrom rs k r o → (KeepsParents t (shape rs) → KeepsParents u (shape rs)) → KeepsParents t ((k, def_from r.ty r.triple.dims o) ∷ shape rs) → KeepsParents u ((k, def_from r.ty r.triple.dims o) ∷ shape rs)
closed_from t u rs k r Root ek e s f c = f c
closed_from t u rs k r (View p z y) ek e s f c = (λ h. sym (e p s.0) ∙ c.0 (ek ∙ h), f c.1)

-- tests that agree on what is live
closed_same : (t u : ℕ → Bool) (rs : Rows) → IsStill rs → ((v : ℕ) → has rs v ≡ true → t v ≡ u v) → KeepsParents t (shape rs) → KeepsParents u (shape rs)
closed_same t u [] s e c = tt
closed_same t u ((k, r) ∷ rs) s e c =
    closed_from t u rs k r r.origin (e k (rw (eq-eqb k k refl) refl)) (λ p h. e p (older_has k r rs p h)) s.1 (λ d. closed_same t u rs s.2 (λ v h. e v (older_has k r rs v h)) d) c

head_closed : (t held : ℕ → Bool) (k : ℕ) (r : Row) (rs : Rows) (o : Origin) → StillFrom rs k r o → t k ≡ held k → ((p : ℕ) → parent_from o ≡ Some p → has rs p ≡ true → held k ≡ true → t p ≡ true) → KeepsParents t (shape rs) → KeepsParents t ((k, def_from r.ty r.triple.dims o) ∷ shape rs)
head_closed t held k r rs Root s e h c = c
head_closed t held k r rs (View p z y) s e h c = (λ g. h p refl s.0 (sym e ∙ g), c)

-- what a held array reaches has its parents
pub reached_closed : (rs : Rows) (held : ℕ → Bool) → IsStill rs → KeepsParents (reached rs held) (shape rs)
reached_closed [] held s = tt
reached_closed ((k, r) ∷ rs) held s =
    head_closed (reached ((k, r) ∷ rs) held) held k r rs r.origin s.1 (rw (eq-eqb k k refl) refl)
    (λ p e l g. reached_older k r rs held p (not_newest rs k p s.0 l) ∙ held_reached rs (passed (parent_of r) (held k) held) p (ap (λ o. passed o (held k) held p) e ∙ rw (eq-eqb p p refl, g) refl))
    (closed_same (reached rs (passed (parent_of r) (held k) held)) (reached ((k, r) ∷ rs) held) rs s.2
    (λ v h. sym (reached_older k r rs held v (not_newest rs k v s.0 h)))
    (reached_closed rs (passed (parent_of r) (held k) held) s.2))

-- the parents of what was passed are held too
passed_holds : (held : List ℕ) (v : ℕ) (ty : Ty) (ds : List ℕ) (o : Origin) (b : Bool) → is_listed (cond b (parents (def_from ty ds o) ++ held) held) v ≡ passed (parent_from o) b (is_listed held) v
passed_holds held v ty ds Root true = refl
passed_holds held v ty ds Root false = refl
passed_holds held v ty ds (View p t y) false = elim (eqb_tells p v) [ inl e ↦ rw e.0 refl | inr e ↦ rw e.0 refl ]
passed_holds held v ty ds (View p t y) true = elim (eqb_tells p v) [ inl e ↦ rw e.0 refl | inr e ↦ rw e.0 refl ]

-- one pass over the world finds what is reached
pub sweep_is : (rs : Rows) (held : List ℕ) → IsStill rs → sweep (shape rs) held ≡ staying (reached rs (is_listed held)) (shape rs)
sweep_is [] held s = refl
sweep_is ((k, r) ∷ rs) held s =
    let on : List ℕ = cond (is_listed held k) (parents (def_of r) ++ held) held in
    let t : ℕ → Bool = reached rs (is_listed on) in
    let u : ℕ → Bool = reached ((k, r) ∷ rs) (is_listed held) in
    let same_test : is_listed on ≡ passed (parent_of r) (is_listed held k) (is_listed held) = fun_ext (λ v. passed_holds held v r.ty r.triple.dims r.origin (is_listed held k)) in
    let agree : staying t rs ≡ staying u rs = staying_live t u rs (λ v h. ap (λ g. reached rs g v) same_test ∙ sym (reached_older k r rs (is_listed held) v (not_newest rs k v s.0 h))) in
    let tail : sweep (shape rs) on ≡ staying u (shape rs) = sweep_is rs on s.2 ∙ sym (shape_stays t rs) ∙ ap shape agree ∙ shape_stays u rs in
    ap (kept_onto (is_listed held k) (k, def_of r)) tail
    ∙ ap (λ b. cond b ((k, def_of r) ∷ staying u (shape rs)) (staying u (shape rs))) (sym (let e : reached ((k, r) ∷ rs) (is_listed held) k ≡ is_listed held k = rw (eq-eqb k k refl) refl in e))

kept_both : (f : ℕ → List ℤ) (b : Bool) (k : ℕ) (d e : ArrayDef) (x y : World) → x ≡ with_elements f y → ((z : World) → (k, d) ∷ with_elements f z ≡ with_elements f ((k, e) ∷ z)) → kept_onto b (k, d) x ≡ with_elements f (kept_onto b (k, e) y)
kept_both f true k d e x y h c = ap (λ z. (k, d) ∷ z) h ∙ c y
kept_both f false k d e x y h c = h

-- a sweep doesn't look at elements
pub sweep_with : (f : ℕ → List ℤ) (w : World) (held : List ℕ) → sweep (with_elements f w) held ≡ with_elements f (sweep w held)
sweep_with f [] held = refl
sweep_with f ((k, root ty ds es) ∷ w) held = kept_both f (is_listed held k) k (root ty ds (f k)) (root ty ds es) _ _ (sweep_with f w (cond (is_listed held k) held held)) (λ z. refl)
sweep_with f ((k, view p t) ∷ w) held = kept_both f (is_listed held k) k (view p t) (view p t) _ _ (sweep_with f w (cond (is_listed held k) (p ∷ held) held)) (λ z. refl)
