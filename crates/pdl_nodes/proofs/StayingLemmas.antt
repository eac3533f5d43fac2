-- What stays where arrays go that none of the staying ones has above it.
use Rattle.std.proofs.Common.{◌≡◌, ℕ, ℤ, Bool, true, eqb, cond, List, [], ◌∷◌, Some, option_and_then, inl, inr, refl, sym, ◌∙◌, ap}
use Rattle.std.proofs.lemmas.Bool.{cases_Bool}
use Rattle.std.proofs.lemmas.Bool.Decides.{eqb_tells}
use Rattle.pdl_world.specs.World.{World, root, view, look, look_of_root, through}
use Rattle.pdl_nodes.specs.Staying.{staying, KeepsParents}
use Rattle.pdl_nodes.specs.declared.origin.Origin.{Origin}
use Rattle.pdl_nodes.specs.declared.origin.Origin.TheVariants.{Root, View}
use Rattle.pdl_nodes.specs.Row.{Row, parent_from}
use Rattle.pdl_nodes.specs.Rows.{Rows, has}
use Rattle.pdl_nodes.specs.Worlds.{shape, def_from, def_of, places_seen, with_elements}
use Rattle.pdl_nodes.specs.Still.{StillFrom, IsStill}
use Rattle.pdl_nodes.proofs.RowFinds.{other_than, row_stays, has_stays, below_stays}
use Rattle.std.proofs.lemmas.Bool.{ne_eqb}

-- what is still there stayed
pub stays : (t : ℕ → Bool) (rs : Rows) (v : ℕ) → has (staying t rs) v ≡ true → t v ≡ true
stays t [] v h = cc
stays t ((k, r) ∷ rs) v h = elim (cases_Bool (t k)) [
  | inl y ↦ elim (eqb_tells k v) [
    | inl e ↦ ap t (sym e.1) ∙ y
    | inr e ↦ stays t rs v (rw (y, e.0) at h)
  ]
  | inr n ↦ stays t rs v (rw n at h)
]

pub shape_stays : (t : ℕ → Bool) (rs : Rows) → shape (staying t rs) ≡ staying t (shape rs)
shape_stays t [] = refl
shape_stays t ((k, r) ∷ rs) = elim (cases_Bool (t k)) [
  | inl y ↦ rw y (ap (λ x. (k, def_of r) ∷ x) (shape_stays t rs))
  | inr n ↦ rw n (shape_stays t rs)
]

pub with_stays : (t : ℕ → Bool) (f : ℕ → List ℤ) (w : World) → with_elements f (staying t w) ≡ staying t (with_elements f w)
with_stays t f [] = refl
with_stays t f ((k, root ty n es) ∷ w) = elim (cases_Bool (t k)) [
  | inl y ↦ rw y (ap (λ x. (k, root ty n (f k)) ∷ x) (with_stays t f w))
  | inr n ↦ rw n (with_stays t f w)
]
with_stays t f ((k, view p u) ∷ w) = elim (cases_Bool (t k)) [
  | inl y ↦ rw y (ap (λ x. (k, view p u) ∷ x) (with_stays t f w))
  | inr n ↦ rw n (with_stays t f w)
]

-- the parent that a look goes on to
onward : (t : ℕ → Bool) (k p v : ℕ) → (t k ≡ true → t p ≡ true) → t v ≡ true → t (cond (eqb k v) p v) ≡ true
onward t k p v c h = elim (eqb_tells k v) [
  | inl e ↦ rw e.0 (c (ap t e.1 ∙ h))
  | inr e ↦ rw e.0 h
]

look_stays : (t : ℕ → Bool) (w : World) (v : ℕ) → KeepsParents t w → t v ≡ true → look (staying t w) v ≡ look w v
look_stays t [] v c h = refl
look_stays t ((k, root ty n es) ∷ w) v c h = elim (cases_Bool (t k)) [
  | inl y ↦ rw y (ap (λ x. cond (eqb k v) (Some (look_of_root k ty n)) x) (look_stays t w v c h))
  | inr m ↦ rw (m, ne_eqb k v (other_than t k v m h)) (look_stays t w v c h)
]
look_stays t ((k, view p u) ∷ w) v c h = elim (cases_Bool (t k)) [
  | inl y ↦ rw y (ap (λ o. cond (eqb k v) (option_and_then (through u) o) o) (look_stays t w (cond (eqb k v) p v) c.1 (onward t k p v c.0 h)))
  | inr m ↦ rw (m, ne_eqb k v (other_than t k v m h)) (look_stays t w v c.1 h)
]

pub places_stay : (t : ℕ → Bool) (rs : Rows) (v : ℕ) → KeepsParents t (shape rs) → t v ≡ true → places_seen (staying t rs) v ≡ places_seen rs v
places_stay t rs v c h = rw (shape_stays t rs, look_stays t (shape rs) v c h) refl

still_from : (t : ℕ → Bool) (rs : Rows) (k : ℕ) (r : Row) (o : Origin) → ((p : ℕ) → parent_from o ≡ Some p → t p ≡ true) → StillFrom rs k r o → StillFrom (staying t rs) k r o
still_from t rs k r Root c s = s
still_from t rs k r (View p u y) c s =
    let e : t p ≡ true = c p refl in
    rw (row_stays t rs p e, has_stays t rs p e) s

-- what KeepsParents says of a row
closed_head : (t : ℕ → Bool) (k : ℕ) (r : Row) (o : Origin) (w : World) → KeepsParents t ((k, def_from r.ty r.triple.dims o) ∷ w) → t k ≡ true → (p : ℕ) → parent_from o ≡ Some p → t p ≡ true
closed_head t k r Root w c y p e = absurd (cc)
closed_head t k r (View q z l) w c y p e = let f : q ≡ p = cc in ap t (sym f) ∙ c.0 y

pub closed_tail : (t : ℕ → Bool) (k : ℕ) (r : Row) (o : Origin) (w : World) → KeepsParents t ((k, def_from r.ty r.triple.dims o) ∷ w) → KeepsParents t w
closed_tail t k r Root w c = c
closed_tail t k r (View q z l) w c = c.1

-- what stays is derived as before
pub still_stays : (t : ℕ → Bool) (rs : Rows) → KeepsParents t (shape rs) → IsStill rs → IsStill (staying t rs)
still_stays t [] c s = tt
still_stays t ((k, r) ∷ rs) c s =
    let tail : IsStill (staying t rs) = still_stays t rs (closed_tail t k r r.origin (shape rs) c) s.2 in
    elim (cases_Bool (t k)) [
      | inl y ↦ rw y (below_stays t k rs s.0, still_from t rs k r r.origin (closed_head t k r r.origin (shape rs) c y) s.1, tail)
      | inr m ↦ rw m tail
    ]
