-- Rows that are alike keep what the types of their arrays keep.
use Rattle.std.proofs.Common.{◌≡◌, ℕ, true, false, [], ◌∷◌, Some, inl, inr, refl, sym, ◌∙◌, ap, subst}
use Rattle.pdl_shape.specs.Shape.{IsDims}
use Rattle.pdl_shape.specs.Triple.{IsTriple, Triple}
use Rattle.pdl_nodes.specs.Alike.{IsAlike}
use Rattle.pdl_nodes.specs.Joined.{LaidOver}
use Rattle.pdl_nodes.specs.declared.origin.Origin.{Origin}
use Rattle.pdl_nodes.specs.declared.origin.Origin.TheVariants.{Root, View}
use Rattle.pdl_nodes.specs.Row.{Row, parent_from, parent_of}
use Rattle.pdl_nodes.specs.Rows.{Rows, row_at, has}
use Rattle.pdl_nodes.specs.Sized.{IsLayout, LaidFrom, AreSized}
use Rattle.pdl_nodes.specs.Still.{StillFrom, IsStill}
use Rattle.pdl_nodes.proofs.SizedBelow.{sized_at}
use Rattle.std.proofs.lemmas.Bool.Decides.{eqb_tells}
use Rattle.pdl_nodes.proofs.RowFinds.{not_newest}
use Rattle.pdl_nodes.proofs.AlikePaths.{parent_live}
use Rattle.pdl_nodes.proofs.RowsSeen.{row_older, has_older}
use Rattle.pdl_nodes.specs.Sized.{IsWithinLimits}
use Rattle.std.proofs.lemmas.Bool.{eq-eqb}

laid_from_over : (rs : Rows) (o : Origin) → ((p : ℕ) → parent_from o ≡ Some p → LaidOver o (row_at rs p).triple.dims) → LaidFrom rs o
laid_from_over rs Root f = tt
laid_from_over rs (View p t y) f = f p refl

above_live : (rs : Rows) (k : ℕ) (r : Row) (o : Origin) (p : ℕ) → StillFrom rs k r o → parent_from o ≡ Some p → has rs p ≡ true
above_live rs k r Root p s e = cc
above_live rs k r (View q t y) p s e = (let z : q ≡ p = cc in ap (has rs) (sym z) ∙ s.0)

laid_at_from : (rs : Rows) (o : Origin) (p : ℕ) → parent_from o ≡ Some p → LaidFrom rs o → LaidOver o (row_at rs p).triple.dims
laid_at_from rs Root p e l = tt
laid_at_from rs (View q t y) p e l = (let z : q ≡ p = cc in let P : ℕ → Type 0 = λ x. IsLayout t (row_at rs x).triple.dims y in subst P z l)

laid_at : (rs : Rows) → IsStill rs → AreSized rs → (u p : ℕ) → has rs u ≡ true → parent_of (row_at rs u) ≡ Some p → LaidOver (row_at rs u).origin (row_at rs p).triple.dims
laid_at [] s z u p h e = (let q : false ≡ true = h in absurd (cc))
laid_at ((k, r) ∷ rs) s z u p h e = elim (eqb_tells k u) [
  | inl t ↦ (let f : parent_of r ≡ Some p = rw t.0 at e in
      let g : has rs p ≡ true = above_live rs k r r.origin p s.1 f in
      rw (t.0, row_older k r rs p (not_newest rs k p s.0 g)) (laid_at_from rs r.origin p f z.0.laid))
  | inr t ↦ (let f : parent_of (row_at rs u) ≡ Some p = rw t.0 at e in
      let l : has rs u ≡ true = rw t.0 at h in
      let g : has rs p ≡ true = (parent_live rs u p s.2 l f).0 in
      rw (t.0, row_older k r rs p (not_newest rs k p s.0 g)) (laid_at rs s.2 z.1 u p l f))
]

sized_points : (rs : Rows) → IsStill rs → ((v : ℕ) → has rs v ≡ true → IsWithinLimits (row_at rs v)) → ((u p : ℕ) → has rs u ≡ true → parent_of (row_at rs u) ≡ Some p → LaidOver (row_at rs u).origin (row_at rs p).triple.dims) → AreSized rs
sized_points [] s w l = tt
sized_points ((k, r) ∷ rs) s w l =
    let row : row_at ((k, r) ∷ rs) k ≡ r = rw (eq-eqb k k refl) refl in
    let here : has ((k, r) ∷ rs) k ≡ true = rw (eq-eqb k k refl) refl in
    let z : IsWithinLimits r = subst IsWithinLimits row (w k here) in (
      record {
        within = z;
        laid = laid_from_over rs r.origin (λ p e. (let g : has rs p ≡ true = above_live rs k r r.origin p s.1 e in
            let n : k ≡ p → ⊥ = not_newest rs k p s.0 g in
            let P : Row → Type 0 = λ x. LaidOver x.origin (row_at ((k, r) ∷ rs) p).triple.dims in
            let Q : Row → Type 0 = λ x. LaidOver r.origin x.triple.dims in
            subst Q (row_older k r rs p n) (subst P row (l k p here (ap parent_of row ∙ e)))));
      },
      sized_points rs s.2
          (λ v h. (let n : k ≡ v → ⊥ = not_newest rs k v s.0 h in subst IsWithinLimits (row_older k r rs v n) (w v (has_older k r rs v n ∙ h))))
          (λ u p h e. (let n : k ≡ u → ⊥ = not_newest rs k u s.0 h in
          let g : has rs p ≡ true = live_above rs s.2 u p h e in
          let m : k ≡ p → ⊥ = not_newest rs k p s.0 g in
          let P : Row → Type 0 = λ x. LaidOver x.origin (row_at ((k, r) ∷ rs) p).triple.dims in
          let Q : Row → Type 0 = λ x. LaidOver (row_at rs u).origin x.triple.dims in
          subst Q (row_older k r rs p m) (subst P (row_older k r rs u n) (l u p (has_older k r rs u n ∙ h) (ap parent_of (row_older k r rs u n) ∙ e))))),
    ) where
      live_above : (rs : Rows) → IsStill rs → (u p : ℕ) → has rs u ≡ true → parent_of (row_at rs u) ≡ Some p → has rs p ≡ true
      live_above rs s u p h e = (parent_live rs u p s h e).0

pub sized_alike : (old new : Rows) → IsStill old → IsStill new → IsAlike old new → AreSized old → AreSized new
sized_alike old new s n a z = sized_points new n
    (λ v h. (let w : IsWithinLimits (row_at old v) = sized_at old z v (sym (a.has_is v) ∙ h) in record {
      triple = subst IsTriple (sym (a.triple_is v)) w.triple;
      limits = (let P : Triple → Type 0 = λ x. IsDims x.dims in subst P (sym (a.triple_is v)) w.limits);
    }))
    (λ u p h e. (let P : Origin → Type 0 = λ o. LaidOver o (row_at new p).triple.dims in
    let Q : Triple → Type 0 = λ x. LaidOver (row_at old u).origin x.dims in
    subst P (sym (a.origin_is u)) (subst Q (sym (a.triple_is p)) (laid_at old s z u p (sym (a.has_is u) ∙ h) (ap parent_from (sym (a.origin_is u)) ∙ e)))))
