-- The elements of roots, and that other elements of the type leave a world sound.
use Rattle.std.proofs.Common.{◌==◌, if◌then◌else◌, ◌≡◌, ℕ, ℤ, ◌<◌, List, [], ◌∷◌, length, All, Option, Some, IsSomeAnd, inl, inr, refl, sym, ◌∙◌, ap, subst, arith}
use Rattle.std.proofs.lemmas.Bool.{eq-eqb, ne_eqb}
use Rattle.std.proofs.lemmas.Bool.Decides.{eqb_tells}
use Rattle.pdl_elem.specs.declared.Ty.{Ty}
use Rattle.pdl_elem.specs.Types.{InRange}
use Rattle.pdl_world.specs.Formula.{child_dims}
use Rattle.pdl_world.specs.Paths.{path}
use Rattle.pdl_world.specs.Refused.{refusal_at}
use Rattle.pdl_world.specs.declared.Trans.{Trans}
use Rattle.std.specs.Option.{option_map_or}
use Rattle.pdl_world.specs.World.{World, ArrayDef, root, view, Look, look_of_root, look, dims_in, root_elements, set_elements}
use Rattle.pdl_world.specs.Sound.{IsShowable, IsSound}
use Rattle.pdl_world.proofs.WorldLooks.{through_root, look_root, look_view, root_below, look_set, below_set, set_past, path_set}

-- a root that isn't the newest array has the elements that it had
pub elements_older : (k : ℕ) (d : ArrayDef) (w : World) (r : ℕ) → r < k → root_elements ((k, d) ∷ w) r ≡ root_elements w r
elements_older k (root ty ds es) w r h = rw (ne_eqb k r (omega arith)) refl
elements_older k (view p t) w r h = refl

-- the elements of the root of what is seen are those that were set
pub elements_set_same : (w : World) (v : ℕ) (l : Look) (new : List ℤ) → look w v ≡ Some l → root_elements (set_elements w l.root new) l.root ≡ new
elements_set_same [] v l new h = cc
elements_set_same ((k, root ty ds es) ∷ w) v l new h = elim (look_root k ty ds es w v l h) [
  | inl e ↦ rw (eq-eqb k l.root (ap (λ m. m.root) e.1)) refl
  | inr e ↦ elim (eqb_tells k l.root) [
    | inl t ↦ rw t.0 refl
    | inr t ↦ rw t.0 (elements_set_same w v l new e.1)
  ]
]
elements_set_same ((k, view p t) ∷ w) v l new h = elim (look_view k p t w v l h) [
  | inl e ↦ (let r = through_root t e.1.above l e.1.shows in
      let P : ℕ → Type 0 = λ r. root_elements (set_elements w r new) r ≡ new in
      subst P r.root_is (elements_set_same w p e.1.above new e.1.parent))
  | inr e ↦ elements_set_same w v l new e.1
]

-- and no other root has other elements
pub elements_set_other : (w : World) (r s : ℕ) (new : List ℤ) → (r ≡ s → ⊥) → root_elements (set_elements w r new) s ≡ root_elements w s
elements_set_other [] r s new h = refl
elements_set_other ((k, root ty ds es) ∷ w) r s new h = elim (eqb_tells k s) [
  | inl t ↦ rw (t.0, ne_eqb k r (λ e. h (sym e ∙ t.1))) refl
  | inr t ↦ rw t.0 (elements_set_other w r s new h)
]
elements_set_other ((k, view p t) ∷ w) r s new h = elements_set_other w r s new h

-- what a sound world says of what is seen: the elements of its root are numbers of its type
pub seen_in_range : (w : World) (v : ℕ) (l : Look) → IsSound w → look w v ≡ Some l → All (InRange l.ty) (root_elements w l.root)
seen_in_range [] v l s h = cc
seen_in_range ((k, root ty ds es) ∷ w) v l s h = elim (look_root k ty ds es w v l h) [
  | inl e ↦ (let P : Look → Type 0 = λ m. All (InRange m.ty) (root_elements ((k, root ty ds es) ∷ w) m.root) in
      subst P e.1 (rw (eq-eqb k k refl) s.1.1.in_range))
  | inr e ↦ rw (elements_older k (root ty ds es) w l.root (root_below w k v l s.0 e.1)) (seen_in_range w v l s.2 e.1)
]
seen_in_range ((k, view p t) ∷ w) v l s h = elim (look_view k p t w v l h) [
  | inl e ↦ (let r = through_root t e.1.above l e.1.shows in
      let P : ℕ → Type 0 = λ r. All (InRange l.ty) (root_elements w r) in
      let Q : Ty → Type 0 = λ ty. All (InRange ty) (root_elements w e.1.above.root) in
      subst P r.root_is (subst Q r.ty_is (seen_in_range w p e.1.above s.2 e.1.parent)))
  | inr e ↦ seen_in_range w v l s.2 e.1
]

-- what is seen so through the same path can be shown so
pub showable : (w new : World) (p : ℕ) (t : Trans) → look new p ≡ look w p → path new p ≡ path w p → IsShowable w p t → IsShowable new p t
showable w new p t looks paths s =
    let P : Option Look → Type 0 = λ o. IsSomeAnd o (λ l. Unit {0}) in
    record {
      well_formed = s.well_formed;
      live = subst P (sym looks) s.live;
      allowed =
          ap (λ ps. refusal_at ps (child_dims t (dims_in new p))) paths
          ∙ ap (λ o. refusal_at (path w p) (child_dims t (option_map_or (λ l. l.dims) o []))) looks
          ∙ s.allowed;
    }

-- as many other elements of the type leave the world sound
pub sound_set : (w : World) (v : ℕ) (l : Look) (new : List ℤ) → IsSound w → look w v ≡ Some l → length new ≡ length (root_elements w l.root) → All (InRange l.ty) new → IsSound (set_elements w l.root new)
sound_set [] v l new s h c a = tt
sound_set ((k, root ty ds es) ∷ w) v l new s h c a = elim (look_root k ty ds es w v l h) [
  | inl e ↦ (let P : Look → Type 0 = λ m. length new ≡ length (root_elements ((k, root ty ds es) ∷ w) m.root) → All (InRange m.ty) new → IsSound (set_elements ((k, root ty ds es) ∷ w) m.root new) in
      let here : P (look_of_root k ty ds) = λ count fits.
      (let count' : length new ≡ length es = rw (eq-eqb k k refl) at count in
      rw (eq-eqb k k refl, set_past w k k new s.0 (omega arith)) (s.0, (s.1.0, record { count = count' ∙ s.1.1.count; in_range = fits }), s.2)) in
      subst P e.1 here c a)
  | inr e ↦ (let low : l.root < k = root_below w k v l s.0 e.1 in
      let count : length new ≡ length (root_elements w l.root) = c ∙ ap length (elements_older k (root ty ds es) w l.root low) in
      rw (ne_eqb k l.root (omega arith)) (below_set w k l.root new s.0, s.1, sound_set w v l new s.2 e.1 count a))
]
sound_set ((k, view p t) ∷ w) v l new s h c a =
    let rest : IsSound (set_elements w l.root new) = elim (look_view k p t w v l h) [
      | inl e ↦ (let r = through_root t e.1.above l e.1.shows in
          let Q : ℕ → Type 0 = λ r. length new ≡ length (root_elements w r) in
          let P : ℕ → Type 0 = λ r. IsSound (set_elements w r new) in
          let R : Ty → Type 0 = λ ty. All (InRange ty) new in
          subst P r.root_is (sound_set w p e.1.above new s.2 e.1.parent (subst Q (sym r.root_is) c) (subst R (sym r.ty_is) a)))
      | inr e ↦ sound_set w v l new s.2 e.1 c a
    ] in
    (below_set w k l.root new s.0, showable w (set_elements w l.root new) p t (look_set w l.root new p) (path_set w l.root new p) s.1, rest)

-- the elements of any root after others were set at that of what is seen
pub elements_set : (w : World) (v : ℕ) (l : Look) (r : ℕ) (new : List ℤ) → look w v ≡ Some l → root_elements (set_elements w l.root new) r ≡ (if r == l.root then new else root_elements w r)
elements_set w v l r new h = elim (eqb_tells r l.root) [
  | inl t ↦ rw t.0 (ap (λ q. root_elements (set_elements w l.root new) q) t.1 ∙ elements_set_same w v l new h)
  | inr t ↦ rw t.0 (elements_set_other w l.root r new (λ e. t.1 (sym e)))
]
