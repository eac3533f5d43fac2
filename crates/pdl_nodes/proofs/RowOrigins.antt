-- Roots have buffers, and other arrays have parents.
use Rattle.std.proofs.Common.{◌≡◌, ℕ, true, false, [], ◌∷◌, is_some, inl, inr, refl, sym, ◌∙◌, ap, None}
use Rattle.std.proofs.lemmas.Bool.Decides.{eqb_tells}
use Rattle.pdl_nodes.specs.Row.{Row, parent_from, parent_of, has_buffer, is_buffered}
use Rattle.pdl_nodes.specs.Rows.{Rows, row_at, has, NumbersBelow}
use Rattle.pdl_nodes.specs.Still.{StillFrom, IsStill}
use Rattle.pdl_nodes.proofs.RowFinds.{not_newest}
use Rattle.pdl_nodes.proofs.RowsSeen.{is_seen}
use Rattle.pdl_nodes.specs.declared.origin.Origin.{Origin}
use Rattle.pdl_nodes.specs.declared.origin.Origin.TheVariants.{Root, View}
use Rattle.std.proofs.Math.Bool.{or-true}

root_from : (rs : Rows) (k : ℕ) (r : Row) (o : Origin) → r.origin ≡ o → IsStill rs → NumbersBelow k rs → StillFrom rs k r o → r.root ≡ k → r.origin ≡ Root
root_from rs k r Root e i b s h = e
root_from rs k r (View p t y) e i b s h = absurd (not_newest rs k (row_at rs p).root b (is_seen rs i p s.0).root_has (sym h ∙ s.1.root_is))

-- an array that is its own root is a root
root_origin : (rs : Rows) → IsStill rs → (v : ℕ) → has rs v ≡ true → (row_at rs v).root ≡ v → (row_at rs v).origin ≡ Root
root_origin [] s v h e = let x : false ≡ true = h in absurd (cc)
root_origin ((k, r) ∷ rs) s v h e = elim (eqb_tells k v) [
  | inl t ↦ rw t.0 (root_from rs k r r.origin refl s.2 s.0 s.1 (let x : r.root ≡ v = rw t.0 at e in x ∙ sym t.1))
  | inr t ↦ rw t.0 (root_origin rs s.2 v (rw t.0 at h) (rw t.0 at e))
]

view_from : (rs : Rows) (k : ℕ) (r : Row) (o : Origin) → r.origin ≡ o → StillFrom rs k r o → (r.root ≡ k → ⊥) → is_some (parent_of r) ≡ true
view_from rs k r Root e s n = absurd (n s.root_is)
view_from rs k r (View p t y) e s n = ap (λ o. is_some (parent_from o)) e

-- another array has a parent
pub view_parent : (rs : Rows) → IsStill rs → (v : ℕ) → has rs v ≡ true → ((row_at rs v).root ≡ v → ⊥) → is_some (parent_of (row_at rs v)) ≡ true
view_parent [] s v h n = let x : false ≡ true = h in absurd (cc)
view_parent ((k, r) ∷ rs) s v h n = elim (eqb_tells k v) [
  | inl t ↦ rw t.0 (view_from rs k r r.origin refl s.1 (λ x. n (rw t.0 (x ∙ t.1))))
  | inr t ↦ rw t.0 (view_parent rs s.2 v (rw t.0 at h) (λ x. n (rw t.0 x)))
]

-- an array without a parent is its own root
pub own_root : (rs : Rows) (v : ℕ) → IsStill rs → has rs v ≡ true → parent_of (row_at rs v) ≡ None → (row_at rs v).root ≡ v
own_root rs v s h e = elim (eqb_tells (row_at rs v).root v) [
  | inl t ↦ t.1
  | inr t ↦ (let z : true ≡ false = sym (view_parent rs s v h t.1) ∙ ap is_some e in absurd (cc))
]

-- a root has a buffer
pub root_buffered : (rs : Rows) → IsStill rs → (v : ℕ) → has rs v ≡ true → (row_at rs v).root ≡ v → is_buffered (row_at rs v) ≡ true
root_buffered rs s v h e = ap (λ o. has_buffer (row_at rs v).mark o) (root_origin rs s v h e) ∙ or-true (row_at rs v).mark
