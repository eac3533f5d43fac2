-- What the crates below say, and what it says of rows.
use Rattle.std.proofs.Common.{◌≡◌, ℕ, true, false, List, [], ◌∷◌, Option, Some, None, Ok, inl, inr, refl, sym, ◌∙◌}
use Rattle.std.proofs.lemmas.Bool.Decides.{eqb_tells}
use Rattle.pdl_shape.specs.Laws.{WholesAreTriples}
use Rattle.pdl_shape.specs.Shape.{IsDims}
use Rattle.pdl_shape.specs.Triple.{IsTriple, Triple}
use Rattle.pdl_affine.specs.Laws.{IsViewOver}
use Rattle.pdl_world.specs.declared.Trans.{Trans}
use Rattle.pdl_world.specs.declared.Trans.TheVariants as trans
use Rattle.pdl_world.specs.Formula.{child_dims}
use Rattle.pdl_world.specs.Windows.{over}
use Rattle.pdl_nodes.specs.Rows.{Rows, row_at, has}
use Rattle.pdl_nodes.specs.Sized.{AreSized, IsWithinLimits}
use Rattle.pdl_nodes.specs.Still.{triple_over}
use Rattle.pdl_nodes.proofs.StillLaid.{ViewLaws}

-- what the crates below say
pub record LawsBelow : Type 0 where
  pub views : ViewLaws
  pub wholes : WholesAreTriples

pub sized_at : (rs : Rows) → AreSized rs → (v : ℕ) → has rs v ≡ true → IsWithinLimits (row_at rs v)
sized_at [] s v h = (let z : false ≡ true = h in absurd (cc))
sized_at ((k, r) ∷ rs) s v h = elim (eqb_tells k v) [
  | inl t ↦ rw t.0 s.0.within
  | inr t ↦ rw t.0 (sized_at rs s.1 v (rw t.0 at h))
]

-- a triple over a parent's base is one, and has the view's dimensions
over_is : LawsBelow → (t : Trans) (above u : Triple) (ds : List ℕ) → IsTriple above → child_dims t above.dims ≡ Ok ds → over t above ≡ Some u → IsTriple u × (u.dims ≡ ds)
over_is laws (trans.Affine t) above u ds i d e =
    let y : IsViewOver t above u = laws.views.composed t above u ds i d e in
    (y.triple, (let k : Ok u.dims ≡ Ok ds = sym y.fits ∙ d in cc))
over_is laws (trans.Index is ind) above u ds i d e = cc
over_is laws (trans.Where is ps) above u ds i d e = cc
over_is laws (trans.Range is ind ss edge) above u ds i d e = cc

pub triple_like : LawsBelow → (t : Trans) (above : Triple) (ds : List ℕ) (o : Option Triple) → IsTriple above → IsDims ds → child_dims t above.dims ≡ Ok ds → over t above ≡ o
    → IsTriple (triple_over ds o) × ((triple_over ds o).dims ≡ ds)
triple_like laws t above ds None i l d e = (laws.wholes ds l, refl)
triple_like laws t above ds (Some u) i l d e = over_is laws t above u ds i d e
