-- The rows of new views are derived of their parents.
use Rattle.std.proofs.Common.{◌≡◌, ℕ, false, List, [], Option, None, Ok, refl, sym, ◌∙◌, ap, subst}
use Rattle.pdl_elem.specs.declared.Ty.{Ty}
use Rattle.pdl_affine.specs.Views as affine
use Rattle.pdl_choice.specs.declared.answers.Choice.{Choice as Chosen}
use Rattle.pdl_shape.specs.Places.{places_of}
use Rattle.pdl_shape.specs.Shape.{IsDims}
use Rattle.pdl_shape.specs.Triple.{IsTriple, Triple}
use Rattle.pdl_world.specs.declared.Trans.{Trans}
use Rattle.pdl_world.specs.declared.Trans.TheVariants as trans
use Rattle.pdl_world.specs.Formula.{child_dims, source}
use Rattle.pdl_world.specs.Windows.{over}
use Rattle.pdl_nodes.specs.declared.origin.Layout.{Layout}
use Rattle.pdl_nodes.specs.declared.origin.Layout.TheVariants.{Plan, Choice}
use Rattle.pdl_nodes.specs.declared.origin.Origin.TheVariants.{View}
use Rattle.pdl_nodes.specs.Row.{Row}
use Rattle.pdl_nodes.specs.Sized.{IsChosen, IsLayout, HasDims}
use Rattle.pdl_nodes.specs.declared.origin.Origin.{Origin}
use Rattle.pdl_nodes.specs.Still.{base_over, own_places, triple_over, IsOwn, IsLaid, IsDerived}
use Rattle.pdl_nodes.proofs.SizedBelow.{LawsBelow, triple_like}
use Rattle.pdl_nodes.proofs.StillLaid.{ViewLaws, is_whole, laid_affine}
use Rattle.pdl_nodes.specs.Joined.{IsNewView, dims_or, view_row}
use Rattle.pdl_nodes.specs.Renewed.{Fits}

-- the dimensions of a layout are the view's
pub allowed : (t : Trans) (parent ds : List ℕ) (y : Layout) → IsLayout t parent y → HasDims y ds → child_dims t parent ≡ Ok ds
allowed (trans.Affine t) parent ds (Plan p) l d = ap (λ x. affine.dims x parent) (sym l.0) ∙ ap (affine.dims p.trans) (sym l.1) ∙ d
allowed (trans.Affine t) parent ds (Choice c) l d = absurd l
allowed (trans.Index is ind) parent ds (Plan p) l d = absurd l
allowed (trans.Index is ind) parent ds (Choice c) l d = l.0 ∙ ap Ok (sym d)
allowed (trans.Where is ps) parent ds (Plan p) l d = absurd l
allowed (trans.Where is ps) parent ds (Choice c) l d = l.0 ∙ ap Ok (sym d)
allowed (trans.Range is ind ss edge) parent ds (Plan p) l d = absurd l
allowed (trans.Range is ind ss edge) parent ds (Choice c) l d = l.0 ∙ ap Ok (sym d)

-- a choice view has its own places
chosen : ViewLaws → (t : Trans) (above : Triple) (ds : List ℕ) (c : Chosen) → IsChosen t above.dims c.dims c.places → ds ≡ c.dims → IsOwn above (places_of ds above.dims (source t above.dims)) c.places ds
chosen laws t above ds c l d = record {
  places = ap (λ xs. places_of xs above.dims (source t above.dims)) d ∙ sym l.1;
  within = l.2;
  whole = is_whole laws ds;
}

laid : ViewLaws → (t : Trans) (above : Triple) (ds : List ℕ) (y : Layout) → IsTriple above → IsLayout t above.dims y → HasDims y ds → IsLaid above (places_of ds above.dims (source t above.dims)) (own_places ds y) ds (over t above)
laid laws (trans.Affine t) above ds (Plan p) i l d = laid_affine laws t above ds i (allowed (trans.Affine t) above.dims ds (Plan p) l d)
laid laws (trans.Affine t) above ds (Choice c) i l d = absurd l
laid laws (trans.Index is ind) above ds (Plan p) i l d = absurd l
laid laws (trans.Index is ind) above ds (Choice c) i l d = chosen laws (trans.Index is ind) above ds c l d
laid laws (trans.Where is ps) above ds (Plan p) i l d = absurd l
laid laws (trans.Where is ps) above ds (Choice c) i l d = chosen laws (trans.Where is ps) above ds c l d
laid laws (trans.Range is ind ss edge) above ds (Plan p) i l d = absurd l
laid laws (trans.Range is ind ss edge) above ds (Choice c) i l d = chosen laws (trans.Range is ind ss edge) above ds c l d

-- the dimensions that a layout gives
pub dims_are : (t : Trans) (parent ds : List ℕ) (y : Layout) → IsLayout t parent y → HasDims y ds → dims_or (child_dims t parent) ≡ ds
dims_are t parent ds y l d = ap dims_or (allowed t parent ds y l d)

-- a view whose layout fits is derived of its parent
pub new_view : LawsBelow → (k p : ℕ) (t : Trans) (y : Layout) (a : Row) → IsTriple a.triple → Fits t a.triple.dims y → IsNewView k p t a (view_row k p t y a)
new_view laws k p t y a i f =
    let o : Option Triple = over t a.triple in
    let ok : child_dims t a.triple.dims ≡ Ok f.dims = allowed t a.triple.dims f.dims y f.layout f.has_dims in
    let same : dims_or (child_dims t a.triple.dims) ≡ f.dims = ap dims_or ok in
    let q : IsTriple (triple_over f.dims (over t a.triple)) × ((triple_over f.dims (over t a.triple)).dims ≡ f.dims) = triple_like laws t a.triple f.dims (over t a.triple) i f.limits ok refl in
    let T : List ℕ → Type 0 = λ xs. IsTriple (triple_over xs (over t a.triple)) in
    let triple : IsTriple (triple_over (dims_or (child_dims t a.triple.dims)) (over t a.triple)) = subst T (sym same) q.0 in
    let own : (triple_over (dims_or (child_dims t a.triple.dims)) (over t a.triple)).dims ≡ f.dims = ap (λ xs. (triple_over xs (over t a.triple)).dims) same ∙ q.1 in
    let P : List ℕ → Type 0 = λ xs. IsLaid a.triple (places_of xs a.triple.dims (source t a.triple.dims)) (own_places xs y) xs (over t a.triple) in
    let derived : IsDerived k a (view_row k p t y a) t y = record {
      allowed = ok ∙ ap Ok (sym own);
      ty_is = refl;
      root_is = refl;
      base_is = refl;
      triple_is = ap (λ xs. triple_over xs (over t a.triple)) (same ∙ sym own);
      laid = subst P (sym own) (laid laws.views t a.triple f.dims y i f.layout f.has_dims);
    } in
    record {
      layout = y;
      origin = refl;
      derived = derived;
      triple = triple;
      limits = subst IsDims (sym own) f.limits;
      laid = f.layout;
      unmarked = refl;
      nothing = refl;
      unlisted = refl;
      bare = refl;
    }

-- what a new node is made of
pub view_row_is : (k p : ℕ) (t : Trans) (y : Layout) (a : Row) (o : Origin) (ty : Ty) (rt b : ℕ) (u : Triple)
    → o ≡ View p t y → ty ≡ a.ty → rt ≡ a.root → b ≡ base_over k a.base (over t a.triple) → u ≡ triple_over (dims_or (child_dims t a.triple.dims)) (over t a.triple)
    → record { origin = o; ty = ty; root = rt; base = b; triple = u; kept = []; mark = false; repeats = false; places = None; waiting = None } ≡ view_row k p t y a
view_row_is k p t y a o ty rt b u eo ey er eb eu =
    let row : Origin → Ty → ℕ → ℕ → Triple → Row = λ o' ty' rt' b' u'. record { origin = o'; ty = ty'; root = rt'; base = b'; triple = u'; kept = []; mark = false; repeats = false; places = None; waiting = None } in
    ap (λ x. row x ty rt b u) eo ∙ ap (λ x. row (View p t y) x rt b u) ey ∙ ap (λ x. row (View p t y) a.ty x b u) er
    ∙ ap (λ x. row (View p t y) a.ty a.root x u) eb ∙ ap (row (View p t y) a.ty a.root (base_over k a.base (over t a.triple))) eu
