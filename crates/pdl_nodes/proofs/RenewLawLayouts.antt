-- When the layouts of a cut, and those that were made anew for other dimensions, are those that are wanted.
use Rattle.std.proofs.Common.{◌≡◌, ℕ, ℤ, true, false, eqb, cond, List, [], ◌∷◌, length, Some, option_and_then, inl, inr, Ok, refl, sym, ◌∙◌, ap, subst}
use Rattle.std.specs.Option.{option_map_or}
use Rattle.std.proofs.lemmas.Bool.{cases_eq, eq-eqb, ne_eqb}
use Rattle.std.proofs.lemmas.Bool.Decides.{eqb_tells}
use Rattle.pdl_elem.specs.declared.Ty.{Ty}
use Rattle.pdl_shape.specs.Shape.{IsDims, size_of}
use Rattle.pdl_affine.specs.Views as affine
use Rattle.pdl_world.specs.Cut.{replaced, rooted, fitted}
use Rattle.pdl_world.specs.declared.Trans.{Trans}
use Rattle.pdl_world.specs.declared.Trans.TheVariants as trans
use Rattle.pdl_world.specs.Formula.{child_dims}
use Rattle.pdl_world.specs.Paths.{path}
use Rattle.pdl_world.specs.Swept.{is_listed}
use Rattle.pdl_world.specs.World.{World, ArrayDef, root, view, Look, look, look_of_root, through, dims_in, elements, ty_in}
use Rattle.pdl_nodes.specs.declared.origin.Layout.{Layout}
use Rattle.pdl_nodes.specs.declared.origin.Layout.TheVariants.{Plan, Choice}
use Rattle.pdl_nodes.specs.declared.origin.Origin.{Origin}
use Rattle.pdl_nodes.specs.declared.origin.Origin.TheVariants.{Root, View}
use Rattle.pdl_nodes.specs.Families.{Means}
use Rattle.pdl_nodes.specs.Joined.{IsNewView, view_row}
use Rattle.pdl_nodes.proofs.SizedViews.{new_view}
use Rattle.pdl_nodes.specs.Row.{Row, parent_from}
use Rattle.pdl_nodes.specs.Rows.{Rows, row_at, has}
use Rattle.pdl_nodes.specs.Sized.{AreSized, HasDims, IsLayout, LaidFrom}
use Rattle.pdl_nodes.specs.Still.{StillFrom, IsStill}
use Rattle.pdl_nodes.specs.Worlds.{def_from, def_of, latest, shape, with_elements, world_of}
use Rattle.pdl_nodes.specs.Seen.{IsSeen}
use Rattle.pdl_nodes.proofs.AlikePaths.{parent_live, path_older}
use Rattle.pdl_nodes.proofs.SizedBelow.{LawsBelow, sized_at}
use Rattle.pdl_nodes.proofs.RowFinds.{not_newest}
use Rattle.pdl_nodes.proofs.RowsSeen.{has_older, is_seen, look_older, row_older}
use Rattle.pdl_nodes.proofs.WorldLemmas.{look_with}
use Rattle.pdl_nodes.proofs.RenewedRows.{AllAfter, IsRenewed, after, head, is_untouched, renew_has, renew_shape, renew_sized, renew_still}
use Rattle.pdl_nodes.proofs.RenewLawOrder.{roots, with_replaced, world_dims, world_ty}
use Rattle.pdl_nodes.specs.Renewed.{Layouts, AreLaid, AreRelaid, CanCut, CanRenew, CanReshape, Fits, LaidAnew, laid_by, renew, renewed}
use Rattle.pdl_nodes.specs.RenewLaws.{RelaidCanRenew, RenewingSevers}

-- what a renewal needs but for the layouts
record IsRootable (rs : Rows) (v : ℕ) (ds : List ℕ) (es : List ℤ) (rt : ℕ) : Type 0 where
  still : IsStill rs
  sized : AreSized rs
  limits : IsDims ds
  count : length es ≡ size_of ds
  root_is : (u : ℕ) → has rs u ≡ true → u ≡ v → (row_at rs u).root ≡ rt

rootable_tail : (k : ℕ) (r : Row) (rs : Rows) (v : ℕ) (ds : List ℕ) (es : List ℤ) (rt : ℕ) → IsRootable ((k, r) ∷ rs) v ds es rt → IsRootable rs v ds es rt
rootable_tail k r rs v ds es rt c = record {
  still = c.still.2;
  sized = c.sized.1;
  limits = c.limits;
  count = c.count;
  root_is = λ u h e. (let n : k ≡ u → ⊥ = not_newest rs k u c.still.0 h in
      ap (λ (x : Row). x.root) (sym (row_older k r rs u n)) ∙ c.root_is u (has_older k r rs u n ∙ h) e);
}

with_layouts : (ls : Layouts) (rs : Rows) (v : ℕ) (ds : List ℕ) (es : List ℤ) (rt : ℕ) → IsRootable rs v ds es rt → AreLaid ls rs v ds es → IsRenewed ls rs v ds es rt
with_layouts ls rs v ds es rt c l = record { still = c.still; sized = c.sized; limits = c.limits; count = c.count; root_is = c.root_is; laid = l }

-- a cut: the layouts stay
has_dims : (t : Trans) (parent ds : List ℕ) (y : Layout) → IsLayout t parent y → child_dims t parent ≡ Ok ds → HasDims y ds
has_dims (trans.Affine t) parent ds (Plan p) l d = ap (affine.dims p.trans) l.1 ∙ ap (λ x. affine.dims x parent) l.0 ∙ d
has_dims (trans.Affine t) parent ds (Choice c) l d = absurd l
has_dims (trans.Index is ind) parent ds (Plan p) l d = absurd l
has_dims (trans.Index is ind) parent ds (Choice c) l d = (let e : Ok ds ≡ Ok c.dims = sym d ∙ l.0 in cc)
has_dims (trans.Where is ps) parent ds (Plan p) l d = absurd l
has_dims (trans.Where is ps) parent ds (Choice c) l d = (let e : Ok ds ≡ Ok c.dims = sym d ∙ l.0 in cc)
has_dims (trans.Range is ind ss edge) parent ds (Plan p) l d = absurd l
has_dims (trans.Range is ind ss edge) parent ds (Choice c) l d = (let e : Ok ds ≡ Ok c.dims = sym d ∙ l.0 in cc)

abbrev SameDims : Rows → Rows → Type 0
SameDims rs new = (u : ℕ) → has rs u ≡ true → (row_at new u).triple.dims ≡ (row_at rs u).triple.dims

cut_fits : (rs : Rows) (v : ℕ) (ds : List ℕ) (es : List ℤ) (k : ℕ) (r : Row) (o : Origin) → IsDims r.triple.dims → LaidFrom rs o → StillFrom rs k r o → SameDims rs (renew [] rs v ds es) → LaidAnew [] (renew [] rs v ds es) v k o
cut_fits rs v ds es k r Root z l s f = tt
cut_fits rs v ds es k r (View p t y) z l s f = λ e.
    let same : (row_at (renew [] rs v ds es) p).triple.dims ≡ (row_at rs p).triple.dims = f p s.0 in
    let P : List ℕ → Type 0 = λ xs. Fits t xs y in
    subst P (sym same) (record { dims = r.triple.dims; layout = l; has_dims = has_dims t (row_at rs p).triple.dims r.triple.dims y l s.1.allowed; limits = z })

cut_dims : LawsBelow → (rs : Rows) (v : ℕ) (ds : List ℕ) (es : List ℤ) (rt k : ℕ) (r : Row) (o : Origin) → (k ≡ v → r.triple.dims ≡ ds) → IsRenewed [] rs v ds es rt → LaidAnew [] (renew [] rs v ds es) v k o → StillFrom rs k r o → SameDims rs (renew [] rs v ds es)
    → (head [] rs v ds es k r o).triple.dims ≡ r.triple.dims
cut_dims laws rs v ds es rt k r o g c l s f = elim (eqb_tells k v) [
  | inl y ↦ rw y.0 (sym (g y.1))
  | inr y ↦ rw y.0 (by_origin o l s)
] where
  by_origin : (o : Origin) → LaidAnew [] (renew [] rs v ds es) v k o → StillFrom rs k r o → (renewed [] (renew [] rs v ds es) v k r o).triple.dims ≡ r.triple.dims
  by_origin Root l s = refl
  by_origin (View p t y) l s = elim (eqb_tells (row_at (renew [] rs v ds es) p).root v) [
    | inl w ↦ (let n : IsNewView k p t (row_at (renew [] rs v ds es) p) (view_row k p t y (row_at (renew [] rs v ds es) p)) =
        new_view laws k p t y (row_at (renew [] rs v ds es) p) (sized_at (renew [] rs v ds es) (renew_sized laws [] rs v ds es rt c) p (renew_has [] rs v ds es p ∙ s.0)).triple (l w.1) in
        let both : Ok (view_row k p t y (row_at (renew [] rs v ds es) p)).triple.dims ≡ Ok r.triple.dims = sym n.derived.allowed ∙ ap (child_dims t) (f p s.0) ∙ s.1.allowed in
        rw w.0 (cc))
    | inr w ↦ rw w.0 refl
  ]

record IsCutWell (rs : Rows) (v : ℕ) (ds : List ℕ) (es : List ℤ) : Type 0 where
  laid : AreLaid [] rs v ds es
  dims : SameDims rs (renew [] rs v ds es)

cut_well : LawsBelow → (rs : Rows) (v : ℕ) (ds : List ℕ) (es : List ℤ) (rt : ℕ) → IsRootable rs v ds es rt → ((u : ℕ) → has rs u ≡ true → u ≡ v → (row_at rs u).triple.dims ≡ ds) → IsCutWell rs v ds es
cut_well laws [] v ds es rt c g = record { laid = tt; dims = λ u h. (let z : false ≡ true = h in absurd (cc)) }
cut_well laws ((k, r) ∷ rs) v ds es rt c g =
    let below : IsRootable rs v ds es rt = rootable_tail k r rs v ds es rt c in
    let w : IsCutWell rs v ds es = cut_well laws rs v ds es rt below (λ u h e. (let n : k ≡ u → ⊥ = not_newest rs k u c.still.0 h in
    ap (λ (x : Row). x.triple.dims) (sym (row_older k r rs u n)) ∙ g u (has_older k r rs u n ∙ h) e)) in
    let fits : LaidAnew [] (renew [] rs v ds es) v k r.origin = cut_fits rs v ds es k r r.origin c.sized.0.within.limits c.sized.0.laid c.still.1 w.dims in
    let own : k ≡ v → r.triple.dims ≡ ds = λ e. (let q : (row_at ((k, r) ∷ rs) k).triple.dims ≡ ds = g k (rw (eq-eqb k k refl) refl) e in rw (eq-eqb k k refl) at q) in
    record {
      laid = (fits, w.laid);
      dims = λ u h. elim (eqb_tells k u) [
        | inl t ↦ rw t.0 (cut_dims laws rs v ds es rt k r r.origin own (with_layouts [] rs v ds es rt below w.laid) fits c.still.1 w.dims)
        | inr t ↦ rw t.0 (w.dims u (rw t.0 at h))
      ];
    }

rootable : (ls : Layouts) (rs : Rows) (v : ℕ) (ds : List ℕ) (es : List ℤ) → CanReshape ls rs v ds es → IsRootable rs v ds es (row_at rs v).root
rootable ls rs v ds es c = record { still = c.order.still; sized = c.sized; limits = c.limits; count = c.count; root_is = λ u h e. ap (λ x. (row_at rs x).root) e }

cut_can : LawsBelow → (rs : Rows) (v : ℕ) (ds : List ℕ) (es : List ℤ) → CanCut rs v ds es → CanRenew [] rs v ds es
cut_can laws rs v ds es c =
    let lim : IsDims ds = subst IsDims c.dims_are (sized_at rs c.sized v c.live).limits in
    record {
      order = c.order;
      sized = c.sized;
      live = c.live;
      nothing = c.nothing;
      limits = lim;
      count = c.count;
      laid = (cut_well laws rs v ds es (row_at rs v).root
          (record { still = c.order.still; sized = c.sized; limits = lim; count = c.count; root_is = λ u h e. ap (λ x. (row_at rs x).root) e })
          (λ u h e. ap (λ x. (row_at rs x).triple.dims) e ∙ c.dims_are)).laid;
    }

pub severs : LawsBelow → RenewingSevers
severs laws = λ rs v ds es c e.
    let can : CanRenew [] rs v ds es = cut_can laws rs v ds es c in
    let y : Means (renew [] rs v ds es) (rooted (world_of rs) v ds es) = roots laws [] rs v ds es can in
    (can, (y.0, y.1 ∙ ap (λ xs. rooted (world_of rs) v xs es) (sym (world_dims rs v c.order.still c.live ∙ c.dims_are)) ∙ ap (rooted (world_of rs) v (dims_in (world_of rs) v)) e))

-- other dimensions: layouts that are said by numbers
path_root : (k : ℕ) (ty : Ty) (ds : List ℕ) (es : List ℤ) (w : World) → path ((k, root ty ds es) ∷ w) k ≡ k ∷ []
path_root k ty ds es w = rw (eq-eqb k k refl) refl

path_view : (k p : ℕ) (t : Trans) (w : World) → path ((k, view p t) ∷ w) k ≡ k ∷ path w p
path_view k p t w = rw (eq-eqb k k refl) refl

head_held : (k : ℕ) (up : List ℕ) → is_listed (k ∷ up) k ≡ true
head_held k up = rw (eq-eqb k k refl) refl

held_itself : (k : ℕ) (d : ArrayDef) (w : World) → is_listed (path ((k, d) ∷ w) k) k ≡ true
held_itself k (root ty ds es) w = ap (λ ps. is_listed ps k) (path_root k ty ds es w) ∙ head_held k []
held_itself k (view p t) w = ap (λ ps. is_listed ps k) (path_view k p t w) ∙ head_held k (path w p)

held_view : (k p : ℕ) (t : Trans) (w : World) (v : ℕ) → (k ≡ v → ⊥) → is_listed (path ((k, view p t) ∷ w) k) v ≡ is_listed (path w p) v
held_view k p t w v n = rw (eq-eqb k k refl, ne_eqb k v n) refl

-- an array whose root is v then reached v by parents
head_holds : (ls : Layouts) (rs : Rows) (v : ℕ) (ds : List ℕ) (es : List ℤ) (rt k : ℕ) (r : Row) (o : Origin) → r.origin ≡ o → StillFrom rs k r o → AllAfter ls rs v ds es rt
    → ((p : ℕ) → has rs p ≡ true → (row_at (renew ls rs v ds es) p).root ≡ v → is_listed (path (shape rs) p) v ≡ true) → (head ls rs v ds es k r o).root ≡ v → is_listed (path ((k, def_of r) ∷ shape rs) k) v ≡ true
head_holds ls rs v ds es rt k r o e s f g h = elim (cases_eq k v) [
  | inl y ↦ (let P : ℕ → Type 0 = λ x. is_listed (path ((k, def_of r) ∷ shape rs) k) x ≡ true in subst P y (held_itself k (def_of r) (shape rs)))
  | inr y ↦ by_origin o e s y (rw (ne_eqb k v y) at h)
] where
  by_origin : (o : Origin) → r.origin ≡ o → StillFrom rs k r o → (k ≡ v → ⊥) → (renewed ls (renew ls rs v ds es) v k r o).root ≡ v → is_listed (path ((k, def_of r) ∷ shape rs) k) v ≡ true
  by_origin Root e s n h = absurd (n (sym s.root_is ∙ h))
  by_origin (View p t y) e s n h = elim (eqb_tells (row_at (renew ls rs v ds es) p).root v) [
    | inl w ↦ (let d : def_of r ≡ view p t = ap (def_from r.ty r.triple.dims) e in
        ap (λ x. is_listed (path ((k, x) ∷ shape rs) k) v) d ∙ held_view k p t (shape rs) v n ∙ g p s.0 w.1)
    | inr w ↦ (let same : r.root ≡ v = rw w.0 at h in
        absurd ((is_untouched v rt p (row_at rs p) (row_at (renew ls rs v ds es) p) (f p s.0) w.1).apart (sym s.1.root_is ∙ same)))
  ]

root_holds : (ls : Layouts) (rs : Rows) (v : ℕ) (ds : List ℕ) (es : List ℤ) (rt : ℕ) → IsRootable rs v ds es rt → (u : ℕ) → has rs u ≡ true → (row_at (renew ls rs v ds es) u).root ≡ v → is_listed (path (shape rs) u) v ≡ true
root_holds ls [] v ds es rt c u h e = (let z : false ≡ true = h in absurd (cc))
root_holds ls ((k, r) ∷ rs) v ds es rt c u h e =
    let below : IsRootable rs v ds es rt = rootable_tail k r rs v ds es rt c in
    elim (cases_eq k u) [
      | inl t ↦ (let P : ℕ → Type 0 = λ x. is_listed (path (shape ((k, r) ∷ rs)) x) v ≡ true in
          subst P t (head_holds ls rs v ds es rt k r r.origin refl c.still.1 (after ls rs v ds es rt below.still below.root_is) (root_holds ls rs v ds es rt below) (rw (eq-eqb k u t) at e)))
      | inr t ↦ ap (λ ps. is_listed ps v) (path_older k (def_of r) (shape rs) u t) ∙ root_holds ls rs v ds es rt below u (sym (has_older k r rs u t) ∙ h) (rw (ne_eqb k u t) at e)
    ]

-- the elements of v change no look
look_bare : (w : World) (v : ℕ) (ty : Ty) (ds : List ℕ) (fs : List ℤ) (u : ℕ) → look (replaced w v (root ty ds fs)) u ≡ look (replaced w v (root ty ds [])) u
look_bare [] v ty ds fs u = refl
look_bare ((k, root t d e) ∷ w) v ty ds fs u = elim (eqb_tells k v) [
  | inl y ↦ rw y.0 (ap (λ o. cond (eqb k u) (Some (look_of_root k ty ds)) o) (look_bare w v ty ds fs u))
  | inr y ↦ rw y.0 (ap (λ o. cond (eqb k u) (Some (look_of_root k t d)) o) (look_bare w v ty ds fs u))
]
look_bare ((k, view p t) ∷ w) v ty ds fs u = elim (eqb_tells k v) [
  | inl y ↦ rw y.0 (ap (λ o. cond (eqb k u) (Some (look_of_root k ty ds)) o) (look_bare w v ty ds fs u))
  | inr y ↦ rw y.0 (ap (λ o. cond (eqb k u) (option_and_then (through t) o) o) (look_bare w v ty ds fs (cond (eqb k u) p u)))
]

abbrev RelaidOver : Layouts → Rows → ℕ → ArrayDef → Type 0
RelaidOver ls rs v new = (k p : ℕ) (t : Trans) (y : Layout) → has rs k ≡ true → (row_at rs k).origin ≡ View p t y → is_listed (path (shape rs) p) v ≡ true → Fits t (dims_in (replaced (shape rs) v new) p) (laid_by ls k y)

dims_older : (k : ℕ) (d e : ArrayDef) (w u : World) (v p : ℕ) → (k ≡ p → ⊥) → dims_in ((k, d) ∷ w) p ≡ dims_in w p
dims_older k d e w u v p n = ap (λ o. option_map_or (λ (l : Look). l.dims) o []) (look_older k d w p n)

relaid_tail : (ls : Layouts) (k : ℕ) (r : Row) (rs : Rows) (v : ℕ) (new : ArrayDef) → IsStill ((k, r) ∷ rs) → RelaidOver ls ((k, r) ∷ rs) v new → RelaidOver ls rs v new
relaid_tail ls k r rs v new s f = λ j p t y h e b.
    let n : k ≡ j → ⊥ = not_newest rs k j s.0 h in
    let m : k ≡ p → ⊥ = not_newest rs k p s.0 ((parent_live rs j p s.2 h (ap parent_from e)).0) in
    let P : List ℕ → Type 0 = λ xs. Fits t xs (laid_by ls j y) in
    subst P (dims_older k (cond (eqb k v) new (def_of r)) new (replaced (shape rs) v new) [] v p m)
    (f j p t y (has_older k r rs j n ∙ h) (ap (λ (x : Row). x.origin) (row_older k r rs j n) ∙ e) (ap (λ ps. is_listed ps v) (path_older k (def_of r) (shape rs) p m) ∙ b))

relaid_head : LawsBelow → (ls : Layouts) (rs : Rows) (v : ℕ) (ds : List ℕ) (es : List ℤ) (rt : ℕ) (ty : Ty) (fs : List ℤ) (k : ℕ) (r : Row) (o : Origin) → r.origin ≡ o → IsStill ((k, r) ∷ rs) → StillFrom rs k r o → IsRootable rs v ds es rt
    → ((u : ℕ) → has rs u ≡ true → u ≡ v → (row_at rs u).ty ≡ ty) → AreLaid ls rs v ds es → RelaidOver ls ((k, r) ∷ rs) v (root ty ds fs) → LaidAnew ls (renew ls rs v ds es) v k o
relaid_head laws ls rs v ds es rt ty fs k r Root e st s c g l f = tt
relaid_head laws ls rs v ds es rt ty fs k r (View p t y) e st s c g l f = λ w.
    let m : k ≡ p → ⊥ = not_newest rs k p st.0 s.0 in
    let seen : IsSeen (renew ls rs v ds es) p = is_seen (renew ls rs v ds es) (renew_still laws ls rs v ds es rt (with_layouts ls rs v ds es rt c l)) p (renew_has ls rs v ds es p ∙ s.0) in
    let looks : look (replaced (shape rs) v (root ty ds fs)) p ≡ _ = look_bare (shape rs) v ty ds fs p ∙ sym (ap (λ x. look x p) (renew_shape ls rs v ds es ty c.still g)) ∙ seen.looks in
    let dims : dims_in (replaced (shape rs) v (root ty ds fs)) p ≡ (row_at (renew ls rs v ds es) p).triple.dims = ap (λ q. option_map_or (λ (x : Look). x.dims) q []) looks in
    let P : List ℕ → Type 0 = λ xs. Fits t xs (laid_by ls k y) in
    subst P (dims_older k (cond (eqb k v) (root ty ds fs) (def_of r)) (root ty ds fs) (replaced (shape rs) v (root ty ds fs)) [] v p m ∙ dims)
    (f k p t y (rw (eq-eqb k k refl) refl) (rw (eq-eqb k k refl) e) (ap (λ ps. is_listed ps v) (path_older k (def_of r) (shape rs) p m) ∙ root_holds ls rs v ds es rt c p s.0 w))

relaid_are_laid : LawsBelow → (ls : Layouts) (rs : Rows) (v : ℕ) (ds : List ℕ) (es : List ℤ) (rt : ℕ) (ty : Ty) (fs : List ℤ) → IsRootable rs v ds es rt → ((u : ℕ) → has rs u ≡ true → u ≡ v → (row_at rs u).ty ≡ ty) → RelaidOver ls rs v (root ty ds fs) → AreLaid ls rs v ds es
relaid_are_laid laws ls [] v ds es rt ty fs c g f = tt
relaid_are_laid laws ls ((k, r) ∷ rs) v ds es rt ty fs c g f =
    let below : IsRootable rs v ds es rt = rootable_tail k r rs v ds es rt c in
    let types : (u : ℕ) → has rs u ≡ true → u ≡ v → (row_at rs u).ty ≡ ty = λ u h e. (let n : k ≡ u → ⊥ = not_newest rs k u c.still.0 h in
    ap (λ (x : Row). x.ty) (sym (row_older k r rs u n)) ∙ g u (has_older k r rs u n ∙ h) e) in
    let tail : AreLaid ls rs v ds es = relaid_are_laid laws ls rs v ds es rt ty fs below types (relaid_tail ls k r rs v (root ty ds fs) c.still f) in
    (relaid_head laws ls rs v ds es rt ty fs k r r.origin refl c.still c.still.1 below types tail f, tail)

-- the same of the world that the rows mean, whose roots have elements
pub path_with : (f : ℕ → List ℤ) (w : World) (v : ℕ) → path (with_elements f w) v ≡ path w v
path_with f [] v = refl
path_with f ((k, root ty n es) ∷ w) v = ap (λ o. cond (eqb k v) (k ∷ []) o) (path_with f w v)
path_with f ((k, view p t) ∷ w) v = ap (λ o. cond (eqb k v) (k ∷ o) (path (with_elements f w) v)) (path_with f w p) ∙ ap (λ o. cond (eqb k v) (k ∷ path w p) o) (path_with f w v)

look_replaced : (f : ℕ → List ℤ) (w : World) (v : ℕ) (ty : Ty) (ds : List ℕ) (fs : List ℤ) (u : ℕ) → look (replaced (with_elements f w) v (root ty ds fs)) u ≡ look (replaced w v (root ty ds fs)) u
look_replaced f w v ty ds fs u =
    look_bare (with_elements f w) v ty ds fs u ∙ sym (look_bare (with_elements f w) v ty ds (f v) u)
    ∙ ap (λ x. look x u) (sym (with_replaced f w v ty ds)) ∙ look_with f (replaced w v (root ty ds [])) u ∙ sym (look_bare w v ty ds fs u)

over_shape : (ls : Layouts) (rs : Rows) (v : ℕ) (ds : List ℕ) → AreRelaid ls rs v ds → RelaidOver ls rs v (root (ty_in (world_of rs) v) ds (fitted (size_of ds) (elements (world_of rs) v)))
over_shape ls rs v ds f = λ k p t y h e b.
    let P : List ℕ → Type 0 = λ xs. Fits t xs (laid_by ls k y) in
    subst P (ap (λ o. option_map_or (λ (l : Look). l.dims) o []) (look_replaced (latest rs) (shape rs) v (ty_in (world_of rs) v) ds (fitted (size_of ds) (elements (world_of rs) v)) p))
    (f k p t y h e (ap (λ ps. is_listed ps v) (path_with (latest rs) (shape rs) p) ∙ b))

pub can_renew : LawsBelow → RelaidCanRenew
can_renew laws = λ ls rs v ds es c. record {
  order = c.order;
  sized = c.sized;
  live = c.live;
  nothing = c.nothing;
  limits = c.limits;
  count = c.count;
  laid = relaid_are_laid laws ls rs v ds es (row_at rs v).root (ty_in (world_of rs) v) (fitted (size_of ds) (elements (world_of rs) v)) (rootable ls rs v ds es c)
      (λ u h e. ap (λ x. (row_at rs x).ty) e ∙ sym (world_ty rs v c.order.still c.live)) (over_shape ls rs v ds c.relaid);
}
