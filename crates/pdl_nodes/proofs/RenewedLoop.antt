-- The loop of a renewal, which renews each newer row over the rows as they are.
use Rattle.std.proofs.Common.{◌≡◌, ℕ, ℤ, ◌+◌, ◌<◌, ◌≤◌, Bool, true, false, eqb, cond, List, [], ◌∷◌, Option, Some, inl, inr, refl, sym, ◌∙◌, ap, subst, arith}
use Rattle.std.specs.Option.{unwrap_or}
use Rattle.std.proofs.lemmas.Bool.{both_ways, cases_eq, cases_lt, eq-eqb, ne_eqb}
use Rattle.std.proofs.lemmas.Bool.Decides.{eqb_tells}
use Rattle.pdl_nodes.specs.declared.origin.Layout.{Layout}
use Rattle.pdl_nodes.specs.declared.origin.Origin.{Origin}
use Rattle.pdl_nodes.specs.declared.origin.Origin.TheVariants.{Root, View}
use Rattle.pdl_nodes.specs.Below.{AreBelow}
use Rattle.pdl_nodes.specs.Row.{root_row, Row, parent_from, parent_of, shown_of}
use Rattle.pdl_nodes.specs.Rows.{Rows, row_at, has, each, NumbersBelow, Falls}
use Rattle.pdl_world.specs.Swept.{is_listed}
use Rattle.pdl_elem.specs.declared.Ty.{Ty}
use Rattle.pdl_nodes.specs.declared.node.Shown.{Shown}
use Rattle.pdl_nodes.specs.Joined.{LaidOver, shown_row, view_row}
use Rattle.pdl_nodes.specs.Seen.{IsViewAt}
use Rattle.pdl_nodes.specs.Sized.{IsLayout}
use Rattle.pdl_nodes.specs.Still.{StillFrom, IsStill}
use Rattle.pdl_world.specs.declared.Trans.{Trans}
use Rattle.pdl_nodes.proofs.WorldFamilies.{still_falls}
use Rattle.pdl_nodes.proofs.RowFinds.{not_newest, has_below, each_has, each_at, falls_each}
use Rattle.pdl_nodes.proofs.AlikePaths.{parent_live}
use Rattle.pdl_nodes.proofs.ChangesMarks.{each_live, each_each, each_id}
use Rattle.pdl_nodes.proofs.RenewedRows.{AllAfter, after, is_untouched, renew_row}
use Rattle.pdl_nodes.proofs.RowsSeen.{is_seen, row_older, has_older, view_at}
use Rattle.pdl_nodes.proofs.ChildrenFound.{first_listed, rest_listed}
use Rattle.pdl_nodes.proofs.BelowWalks.{IsBelow, IsLeft, left_begins, left_done, left_next, left_passed, of_parent}
use Rattle.pdl_nodes.specs.Renewed.{AreLaid, CanDerive, CanRenew, Fits, Layouts, LaidAnew, laid_by, layout_at, renew, renewed, renewed_in, rooted_in, with_layout}

-- the changes of one row
pub rooted_here : (id : ℕ) (ds : List ℕ) (es : List ℤ) (r : Row) → root_row id r.ty ds es ≡ rooted_in id ds es id r
rooted_here id ds es r = rw (eq-eqb id id refl) refl

pub rooted_others : (id : ℕ) (ds : List ℕ) (es : List ℤ) (v : ℕ) (r : Row) → (v ≡ id → ⊥) → rooted_in id ds es v r ≡ r
rooted_others id ds es v r n = rw (ne_eqb v id n) refl

-- a view that is derived anew, over the rows as they are
renewed_here : (ls : Layouts) (v : ℕ) (rs : Rows) (id : ℕ) (r : Row) → renewed ls rs v id r r.origin ≡ renewed_in ls v rs id id r
renewed_here ls v rs id r = rw (eq-eqb id id refl) refl

pub renewed_others : (ls : Layouts) (v : ℕ) (rs : Rows) (id k : ℕ) (r : Row) → (k ≡ id → ⊥) → renewed_in ls v rs id k r ≡ r
renewed_others ls v rs id k r n = rw (ne_eqb k id n) refl

renewed_as : (ls : Layouts) (v : ℕ) (rs : Rows) (k : ℕ) (r : Row) (p : ℕ) (o : Origin) → parent_from o ≡ Some p → (row_at rs p).root ≡ v → (a : Row) → a ≡ row_at rs p
    → shown_row k (with_layout o (layout_at ls k)) a.ty (shown_of p a) ≡ renewed ls rs v k r o
renewed_as ls v rs k r p Root e g a h = cc
renewed_as ls v rs k r p (View q t y) e g a h =
    let z : q ≡ p = cc in
    let own : (row_at rs q).root ≡ v = ap (λ x. (row_at rs x).root) z ∙ g in
    ap (view_row k q t (laid_by ls k y)) (h ∙ ap (row_at rs) (sym z)) ∙ sym (rw (eq-eqb (row_at rs q).root v own) refl)

pub renewed_by : (ls : Layouts) (v : ℕ) (rs : Rows) (k : ℕ) (r q : Row) (p : ℕ) (a : Row) → r ≡ row_at rs k → parent_of (row_at rs k) ≡ Some p → a ≡ row_at rs p → a.root ≡ v
    → q ≡ shown_row k (with_layout r.origin (layout_at ls k)) a.ty (shown_of p a) → q ≡ renewed_in ls v rs k k r
renewed_by ls v rs k r q p a e h f g w =
    w ∙ renewed_as ls v rs k r p r.origin (ap (λ (x : Row). parent_from x.origin) e ∙ h) (ap (λ (x : Row). x.root) (sym f) ∙ g) a f ∙ renewed_here ls v rs k r

-- its parent is there, and its layout is over that
pub derives_live : (ls : Layouts) (rs : Rows) (v k p : ℕ) → CanDerive ls rs v k → parent_of (row_at rs k) ≡ Some p → has rs p ≡ true
derives_live ls rs v k p c e = by_origin (row_at rs k).origin refl e
  where
    by_origin : (o : Origin) → (row_at rs k).origin ≡ o → parent_from o ≡ Some p → has rs p ≡ true
    by_origin Root o f = cc
    by_origin (View q t y) o f = (let z : q ≡ p = cc in subst (λ x. has rs x ≡ true) z (c q t y o).0)

pub derives_laid : (ls : Layouts) (rs : Rows) (v k p : ℕ) (r : Row) (new : Option Layout) (a : Shown) → CanDerive ls rs v k → parent_of (row_at rs k) ≡ Some p → (row_at rs p).root ≡ v → r ≡ row_at rs k → new ≡ layout_at ls k → a ≡ shown_of p (row_at rs p) → LaidOver (with_layout r.origin new) a.triple.dims
derives_laid ls rs v k p r new a c e g h l s =
    let P : Option Layout → Type 0 = λ n. LaidOver (with_layout r.origin n) a.triple.dims in
    let Q : Row → Type 0 = λ x. LaidOver (with_layout x.origin (layout_at ls k)) a.triple.dims in
    let R : Shown → Type 0 = λ x. LaidOver (with_layout (row_at rs k).origin (layout_at ls k)) x.triple.dims in
    subst P (sym l) (subst Q (sym h) (subst R (sym s) (by_origin (row_at rs k).origin refl e)))
  where
    by_origin : (o : Origin) → (row_at rs k).origin ≡ o → parent_from o ≡ Some p → LaidOver (with_layout o (layout_at ls k)) (row_at rs p).triple.dims
    by_origin Root o f = tt
    by_origin (View q t y) o f =
        let z : p ≡ q = cc in
        let S : ℕ → Type 0 = λ x. IsLayout t (row_at rs x).triple.dims (laid_by ls k y) in
        subst S (sym z) ((c q t y o).1 (ap (λ x. (row_at rs x).root) (sym z) ∙ g))

pub same_shown : (k : ℕ) (o : Origin) (m n : Option Layout) (ty uy : Ty) (a b : Shown) → m ≡ n → ty ≡ uy → a ≡ b → shown_row k (with_layout o m) ty a ≡ shown_row k (with_layout o n) uy b
same_shown k o m n ty uy a b e f g =
    ap (λ x. shown_row k (with_layout o x) ty a) e ∙ ap (λ x. shown_row k (with_layout o n) x a) f ∙ ap (shown_row k (with_layout o n) uy) g

-- a root, and a view whose parent isn't of the new family, stay
renewed_none : (ls : Layouts) (v : ℕ) (rs : Rows) (k : ℕ) (r : Row) (o : Origin) → ((p : ℕ) → parent_from o ≡ Some p → (row_at rs p).root ≡ v → ⊥) → renewed ls rs v k r o ≡ r
renewed_none ls v rs k r Root f = refl
renewed_none ls v rs k r (View p t y) f = rw (ne_eqb (row_at rs p).root v (f p refl)) refl

pub none_renewed : (ls : Layouts) (v : ℕ) (rs : Rows) (id : ℕ) → Falls rs → ((p : ℕ) → parent_of (row_at rs id) ≡ Some p → (row_at rs p).root ≡ v → ⊥) → rs ≡ each (renewed_in ls v rs id) rs
none_renewed ls v rs id s f = sym (each_live (renewed_in ls v rs id) (λ k r. r) rs s (λ u h. elim (eqb_tells u id) [
  | inl y ↦ rw y.0 (let P : ℕ → Type 0 = λ x. renewed ls rs v id (row_at rs x) (row_at rs x).origin ≡ row_at rs x in
      subst P (sym y.1) (renewed_none ls v rs id (row_at rs id) (row_at rs id).origin f))
  | inr y ↦ rw y.0 refl
]) ∙ each_id rs)

-- older arrays than the new root stay
older_from : (ls : Layouts) (v : ℕ) (rs tail : Rows) (k : ℕ) (r : Row) (o : Origin) → IsStill rs → NumbersBelow v rs → StillFrom rs k r o → ((u : ℕ) → has rs u ≡ true → row_at tail u ≡ row_at rs u) → renewed ls tail v k r o ≡ r
older_from ls v rs tail k r Root i b s f = refl
older_from ls v rs tail k r (View p t y) i b s f =
    let n : (row_at tail p).root ≡ v → ⊥ = λ e. not_newest rs v (row_at rs p).root b (is_seen rs i p s.0).root_has (sym e ∙ ap (λ (x : Row). x.root) (f p s.0)) in
    rw (ne_eqb (row_at tail p).root v n) refl

renew_older : (ls : Layouts) (rs : Rows) → IsStill rs → (v : ℕ) (ds : List ℕ) (es : List ℤ) → NumbersBelow v rs → (u : ℕ) → has rs u ≡ true → row_at (renew ls rs v ds es) u ≡ row_at rs u
renew_older ls [] s v ds es b u h = (let z : false ≡ true = h in absurd (cc))
renew_older ls ((k, r) ∷ rs) s v ds es b u h =
    let n : k ≡ v → ⊥ = λ e. (let low : k < v = b.0 in let z : ⊥ = omega arith in z) in
    elim (eqb_tells k u) [
      | inl t ↦ rw (t.0, ne_eqb k v n) (older_from ls v rs (renew ls rs v ds es) k r r.origin s.2 b.1 s.1 (renew_older ls rs s.2 v ds es b.1))
      | inr t ↦ rw t.0 (renew_older ls rs s.2 v ds es b.1 u (rw t.0 at h))
    ]

renew_low : (ls : Layouts) (rs : Rows) → IsStill rs → (v : ℕ) (ds : List ℕ) (es : List ℤ) (u : ℕ) → has rs u ≡ true → u < v → row_at (renew ls rs v ds es) u ≡ row_at rs u
renew_low ls [] s v ds es u h l = (let z : false ≡ true = h in absurd (cc))
renew_low ls ((k, r) ∷ rs) s v ds es u h l = elim (eqb_tells k u) [
  | inl t ↦ (let n : k ≡ v → ⊥ = λ e. (let z : ⊥ = omega (arith, t.1) in z) in
      let b : NumbersBelow v rs = below_up rs k v (omega (arith, t.1)) s.0 in
      rw (t.0, ne_eqb k v n) (older_from ls v rs (renew ls rs v ds es) k r r.origin s.2 b s.1 (renew_older ls rs s.2 v ds es b)))
  | inr t ↦ rw t.0 (renew_low ls rs s.2 v ds es u (rw t.0 at h) l)
] where
  below_up : (rs : Rows) (m n : ℕ) → m < n → NumbersBelow m rs → NumbersBelow n rs
  below_up [] m n h b = tt
  below_up ((k, r) ∷ rs) m n h b = ((let x : k < m = b.0 in omega arith), below_up rs m n h b.1)

-- a view's parent is live and older
record HasAbove (rs : Rows) (u p : ℕ) : Type 0 where
  live : has rs p ≡ true
  older : p < u

above_from : (rs : Rows) (k : ℕ) (r : Row) (o : Origin) (p : ℕ) → NumbersBelow k rs → StillFrom rs k r o → parent_from o ≡ Some p → HasAbove rs k p
above_from rs k r Root p b s e = cc
above_from rs k r (View q t y) p b s e = (let z : q ≡ p = cc in
    let P : ℕ → Type 0 = λ x. HasAbove rs k x in
    subst P z (record { live = s.0; older = has_below rs k q b s.0 }))

has_above : (rs : Rows) → IsStill rs → (u p : ℕ) → has rs u ≡ true → parent_of (row_at rs u) ≡ Some p → HasAbove rs u p
has_above rs s u p h e = (let q = parent_live rs u p s h e in record { live = q.0; older = q.1 })

-- deriving a row over tables whose parents' rows are equal
renewed_same : (ls : Layouts) (v : ℕ) (a b : Rows) (k : ℕ) (r : Row) (o : Origin) → ((p : ℕ) → parent_from o ≡ Some p → row_at a p ≡ row_at b p) → renewed ls a v k r o ≡ renewed ls b v k r o
renewed_same ls v a b k r Root f = refl
renewed_same ls v a b k r (View p t y) f = ap (λ (x : Row). cond (eqb x.root v) (view_row k p t (laid_by ls k y) x) r) (f p refl)

-- a newer row is derived of the renewed rows
step_here : (ls : Layouts) (v : ℕ) (k : ℕ) (r q : Row) (rs tail : Rows) → NumbersBelow k rs → StillFrom rs k r r.origin → renewed ls tail v k r r.origin ≡ renewed ls ((k, q) ∷ tail) v k r r.origin
step_here ls v k r q rs tail b s = renewed_same ls v tail ((k, q) ∷ tail) k r r.origin (λ p e. (let a : HasAbove rs k p = above_from rs k r r.origin p b s e in
    sym (row_older k q tail p (not_newest rs k p b a.live))))

pub renew_step : (ls : Layouts) (rs : Rows) → IsStill rs → (v : ℕ) (ds : List ℕ) (es : List ℤ) (u : ℕ) → has rs u ≡ true → (u ≡ v → ⊥) → row_at (renew ls rs v ds es) u ≡ renewed ls (renew ls rs v ds es) v u (row_at rs u) (row_at rs u).origin
renew_step ls [] s v ds es u h n = (let z : false ≡ true = h in absurd (cc))
renew_step ls ((k, r) ∷ rs) s v ds es u h n = elim (cases_eq k u) [
  | inl t ↦ (let ne : k ≡ v → ⊥ = λ e. n (sym t ∙ e) in
      let qq : Row = renewed ls (renew ls rs v ds es) v k r r.origin in
      let x : renew ls ((k, r) ∷ rs) v ds es ≡ (k, renewed ls (renew ls rs v ds es) v k r r.origin) ∷ renew ls rs v ds es = rw (ne_eqb k v ne) refl in
      let P : ℕ → Type 0 = λ z. row_at (renew ls ((k, r) ∷ rs) v ds es) z ≡ renewed ls (renew ls ((k, r) ∷ rs) v ds es) v z (row_at ((k, r) ∷ rs) z) (row_at ((k, r) ∷ rs) z).origin in
      let Q : Rows → Type 0 = λ z. row_at z k ≡ renewed ls z v k (row_at ((k, r) ∷ rs) k) (row_at ((k, r) ∷ rs) k).origin in
      subst P t (subst Q (sym x) (rw (eq-eqb k k refl) (step_here ls v k r (renewed ls (renew ls rs v ds es) v k r r.origin) rs (renew ls rs v ds es) s.0 s.1))))
  | inr t ↦ (let l : has rs u ≡ true = sym (has_older k r rs u t) ∙ h in
      let q : Row = cond (eqb k v) (root_row k r.ty ds es) (renewed ls (renew ls rs v ds es) v k r r.origin) in
      row_older k (cond (eqb k v) (root_row k r.ty ds es) (renewed ls (renew ls rs v ds es) v k r r.origin)) (renew ls rs v ds es) u t
      ∙ renew_step ls rs s.2 v ds es u l n
      ∙ renewed_same ls v (renew ls rs v ds es) (renew ls ((k, r) ∷ rs) v ds es) u (row_at rs u) (row_at rs u).origin (λ p e. (let a : HasAbove rs u p = has_above rs s.2 u p l e in
      sym (row_older k (cond (eqb k v) (root_row k r.ty ds es) (renewed ls (renew ls rs v ds es) v k r r.origin)) (renew ls rs v ds es) p (not_newest rs k p s.0 a.live))))
      ∙ ap (λ (z : Row). renewed ls (renew ls ((k, r) ∷ rs) v ds es) v u z z.origin) (sym (row_older k r rs u t)))
]

-- the renewed rows, number by number
each_renew : (ls : Layouts) (rs : Rows) → IsStill rs → (v : ℕ) (ds : List ℕ) (es : List ℤ) → each (λ k r. row_at (renew ls rs v ds es) k) rs ≡ renew ls rs v ds es
each_renew ls [] s v ds es = refl
each_renew ls ((k, r) ∷ rs) s v ds es =
    let tail : each (λ j x. row_at (renew ls ((k, r) ∷ rs) v ds es) j) rs ≡ renew ls rs v ds es =
    each_live (λ j x. row_at (renew ls ((k, r) ∷ rs) v ds es) j) (λ j x. row_at (renew ls rs v ds es) j) rs (still_falls rs s.2)
    (λ j h. row_older k (cond (eqb k v) (root_row k r.ty ds es) (renewed ls (renew ls rs v ds es) v k r r.origin)) (renew ls rs v ds es) j (not_newest rs k j s.0 h))
    ∙ each_renew ls rs s.2 v ds es in
    let head : row_at (renew ls ((k, r) ∷ rs) v ds es) k ≡ cond (eqb k v) (root_row k r.ty ds es) (renewed ls (renew ls rs v ds es) v k r r.origin) = rw (eq-eqb k k refl) refl in
    cc

-- the layout of each view that is derived anew, by its number
laid_from : (ls : Layouts) (rest : Rows) (v k p : ℕ) (t : Trans) (y : Layout) (o : Origin) → o ≡ View p t y → LaidAnew ls rest v k o → (row_at rest p).root ≡ v → Fits t (row_at rest p).triple.dims (laid_by ls k y)
laid_from ls rest v k p t y Root e l = cc
laid_from ls rest v k p t y (View q u x) e l =
    let a : q ≡ p = cc in
    let b : u ≡ t = cc in
    let c : x ≡ y = cc in
    let P : ℕ → Trans → Layout → Type 0 = λ q' u' x'. (row_at rest q').root ≡ v → Fits u' (row_at rest q').triple.dims (laid_by ls k x') in
    subst (λ q'. P q' t y) a (subst (λ u'. P q u' y) b (subst (λ x'. P q u x') c l))

pub laid_at : (ls : Layouts) (rs : Rows) → IsStill rs → (v : ℕ) (ds : List ℕ) (es : List ℤ) → AreLaid ls rs v ds es → (u p : ℕ) (t : Trans) (y : Layout) → has rs u ≡ true → (row_at rs u).origin ≡ View p t y
    → (row_at (renew ls rs v ds es) p).root ≡ v → Fits t (row_at (renew ls rs v ds es) p).triple.dims (laid_by ls u y)
laid_at ls [] s v ds es l u p t y h o w = (let z : false ≡ true = h in absurd (cc))
laid_at ls ((k, r) ∷ rs) s v ds es l u p t y h o w =
    let up : has rs p ≡ true = above_is ls k r rs s u p t y h o in
    let n : k ≡ p → ⊥ = not_newest rs k p s.0 up in
    let row : row_at (renew ls ((k, r) ∷ rs) v ds es) p ≡ row_at (renew ls rs v ds es) p = row_older k (cond (eqb k v) (root_row k r.ty ds es) (renewed ls (renew ls rs v ds es) v k r r.origin)) (renew ls rs v ds es) p n in
    let below : (row_at (renew ls rs v ds es) p).root ≡ v = ap (λ (x : Row). x.root) (sym row) ∙ w in
    let P : Row → Type 0 = λ x. Fits t x.triple.dims (laid_by ls u y) in
    subst P (sym row) (elim (eqb_tells k u) [
      | inl q ↦ subst (λ i. Fits t (row_at (renew ls rs v ds es) p).triple.dims (laid_by ls i y)) q.1 (laid_from ls (renew ls rs v ds es) v k p t y r.origin (rw q.0 at o) l.0 below)
      | inr q ↦ laid_at ls rs s.2 v ds es l.1 u p t y (rw q.0 at h) (rw q.0 at o) below
    ])
  where
    above_is : (ls : Layouts) (k : ℕ) (r : Row) (rs : Rows) → IsStill ((k, r) ∷ rs) → (u p : ℕ) (t : Trans) (y : Layout) → has ((k, r) ∷ rs) u ≡ true → (row_at ((k, r) ∷ rs) u).origin ≡ View p t y → has rs p ≡ true
    above_is ls k r rs s u p t y h o = elim (eqb_tells k u) [
      | inl q ↦ (above_from rs k r r.origin p s.0 s.1 (ap parent_from (rw q.0 at o))).live
      | inr q ↦ (parent_live rs u p s.2 (rw q.0 at h) (ap parent_from (rw q.0 at o))).0
    ]

-- layouts that are left tell the same of an array
renewed_left : (ls left : Layouts) (v : ℕ) (rs : Rows) (k : ℕ) (r : Row) (o : Origin) → layout_at left k ≡ layout_at ls k → renewed left rs v k r o ≡ renewed ls rs v k r o
renewed_left ls left v rs k r Root e = refl
renewed_left ls left v rs k r (View p t y) e = ap (λ x. cond (eqb (row_at rs p).root v) (view_row k p t (unwrap_or x y) (row_at rs p)) r) e

each_left : (ls left : Layouts) (v : ℕ) (rs t : Rows) (id : ℕ) → Falls t → layout_at left id ≡ layout_at ls id → each (renewed_in left v rs id) t ≡ each (renewed_in ls v rs id) t
each_left ls left v rs t id f e = each_live (renewed_in left v rs id) (renewed_in ls v rs id) t f (λ u h. elim (eqb_tells u id) [
  | inl y ↦ rw y.0 (renewed_left ls left v rs id (row_at t u) (row_at t u).origin e)
  | inr y ↦ rw y.0 refl
])

same_each : (t0 t : Rows) (f : ℕ → Row → Row) → IsStill t0 → t ≡ each f t0 → t ≡ each (λ k r. row_at t k) t0
same_each t0 t f s e = e ∙ each_live f (λ k r. row_at t k) t0 (still_falls t0 s) (λ k h. sym (ap (λ x. row_at x k) e ∙ each_at f t0 k h))

-- the new root is there, and no view is derived anew yet
rooted_row : (ls : Layouts) (t0 : Rows) (v : ℕ) (ds : List ℕ) (es : List ℤ) (t : Rows) (u : ℕ) → t ≡ each (rooted_in v ds es) t0 → has t0 v ≡ true → has t0 u ≡ true
    → ((u ≡ v → ⊥) → row_at (renew ls t0 v ds es) u ≡ row_at t0 u) → row_at t u ≡ row_at (renew ls t0 v ds es) u
rooted_row ls t0 v ds es t u e h g same = ap (λ x. row_at x u) e ∙ each_at (rooted_in v ds es) t0 u g ∙ elim (eqb_tells u v) [
  | inl y ↦ rw y.0 (let P : ℕ → Type 0 = λ x. root_row v (row_at t0 x).ty ds es ≡ row_at (renew ls t0 v ds es) x in subst P (sym y.1) (sym (renew_row ls t0 v ds es h)))
  | inr y ↦ rw y.0 (sym (same y.1))
]

-- ---- what is below the new root
-- the new root is its root then
abbrev pub is_new : Layouts → Rows → ℕ → List ℕ → List ℤ → ℕ → Bool
is_new ls t0 v ds es p = eqb (row_at (renew ls t0 v ds es) p).root v

-- a root is no newer than its family
root_low : (rs : Rows) → IsStill rs → (u : ℕ) → has rs u ≡ true → (row_at rs u).root ≤ u
root_low [] s u h = (let z : false ≡ true = h in absurd (cc))
root_low ((k, r) ∷ rs) s u h = elim (eqb_tells k u) [
  | inl y ↦ rw y.0 (let low : r.root ≤ k = by (λ p h. root_low rs s.2 p h) r.origin s.1 in omega (arith, low, y.1))
  | inr y ↦ rw y.0 (root_low rs s.2 u (rw y.0 at h))
] where
  by : ((p : ℕ) → has rs p ≡ true → (row_at rs p).root ≤ p) → (o : Origin) → StillFrom rs k r o → r.root ≤ k
  by f Root i = (let e : r.root ≡ k = i.root_is in omega (arith, e))
  by f (View p t y) i =
      let a : (row_at rs p).root ≤ p = f p i.0 in
      let b : p < k = has_below rs k p s.0 i.0 in
      let e : r.root ≡ (row_at rs p).root = i.1.root_is in
      omega (arith, a, b, e)

-- what is no view is its own root
own_root : (rs : Rows) → IsStill rs → (u : ℕ) → has rs u ≡ true → (row_at rs u).origin ≡ Root → (row_at rs u).root ≡ u
own_root [] s u h e = (let z : false ≡ true = h in absurd (cc))
own_root ((k, r) ∷ rs) s u h e = elim (eqb_tells k u) [
  | inl y ↦ rw y.0 (by r.origin (rw y.0 at e) s.1 ∙ y.1)
  | inr y ↦ rw y.0 (own_root rs s.2 u (rw y.0 at h) (rw y.0 at e))
] where
  by : (o : Origin) → o ≡ Root → StillFrom rs k r o → r.root ≡ k
  by Root e i = i.root_is
  by (View p t y) e i = cc

-- what becomes of each row
moved : (ls : Layouts) (t0 : Rows) (v : ℕ) (ds : List ℕ) (es : List ℤ) → CanRenew ls t0 v ds es → AllAfter ls t0 v ds es (row_at t0 v).root
moved ls t0 v ds es c = after ls t0 v ds es (row_at t0 v).root c.order.still (λ u h e. ap (λ x. (row_at t0 x).root) e)

new_follows : (ls : Layouts) (t0 : Rows) (v : ℕ) (ds : List ℕ) (es : List ℤ) → CanRenew ls t0 v ds es → (u : ℕ) → has t0 u ≡ true → (u ≡ v → ⊥) → is_new ls t0 v ds es u ≡ of_parent (is_new ls t0 v ds es) (parent_of (row_at t0 u))
new_follows ls t0 v ds es c u h n = by (row_at t0 u).origin refl where
  step : row_at (renew ls t0 v ds es) u ≡ renewed ls (renew ls t0 v ds es) v u (row_at t0 u) (row_at t0 u).origin
  step = renew_step ls t0 c.order.still v ds es u h n

  by : (o : Origin) → (row_at t0 u).origin ≡ o → is_new ls t0 v ds es u ≡ of_parent (is_new ls t0 v ds es) (parent_from o)
  by Root e =
      let row : row_at (renew ls t0 v ds es) u ≡ row_at t0 u = step ∙ ap (renewed ls (renew ls t0 v ds es) v u (row_at t0 u)) e in
      ne_eqb (row_at (renew ls t0 v ds es) u).root v (λ q. n (sym (own_root t0 c.order.still u h e) ∙ ap (λ (x : Row). x.root) (sym row) ∙ q))
  by (View p t y) e =
      let at : IsViewAt t0 u p t y = view_at t0 c.order.still u p t y h e in
      let row : row_at (renew ls t0 v ds es) u ≡ renewed ls (renew ls t0 v ds es) v u (row_at t0 u) (View p t y) = step ∙ ap (renewed ls (renew ls t0 v ds es) v u (row_at t0 u)) e in
      elim (eqb_tells (row_at (renew ls t0 v ds es) p).root v) [
        | inl w ↦ (let same : row_at (renew ls t0 v ds es) u ≡ view_row u p t (laid_by ls u y) (row_at (renew ls t0 v ds es) p) = row ∙ (rw w.0 refl) in
            ap (λ (x : Row). eqb x.root v) same)
        | inr w ↦ (let same : row_at (renew ls t0 v ds es) u ≡ row_at t0 u = row ∙ (rw w.0 refl) in
            let apart : (row_at t0 p).root ≡ v → ⊥ = (is_untouched v (row_at t0 v).root p (row_at t0 p) (row_at (renew ls t0 v ds es) p) (moved ls t0 v ds es c p at.live) w.1).apart in
            ne_eqb (row_at (renew ls t0 v ds es) u).root v (λ q. apart (sym at.derived.root_is ∙ ap (λ (x : Row). x.root) (sym same) ∙ q)) ∙ sym w.0)
      ]

new_below : (ls : Layouts) (t0 : Rows) (v : ℕ) (ds : List ℕ) (es : List ℤ) → CanRenew ls t0 v ds es → IsBelow t0 v (is_new ls t0 v ds es)
new_below ls t0 v ds es c = record {
  top = eq-eqb (row_at (renew ls t0 v ds es) v).root v (ap (λ (x : Row). x.root) (renew_row ls t0 v ds es c.live));
  older = λ p h l. ne_eqb (row_at (renew ls t0 v ds es) p).root v (λ e. (let low : (row_at t0 p).root ≤ p = root_low t0 c.order.still p h in
      let row : (row_at (renew ls t0 v ds es) p).root ≡ (row_at t0 p).root = ap (λ (x : Row). x.root) (renew_low ls t0 c.order.still v ds es p h l) in
      absurd (omega (arith, low, row, e, l))));
  follows = new_follows ls t0 v ds es c;
}

-- an array that isn't below stays as it is
untouched : (ls : Layouts) (t0 : Rows) (v : ℕ) (ds : List ℕ) (es : List ℤ) → CanRenew ls t0 v ds es → (u : ℕ) → has t0 u ≡ true → is_new ls t0 v ds es u ≡ false → row_at t0 u ≡ row_at (renew ls t0 v ds es) u
untouched ls t0 v ds es k u h n =
    sym (is_untouched v (row_at t0 v).root u (row_at t0 u) (row_at (renew ls t0 v ds es) u) (moved ls t0 v ds es k u h)
    (λ e. both_ways (is_new ls t0 v ds es u) n (eq-eqb (row_at (renew ls t0 v ds es) u).root v e))).row

-- the rows below the bound are renewed, the others are as they were, and the views ws are left
pub record IsRenewing (ls : Layouts) (t0 : Rows) (v : ℕ) (ds : List ℕ) (es : List ℤ) (t : Rows) (ws : List ℕ) : Type 0 where
  pub bound : ℕ
  pub above : v < bound
  pub left : IsLeft t0 (is_new ls t0 v ds es) bound ws
  pub rows : t ≡ each (λ k r. row_at t k) t0
  pub done : (u : ℕ) → has t0 u ≡ true → u < bound → row_at t u ≡ row_at (renew ls t0 v ds es) u
  pub rest : (u : ℕ) → has t0 u ≡ true → bound ≤ u → row_at t u ≡ row_at t0 u

pub renewing_begins : (ls : Layouts) (t0 : Rows) (v : ℕ) (ds : List ℕ) (es : List ℤ) (t : Rows) (us : List ℕ) → CanRenew ls t0 v ds es → AreBelow t0 v us → t ≡ each (rooted_in v ds es) t0 → IsRenewing ls t0 v ds es t us
renewing_begins ls t0 v ds es t us k b e = record {
  bound = v + 1;
  above = omega arith;
  left = left_begins t0 v (is_new ls t0 v ds es) us k.order.still (new_below ls t0 v ds es k) b;
  rows = same_each t0 t (rooted_in v ds es) k.order.still e;
  done = λ u g m. rooted_row ls t0 v ds es t u e k.live g (λ n. renew_low ls t0 k.order.still v ds es u g (omega (arith, m, n)));
  rest = λ u g m. ap (λ x. row_at x u) e ∙ each_at (rooted_in v ds es) t0 u g ∙ rw (ne_eqb u v (λ y. (let z : ⊥ = omega (arith, m, y) in z))) refl;
}

-- the next view is live and newer, and the rows before it are done
record IsAt (ls : Layouts) (t0 : Rows) (v : ℕ) (ds : List ℕ) (es : List ℤ) (t : Rows) (id : ℕ) : Type 0 where
  live : has t0 id ≡ true
  newer : v < id
  here : row_at t id ≡ row_at t0 id
  done : (u : ℕ) → has t0 u ≡ true → u < id → row_at t u ≡ row_at (renew ls t0 v ds es) u
  rest : (u : ℕ) → has t0 u ≡ true → id < u → row_at t u ≡ row_at t0 u
  has_is : (u : ℕ) → has t u ≡ has t0 u

is_at : (ls : Layouts) (t0 : Rows) (v : ℕ) (ds : List ℕ) (es : List ℤ) (t : Rows) (id : ℕ) (ws : List ℕ) → CanRenew ls t0 v ds es → IsRenewing ls t0 v ds es t (id ∷ ws) → IsAt ls t0 v ds es t id
is_at ls t0 v ds es t id ws k c =
    let low : c.bound ≤ id = c.left.above id (first_listed id ws) in
    let live : has t0 id ≡ true = c.left.there id (first_listed id ws) in
    record {
      live = live;
      newer = omega (arith, c.above, low);
      here = c.rest id live low;
      done = λ u h l. elim (cases_lt u c.bound) [
        | inl y ↦ c.done u h y
        | inr y ↦ c.rest u h y ∙ untouched ls t0 v ds es k u h (left_passed t0 (is_new ls t0 v ds es) c.bound id ws c.left u h y l)
      ];
      rest = λ u h l. c.rest u h (omega (arith, low, l));
      has_is = λ u. ap (λ r. has r u) c.rows ∙ each_has (λ k r. row_at t k) t0 u;
    }

pub renewing_live : (ls : Layouts) (t0 : Rows) (v : ℕ) (ds : List ℕ) (es : List ℤ) (t : Rows) (id : ℕ) (ws : List ℕ) → CanRenew ls t0 v ds es → IsRenewing ls t0 v ds es t (id ∷ ws) → has t id ≡ true
renewing_live ls t0 v ds es t id ws k c = let a : IsAt ls t0 v ds es t id = is_at ls t0 v ds es t id ws k c in a.has_is id ∙ a.live

pub renewing_goes : (ls : Layouts) (t0 : Rows) (v : ℕ) (ds : List ℕ) (es : List ℤ) (t new : Rows) (id : ℕ) (ws : List ℕ) → CanRenew ls t0 v ds es → IsRenewing ls t0 v ds es t (id ∷ ws) → new ≡ each (renewed_in ls v t id) t → IsRenewing ls t0 v ds es new ws
renewing_goes ls t0 v ds es t new id ws k c n =
    let s : IsStill t0 = k.order.still in
    let a : IsAt ls t0 v ds es t id = is_at ls t0 v ds es t id ws k c in
    let ne : id ≡ v → ⊥ = λ y. (let x : v < id = a.newer in let z : ⊥ = omega arith in z) in
    let all : new ≡ each (λ k r. renewed_in ls v t id k (row_at t k)) t0 = n ∙ ap (each (renewed_in ls v t id)) c.rows ∙ each_each (renewed_in ls v t id) (λ k r. row_at t k) t0 in
    let row : (u : ℕ) → has t0 u ≡ true → row_at new u ≡ renewed_in ls v t id u (row_at t u) = λ u g. ap (λ r. row_at r u) n ∙ each_at (renewed_in ls v t id) t u (a.has_is u ∙ g) in
    let last : renewed ls t v id (row_at t0 id) (row_at t0 id).origin ≡ row_at (renew ls t0 v ds es) id =
    renewed_same ls v t (renew ls t0 v ds es) id (row_at t0 id) (row_at t0 id).origin (λ p q. (let w : HasAbove t0 id p = has_above t0 s id p a.live q in a.done p w.live w.older)) ∙ sym (renew_step ls t0 s v ds es id a.live ne) in
    record {
      bound = id + 1;
      above = (let x : v < id = a.newer in omega arith);
      left = left_next t0 (is_new ls t0 v ds es) c.bound id ws c.left;
      rows = same_each t0 new (λ k r. renewed_in ls v t id k (row_at t k)) s all;
      done = λ u g l. row u g ∙ elim (eqb_tells u id) [
        | inl y ↦ rw y.0 (let P : ℕ → Type 0 = λ x. renewed ls t v id (row_at t x) (row_at t x).origin ≡ row_at (renew ls t0 v ds es) x in
            subst P (sym y.1) (ap (λ (z : Row). renewed ls t v id z z.origin) a.here ∙ last))
        | inr y ↦ rw y.0 (a.done u g (omega (arith, y.1)))
      ];
      rest = λ u g l. row u g ∙ rw (ne_eqb u id (λ y. (let z : ⊥ = omega arith in z))) (a.rest u g (omega arith));
    }

pub renewing_done : (ls : Layouts) (t0 : Rows) (v : ℕ) (ds : List ℕ) (es : List ℤ) (t : Rows) → CanRenew ls t0 v ds es → IsRenewing ls t0 v ds es t [] → t ≡ renew ls t0 v ds es
renewing_done ls t0 v ds es t k c =
    c.rows ∙ each_live (λ j r. row_at t j) (λ j r. row_at (renew ls t0 v ds es) j) t0 (still_falls t0 k.order.still) (λ j h. elim (cases_lt j c.bound) [
      | inl y ↦ c.done j h y
      | inr y ↦ c.rest j h y ∙ untouched ls t0 v ds es k j h (left_done t0 (is_new ls t0 v ds es) c.bound c.left j h y)
    ]) ∙ each_renew ls t0 k.order.still v ds es

renewing_falls : (ls : Layouts) (t0 : Rows) (v : ℕ) (ds : List ℕ) (es : List ℤ) (t : Rows) (ws : List ℕ) → IsStill t0 → IsRenewing ls t0 v ds es t ws → Falls t
renewing_falls ls t0 v ds es t ws s c = subst (λ (x : Rows). Falls x) (sym c.rows) (falls_each (λ k r. row_at t k) t0 (still_falls t0 s))

-- the next view can be derived anew
renewing_can : (ls : Layouts) (t0 : Rows) (v : ℕ) (ds : List ℕ) (es : List ℤ) (t : Rows) (id : ℕ) (ws : List ℕ) → CanRenew ls t0 v ds es → IsRenewing ls t0 v ds es t (id ∷ ws) → CanDerive ls t v id
renewing_can ls t0 v ds es t id ws k c = λ p u y o.
    let s : IsStill t0 = k.order.still in
    let a : IsAt ls t0 v ds es t id = is_at ls t0 v ds es t id ws k c in
    let o0 : (row_at t0 id).origin ≡ View p u y = ap (λ (x : Row). x.origin) (sym a.here) ∙ o in
    let w : HasAbove t0 id p = has_above t0 s id p a.live (ap parent_from o0) in
    let row : row_at t p ≡ row_at (renew ls t0 v ds es) p = a.done p w.live w.older in
    let P : Row → Type 0 = λ x. IsLayout u x.triple.dims (laid_by ls id y) in
    (a.has_is p ∙ w.live, λ g. subst P (sym row) (laid_at ls t0 s v ds es k.laid id p u y a.live o0 (ap (λ (x : Row). x.root) (sym row) ∙ g)).layout)

can_left : (ls left : Layouts) (t : Rows) (v id : ℕ) → layout_at left id ≡ layout_at ls id → CanDerive ls t v id → CanDerive left t v id
can_left ls left t v id e c = λ p u y o. ((c p u y o).0, λ g. subst (λ x. IsLayout u (row_at t p).triple.dims (unwrap_or x y)) (sym e) ((c p u y o).1 g))

-- the layouts of the views that are left are there
abbrev pub AreLeft : Layouts → Layouts → List ℕ → Type 0
AreLeft ls left ws = (u : ℕ) → is_listed ws u ≡ true → layout_at left u ≡ layout_at ls u

pub can_next : (ls left : Layouts) (t0 : Rows) (v : ℕ) (ds : List ℕ) (es : List ℤ) (t : Rows) (id : ℕ) (ws : List ℕ) → CanRenew ls t0 v ds es → IsRenewing ls t0 v ds es t (id ∷ ws) → AreLeft ls left (id ∷ ws) → CanDerive left t v id
can_next ls left t0 v ds es t id ws k c a = can_left ls left t v id (a id (first_listed id ws)) (renewing_can ls t0 v ds es t id ws k c)

pub left_goes : (ls left new : Layouts) (t0 : Rows) (v : ℕ) (ds : List ℕ) (es : List ℤ) (t : Rows) (id : ℕ) (ws : List ℕ) → IsRenewing ls t0 v ds es t (id ∷ ws) → AreLeft ls left (id ∷ ws) → ((u : ℕ) → (u ≡ id → ⊥) → layout_at new u ≡ layout_at left u) → AreLeft ls new ws
left_goes ls left new t0 v ds es t id ws c a g = λ u h. (let up : id < u = c.left.rises.0 u h in
    g u (λ e. absurd (omega (arith, e, up))) ∙ a u (rest_listed id u ws h))

-- a view that is derived by what is left of the layouts
pub rows_left : (ls left : Layouts) (t0 : Rows) (v : ℕ) (ds : List ℕ) (es : List ℤ) (t new : Rows) (id : ℕ) (ws : List ℕ) → CanRenew ls t0 v ds es → IsRenewing ls t0 v ds es t (id ∷ ws) → AreLeft ls left (id ∷ ws)
    → new ≡ each (renewed_in left v t id) t → new ≡ each (renewed_in ls v t id) t
rows_left ls left t0 v ds es t new id ws k c l e = e ∙ each_left ls left v t t id (renewing_falls ls t0 v ds es t (id ∷ ws) k.order.still c) (l id (first_listed id ws))
