-- The rows after an array became a root.
use Rattle.std.proofs.Common.{◌≡◌, ℕ, ℤ, true, false, eqb, cond, List, [], ◌∷◌, length, None, option_and_then, ◌⊎◌, inl, inr, refl, sym, ◌∙◌, ap, subst}
use Rattle.std.proofs.lemmas.Bool.{cases_eq, eq-eqb, ne_eqb}
use Rattle.std.proofs.lemmas.Bool.Decides.{eqb_tells}
use Rattle.pdl_elem.specs.declared.Ty.{Ty}
use Rattle.pdl_shape.specs.Shape.{IsDims, size_of}
use Rattle.pdl_world.specs.Cut.{replaced}
use Rattle.pdl_world.specs.declared.Trans.{Trans}
use Rattle.pdl_world.specs.World.{root, view, look, through}
use Rattle.pdl_nodes.specs.declared.origin.Layout.{Layout}
use Rattle.pdl_nodes.specs.declared.origin.Origin.{Origin}
use Rattle.pdl_nodes.specs.declared.origin.Origin.TheVariants.{Root, View}
use Rattle.pdl_nodes.specs.Joined.{IsNewView, view_row}
use Rattle.pdl_nodes.specs.Row.{Row, root_row}
use Rattle.pdl_nodes.specs.Rows.{Rows, row_at, has, NumbersBelow}
use Rattle.pdl_nodes.specs.Sized.{AreSized, IsLayout, IsSized, IsWithinLimits, LaidFrom}
use Rattle.pdl_nodes.specs.Still.{IsDerived, StillFrom, IsStill}
use Rattle.pdl_nodes.specs.Worlds.{def_from, def_of, shape}
use Rattle.pdl_nodes.proofs.SizedBelow.{LawsBelow, sized_at}
use Rattle.pdl_nodes.proofs.RowFinds.{not_newest}
use Rattle.pdl_nodes.proofs.StillLaid.{is_whole}
use Rattle.pdl_nodes.proofs.RowsSeen.{has_older, look_older, row_older}
use Rattle.pdl_nodes.proofs.SizedViews.{new_view}
use Rattle.pdl_nodes.specs.Renewed.{Layouts, laid_by, renewed, renew, LaidAnew, AreLaid}

-- numbers
pub renew_has : (ls : Layouts) (rs : Rows) (v : ℕ) (ds : List ℕ) (es : List ℤ) (u : ℕ) → has (renew ls rs v ds es) u ≡ has rs u
renew_has ls [] v ds es u = refl
renew_has ls ((k, r) ∷ rs) v ds es u = ap (λ x. cond (eqb k u) true x) (renew_has ls rs v ds es u)

renew_below : (ls : Layouts) (rs : Rows) (v : ℕ) (ds : List ℕ) (es : List ℤ) (n : ℕ) → NumbersBelow n rs → NumbersBelow n (renew ls rs v ds es)
renew_below ls [] v ds es n b = tt
renew_below ls ((k, r) ∷ rs) v ds es n b = (b.0, renew_below ls rs v ds es n b.1)

-- the row of the new root
pub renew_row : (ls : Layouts) (rs : Rows) (v : ℕ) (ds : List ℕ) (es : List ℤ) → has rs v ≡ true → row_at (renew ls rs v ds es) v ≡ root_row v (row_at rs v).ty ds es
renew_row ls [] v ds es h = (let z : false ≡ true = h in absurd (cc))
renew_row ls ((k, r) ∷ rs) v ds es h = elim (eqb_tells k v) [
  | inl t ↦ rw t.0 (ap (λ x. root_row x r.ty ds es) t.1)
  | inr t ↦ rw t.0 (renew_row ls rs v ds es (rw t.0 at h))
]

-- a row is as it was, and of another root; or it has the new root, which it is or else nothing is kept of it
pub record IsUntouched (v : ℕ) (old new : Row) : Type 0 where
  pub row : new ≡ old
  pub apart : old.root ≡ v → ⊥

pub record IsMoved (v rt u : ℕ) (old new : Row) : Type 0 where
  pub root_is : new.root ≡ v
  pub unmarked : (u ≡ v) ⊎ (new.mark ≡ false)
  pub unlisted : new.places ≡ None
  pub bare : (new.base ≡ u → ⊥) → new.kept ≡ []
  pub was : old.root ≡ rt

abbrev pub After : (v rt u : ℕ) → (old new : Row) → Type 0
After v rt u old new = IsUntouched v old new ⊎ IsMoved v rt u old new

pub moved_root : (v rt u : ℕ) (old new : Row) → After v rt u old new → new.root ≡ v → old.root ≡ rt
moved_root v rt u old new (inl a) e = absurd (a.apart (ap (λ (x : Row). x.root) (sym a.row) ∙ e))
moved_root v rt u old new (inr a) e = a.was

pub is_untouched : (v rt u : ℕ) (old new : Row) → After v rt u old new → (new.root ≡ v → ⊥) → IsUntouched v old new
is_untouched v rt u old new (inl a) n = a
is_untouched v rt u old new (inr a) n = absurd (n a.root_is)

abbrev pub AllAfter : Layouts → Rows → ℕ → List ℕ → List ℤ → ℕ → Type 0
AllAfter ls rs v ds es rt = (u : ℕ) → has rs u ≡ true → After v rt u (row_at rs u) (row_at (renew ls rs v ds es) u)

-- the newest row
abbrev pub head : Layouts → Rows → ℕ → List ℕ → List ℤ → ℕ → Row → Origin → Row
head ls rs v ds es k r o = cond (eqb k v) (root_row k r.ty ds es) (renewed ls (renew ls rs v ds es) v k r o)

renewed_after : (ls : Layouts) (rs : Rows) (v : ℕ) (ds : List ℕ) (es : List ℤ) (rt k : ℕ) (r : Row) (o : Origin) → (k ≡ v → ⊥) → StillFrom rs k r o → AllAfter ls rs v ds es rt → After v rt k r (renewed ls (renew ls rs v ds es) v k r o)
renewed_after ls rs v ds es rt k r Root n s f = inl (record { row = refl; apart = λ e. n (sym s.root_is ∙ e) })
renewed_after ls rs v ds es rt k r (View p t y) n s f =
    let a : After v rt p (row_at rs p) (row_at (renew ls rs v ds es) p) = f p s.0 in
    elim (eqb_tells (row_at (renew ls rs v ds es) p).root v) [
      | inl e ↦ rw e.0 (inr (record { root_is = e.1; unmarked = inr refl; unlisted = refl; bare = λ m. refl; was = s.1.root_is ∙ moved_root v rt p (row_at rs p) (row_at (renew ls rs v ds es) p) a e.1 }))
      | inr e ↦ rw e.0 (inl (record { row = refl; apart = λ q. (is_untouched v rt p (row_at rs p) (row_at (renew ls rs v ds es) p) a e.1).apart (sym s.1.root_is ∙ q) }))
    ]

head_after : (ls : Layouts) (rs : Rows) (v : ℕ) (ds : List ℕ) (es : List ℤ) (rt k : ℕ) (r : Row) (o : Origin) → (k ≡ v → r.root ≡ rt) → StillFrom rs k r o → AllAfter ls rs v ds es rt → After v rt k r (head ls rs v ds es k r o)
head_after ls rs v ds es rt k r o g s f = elim (eqb_tells k v) [
  | inl y ↦ rw y.0 (inr (record { root_is = y.1; unmarked = inl y.1; unlisted = refl; bare = λ m. absurd (m refl); was = g y.1 }))
  | inr y ↦ rw y.0 (renewed_after ls rs v ds es rt k r o y.1 s f)
]

-- each row; the root that v had is rt
pub after : (ls : Layouts) (rs : Rows) (v : ℕ) (ds : List ℕ) (es : List ℤ) (rt : ℕ) → IsStill rs → ((u : ℕ) → has rs u ≡ true → u ≡ v → (row_at rs u).root ≡ rt) → AllAfter ls rs v ds es rt
after ls [] v ds es rt s g u h = (let z : false ≡ true = h in absurd (cc))
after ls ((k, r) ∷ rs) v ds es rt s g u h =
    let tail : AllAfter ls rs v ds es rt = after ls rs v ds es rt s.2 (λ x l e. (let n : k ≡ x → ⊥ = not_newest rs k x s.0 l in
    ap (λ (q : Row). q.root) (sym (row_older k r rs x n)) ∙ g x (has_older k r rs x n ∙ l) e)) in
    elim (eqb_tells k u) [
      | inl t ↦ (let own : k ≡ v → r.root ≡ rt = λ e. (let q : (row_at ((k, r) ∷ rs) k).root ≡ rt = g k (rw (eq-eqb k k refl) refl) e in rw (eq-eqb k k refl) at q) in
          let P : ℕ → Type 0 = λ x. After v rt x r (head ls rs v ds es k r r.origin) in
          rw t.0 (subst P t.1 (head_after ls rs v ds es rt k r r.origin own s.1 tail)))
      | inr t ↦ rw t.0 (tail u (rw t.0 at h))
    ]

new_derived : (k p : ℕ) (t : Trans) (y : Layout) (a : Row) → IsNewView k p t a (view_row k p t y a) → IsDerived k a (view_row k p t y a) t y
new_derived k p t y a n =
    let same : View p t y ≡ View p t n.layout = n.origin in
    let z : y ≡ n.layout = cc in
    subst (λ x. IsDerived k a (view_row k p t y a) t x) (sym z) n.derived

new_laid : (k p : ℕ) (t : Trans) (y : Layout) (a : Row) → IsNewView k p t a (view_row k p t y a) → IsLayout t a.triple.dims y
new_laid k p t y a n =
    let same : View p t y ≡ View p t n.layout = n.origin in
    let z : y ≡ n.layout = cc in
    subst (λ x. IsLayout t a.triple.dims x) (sym z) n.laid

-- what a row needs of the older ones
sized_from : LawsBelow → (ls : Layouts) (rs : Rows) (v : ℕ) (ds : List ℕ) (es : List ℤ) (rt k : ℕ) (r : Row) (o : Origin) → r.origin ≡ o → StillFrom rs k r o → IsWithinLimits r → LaidFrom rs o → LaidAnew ls (renew ls rs v ds es) v k o
    → AreSized (renew ls rs v ds es) → AllAfter ls rs v ds es rt → IsSized (renew ls rs v ds es) (renewed ls (renew ls rs v ds es) v k r o)
sized_from laws ls rs v ds es rt k r Root e s z l d q f = record { within = z; laid = subst (LaidFrom (renew ls rs v ds es)) (sym e) tt }
sized_from laws ls rs v ds es rt k r (View p t y) e s z l d q f = elim (eqb_tells (row_at (renew ls rs v ds es) p).root v) [
  | inl w ↦ (let n : IsNewView k p t (row_at (renew ls rs v ds es) p) (view_row k p t (laid_by ls k y) (row_at (renew ls rs v ds es) p)) =
      new_view laws k p t (laid_by ls k y) (row_at (renew ls rs v ds es) p) (sized_at (renew ls rs v ds es) q p (renew_has ls rs v ds es p ∙ s.0)).triple (d w.1) in
      rw w.0 (record { within = record { triple = n.triple; limits = n.limits }; laid = new_laid k p t (laid_by ls k y) (row_at (renew ls rs v ds es) p) n }))
  | inr w ↦ (let a : IsUntouched v (row_at rs p) (row_at (renew ls rs v ds es) p) = is_untouched v rt p (row_at rs p) (row_at (renew ls rs v ds es) p) (f p s.0) w.1 in
      let P : Row → Type 0 = λ x. IsLayout t x.triple.dims y in
      let there : LaidFrom (renew ls rs v ds es) (View p t y) = subst P (sym a.row) l in
      rw w.0 (record { within = z; laid = subst (LaidFrom (renew ls rs v ds es)) (sym e) there }))
]

still_by : LawsBelow → (ls : Layouts) (rs : Rows) (v : ℕ) (ds : List ℕ) (es : List ℤ) (rt k : ℕ) (r : Row) (o : Origin) → r.origin ≡ o → StillFrom rs k r o → LaidAnew ls (renew ls rs v ds es) v k o
    → AreSized (renew ls rs v ds es) → AllAfter ls rs v ds es rt → StillFrom (renew ls rs v ds es) k (renewed ls (renew ls rs v ds es) v k r o) (renewed ls (renew ls rs v ds es) v k r o).origin
still_by laws ls rs v ds es rt k r Root e s d q f = subst (λ x. StillFrom (renew ls rs v ds es) k r x) (sym e) s
still_by laws ls rs v ds es rt k r (View p t y) e s d q f =
    let live : has (renew ls rs v ds es) p ≡ true = renew_has ls rs v ds es p ∙ s.0 in
    elim (eqb_tells (row_at (renew ls rs v ds es) p).root v) [
      | inl w ↦ rw w.0 (live, new_derived k p t (laid_by ls k y) (row_at (renew ls rs v ds es) p) (new_view laws k p t (laid_by ls k y) (row_at (renew ls rs v ds es) p) (sized_at (renew ls rs v ds es) q p live).triple (d w.1)))
      | inr w ↦ (let a : IsUntouched v (row_at rs p) (row_at (renew ls rs v ds es) p) = is_untouched v rt p (row_at rs p) (row_at (renew ls rs v ds es) p) (f p s.0) w.1 in
          let there : StillFrom (renew ls rs v ds es) k r (View p t y) = (live, subst (λ x. IsDerived k x r t y) (sym a.row) s.1) in
          rw w.0 (subst (λ x. StillFrom (renew ls rs v ds es) k r x) (sym e) there))
    ]

-- what renewing needs, of a table or of the older part of one
pub record IsRenewed (ls : Layouts) (rs : Rows) (v : ℕ) (ds : List ℕ) (es : List ℤ) (rt : ℕ) : Type 0 where
  pub still : IsStill rs
  pub sized : AreSized rs
  pub limits : IsDims ds
  pub count : length es ≡ size_of ds
  pub root_is : (u : ℕ) → has rs u ≡ true → u ≡ v → (row_at rs u).root ≡ rt
  pub laid : AreLaid ls rs v ds es

pub renew_tail : (ls : Layouts) (k : ℕ) (r : Row) (rs : Rows) (v : ℕ) (ds : List ℕ) (es : List ℤ) (rt : ℕ) → IsRenewed ls ((k, r) ∷ rs) v ds es rt → IsRenewed ls rs v ds es rt
renew_tail ls k r rs v ds es rt c = record {
  still = c.still.2;
  sized = c.sized.1;
  limits = c.limits;
  count = c.count;
  root_is = λ u h e. (let n : k ≡ u → ⊥ = not_newest rs k u c.still.0 h in
      ap (λ (x : Row). x.root) (sym (row_older k r rs u n)) ∙ c.root_is u (has_older k r rs u n ∙ h) e);
  laid = c.laid.1;
}

pub all_after : (ls : Layouts) (rs : Rows) (v : ℕ) (ds : List ℕ) (es : List ℤ) (rt : ℕ) → IsRenewed ls rs v ds es rt → AllAfter ls rs v ds es rt
all_after ls rs v ds es rt c = after ls rs v ds es rt c.still c.root_is

pub renew_sized : LawsBelow → (ls : Layouts) (rs : Rows) (v : ℕ) (ds : List ℕ) (es : List ℤ) (rt : ℕ) → IsRenewed ls rs v ds es rt → AreSized (renew ls rs v ds es)
renew_sized laws ls [] v ds es rt c = tt
renew_sized laws ls ((k, r) ∷ rs) v ds es rt c =
    let below : IsRenewed ls rs v ds es rt = renew_tail ls k r rs v ds es rt c in
    let tail : AreSized (renew ls rs v ds es) = renew_sized laws ls rs v ds es rt below in (
      elim (eqb_tells k v) [
        | inl y ↦ rw y.0 (record { within = record { triple = laws.wholes ds c.limits; limits = c.limits }; laid = tt })
        | inr y ↦ rw y.0 (sized_from laws ls rs v ds es rt k r r.origin refl c.still.1 c.sized.0.within c.sized.0.laid c.laid.0 tail (all_after ls rs v ds es rt below))
      ],
      tail,
    )

pub renew_still : LawsBelow → (ls : Layouts) (rs : Rows) (v : ℕ) (ds : List ℕ) (es : List ℤ) (rt : ℕ) → IsRenewed ls rs v ds es rt → IsStill (renew ls rs v ds es)
renew_still laws ls [] v ds es rt c = tt
renew_still laws ls ((k, r) ∷ rs) v ds es rt c =
    let below : IsRenewed ls rs v ds es rt = renew_tail ls k r rs v ds es rt c in (
      renew_below ls rs v ds es k c.still.0,
      elim (eqb_tells k v) [
        | inl y ↦ rw y.0 (record { root_is = refl; base_is = refl; whole = is_whole laws.views ds })
        | inr y ↦ rw y.0 (still_by laws ls rs v ds es rt k r r.origin refl c.still.1 c.laid.0 (renew_sized laws ls rs v ds es rt below) (all_after ls rs v ds es rt below))
      ],
      renew_still laws ls rs v ds es rt below,
    )

-- the records
renewed_def : (ls : Layouts) (rest : Rows) (v k : ℕ) (r : Row) (o : Origin) → r.origin ≡ o → def_of (renewed ls rest v k r o) ≡ def_of r
renewed_def ls rest v k r Root e = refl
renewed_def ls rest v k r (View p t y) e = elim (eqb_tells (row_at rest p).root v) [
  | inl w ↦ rw w.0 (sym (ap (def_from r.ty r.triple.dims) e))
  | inr w ↦ rw w.0 refl
]

pub renew_shape : (ls : Layouts) (rs : Rows) (v : ℕ) (ds : List ℕ) (es : List ℤ) (ty : Ty) → IsStill rs → ((u : ℕ) → has rs u ≡ true → u ≡ v → (row_at rs u).ty ≡ ty) → shape (renew ls rs v ds es) ≡ replaced (shape rs) v (root ty ds [])
renew_shape ls [] v ds es ty s f = refl
renew_shape ls ((k, r) ∷ rs) v ds es ty s f =
    let tail : shape (renew ls rs v ds es) ≡ replaced (shape rs) v (root ty ds []) = renew_shape ls rs v ds es ty s.2 (λ u h e. (let n : k ≡ u → ⊥ = not_newest rs k u s.0 h in
    ap (λ (x : Row). x.ty) (sym (row_older k r rs u n)) ∙ f u (has_older k r rs u n ∙ h) e)) in
    elim (eqb_tells k v) [
      | inl y ↦ (let w : r.ty ≡ ty = (let g : (row_at ((k, r) ∷ rs) k).ty ≡ ty = f k (rw (eq-eqb k k refl) refl) y.1 in rw (eq-eqb k k refl) at g) in
          rw y.0 (ap (λ x. (k, root x ds []) ∷ shape (renew ls rs v ds es)) w ∙ ap (λ x. (k, root ty ds []) ∷ x) tail))
      | inr y ↦ rw y.0 (ap (λ x. (k, x) ∷ shape (renew ls rs v ds es)) (renewed_def ls (renew ls rs v ds es) v k r r.origin refl) ∙ ap (λ x. (k, def_of r) ∷ x) tail)
    ]

-- what has another root is looked at as before
look_head : (ls : Layouts) (rs : Rows) (v : ℕ) (ds : List ℕ) (es : List ℤ) (k : ℕ) (r : Row) (o : Origin) → r.origin ≡ o → StillFrom rs k r o → ((head ls rs v ds es k r o).root ≡ v → ⊥)
    → ((p : ℕ) → has rs p ≡ true → ((row_at (renew ls rs v ds es) p).root ≡ v → ⊥) → look (shape (renew ls rs v ds es)) p ≡ look (shape rs) p)
    → look ((k, def_of (head ls rs v ds es k r o)) ∷ shape (renew ls rs v ds es)) k ≡ look ((k, def_of r) ∷ shape rs) k
look_head ls rs v ds es k r Root e s n f = elim (eqb_tells k v) [
  | inl y ↦ absurd (rw y.0 at n y.1)
  | inr y ↦ (let d : def_of r ≡ root r.ty r.triple.dims [] = ap (def_from r.ty r.triple.dims) e in rw (y.0, d, eq-eqb k k refl) refl)
]
look_head ls rs v ds es k r (View p t y) e s n f = elim (eqb_tells k v) [
  | inl w ↦ absurd (rw w.0 at n w.1)
  | inr w ↦ elim (eqb_tells (row_at (renew ls rs v ds es) p).root v) [
    | inl x ↦ absurd (rw (w.0, x.0) at n x.1)
    | inr x ↦ (let d : def_of r ≡ view p t = ap (def_from r.ty r.triple.dims) e in
        rw (w.0, x.0, d, eq-eqb k k refl) (ap (option_and_then (through t)) (f p s.0 x.1)))
  ]
]

pub looks_same : (ls : Layouts) (rs : Rows) (v : ℕ) (ds : List ℕ) (es : List ℤ) → IsStill rs → (u : ℕ) → has rs u ≡ true → ((row_at (renew ls rs v ds es) u).root ≡ v → ⊥) → look (shape (renew ls rs v ds es)) u ≡ look (shape rs) u
looks_same ls [] v ds es s u h n = refl
looks_same ls ((k, r) ∷ rs) v ds es s u h n = elim (cases_eq k u) [
  | inl t ↦ (let P : ℕ → Type 0 = λ x. look (shape (renew ls ((k, r) ∷ rs) v ds es)) x ≡ look (shape ((k, r) ∷ rs)) x in
      let own : (head ls rs v ds es k r r.origin).root ≡ v → ⊥ = rw (eq-eqb k u t) at n in
      subst P t (look_head ls rs v ds es k r r.origin refl s.1 own (looks_same ls rs v ds es s.2)))
  | inr t ↦ (let below : (row_at (renew ls rs v ds es) u).root ≡ v → ⊥ = rw (ne_eqb k u t) at n in
      look_older k (def_of (head ls rs v ds es k r r.origin)) (shape (renew ls rs v ds es)) u t
      ∙ looks_same ls rs v ds es s.2 u (sym (has_older k r rs u t) ∙ h) below
      ∙ sym (look_older k (def_of r) (shape rs) u t))
]
