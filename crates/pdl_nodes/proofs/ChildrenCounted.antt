-- The views of each array, through the table's calls.
use Rattle.std.proofs.Common.{◌≡◌, ℕ, ℤ, ◌+◌, ◌||◌, true, false, cond, eqb, List, [], ◌∷◌, Option, nat_lt, inl, inr, refl, sym, ◌∙◌, ap, subst, arith}
use Rattle.std.proofs.lemmas.Bool.Decides.{eqb_tells, leb_tells}
use Rattle.pdl_world.specs.Cut.{has_views}
use Rattle.pdl_world.specs.Swept.{is_listed, parents}
use Rattle.pdl_nodes.specs.declared.origin.Origin.{Origin}
use Rattle.pdl_nodes.specs.declared.origin.Origin.TheVariants.{Root, View}
use Rattle.pdl_nodes.specs.Children.{AreCounted, AreSame, IsMore, Noted, children, is_view, is_view_of, noted, notes, one_of}
use Rattle.pdl_nodes.specs.Renewed.{Layouts, renewed, renewed_in, rooted_in}
use Rattle.pdl_nodes.specs.Row.{Row, parent_from, parent_of, root_row}
use Rattle.pdl_nodes.specs.Rows.{Rows, row_at, has, each, other, without, NumbersBelow, Falls}
use Rattle.pdl_nodes.specs.Worlds.{def_from, shape}
use Rattle.pdl_nodes.proofs.RowFinds.{each_at, each_has, has_gone, has_stays, newest_gone, row_stays}
use Rattle.pdl_nodes.proofs.RowRests.{without_here}
use Rattle.std.proofs.lemmas.Bool.{cases_Bool, eq-eqb, ne_eqb}

-- no row gets another parent
abbrev KeepsParent : (ℕ → Row → Row) → Type 0
KeepsParent f = (k : ℕ) (r : Row) → parent_of (f k r) ≡ parent_of r

pub children_each : (f : ℕ → Row → Row) (rs : Rows) (v : ℕ) → KeepsParent f → children (each f rs) v ≡ children rs v
children_each f [] v p = refl
children_each f ((k, r) ∷ rs) v p =
    ap (λ o. one_of o v + children (each f rs) v) (p k r) ∙ ap (λ n. one_of (parent_of r) v + n) (children_each f rs v p)

is_view_each : (f : ℕ → Row → Row) (rs : Rows) (v u : ℕ) → KeepsParent f → is_view (each f rs) v u ≡ is_view rs v u
is_view_each f [] v u p = refl
is_view_each f ((k, r) ∷ rs) v u p =
    ap (λ o. cond (eqb k u) (is_view_of o v) (is_view (each f rs) v u)) (p k r) ∙ ap (λ b. cond (eqb k u) (is_view_of (parent_of r) v) b) (is_view_each f rs v u p)

-- rows a were the rows t, and rows b are these changed
pub counted_each : (f : ℕ → Row → Row) (t a b : Rows) (c : Noted) → a ≡ t → b ≡ each f t → KeepsParent f → AreCounted a c → AreCounted b c
counted_each f t a b c e g p h = record {
  count = λ v. h.count v ∙ ap (λ x. children x v) e ∙ sym (ap (λ x. children x v) g ∙ children_each f t v p);
  those = λ v u. h.those v u ∙ ap (λ x. is_view x v u) e ∙ sym (ap (λ x. is_view x v u) g ∙ is_view_each f t v u p);
}

pub counted_same : (a b : Rows) (c : Noted) → a ≡ b → AreCounted a c → AreCounted b c
counted_same a b c e h = subst (λ x. AreCounted x c) e h

pub counted_noted : (a b : Rows) (c d : Noted) → a ≡ b → AreSame c d → AreCounted a c → AreCounted b d
counted_noted a b c d e n h = subst (λ x. AreCounted x d) e (record {
  count = λ v. n.count v ∙ h.count v;
  those = λ v u. n.those v u ∙ h.those v u;
})

-- ---- whether an array is a view of v
pub view_there : (rs : Rows) (v u : ℕ) → has rs u ≡ true → is_view rs v u ≡ is_view_of (parent_of (row_at rs u)) v
view_there [] v u h = (let z : false ≡ true = h in absurd (cc))
view_there ((k, r) ∷ rs) v u h = elim (eqb_tells k u) [
  | inl y ↦ rw y.0 refl
  | inr y ↦ rw y.0 (view_there rs v u (rw y.0 at h))
]

pub view_none : (rs : Rows) (v u : ℕ) → has rs u ≡ false → is_view rs v u ≡ false
view_none [] v u h = refl
view_none ((k, r) ∷ rs) v u h = elim (eqb_tells k u) [
  | inl y ↦ (let z : true ≡ false = rw y.0 at h in absurd (cc))
  | inr y ↦ rw y.0 (view_none rs v u (rw y.0 at h))
]

view_by : (a b : Rows) (v u : ℕ) → has b u ≡ has a u → row_at b u ≡ row_at a u → is_view b v u ≡ is_view a v u
view_by a b v u h e = elim (cases_Bool (has a u)) [
  | inl y ↦ view_there b v u (h ∙ y) ∙ ap (λ (r : Row). is_view_of (parent_of r) v) e ∙ sym (view_there a v u y)
  | inr y ↦ view_none b v u (h ∙ y) ∙ sym (view_none a v u y)
]

-- a view that is derived anew has its parent
pub renewed_parent : (ls : Layouts) (v : ℕ) (rs : Rows) (u : ℕ) → KeepsParent (renewed_in ls v rs u)
renewed_parent ls v rs u k r = elim (eqb_tells k u) [ inl y ↦ rw y.0 (by_origin r.origin refl) | inr y ↦ rw y.0 refl ] where
  by_origin : (o : Origin) → r.origin ≡ o → parent_of (renewed ls rs v u r o) ≡ parent_of r
  by_origin Root e = refl
  by_origin (View p t y) e = elim (eqb_tells (row_at rs p).root v) [
    | inl w ↦ rw w.0 (sym (ap parent_from e))
    | inr w ↦ rw w.0 refl
  ]

-- ---- one node more, and one less
pub counted_joined : (t b : Rows) (id : ℕ) (r : Row) (c d : Noted) (p : Option ℕ) → b ≡ (id, r) ∷ t → p ≡ parent_of r → IsMore c d p id → AreCounted t c → AreCounted b d
counted_joined t b id r c d p e g n h = record {
  count = λ v. n.count v ∙ ap (λ o. one_of o v + noted c v) g ∙ ap (λ m. one_of (parent_of r) v + m) (h.count v) ∙ sym (ap (λ x. children x v) e);
  those = λ v u. n.those v u ∙ ap (λ o. cond (eqb id u) (is_view_of o v) (notes c v u)) g ∙ ap (λ w. cond (eqb id u) (is_view_of (parent_of r) v) w) (h.those v u) ∙ sym (ap (λ x. is_view x v u) e);
}

-- a new number isn't noted
pub none_noted : (t : Rows) (id v : ℕ) (c : Noted) → NumbersBelow id t → AreCounted t c → notes c v id ≡ false
none_noted t id v c b h = h.those v id ∙ view_none t v id (newest_gone id t b)

pub children_without : (rs : Rows) (id v : ℕ) → Falls rs → has rs id ≡ true → children rs v ≡ one_of (parent_of (row_at rs id)) v + children (without id rs) v
children_without [] id v f h = (let z : false ≡ true = h in absurd (cc))
children_without ((k, r) ∷ rs) id v f h = elim (eqb_tells k id) [
  | inl y ↦ (let row : row_at ((k, r) ∷ rs) id ≡ r = rw y.0 refl in
      let left : without id ((k, r) ∷ rs) ≡ rs = ap (λ x. without x ((k, r) ∷ rs)) (sym y.1) ∙ without_here [] rs k r f in
      sym (ap (λ x. one_of (parent_of x) v + children (without id ((k, r) ∷ rs)) v) row ∙ ap (λ x. one_of (parent_of r) v + children x v) left))
  | inr y ↦ (let rest : children rs v ≡ one_of (parent_of (row_at rs id)) v + children (without id rs) v = children_without rs id v f.1 (rw y.0 at h) in
      rw y.0 (omega (arith, rest)))
]

-- one less of what its parent has
record IsLess (t b : Rows) (id : ℕ) (o : Option ℕ) : Type 0 where
  count : (v : ℕ) → children t v ≡ one_of o v + children b v
  here : (v : ℕ) → is_view b v id ≡ false
  others : (v u : ℕ) → (id ≡ u → ⊥) → is_view b v u ≡ is_view t v u

counted_less : (t b : Rows) (id : ℕ) (c d : Noted) (p o : Option ℕ) → IsLess t b id o → p ≡ o → IsMore d c p id → AreCounted t c → AreCounted b d
counted_less t b id c d p o l e n h = record {
  count = λ v. (let e2 : one_of p v ≡ one_of o v = ap (λ x. one_of x v) e in
      omega (arith, e2, l.count v, n.count v, h.count v));
  those = λ v u. elim (eqb_tells id u) [
    | inl y ↦ ap (notes d v) (sym y.1) ∙ n.absent v ∙ sym (l.here v) ∙ ap (is_view b v) y.1
    | inr y ↦ (let same : notes c v u ≡ notes d v u = rw y.0 at (n.those v u) in
        sym same ∙ h.those v u ∙ sym (l.others v u y.1))
  ];
}

left_without : (t : Rows) (id : ℕ) → Falls t → has t id ≡ true → IsLess t (without id t) id (parent_of (row_at t id))
left_without t id f l = record {
  count = λ v. children_without t id v f l;
  here = λ v. view_none (without id t) v id (has_gone (other id) t id (let z : other id id ≡ false = rw (eq-eqb id id refl) refl in z));
  others = λ v u n. (let stays : other id u ≡ true = rw (ne_eqb u id (λ e. n (sym e))) refl in
      view_by t (without id t) v u (has_stays (other id) t u stays) (row_stays (other id) t u stays));
}

pub counted_gone : (t b : Rows) (id : ℕ) (c d : Noted) (p : Option ℕ) → b ≡ without id t → Falls t → has t id ≡ true → p ≡ parent_of (row_at t id) → IsMore d c p id → AreCounted t c → AreCounted b d
counted_gone t b id c d p e f l g n h = counted_same (without id t) b d (sym e) (counted_less t (without id t) id c d p (parent_of (row_at t id)) (left_without t id f l) g n h)

-- a new root is no view
none_rooted : (rs : Rows) (id v : ℕ) (ds : List ℕ) (es : List ℤ) → NumbersBelow id rs → children (each (rooted_in id ds es) rs) v ≡ children rs v
none_rooted [] id v ds es b = refl
none_rooted ((k, r) ∷ rs) id v ds es b =
    rw (ne_eqb k id (λ (e : k ≡ id). let z : ⊥ = omega (arith, b.0) in z)) (ap (λ n. one_of (parent_of r) v + n) (none_rooted rs id v ds es b.1))

pub children_rooted : (rs : Rows) (id v : ℕ) (ds : List ℕ) (es : List ℤ) → Falls rs → has rs id ≡ true → children rs v ≡ one_of (parent_of (row_at rs id)) v + children (each (rooted_in id ds es) rs) v
children_rooted [] id v ds es f h = (let z : false ≡ true = h in absurd (cc))
children_rooted ((k, r) ∷ rs) id v ds es f h = elim (eqb_tells k id) [
  | inl y ↦ (let b : NumbersBelow id rs = (let P : ℕ → Type 0 = λ x. NumbersBelow x rs in subst P y.1 f.0) in
      let rest : children (each (rooted_in id ds es) rs) v ≡ children rs v = none_rooted rs id v ds es b in
      rw y.0 (omega (arith, rest)))
  | inr y ↦ (let rest : children rs v ≡ one_of (parent_of (row_at rs id)) v + children (each (rooted_in id ds es) rs) v = children_rooted rs id v ds es f.1 (rw y.0 at h) in
      rw y.0 (omega (arith, rest)))
]

left_rooted : (t : Rows) (id : ℕ) (ds : List ℕ) (es : List ℤ) → Falls t → has t id ≡ true → IsLess t (each (rooted_in id ds es) t) id (parent_of (row_at t id))
left_rooted t id ds es f l = record {
  count = λ v. children_rooted t id v ds es f l;
  here = λ v. (let row : rooted_in id ds es id (row_at t id) ≡ root_row id (row_at t id).ty ds es = rw (eq-eqb id id refl) refl in
      view_there (each (rooted_in id ds es) t) v id (each_has (rooted_in id ds es) t id ∙ l)
      ∙ ap (λ (r : Row). is_view_of (parent_of r) v) (each_at (rooted_in id ds es) t id l ∙ row));
  others = λ v u n. elim (cases_Bool (has t u)) [
    | inl y ↦ view_by t (each (rooted_in id ds es) t) v u (each_has (rooted_in id ds es) t u) (each_at (rooted_in id ds es) t u y ∙ (rw (ne_eqb u id (λ e. n (sym e))) refl))
    | inr y ↦ view_none (each (rooted_in id ds es) t) v u (each_has (rooted_in id ds es) t u ∙ y) ∙ sym (view_none t v u y)
  ];
}

pub counted_rooted : (t b : Rows) (id : ℕ) (ds : List ℕ) (es : List ℤ) (c d : Noted) (p : Option ℕ) → b ≡ each (rooted_in id ds es) t → Falls t → has t id ≡ true → p ≡ parent_of (row_at t id) → IsMore d c p id → AreCounted t c → AreCounted b d
counted_rooted t b id ds es c d p e f l g n h = counted_same (each (rooted_in id ds es) t) b d (sym e) (counted_less t (each (rooted_in id ds es) t) id c d p (parent_of (row_at t id)) (left_rooted t id ds es f l) g n h)

-- a view is noted of its parent alone
pub parent_noted : (t : Rows) (id v : ℕ) (c : Noted) (p : Option ℕ) → has t id ≡ true → p ≡ parent_of (row_at t id) → AreCounted t c → notes c v id ≡ is_view_of p v
parent_noted t id v c p l g h = h.those v id ∙ view_there t v id l ∙ ap (λ o. is_view_of o v) (sym g)

-- what was added was taken back
pub added : (c d : Noted) (p : Option ℕ) (id v : ℕ) → IsMore c d p id → notes d v id ≡ is_view_of p v
added c d p id v n = n.those v id ∙ (rw (eq-eqb id id refl) refl)

pub taken_back : (c d e : Noted) (p : Option ℕ) (id : ℕ) → IsMore c d p id → IsMore e d p id → AreSame c e
taken_back c d e p id a l = record {
  count = λ v. omega (arith, a.count v, l.count v);
  those = λ v u. elim (eqb_tells id u) [
    | inl y ↦ ap (notes e v) (sym y.1) ∙ l.absent v ∙ sym (a.absent v) ∙ ap (notes c v) y.1
    | inr y ↦ (let was : notes d v u ≡ notes c v u = rw y.0 at (a.those v u) in
        let now : notes d v u ≡ notes e v u = rw y.0 at (l.those v u) in
        sym now ∙ was)
  ];
}

-- ---- whether there is a view
first_view : (r : Row) (o : Origin) (v n : ℕ) → (is_listed (parents (def_from r.ty r.triple.dims o)) v || nat_lt 0 n) ≡ nat_lt 0 (one_of (parent_from o) v + n)
first_view r Root v n = ap (nat_lt 0) (let z : n ≡ 0 + n = omega arith in z)
first_view r (View p t y) v n = elim (eqb_tells p v) [
  | inl e ↦ rw e.0 (elim (leb_tells 1 (1 + n)) [ inl l ↦ sym l.0 | inr l ↦ absurd (omega (arith, l.1)) ])
  | inr e ↦ rw e.0 (ap (nat_lt 0) (let z : n ≡ 0 + n = omega arith in z))
]

pub views_counted : (rs : Rows) (v : ℕ) → has_views (shape rs) v ≡ nat_lt 0 (children rs v)
views_counted [] v = refl
views_counted ((k, r) ∷ rs) v = ap (λ b. is_listed (parents (def_from r.ty r.triple.dims r.origin)) v || b) (views_counted rs v) ∙ first_view r r.origin v (children rs v)
