-- Renewed rows are in order and mean the world with the new root.
use Rattle.std.proofs.Common.{◌≡◌, ℕ, ℤ, true, false, ◌==◌, eqb, cond, List, [], ◌∷◌, length, map, Some, None, is_some, inl, inr, refl, sym, ◌∙◌, ap, subst}
use Rattle.std.specs.Option.{option_map_or}
use Rattle.std.specs.List.{range_with_len}
use Rattle.std.proofs.lemmas.Bool.{cases_eq, ne_eqb}
use Rattle.std.proofs.lemmas.Bool.Decides.{eqb_tells}
use Rattle.pdl_elem.specs.declared.Ty.{Ty}
use Rattle.pdl_elem.specs.declared.Ty.TheVariants.{Byte}
use Rattle.pdl_shape.specs.Places.{read}
use Rattle.pdl_shape.specs.Shape.{size_of}
use Rattle.pdl_world.specs.Cut.{replaced, rooted}
use Rattle.pdl_world.specs.World.{World, ArrayDef, root, view, Look, ty_in, dims_in}
use Rattle.pdl_nodes.specs.declared.origin.Origin.{Origin}
use Rattle.pdl_nodes.specs.declared.origin.Origin.TheVariants.{Root, View}
use Rattle.pdl_nodes.specs.Families.{has_repeats, IsMarked, IsWaiting, InFamily, InOrder}
use Rattle.pdl_nodes.specs.Known.{IsKnown}
use Rattle.pdl_nodes.specs.Outcomes.{waiting_of}
use Rattle.pdl_nodes.specs.Row.{Row, root_row}
use Rattle.pdl_nodes.specs.Rows.{Rows, row_at, has, NumbersBelow}
use Rattle.pdl_nodes.specs.Seen.{IsSeen}
use Rattle.pdl_nodes.specs.Still.{StillFrom, IsStill}
use Rattle.pdl_nodes.specs.Worlds.{shape, places_seen, latest, world_of, with_elements, IsRoot}
use Rattle.pdl_nodes.proofs.SizedBelow.{LawsBelow}
use Rattle.pdl_nodes.proofs.RowElements.{root_shows}
use Rattle.pdl_nodes.proofs.WorldFamilies.{latest_none, with_roots}
use Rattle.pdl_nodes.proofs.RowFinds.{not_newest}
use Rattle.pdl_nodes.proofs.JoinedLemmas.{whole_once}
use Rattle.pdl_nodes.proofs.FamilySames.{IsSame, IsSameFamily, latest_same, family_same}
use Rattle.pdl_nodes.proofs.RowsSeen.{is_seen}
use Rattle.pdl_nodes.proofs.RowShapes.{marked_live}
use Rattle.pdl_nodes.proofs.WorldLemmas.{look_with}
use Rattle.pdl_nodes.proofs.RenewedRows.{After, IsMoved, IsRenewed, IsUntouched, all_after, is_untouched, looks_same, renew_has, renew_row, renew_shape, renew_sized, renew_still}
use Rattle.pdl_nodes.specs.Renewed.{Layouts, renewed, renew, CanRenew}
use Rattle.pdl_nodes.specs.RenewLaws.{RenewingRoots, RenewingReshapes, RenewedAreOutdated, RenewingLeavesFamilies, RenewingLeavesOthers, RenewedAreSettled, RenewedAreKnown, RenewedAreSized}

is_same : (ls : Layouts) (rs : Rows) (v : ℕ) (ds : List ℕ) (es : List ℤ) (rt u : ℕ) → IsRenewed ls rs v ds es rt → has rs u ≡ true → ((row_at (renew ls rs v ds es) u).root ≡ v → ⊥) → IsSame rs (renew ls rs v ds es) u
is_same ls rs v ds es rt u c h n = record {
  row = (is_untouched v rt u (row_at rs u) (row_at (renew ls rs v ds es) u) (all_after ls rs v ds es rt c u h) n).row;
  places = ap (λ o. option_map_or (λ (l : Look). l.places) o []) (looks_same ls rs v ds es c.still u h n);
}

-- the family of the new root, which alone is marked
new_member : (ls : Layouts) (rs : Rows) (v : ℕ) (ds : List ℕ) (es : List ℤ) (rt b : ℕ) → (row_at (renew ls rs v ds es) b).mark ≡ true → (row_at (renew ls rs v ds es) b).root ≡ v → IsMarked (renew ls rs v ds es) v → After v rt b (row_at rs b) (row_at (renew ls rs v ds es) b) → IsMarked (renew ls rs v ds es) b
new_member ls rs v ds es rt b m g me (inl a) = absurd (a.apart (ap (λ (x : Row). x.root) (sym a.row) ∙ g))
new_member ls rs v ds es rt b m g me (inr a) = elim a.unmarked [
  | inl e ↦ (let P : ℕ → Type 0 = λ x. IsMarked (renew ls rs v ds es) x in subst P (sym e) me)
  | inr e ↦ (let k : true ≡ false = sym m ∙ e in absurd (cc))
]

family_new : LawsBelow → (ls : Layouts) (rs : Rows) (v : ℕ) (ds : List ℕ) (es : List ℤ) (rt : ℕ) → IsRenewed ls rs v ds es rt → has rs v ≡ true → InFamily (renew ls rs v ds es) v
family_new laws ls rs v ds es rt c h =
    let new : Rows = renew ls rs v ds es in
    let row : row_at (renew ls rs v ds es) v ≡ root_row v (row_at rs v).ty ds es = renew_row ls rs v ds es h in
    let st : IsStill (renew ls rs v ds es) = renew_still laws ls rs v ds es rt c in
    let hv : has (renew ls rs v ds es) v ≡ true = renew_has ls rs v ds es v ∙ h in
    let ri : IsRoot (renew ls rs v ds es) v = (hv, ap (λ x. x.root) row) in
    let lt : latest (renew ls rs v ds es) v ≡ es = latest_none (renew ls rs v ds es) v (ap (λ x. x.waiting) row) ∙ ap (λ x. x.kept) row in
    let len : length es ≡ size_of (row_at (renew ls rs v ds es) v).triple.dims = c.count ∙ sym (ap (λ x. size_of x.triple.dims) row) in
    let sn : IsSeen (renew ls rs v ds es) v = is_seen (renew ls rs v ds es) st v hv in
    let pl : places_seen (renew ls rs v ds es) v ≡ map Some (range_with_len 0 (size_of (row_at (renew ls rs v ds es) v).triple.dims)) =
    ap (places_seen (renew ls rs v ds es)) (sym ri.1) ∙ sn.root_places ∙ ap (λ k. map Some (range_with_len 0 (size_of (row_at (renew ls rs v ds es) k).triple.dims))) ri.1 in
    let fl : (row_at (renew ls rs v ds es) v).repeats ≡ has_repeats (places_seen (renew ls rs v ds es) v) = ap (λ x. x.repeats) row ∙ sym (ap has_repeats pl ∙ whole_once 0 (size_of (row_at (renew ls rs v ds es) v).triple.dims)) in
    let me : IsMarked (renew ls rs v ds es) v = record {
      own = ap (λ x. x.base) row;
      shows = ap (λ x. x.kept) row ∙ sym (ap (λ k. read (places_seen (renew ls rs v ds es) v) (latest (renew ls rs v ds es) k)) ri.1 ∙ ap (read (places_seen (renew ls rs v ds es) v)) lt ∙ root_shows (renew ls rs v ds es) v es st ri len);
      flag = fl;
    } in
    record {
      marked = λ b m g. (let hb : has rs b ≡ true = sym (renew_has ls rs v ds es b) ∙ marked_live (renew ls rs v ds es) b m in
          new_member ls rs v ds es rt b m g me (all_after ls rs v ds es rt c b hb));
      waits = λ u w. (let k : None ≡ Some u = sym (ap (λ x. x.waiting) row) ∙ w in absurd (cc));
      lasts = λ w. ap (λ x. x.mark) row;
      count = ap (λ x. length x.kept) row ∙ len;
      flat = fl;
    }

-- a root that isn't v has the row that it had
root_from : (ls : Layouts) (rest rs : Rows) (v k : ℕ) (r : Row) (o : Origin) → IsStill rs → NumbersBelow k rs → StillFrom rs k r o → r.root ≡ k → renewed ls rest v k r o ≡ r
root_from ls rest rs v k r Root i b s e = refl
root_from ls rest rs v k r (View p t y) i b s e = absurd (not_newest rs k (row_at rs p).root b (is_seen rs i p s.0).root_has (sym e ∙ s.1.root_is))

root_stays : (ls : Layouts) (rs : Rows) (v : ℕ) (ds : List ℕ) (es : List ℤ) → IsStill rs → (r : ℕ) → IsRoot rs r → (r ≡ v → ⊥) → row_at (renew ls rs v ds es) r ≡ row_at rs r
root_stays ls [] v ds es s r i n = refl
root_stays ls ((k, q) ∷ rs) v ds es s r i n = elim (eqb_tells k r) [
  | inl t ↦ (let nk : k ≡ v → ⊥ = λ e. n (sym t.1 ∙ e) in
      let here : q.root ≡ k = rw t.0 at i.1 ∙ sym t.1 in
      rw (t.0, ne_eqb k v nk) (root_from ls (renew ls rs v ds es) rs v k q q.origin s.2 s.0 s.1 here))
  | inr t ↦ rw t.0 (root_stays ls rs v ds es s.2 r (rw t.0 at i) n)
]

-- what waited in another family has another root
old_waiting : (ls : Layouts) (rs : Rows) (v : ℕ) (ds : List ℕ) (es : List ℤ) (rt r w : ℕ) → (row_at rs rt).waiting ≡ None → (row_at rs r).waiting ≡ Some w → (row_at rs w).root ≡ r → (r ≡ v → ⊥) → After v rt w (row_at rs w) (row_at (renew ls rs v ds es) w) → (row_at (renew ls rs v ds es) w).root ≡ v → ⊥
old_waiting ls rs v ds es rt r w q e i n (inl a) g = a.apart (ap (λ (x : Row). x.root) (sym a.row) ∙ g)
old_waiting ls rs v ds es rt r w q e i n (inr a) g =
    let k : None ≡ Some w = sym q ∙ ap (λ x. (row_at rs x).waiting) (sym a.was ∙ i) ∙ e in
    cc

old_family : (ls : Layouts) (rs : Rows) (v : ℕ) (ds : List ℕ) (es : List ℤ) (rt r : ℕ) → IsRenewed ls rs v ds es rt → InOrder rs → (row_at rs rt).waiting ≡ None → IsRoot rs r → (r ≡ v → ⊥) → IsSameFamily rs (renew ls rs v ds es) r
old_family ls rs v ds es rt r c o q i n =
    let row : row_at (renew ls rs v ds es) r ≡ row_at rs r = root_stays ls rs v ds es c.still r i n in
    record {
      root = is_same ls rs v ds es rt r c i.0 (λ e. n (sym i.1 ∙ ap (λ (x : Row). x.root) (sym row) ∙ e));
      marked = λ b m g. (let hb : has rs b ≡ true = sym (renew_has ls rs v ds es b) ∙ marked_live (renew ls rs v ds es) b m in
          is_same ls rs v ds es rt b c hb (λ e. n (sym g ∙ e)));
      waits = λ w e. (let y : IsWaiting rs r w = (o.family r i).waits w e in
          (is_same ls rs v ds es rt w c y.live (old_waiting ls rs v ds es rt r w q e y.of_root n (all_after ls rs v ds es rt c w y.live)), renew_has ls rs v ds es w ∙ y.live));
    }

old_root : (ls : Layouts) (rs : Rows) (v : ℕ) (ds : List ℕ) (es : List ℤ) (rt r : ℕ) → IsRenewed ls rs v ds es rt → (r ≡ v → ⊥) → IsRoot (renew ls rs v ds es) r → IsRoot rs r
old_root ls rs v ds es rt r c n i =
    let h : has rs r ≡ true = sym (renew_has ls rs v ds es r) ∙ i.0 in
    let a : IsUntouched v (row_at rs r) (row_at (renew ls rs v ds es) r) = is_untouched v rt r (row_at rs r) (row_at (renew ls rs v ds es) r) (all_after ls rs v ds es rt c r h) (λ e. n (sym i.1 ∙ e)) in
    (h, ap (λ (x : Row). x.root) (sym a.row) ∙ i.1)

order : LawsBelow → (ls : Layouts) (rs : Rows) (v : ℕ) (ds : List ℕ) (es : List ℤ) (rt : ℕ) → IsRenewed ls rs v ds es rt → InOrder rs → (row_at rs rt).waiting ≡ None → has rs v ≡ true → InOrder (renew ls rs v ds es)
order laws ls rs v ds es rt c o q h = record {
  still = renew_still laws ls rs v ds es rt c;
  family = λ r i. elim (cases_eq r v) [
    | inl e ↦ (let P : ℕ → Type 0 = λ x. InFamily (renew ls rs v ds es) x in subst P (sym e) (family_new laws ls rs v ds es rt c h))
    | inr n ↦ (let j : IsRoot rs r = old_root ls rs v ds es rt r c n i in family_same rs (renew ls rs v ds es) r (old_family ls rs v ds es rt r c o q j n) (o.family r j))
  ];
}

-- the world
pub with_replaced : (f : ℕ → List ℤ) (w : World) (v : ℕ) (ty : Ty) (ds : List ℕ) → with_elements f (replaced w v (root ty ds [])) ≡ replaced (with_elements f w) v (root ty ds (f v))
with_replaced f [] v ty ds = refl
with_replaced f ((k, root t d e) ∷ w) v ty ds = elim (eqb_tells k v) [
  | inl y ↦ rw y.0 (ap (λ x. (k, root ty ds (f x)) ∷ with_elements f (replaced w v (root ty ds []))) y.1 ∙ ap (λ x. (k, root ty ds (f v)) ∷ x) (with_replaced f w v ty ds))
  | inr y ↦ rw y.0 (ap (λ x. (k, root t d (f k)) ∷ x) (with_replaced f w v ty ds))
]
with_replaced f ((k, view p t) ∷ w) v ty ds = elim (eqb_tells k v) [
  | inl y ↦ rw y.0 (ap (λ x. (k, root ty ds (f x)) ∷ with_elements f (replaced w v (root ty ds []))) y.1 ∙ ap (λ x. (k, root ty ds (f v)) ∷ x) (with_replaced f w v ty ds))
  | inr y ↦ rw y.0 (ap (λ x. (k, view p t) ∷ x) (with_replaced f w v ty ds))
]

replaced_over : (f g : ℕ → List ℤ) (w : World) (v : ℕ) (new : ArrayDef) → ((k : ℕ) → (k ≡ v → ⊥) → f k ≡ g k) → replaced (with_elements f w) v new ≡ replaced (with_elements g w) v new
replaced_over f g [] v new e = refl
replaced_over f g ((k, root ty ds es) ∷ w) v new e = elim (eqb_tells k v) [
  | inl y ↦ rw y.0 (ap (λ x. (k, new) ∷ x) (replaced_over f g w v new e))
  | inr y ↦ rw y.0 (ap (λ x. (k, root ty ds x) ∷ replaced (with_elements f w) v new) (e k y.1) ∙ ap (λ x. (k, root ty ds (g k)) ∷ x) (replaced_over f g w v new e))
]
replaced_over f g ((k, view p t) ∷ w) v new e = elim (eqb_tells k v) [
  | inl y ↦ rw y.0 (ap (λ x. (k, new) ∷ x) (replaced_over f g w v new e))
  | inr y ↦ rw y.0 (ap (λ x. (k, view p t) ∷ x) (replaced_over f g w v new e))
]

abbrev either : Rows → ℕ → List ℤ → ℕ → List ℤ
either rs v es k = cond (eqb k v) es (latest rs k)

latest_new : (ls : Layouts) (rs : Rows) (v : ℕ) (ds : List ℕ) (es : List ℤ) → has rs v ≡ true → latest (renew ls rs v ds es) v ≡ es
latest_new ls rs v ds es h =
    let row : row_at (renew ls rs v ds es) v ≡ root_row v (row_at rs v).ty ds es = renew_row ls rs v ds es h in
    latest_none (renew ls rs v ds es) v (ap (λ x. x.waiting) row) ∙ ap (λ x. x.kept) row

world : (ls : Layouts) (rs : Rows) (v : ℕ) (ds : List ℕ) (es : List ℤ) (rt : ℕ) → IsRenewed ls rs v ds es rt → InOrder rs → (row_at rs rt).waiting ≡ None → has rs v ≡ true
    → world_of (renew ls rs v ds es) ≡ replaced (world_of rs) v (root (row_at rs v).ty ds es)
world ls rs v ds es rt c o q h =
    ap (with_elements (latest (renew ls rs v ds es))) (renew_shape ls rs v ds es (row_at rs v).ty c.still (λ u g e. ap (λ x. (row_at rs x).ty) e))
    ∙ with_replaced (latest (renew ls rs v ds es)) (shape rs) v (row_at rs v).ty ds
    ∙ ap (λ xs. replaced (with_elements (latest (renew ls rs v ds es)) (shape rs)) v (root (row_at rs v).ty ds xs)) (latest_new ls rs v ds es h)
    ∙ ap (λ w. replaced w v (root (row_at rs v).ty ds es)) (with_roots (latest (renew ls rs v ds es)) (either rs v es) rs c.still (λ r i. elim (eqb_tells r v) [
      | inl y ↦ rw y.0 (ap (latest (renew ls rs v ds es)) y.1 ∙ latest_new ls rs v ds es h)
      | inr y ↦ rw y.0 (latest_same rs (renew ls rs v ds es) r (old_family ls rs v ds es rt r c o q i y.1))
    ]))
    ∙ replaced_over (either rs v es) (latest rs) (shape rs) v (root (row_at rs v).ty ds es) (λ k n. rw (ne_eqb k v n) refl)

pub world_ty : (rs : Rows) (v : ℕ) → IsStill rs → has rs v ≡ true → ty_in (world_of rs) v ≡ (row_at rs v).ty
world_ty rs v s h = ap (λ o. option_map_or (λ (l : Look). l.ty) o Byte) (look_with (latest rs) (shape rs) v ∙ (is_seen rs s v h).looks)

pub world_dims : (rs : Rows) (v : ℕ) → IsStill rs → has rs v ≡ true → dims_in (world_of rs) v ≡ (row_at rs v).triple.dims
world_dims rs v s h = ap (λ o. option_map_or (λ (l : Look). l.dims) o []) (look_with (latest rs) (shape rs) v ∙ (is_seen rs s v h).looks)

is_renewed : (ls : Layouts) (rs : Rows) (v : ℕ) (ds : List ℕ) (es : List ℤ) → CanRenew ls rs v ds es → IsRenewed ls rs v ds es (row_at rs v).root
is_renewed ls rs v ds es c = record {
  still = c.order.still;
  sized = c.sized;
  limits = c.limits;
  count = c.count;
  root_is = λ u h e. ap (λ x. (row_at rs x).root) e;
  laid = c.laid;
}

pub roots : LawsBelow → RenewingRoots
roots laws = λ ls rs v ds es c.
    let k : IsRenewed ls rs v ds es (row_at rs v).root = is_renewed ls rs v ds es c in (
      order laws ls rs v ds es (row_at rs v).root k c.order c.nothing c.live,
      world ls rs v ds es (row_at rs v).root k c.order c.nothing c.live ∙ ap (λ x. replaced (world_of rs) v (root x ds es)) (sym (world_ty rs v c.order.still c.live)),
    )

pub reshapes : LawsBelow → RenewingReshapes
reshapes laws = λ ls rs v ds es c e.
    let y = roots laws ls rs v ds es c in
    (y.0, y.1 ∙ ap (rooted (world_of rs) v ds) e)

-- the marks of the new family
mark_of : (ls : Layouts) (rs : Rows) (v : ℕ) (ds : List ℕ) (es : List ℤ) (rt b : ℕ) → has rs v ≡ true → (row_at (renew ls rs v ds es) b).root ≡ v → After v rt b (row_at rs b) (row_at (renew ls rs v ds es) b) → (row_at (renew ls rs v ds es) b).mark ≡ (b == v)
mark_of ls rs v ds es rt b h g (inl a) = absurd (a.apart (ap (λ (x : Row). x.root) (sym a.row) ∙ g))
mark_of ls rs v ds es rt b h g (inr a) = elim (eqb_tells b v) [
  | inl y ↦ rw y.0 (ap (λ x. (row_at (renew ls rs v ds es) x).mark) y.1 ∙ ap (λ (x : Row). x.mark) (renew_row ls rs v ds es h))
  | inr y ↦ rw y.0 (elim a.unmarked [ inl e ↦ absurd (y.1 e) | inr e ↦ e ])
]

-- no view of the new root is marked
pub none_marked : (ls : Layouts) (rs : Rows) (v : ℕ) (ds : List ℕ) (es : List ℤ) → CanRenew ls rs v ds es → (u : ℕ) → has (renew ls rs v ds es) u ≡ true → (row_at (renew ls rs v ds es) u).root ≡ v → (u ≡ v → ⊥) → (row_at (renew ls rs v ds es) u).mark ≡ false
none_marked ls rs v ds es c u h g n =
    mark_of ls rs v ds es (row_at rs v).root u c.live g (all_after ls rs v ds es (row_at rs v).root (is_renewed ls rs v ds es c) u (sym (renew_has ls rs v ds es u) ∙ h)) ∙ ne_eqb u v n

pub outdated : LawsBelow → RenewedAreOutdated
outdated laws = λ ls rs v ds es c u h g.
    let k : IsRenewed ls rs v ds es (row_at rs v).root = is_renewed ls rs v ds es c in
    let s : IsSeen (renew ls rs v ds es) u = is_seen (renew ls rs v ds es) (renew_still laws ls rs v ds es (row_at rs v).root k) u (renew_has ls rs v ds es u ∙ h) in
    mark_of ls rs v ds es (row_at rs v).root (row_at (renew ls rs v ds es) u).base c.live (s.base_root ∙ g)
    (all_after ls rs v ds es (row_at rs v).root k (row_at (renew ls rs v ds es) u).base (sym (renew_has ls rs v ds es (row_at (renew ls rs v ds es) u).base) ∙ s.base_has))

others_by : (v rt u : ℕ) (old new : Row) → (old.root ≡ rt → ⊥) → After v rt u old new → new ≡ old
others_by v rt u old new n (inl a) = a.row
others_by v rt u old new n (inr a) = absurd (n a.was)

pub leaves_others : RenewingLeavesOthers
leaves_others = λ ls rs v ds es c u h n.
    (is_untouched v (row_at rs v).root u (row_at rs u) (row_at (renew ls rs v ds es) u) (all_after ls rs v ds es (row_at rs v).root (is_renewed ls rs v ds es c) u h) n).row

pub leaves_families : RenewingLeavesFamilies
leaves_families = λ ls rs v ds es c u h n. others_by v (row_at rs v).root u (row_at rs u) (row_at (renew ls rs v ds es) u) n (all_after ls rs v ds es (row_at rs v).root (is_renewed ls rs v ds es c) u h)

-- what waits
settled_by : (ls : Layouts) (rs : Rows) (v : ℕ) (ds : List ℕ) (es : List ℤ) (rt u : ℕ) → has rs v ≡ true → (row_at rs rt).waiting ≡ None → IsStill rs → IsRoot rs rt → (row_at rs u).root ≡ rt → After v rt u (row_at rs u) (row_at (renew ls rs v ds es) u) → waiting_of (renew ls rs v ds es) u ≡ None
settled_by ls rs v ds es rt u h w s i e (inl a) =
    ap (λ (x : Row). (row_at (renew ls rs v ds es) x.root).waiting) a.row ∙ ap (λ x. (row_at (renew ls rs v ds es) x).waiting) e
    ∙ ap (λ (x : Row). x.waiting) (root_stays ls rs v ds es s rt i (λ q. a.apart (e ∙ q))) ∙ w
settled_by ls rs v ds es rt u h w s i e (inr a) =
    ap (λ x. (row_at (renew ls rs v ds es) x).waiting) a.root_is ∙ ap (λ (x : Row). x.waiting) (renew_row ls rs v ds es h)

pub settled : RenewedAreSettled
settled = λ ls rs v ds es c u h e.
    let s : IsSeen rs v = is_seen rs c.order.still v c.live in
    settled_by ls rs v ds es (row_at rs v).root u c.live c.nothing c.order.still (s.root_has, s.root_root) e (all_after ls rs v ds es (row_at rs v).root (is_renewed ls rs v ds es c) u h)

-- what is known of places
known_moved : (rows : Rows) (v rt u : ℕ) (old : Row) → IsMoved v rt u old (row_at rows u) → IsKnown rows u
known_moved rows v rt u old a = record {
  places = λ ps e. (let z : None ≡ Some ps = sym a.unlisted ∙ e in absurd (cc));
  repeats = λ ps e. (let z : None ≡ Some ps = sym a.unlisted ∙ e in absurd (cc));
  found = λ m n. elim a.unmarked [
    | inl e ↦ absurd (n (a.root_is ∙ sym e))
    | inr e ↦ (let z : false ≡ true = sym e ∙ m in absurd (cc))
  ];
  unlisted = λ ps e r. (let z : None ≡ Some ps = sym a.unlisted ∙ e in absurd (cc));
  bare = a.bare;
}

known_same : (rs new : Rows) (u : ℕ) → IsKnown rs u → IsSame rs new u → IsKnown new u
known_same rs new u k a = record {
  places = λ ps e. k.places ps (ap (λ x. x.places) (sym a.row) ∙ e) ∙ sym a.places;
  repeats = λ ps e. ap (λ x. x.repeats) a.row ∙ k.repeats ps (ap (λ x. x.places) (sym a.row) ∙ e);
  found = λ m n. ap (λ x. is_some x.places) a.row ∙ k.found (ap (λ x. x.mark) (sym a.row) ∙ m) (λ e. n (ap (λ x. x.root) a.row ∙ e));
  unlisted = λ ps e r. k.unlisted ps (ap (λ x. x.places) (sym a.row) ∙ e) (ap (λ x. x.root) (sym a.row) ∙ r);
  bare = λ n. ap (λ x. x.kept) a.row ∙ k.bare (λ e. n (ap (λ x. x.base) a.row ∙ e));
}

known_by : (ls : Layouts) (rs : Rows) (v : ℕ) (ds : List ℕ) (es : List ℤ) (rt u : ℕ) → IsRenewed ls rs v ds es rt → has rs u ≡ true → IsKnown rs u → After v rt u (row_at rs u) (row_at (renew ls rs v ds es) u) → IsKnown (renew ls rs v ds es) u
known_by ls rs v ds es rt u c h k (inl a) = known_same rs (renew ls rs v ds es) u k (is_same ls rs v ds es rt u c h (λ e. a.apart (ap (λ (x : Row). x.root) (sym a.row) ∙ e)))
known_by ls rs v ds es rt u c h k (inr a) = known_moved (renew ls rs v ds es) v rt u (row_at rs u) a

pub known : LawsBelow → RenewedAreKnown
known laws = λ ls rs v ds es c k u h.
    let g : has rs u ≡ true = sym (renew_has ls rs v ds es u) ∙ h in
    let y : IsRenewed ls rs v ds es (row_at rs v).root = is_renewed ls rs v ds es c in
    known_by ls rs v ds es (row_at rs v).root u y g (k u g) (all_after ls rs v ds es (row_at rs v).root y u g)

pub sized : LawsBelow → RenewedAreSized
sized laws = λ ls rs v ds es c. renew_sized laws ls rs v ds es (row_at rs v).root (is_renewed ls rs v ds es c)
