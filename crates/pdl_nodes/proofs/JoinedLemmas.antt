-- One more array: a new root is a new row, and a new row keeps each family in order.
use Rattle.std.proofs.Common.{◌≡◌, ℕ, suc, zero, ◌+◌, ◌<◌, true, false, ◌∷◌, length, map, Option, Some, None, inl, inr, refl, sym, ◌∙◌, ap, subst, arith, ℤ, List}
use Rattle.std.specs.List.{range_with_len}
use Rattle.std.proofs.lemmas.Bool.{cases_eq}
use Rattle.pdl_shape.specs.Shape.{size_of}
use Rattle.pdl_shape.specs.Places.{read}
use Rattle.pdl_world.specs.World.{view}
use Rattle.pdl_nodes.specs.declared.origin.Origin.{Origin}
use Rattle.pdl_nodes.specs.declared.origin.Origin.TheVariants.{Root, View}
use Rattle.pdl_nodes.specs.Row.{Row, root_row}
use Rattle.pdl_nodes.specs.Rows.{Rows, row_at, has, NumbersBelow}
use Rattle.pdl_nodes.specs.Worlds.{shape, def_from, places_seen, latest, world_of, with_elements, IsRoot}
use Rattle.pdl_nodes.specs.Still.{IsStill}
use Rattle.pdl_nodes.specs.Families.{is_among, has_repeats, IsMarked, InFamily, InOrder}
use Rattle.pdl_nodes.specs.Joined.{IsNew, joined_def, joined_from}
use Rattle.pdl_nodes.proofs.WorldFamilies.{latest_none, latest_some, with_roots}
use Rattle.pdl_nodes.proofs.RowFinds.{not_newest}
use Rattle.pdl_nodes.proofs.FamilySames.{family_same}
use Rattle.pdl_nodes.proofs.RowsSeen.{is_seen, row_older, has_older, places_older}
use Rattle.pdl_nodes.proofs.RowElements.{root_shows}
use Rattle.pdl_nodes.proofs.RowShapes.{marked_live}
use Rattle.pdl_nodes.specs.Seen.{IsSeen}
use Rattle.std.proofs.lemmas.Bool.{eq-eqb, ne_eqb}
use Rattle.pdl_elem.specs.declared.Ty.{Ty}
use Rattle.pdl_shape.specs.Laws.{PositionLaws, WholesAreInOrder}
use Rattle.pdl_nodes.proofs.StillLaid.{whole_is}

among_range : (q a n : ℕ) → q < a → is_among q (map Some (range_with_len a n)) ≡ false
among_range q a zero h = refl
among_range q a (suc n) h = rw (ne_eqb q a (λ (e : q ≡ a). let z : ⊥ = omega arith in z)) (among_range q (a + 1) n (omega arith))

-- a whole array has no repeats
pub whole_once : (a n : ℕ) → has_repeats (map Some (range_with_len a n)) ≡ false
whole_once a zero = refl
whole_once a (suc n) = rw (among_range a (a + 1) n (omega arith)) (whole_once (a + 1) n)

new_latest : (rs : Rows) (k : ℕ) (r : Row) (x : ℕ) (o : Option ℕ) → (row_at rs x).waiting ≡ o → NumbersBelow k rs → has rs x ≡ true → InFamily rs x → latest ((k, r) ∷ rs) x ≡ latest rs x
new_latest rs k r x None e b h m =
    let n : k ≡ x → ⊥ = not_newest rs k x b h in
    latest_none ((k, r) ∷ rs) x (ap (λ y. y.waiting) (row_older k r rs x n) ∙ e) ∙ ap (λ y. y.kept) (row_older k r rs x n) ∙ sym (latest_none rs x e)
new_latest rs k r x (Some w) e b h m =
    let n : k ≡ x → ⊥ = not_newest rs k x b h in
    let nw : k ≡ w → ⊥ = not_newest rs k w b (m.waits w e).live in
    latest_some ((k, r) ∷ rs) x w (ap (λ y. y.waiting) (row_older k r rs x n) ∙ e) ∙ rw (places_older k r rs w nw, row_older k r rs w nw, row_older k r rs x n) (sym (latest_some rs x w e))

-- a marked row of an older family is older
old_marked : (rs : Rows) (k : ℕ) (r : Row) (x b : ℕ) → IsNew rs k r → (k ≡ x → ⊥) → (row_at ((k, r) ∷ rs) b).mark ≡ true → (row_at ((k, r) ∷ rs) b).root ≡ x → k ≡ b → ⊥
old_marked rs k r x b i n m g e =
    let m2 : r.mark ≡ true = rw (eq-eqb k b e) at m in
    let g2 : r.root ≡ x = rw (eq-eqb k b e) at g in
    let u : r.mark ≡ false = i.unmarked (λ y. n (sym y ∙ g2)) in
    let c : true ≡ false = sym m2 ∙ u in
    absurd (cc)

family_old : (rs : Rows) (k : ℕ) (r : Row) (x : ℕ) → IsNew rs k r → InOrder rs → IsRoot rs x → (k ≡ x → ⊥) → InFamily ((k, r) ∷ rs) x
family_old rs k r x i o j n = family_same rs ((k, r) ∷ rs) x (record {
  root = record { row = row_older k r rs x n; places = places_older k r rs x n };
  marked = λ b mk g. (let nb : k ≡ b → ⊥ = old_marked rs k r x b i n mk g in record { row = row_older k r rs b nb; places = places_older k r rs b nb });
  waits = λ w e. (let nw : k ≡ w → ⊥ = not_newest rs k w i.below ((o.family x j).waits w e).live in
      (record { row = row_older k r rs w nw; places = places_older k r rs w nw }, has_older k r rs w nw ∙ ((o.family x j).waits w e).live));
}) (o.family x j)

family_new : (rs : Rows) (k : ℕ) (r : Row) → IsNew rs k r → InOrder rs → r.root ≡ k → InFamily ((k, r) ∷ rs) k
family_new rs k r i o e =
    let ns : Rows = (k, r) ∷ rs in
    let st : IsStill ((k, r) ∷ rs) = (i.below, i.from, o.still) in
    let row : row_at ((k, r) ∷ rs) k ≡ r = rw (eq-eqb k k refl) refl in
    let ri : IsRoot ((k, r) ∷ rs) k = (rw (eq-eqb k k refl) refl, ap (λ x. x.root) row ∙ e) in
    let lt : latest ((k, r) ∷ rs) k ≡ r.kept = latest_none ((k, r) ∷ rs) k (ap (λ x. x.waiting) row ∙ i.nothing) ∙ ap (λ x. x.kept) row in
    let len : length r.kept ≡ (size_of (row_at ((k, r) ∷ rs) k).triple.dims) = i.count e ∙ sym (ap (λ x. size_of x.triple.dims) row) in
    let sn : IsSeen ((k, r) ∷ rs) k = is_seen ((k, r) ∷ rs) st k ri.0 in
    let pl : places_seen ((k, r) ∷ rs) k ≡ map Some (range_with_len 0 (size_of (row_at ((k, r) ∷ rs) k).triple.dims)) = ap (places_seen ((k, r) ∷ rs)) (sym ri.1) ∙ sn.root_places ∙ ap (λ x. map Some (range_with_len 0 (size_of (row_at ((k, r) ∷ rs) x).triple.dims))) ri.1 in
    let fl : (row_at ((k, r) ∷ rs) k).repeats ≡ has_repeats (places_seen ((k, r) ∷ rs) k) = ap (λ x. x.repeats) row ∙ i.flat e ∙ sym (ap has_repeats pl ∙ whole_once 0 (size_of (row_at ((k, r) ∷ rs) k).triple.dims)) in
    let me : IsMarked ((k, r) ∷ rs) k = record {
      own = ap (λ x. x.base) row ∙ i.own e;
      shows = ap (λ x. x.kept) row ∙ sym (ap (λ x. read (places_seen ((k, r) ∷ rs) k) (latest ((k, r) ∷ rs) x)) ri.1 ∙ ap (read (places_seen ((k, r) ∷ rs) k)) lt ∙ root_shows ((k, r) ∷ rs) k r.kept st ri len);
      flag = fl;
    } in
    record {
      marked = λ b m g. elim (cases_eq k b) [
        | inl y ↦ (let P : ℕ → Type 0 = λ x. IsMarked ((k, r) ∷ rs) x in subst P y me)
        | inr y ↦ (let rb : row_at ((k, r) ∷ rs) b ≡ row_at rs b = row_older k r rs b y in
            let lb : has rs b ≡ true = marked_live rs b (ap (λ x. x.mark) (sym rb) ∙ m) in
            let lr : has rs k ≡ true = ap (has rs) (sym (ap (λ x. x.root) (sym rb) ∙ g)) ∙ (is_seen rs o.still b lb).root_has in
            absurd (not_newest rs k k i.below lr refl))
      ];
      waits = λ w h. (let c : None ≡ Some w = sym (ap (λ x. x.waiting) row ∙ i.nothing) ∙ h in absurd (cc));
      lasts = λ h. ap (λ x. x.mark) row ∙ i.marked e;
      count = ap (λ x. length x.kept) row ∙ len;
      flat = fl;
    }

older_root : (rs : Rows) (k : ℕ) (r : Row) (x : ℕ) → (k ≡ x → ⊥) → IsRoot ((k, r) ∷ rs) x → IsRoot rs x
older_root rs k r x n i = (sym (has_older k r rs x n) ∙ i.0, ap (λ y. y.root) (sym (row_older k r rs x n)) ∙ i.1)

-- one more array
pub pushed : (rs : Rows) (k : ℕ) (r : Row) → IsNew rs k r → InOrder rs → InOrder ((k, r) ∷ rs)
pushed rs k r i o = record {
  still = (i.below, i.from, o.still);
  family = λ x j. elim (cases_eq k x) [
    | inl e ↦ (let P : ℕ → Type 0 = λ y. InFamily ((k, r) ∷ rs) y in
        subst P e (family_new rs k r i o (let f : (row_at ((k, r) ∷ rs) x).root ≡ x = j.1 in (rw (eq-eqb k x e) at f) ∙ sym e)))
    | inr n ↦ family_old rs k r x i o (older_root rs k r x n j) n
  ];
}

tail_world : (rs : Rows) (k : ℕ) (r : Row) → IsNew rs k r → InOrder rs → with_elements (latest ((k, r) ∷ rs)) (shape rs) ≡ world_of rs
tail_world rs k r i o = with_roots (latest ((k, r) ∷ rs)) (latest rs) rs o.still (λ x j. new_latest rs k r x (row_at rs x).waiting refl i.below j.0 (o.family x j))

joined_shape : (rs : Rows) (k : ℕ) (r : Row) (o : Origin) → latest ((k, r) ∷ rs) k ≡ r.kept → with_elements (latest ((k, r) ∷ rs)) (shape rs) ≡ world_of rs → with_elements (latest ((k, r) ∷ rs)) ((k, def_from r.ty r.triple.dims o) ∷ shape rs) ≡ (k, joined_from r.ty r.triple.dims r.kept o) ∷ world_of rs
joined_shape rs k r Root l t = cc
joined_shape rs k r (View p u y) l t = ap (λ x. (k, view p u) ∷ x) t

-- the world has one more record
pub world_pushed : (rs : Rows) (k : ℕ) (r : Row) → IsNew rs k r → InOrder rs → world_of ((k, r) ∷ rs) ≡ (k, joined_def r) ∷ world_of rs
world_pushed rs k r i o =
    let row : row_at ((k, r) ∷ rs) k ≡ r = rw (eq-eqb k k refl) refl in
    joined_shape rs k r r.origin (latest_none ((k, r) ∷ rs) k (ap (λ x. x.waiting) row ∙ i.nothing) ∙ ap (λ x. x.kept) row) (tail_world rs k r i o)

pub new_root : PositionLaws → WholesAreInOrder → (rs : Rows) (k : ℕ) (ty : Ty) (ds : List ℕ) (es : List ℤ) → NumbersBelow k rs → length es ≡ size_of ds → IsNew rs k (root_row k ty ds es)
new_root laws wholes rs k ty ds es b l = record {
  below = b;
  from = record { root_is = refl; base_is = refl; whole = whole_is laws wholes ds };
  nothing = refl;
  unmarked = λ n. absurd (n refl);
  marked = λ e. refl;
  own = λ e. refl;
  flat = λ e. refl;
  count = λ e. l;
}
