-- A family of which the marked arrays and what waits are as before is in order as before.
use Rattle.std.proofs.Common.{◌≡◌, ℕ, true, length, Option, Some, None, refl, sym, ◌∙◌, ap}
use Rattle.pdl_shape.specs.Shape.{size_of}
use Rattle.pdl_shape.specs.Places.{read}
use Rattle.pdl_nodes.specs.Rows.{Rows, row_at, has}
use Rattle.pdl_nodes.specs.Worlds.{places_seen, latest}
use Rattle.pdl_nodes.specs.Families.{has_repeats, IsMarked, IsWaiting, InFamily}
use Rattle.pdl_nodes.proofs.WorldFamilies.{latest_none, latest_some}

-- the array v is the same in both tables
pub record IsSame (old new : Rows) (v : ℕ) : Type 0 where
  pub row : row_at new v ≡ row_at old v
  pub places : places_seen new v ≡ places_seen old v

-- so are the root r, each marked array of its family in the new table, and what waits there
pub record IsSameFamily (old new : Rows) (r : ℕ) : Type 0 where
  pub root : IsSame old new r
  pub marked : (b : ℕ) → (row_at new b).mark ≡ true → (row_at new b).root ≡ r → IsSame old new b
  pub waits : (v : ℕ) → (row_at old r).waiting ≡ Some v → IsSame old new v × (has new v ≡ true)

latest_from_same : (old new : Rows) (r : ℕ) (o : Option ℕ) → (row_at old r).waiting ≡ o → IsSameFamily old new r → latest new r ≡ latest old r
latest_from_same old new r None e s = latest_none new r (ap (λ x. x.waiting) s.root.row ∙ e) ∙ ap (λ x. x.kept) s.root.row ∙ sym (latest_none old r e)
latest_from_same old new r (Some w) e s =
    let a : IsSame old new w = (s.waits w e).0 in
    latest_some new r w (ap (λ x. x.waiting) s.root.row ∙ e) ∙ rw (s.root.row, a.row, a.places) (sym (latest_some old r w e))

pub latest_same : (old new : Rows) (r : ℕ) → IsSameFamily old new r → latest new r ≡ latest old r
latest_same old new r s = latest_from_same old new r (row_at old r).waiting refl s

pub family_same : (old new : Rows) (r : ℕ) → IsSameFamily old new r → InFamily old r → InFamily new r
family_same old new r s m =
    let lt : latest new r ≡ latest old r = latest_same old new r s in
    record {
      marked = λ b mk g. (let a : IsSame old new b = s.marked b mk g in
          let g2 : (row_at old b).root ≡ r = ap (λ z. z.root) (sym a.row) ∙ g in
          let y : IsMarked old b = m.marked b (ap (λ z. z.mark) (sym a.row) ∙ mk) g2 in
          record {
            own = ap (λ z. z.base) a.row ∙ y.own;
            shows = ap (λ z. z.kept) a.row ∙ y.shows ∙ ap (λ z. read (places_seen old b) (latest old z)) g2 ∙ ap (read (places_seen old b)) (sym lt) ∙ ap (λ z. read (places_seen old b) (latest new z)) (sym g) ∙ ap (λ p. read p (latest new (row_at new b).root)) (sym a.places);
            flag = ap (λ z. z.repeats) a.row ∙ y.flag ∙ ap has_repeats (sym a.places);
          });
      waits = λ w e. (let e2 : (row_at old r).waiting ≡ Some w = ap (λ z. z.waiting) (sym s.root.row) ∙ e in
          let y : IsWaiting old r w = m.waits w e2 in
          let a : IsSame old new w = (s.waits w e2).0 in
          record {
            live = (s.waits w e2).1;
            marked = ap (λ z. z.mark) a.row ∙ y.marked;
            of_root = ap (λ z. z.root) a.row ∙ y.of_root;
            not_root = y.not_root;
            once = ap has_repeats a.places ∙ y.once;
            only = λ b mk g. (let c : IsSame old new b = s.marked b mk g in
                y.only b (ap (λ z. z.mark) (sym c.row) ∙ mk) (ap (λ z. z.root) (sym c.row) ∙ g));
          });
      lasts = λ e. ap (λ z. z.mark) s.root.row ∙ m.lasts (ap (λ z. z.waiting) (sym s.root.row) ∙ e);
      count = ap (λ z. length z.kept) s.root.row ∙ m.count ∙ sym (ap (λ z. size_of z.triple.dims) s.root.row);
      flat = ap (λ z. z.repeats) s.root.row ∙ m.flat ∙ ap has_repeats (sym s.root.places);
    }
