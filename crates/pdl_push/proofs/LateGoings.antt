-- What waits in a view that goes while its root stays, and is written back, of one family.
use Rattle.std.proofs.Common.{◌≡◌, ℕ, ◌+◌, Bool, true, eqb, cond, Option, Some, None, inl, inr, refl, ◌∙◌, ap, arith, ◌≢◌, false, sym, subst}
use Rattle.std.proofs.lemmas.Bool.{cases_Bool, eq-eqb, ne_eqb}
use Rattle.std.proofs.lemmas.Bool.Decides.{eqb_tells}
use Rattle.pdl_shape.specs.Shape.{size_of}
use Rattle.pdl_shape.specs.Triple.{Triple}
use Rattle.pdl_nodes.specs.Alike.{IsAlike}
use Rattle.pdl_nodes.specs.Families.{InOrder}
use Rattle.pdl_nodes.specs.Going.{goes_from, going_at, going_size, IsGoing}
use Rattle.pdl_nodes.specs.Known.{AreKnown}
use Rattle.pdl_nodes.specs.Outcomes.{waiting_size, IsReady}
use Rattle.pdl_nodes.specs.Row.{Row}
use Rattle.pdl_nodes.specs.RowLaws.{RowLaws}
use Rattle.pdl_nodes.specs.Rows.{Rows, row_at, has, each}
use Rattle.pdl_nodes.specs.Staying.{stays_from}
use Rattle.pdl_nodes.specs.Worlds.{IsRoot, latest}
use Rattle.pdl_push.specs.Late.{settle}
use Rattle.pdl_push.specs.Settled.{IsSettledAt}
use Rattle.pdl_push.proofs.LateAtRoot.{ready_back}

-- where nothing goes what waits stays
pub stays_by : (t : ℕ → Bool) (rs : Rows) (r v : ℕ) → IsRoot rs r → t r ≡ true → (row_at rs r).waiting ≡ Some v → going_at rs t r ≡ None → t v ≡ true
stays_by t rs r v i h w n = elim (cases_Bool (t v)) [
  | inl y ↦ y
  | inr m ↦ (let z : Some v ≡ None = rw (eq-eqb (row_at rs r).root r i.1, h, w, m) at n in absurd (cc))
]

-- so the family is settled as it is
pub settled_none : (facts : RowLaws) → (rs : Rows) (t : ℕ → Bool) (r : ℕ) → InOrder rs → AreKnown rs → going_at rs t r ≡ None → IsSettledAt t rs rs r
settled_none facts rs t r o a e = record {
  kept = facts.kept.ready_same rs o a;
  sized = λ z. z;
  here = e;
  left = λ i y. facts.leaving.stays_all t (row_at rs r).waiting (λ v w. stays_by t rs r v i y w e);
  others = λ u n. refl;
}

-- nothing goes where nothing waits
nothing_at : (rs : Rows) (t : ℕ → Bool) (r : ℕ) → (row_at rs r).waiting ≡ None → going_at rs t r ≡ None
nothing_at rs t r e = elim (eqb_tells (row_at rs r).root r) [
  | inl a ↦ elim (cases_Bool (t r)) [ inl y ↦ rw (a.0, y, e) refl | inr n ↦ rw (a.0, n) refl ]
  | inr a ↦ rw a.0 refl
]

-- what goes was written back: the family is settled
pub settled_some : (facts : RowLaws) → (rs new : Rows) (t : ℕ → Bool) (r v : ℕ) → InOrder rs → AreKnown rs → has rs r ≡ true → going_at rs t r ≡ Some v → new ≡ each (settle r (latest rs r) v true) rs → IsSettledAt t rs new r
settled_some facts rs new t r v o a h e n =
    let P : Rows → Type 0 = λ x. IsSettledAt t rs x r in
    let f : ℕ → Row → Row = settle r (latest rs r) v true in
    let w : IsGoing rs t r v = facts.leaving.is_going rs t r v e in
    let row : row_at (each (settle r (latest rs r) v true) rs) r ≡ settle r (latest rs r) v true r (row_at rs r) = facts.numbers.each_at (settle r (latest rs r) v true) rs r h in
    let ready : IsReady rs (each f rs) = ready_back facts rs (each f rs) r v o a (h, w.root) w.waits refl in
    subst P (sym n) (record {
      kept = ready;
      sized = facts.kept.sized_alike rs (each f rs) o.still ready.order.still ready.alike;
      here = nothing_at (each (settle r (latest rs r) v true) rs) t r (ap (λ x. x.waiting) row ∙ rw (eq-eqb r r refl) refl);
      left = λ i y. (let none : (settle r (latest rs r) v true r (row_at rs r)).waiting ≡ None = rw (eq-eqb r r refl) refl in
          let goes : stays_from t (Some v) ≡ None = rw w.gone refl in
          ap (λ x. x.waiting) row ∙ none ∙ sym (ap (stays_from t) w.waits ∙ goes));
      others = λ u ne. other_waiting rs r v u ne (has rs u) refl;
    }) where
      other_waiting : (rs : Rows) (r v u : ℕ) → u ≢ r → (b : Bool) → has rs u ≡ b → (row_at (each (settle r (latest rs r) v true) rs) u).waiting ≡ (row_at rs u).waiting
      other_waiting rs r v u ne true l = ap (λ x. x.waiting) (facts.numbers.each_at (settle r (latest rs r) v true) rs u l) ∙ rw (ne_eqb u r ne) refl
      other_waiting rs r v u ne false l = ap (λ x. x.waiting) (facts.numbers.each_past (settle r (latest rs r) v true) rs u l)

-- the steps
pub size_none : (rs : Rows) (t : ℕ → Bool) (r s : ℕ) → going_at rs t r ≡ None → s ≡ s + going_size rs t r
size_none rs t r s e = rw e (omega arith)

pub size_some : (rs : Rows) (t : ℕ → Bool) (r v s n : ℕ) → going_at rs t r ≡ Some v → n ≡ s + size_of (row_at rs v).triple.dims → n ≡ s + going_size rs t r
size_some rs t r v s n e h = rw e h

-- what goes depends on roots and on what waits
pub going_same : (a b : Rows) (t : ℕ → Bool) (r : ℕ) → (row_at b r).root ≡ (row_at a r).root → (row_at b r).waiting ≡ (row_at a r).waiting → going_at b t r ≡ going_at a t r
going_same a b t r er ew = ap (λ x. cond (eqb x r) (cond (t r) (goes_from t (row_at b r).waiting) None) None) er ∙ ap (λ x. cond (eqb (row_at a r).root r) (cond (t r) (goes_from t x) None) None) ew

waiting_same : (a b : Rows) (o : Option ℕ) → ((v : ℕ) → (row_at b v).triple ≡ (row_at a v).triple) → waiting_size b o ≡ waiting_size a o
waiting_same a b None f = refl
waiting_same a b (Some v) f = ap (λ (x : Triple). size_of x.dims) (f v)

pub size_same : (a b : Rows) (t : ℕ → Bool) (r : ℕ) → IsAlike a b → (row_at b r).waiting ≡ (row_at a r).waiting → going_size b t r ≡ going_size a t r
size_same a b t r k e = waiting_same a b (going_at b t r) k.triple_is ∙ ap (waiting_size a) (going_same a b t r (k.root_is r) e)
