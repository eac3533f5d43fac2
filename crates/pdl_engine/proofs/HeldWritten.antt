-- What is written back before arrays go, in the words of the state.
use Rattle.std.proofs.Common.{ℕ, Bool, eqb, ◌≡◌, ◌||◌, true, cond, inl, inr, refl, ℤ, List, ◌∷◌, [], ◌&&◌, false, sym, ◌∙◌, ap, is_some, Option, Some, None, ◌+◌, arith}
use Rattle.std.specs.List.{list_any}
use Rattle.std.proofs.Math.Bool.{and-true}
use Rattle.std.proofs.Math.Path.{fun_ext}
use Rattle.std.proofs.lemmas.Bool.{cases_Bool, eq-eqb, ne_eqb}
use Rattle.std.proofs.lemmas.Bool.Decides.{eqb_tells}
use Rattle.pdl_world.specs.Swept.{sweep}
use Rattle.pdl_world.specs.World.{World, look, ArrayDef, root, view}
use Rattle.pdl_nodes.specs.Families.{InOrder, Means}
use Rattle.pdl_nodes.specs.Going.{goes_from, going_size, going_at, going_sum}
use Rattle.pdl_nodes.specs.Holds.{Counts, Beside}
use Rattle.pdl_nodes.specs.Outcomes.{waiting_size as rows_waiting_size}
use Rattle.pdl_nodes.specs.Row.{Row}
use Rattle.pdl_nodes.specs.RowLaws.{RowLaws}
use Rattle.pdl_nodes.specs.Rows.{Rows, has, row_at, reached}
use Rattle.pdl_nodes.specs.Staying.{staying}
use Rattle.pdl_nodes.specs.Still.{IsStill, StillFrom}
use Rattle.pdl_nodes.specs.Worlds.{def_from, with_elements, shape, world_of, latest}
use Rattle.pdl_nodes.specs.declared.origin.Origin.{Origin}
use Rattle.pdl_nodes.specs.declared.origin.Origin.TheVariants.{Root, View}
use Rattle.pdl_engine.specs.Held.{gone_from, written_back, held_among, one_less_at}
use Rattle.pdl_engine.specs.State.{waiting_at, waiting_size}
use Rattle.pdl_engine.specs.StateOf.{pending_in, state_of, holds_in}
use Rattle.pdl_engine.specs.Taken.{after_release}
use Rattle.pdl_engine.proofs.StateBounds.{size_is, waits_is}
use Rattle.pdl_engine.proofs.HeldLemmas.{held_is}
use Rattle.pdl_engine.proofs.StateOfWorlds.{look_has}

-- whether a number stands in a world
abbrev stands : World → ℕ → Bool
stands w v = list_any (λ a. eqb a.0 v) w

stands_one : (k v : ℕ) (a b : Bool) → a ≡ b → (eqb k v || a) ≡ cond (eqb k v) true b
stands_one k v a b e = elim (eqb_tells k v) [ inl t ↦ rw t.0 refl | inr t ↦ rw t.0 e ]

stands_origin : (f : ℕ → List ℤ) (k v : ℕ) (r : Row) (o : Origin) (w : World) (b : Bool) → stands (with_elements f w) v ≡ b → stands (with_elements f ((k, def_from r.ty r.triple.dims o) ∷ w)) v ≡ cond (eqb k v) true b
stands_origin f k v r Root w b e = stands_one k v (stands (with_elements f w) v) b e
stands_origin f k v r (View p t y) w b e = stands_one k v (stands (with_elements f w) v) b e

stands_with : (f : ℕ → List ℤ) (rs : Rows) (v : ℕ) → stands (with_elements f (shape rs)) v ≡ has rs v
stands_with f [] v = refl
stands_with f ((k, r) ∷ rs) v = stands_origin f k v r r.origin (shape rs) (has rs v) (stands_with f rs v)

stands_stays : (t : ℕ → Bool) (w : World) (v : ℕ) → stands (staying t w) v ≡ (t v && stands w v)
stands_stays t [] v = elim (cases_Bool (t v)) [ inl y ↦ rw y refl | inr y ↦ rw y refl ]
stands_stays t ((k, d) ∷ w) v = elim (cases_Bool (t k)) [
  | inl y ↦ elim (eqb_tells k v) [
    | inl e ↦ (let g : t v ≡ true = ap t (sym e.1) ∙ y in rw (y, e.0, g) refl)
    | inr e ↦ rw (y, e.0) (stands_stays t w v)
  ]
  | inr y ↦ elim (eqb_tells k v) [
    | inl e ↦ (let g : t v ≡ false = ap t (sym e.1) ∙ y in rw (y, g) (stands_stays t w v ∙ rw g refl))
    | inr e ↦ rw (y, e.0) (stands_stays t w v)
  ]
]

-- a world of what stays
pub record IsSwept (old new : Rows) (t : ℕ → Bool) : Type 0 where
  pub order : InOrder old
  pub still : IsStill new
  pub world : world_of new ≡ staying t (world_of old)

tells : (facts : RowLaws) → (old new : Rows) (t : ℕ → Bool) (v : ℕ) → IsSwept old new t → has old v ≡ true → is_some (look (world_of new) v) ≡ t v
tells facts old new t v i h =
    look_has facts new i.still v ∙ sym (stands_with (latest new) new v) ∙ ap (λ w. stands w v) i.world ∙ stands_stays t (world_of old) v
    ∙ ap (λ b. t v && b) (stands_with (latest old) old v ∙ h) ∙ and-true (t v)

goes_is : (facts : RowLaws) → (old new : Rows) (t : ℕ → Bool) (o : Option ℕ) → IsSwept old new t → ((v : ℕ) → o ≡ Some v → has old v ≡ true) → goes_from t o ≡ gone_from (world_of new) o
goes_is facts old new t None i h = refl
goes_is facts old new t (Some v) i h = ap (λ b. cond b None (Some v)) (sym (tells facts old new t v i (h v refl)))

gone_live : (old : Rows) (w : World) (o : Option ℕ) → ((v : ℕ) → o ≡ Some v → has old v ≡ true) → (v : ℕ) → gone_from w o ≡ Some v → has old v ≡ true
gone_live old w None h v e = absurd (cc)
gone_live old w (Some u) h v e = elim (cases_Bool (is_some (look w u))) [
  | inl y ↦ (let z : None ≡ Some v = rw y at e in absurd (cc))
  | inr y ↦ (let z : Some u ≡ Some v = rw y at e in h v z)
]

-- what a row takes
no_root_size : (old : Rows) (t : ℕ → Bool) (k : ℕ) → eqb (row_at old k).root k ≡ false → going_size old t k ≡ 0
no_root_size old t k e = rw e refl

gone_size : (old : Rows) (t : ℕ → Bool) (k : ℕ) → t k ≡ false → going_size old t k ≡ 0
gone_size old t k e = elim (eqb_tells (row_at old k).root k) [
  | inl y ↦ rw (y.0, e) refl
  | inr y ↦ rw y.0 refl
]

root_size : (facts : RowLaws) → (old new : Rows) (hs : Counts) (n : ℕ) (t : ℕ → Bool) (k : ℕ) → IsSwept old new t → has old k ≡ true → (row_at old k).root ≡ k → t k ≡ true
    → going_size old t k ≡ waiting_size (state_of old hs n) (gone_from (world_of new) (waiting_at (pending_in old) k))
root_size facts old new hs n t k i h r y =
    let live : (v : ℕ) → (row_at old k).waiting ≡ Some v → has old v ≡ true = λ v e. ((i.order.family k (h, r)).waits v e).live in
    let at : going_at old t k ≡ goes_from t (row_at old k).waiting = rw (eq-eqb (row_at old k).root k r, y) refl in
    ap (rows_waiting_size old) (at ∙ goes_is facts old new t (row_at old k).waiting i live)
    ∙ sym (size_is facts old hs n (gone_from (world_of new) (row_at old k).waiting) i.order.still (gone_live old (world_of new) (row_at old k).waiting live))
    ∙ ap (λ o. waiting_size (state_of old hs n) (gone_from (world_of new) o)) (sym (waits_is facts old k (facts.seen.falls old i.order.still) h))

-- a part of the rows
record IsPart (old part : Rows) : Type 0 where
  still : IsStill part
  there : (v : ℕ) → has part v ≡ true → has old v ≡ true
  rows : (v : ℕ) → has part v ≡ true → row_at old v ≡ row_at part v

part_tail : (facts : RowLaws) → (old : Rows) (k : ℕ) (r : Row) (part : Rows) → IsPart old ((k, r) ∷ part) → IsPart old part
part_tail facts old k r part i =
    let older : (v : ℕ) → has part v ≡ true → k ≡ v → ⊥ = λ v h. facts.numbers.not_newest part k v i.still.0 h in
    record {
      still = i.still.2;
      there = λ v h. i.there v (rw (ne_eqb k v (older v h)) h);
      rows = λ v h. i.rows v (rw (ne_eqb k v (older v h)) h) ∙ rw (ne_eqb k v (older v h)) refl;
    }

part_row : (old : Rows) (k : ℕ) (r : Row) (part : Rows) → IsPart old ((k, r) ∷ part) → row_at old k ≡ r
part_row old k r part p = p.rows k (rw (eq-eqb k k refl) refl) ∙ rw (eq-eqb k k refl) refl

none_more : (old part : Rows) (t : ℕ → Bool) (k : ℕ) (r : Row) (m : ℕ) → going_size old t k ≡ 0 → going_sum old t part ≡ m → going_sum old t ((k, r) ∷ part) ≡ m
none_more old part t k r m z e = ap (λ x. x + going_sum old t part) z ∙ (let i : 0 + going_sum old t part ≡ going_sum old t part = omega arith in i) ∙ e

stay_keep : (t : ℕ → Bool) (k : ℕ) (d : ArrayDef) (w : World) → t k ≡ true → staying t ((k, d) ∷ w) ≡ (k, d) ∷ staying t w
stay_keep t k d w y = rw y refl

stay_drop : (t : ℕ → Bool) (k : ℕ) (d : ArrayDef) (w : World) → t k ≡ false → staying t ((k, d) ∷ w) ≡ staying t w
stay_drop t k d w y = rw y refl

sums_one : (facts : RowLaws) → (old new : Rows) (hs : Counts) (n : ℕ) (t : ℕ → Bool) (f : ℕ → List ℤ) (k : ℕ) (r : Row) (part : Rows) (o : Origin) → IsSwept old new t → IsPart old ((k, r) ∷ part) → StillFrom part k r o
    → going_sum old t part ≡ written_back (state_of old hs n) (world_of new) (staying t (with_elements f (shape part)))
    → going_sum old t ((k, r) ∷ part) ≡ written_back (state_of old hs n) (world_of new) (staying t (with_elements f ((k, def_from r.ty r.triple.dims o) ∷ shape part)))
sums_one facts old new hs n t f k r part Root i p s e = elim (cases_Bool (t k)) [
  | inl y ↦ ap (λ m. m + going_sum old t part) (root_size facts old new hs n t k i (p.there k (rw (eq-eqb k k refl) refl)) (ap (λ (x : Row). x.root) (part_row old k r part p) ∙ s.root_is) y)
      ∙ ap (λ m. waiting_size (state_of old hs n) (gone_from (world_of new) (waiting_at (pending_in old) k)) + m) e
      ∙ sym (ap (written_back (state_of old hs n) (world_of new)) (stay_keep t k (root r.ty r.triple.dims (f k)) (with_elements f (shape part)) y))
  | inr y ↦ none_more old part t k r (written_back (state_of old hs n) (world_of new) (staying t (with_elements f (shape part)))) (gone_size old t k y) e
      ∙ sym (ap (written_back (state_of old hs n) (world_of new)) (stay_drop t k (root r.ty r.triple.dims (f k)) (with_elements f (shape part)) y))
]
sums_one facts old new hs n t f k r part (View q u l) i p s e =
    let apart : r.root ≡ k → ⊥ = λ x. facts.numbers.not_newest part k (row_at part q).root p.still.0 (facts.seen.is_seen part p.still.2 q s.0).root_has (sym x ∙ s.1.root_is) in
    let z : going_size old t k ≡ 0 = no_root_size old t k (ne_eqb (row_at old k).root k (λ x. apart (ap (λ (y : Row). y.root) (sym (part_row old k r part p)) ∙ x))) in
    let m : going_sum old t ((k, r) ∷ part) ≡ written_back (state_of old hs n) (world_of new) (staying t (with_elements f (shape part))) =
    none_more old part t k r (written_back (state_of old hs n) (world_of new) (staying t (with_elements f (shape part)))) z e in
    elim (cases_Bool (t k)) [
      | inl y ↦ m ∙ sym (ap (written_back (state_of old hs n) (world_of new)) (stay_keep t k (view q u) (with_elements f (shape part)) y))
      | inr y ↦ m ∙ sym (ap (written_back (state_of old hs n) (world_of new)) (stay_drop t k (view q u) (with_elements f (shape part)) y))
    ]

sums : (facts : RowLaws) → (old new : Rows) (hs : Counts) (n : ℕ) (t : ℕ → Bool) (f : ℕ → List ℤ) (part : Rows) → IsSwept old new t → IsPart old part
    → going_sum old t part ≡ written_back (state_of old hs n) (world_of new) (staying t (with_elements f (shape part)))
sums facts old new hs n t f [] i p = refl
sums facts old new hs n t f ((k, r) ∷ part) i p = sums_one facts old new hs n t f k r part r.origin i p p.still.1 (sums facts old new hs n t f part i (part_tail facts old k r part p))

pub written_is : (facts : RowLaws) → (old new : Rows) (hs : Counts) (n : ℕ) (t : ℕ → Bool) → IsSwept old new t → going_sum old t old ≡ written_back (state_of old hs n) (world_of new) (world_of new)
written_is facts old new hs n t i =
    sums facts old new hs n t (latest old) old i (record { still = i.order.still; there = λ v h. h; rows = λ v h. refl })
    ∙ ap (written_back (state_of old hs n) (world_of new)) (sym i.world)

-- what is left after a release is what its holds reach
pub swept_by : (facts : RowLaws) → (old new : Rows) (hs : Counts) (id : ℕ) → InOrder old → Beside old hs → Means new (sweep (world_of old) (held_among (one_less_at (holds_in old hs) id))) → IsSwept old new (reached old (after_release id hs))
swept_by facts old new hs id o b m = record {
  order = o;
  still = m.0.still;
  world = m.1 ∙ facts.leaving.sweep_stays old (held_among (one_less_at (holds_in old hs) id)) o.still ∙ ap (λ t. staying (reached old t) (world_of old)) (fun_ext (held_is old hs id b));
}
