-- One hold less where nothing is loose: nothing goes, or one array alone, or it and some above it.
use Rattle.std.proofs.Common.{◌-◌, ◌∙◌, ◌≡◌, ℕ, true, false, [], ◌∷◌, inl, inr, refl, sym, ap, Some, None, ◌<◌, eqb, arith, subst, ◌≢◌, ◌+◌, nat_lt, Option, is_none}
use Rattle.std.proofs.Math.Path.{fun_ext}
use Rattle.std.proofs.lemmas.Bool.Decides.{eqb_tells, leb_tells}
use Rattle.pdl_world.specs.Cut.{has_views}
use Rattle.pdl_world.specs.Swept.{is_listed}
use Rattle.pdl_nodes.specs.Families.{InOrder}
use Rattle.pdl_nodes.specs.Going.{going_sum}
use Rattle.pdl_nodes.specs.Holds.{Counts, stands, Beside, is_held, count, hold_at, count_in, less_one}
use Rattle.pdl_nodes.specs.Known.{AreKnown}
use Rattle.pdl_nodes.specs.Released.{KeepsWaiting, GoingIsSettled}
use Rattle.pdl_nodes.specs.Risen.{AreTight, IsLetGo, GoesAlone, IsForgotten}
use Rattle.pdl_nodes.specs.Row.{parent_of}
use Rattle.pdl_nodes.specs.RowLaws.{RowLaws}
use Rattle.pdl_nodes.specs.Rows.{Rows, row_at, has, without, reached}
use Rattle.pdl_nodes.specs.Still.{IsStill}
use Rattle.pdl_nodes.specs.Worlds.{shape}
use Rattle.pdl_engine.specs.Taken.{count_after, after_release}
use Rattle.pdl_engine.proofs.TakenGone.{beside_taken, let_go_as, starts_tight, going_sums, count_taken, taken, starts_live}
use Rattle.pdl_engine.proofs.HeldLemmas.{less_count}
use Rattle.pdl_engine.proofs.LooseTight.{none_loose}

settled_so : (facts : RowLaws) → (rs : Rows) (hs : Counts) → InOrder rs → AreKnown rs → KeepsWaiting (stands hs) rs → GoingIsSettled rs rs hs
settled_so facts rs hs o a k = record {
  kept = facts.kept.ready_same rs o a;
  sized = λ z. z;
  waits = k;
  leaves = λ r i y. facts.leaving.stays_all (stands hs) (row_at rs r).waiting (λ v e. k r v i y e);
}

-- nothing goes
waiting_stands : (rs : Rows) (hs : Counts) → InOrder rs → Beside rs hs → KeepsWaiting (stands hs) rs
waiting_stands rs hs o b r v i y e = b.numbers v ∙ ((o.family r i).waits v e).live

-- the one that may be loose is held, or has views
tight_one : (rs : Rows) (hs : Counts) (id : ℕ) → AreTight (id ∷ []) rs hs → (is_held hs id ≡ false → has_views (shape rs) id ≡ true) → AreTight [] rs hs
tight_one rs hs id t f v h d u = elim (eqb_tells id v) [
  | inl y ↦ ap (has_views (shape rs)) (sym y.1) ∙ f (ap (is_held hs) y.1 ∙ u)
  | inr y ↦ t v h (rw y.0 refl) u
]

-- so all is left as it is
kept_let_go : (facts : RowLaws) → (rs : Rows) (hs : Counts) (id : ℕ) → InOrder rs → AreKnown rs → Beside rs hs → AreTight [] rs hs → IsLetGo rs (count hs) rs hs
kept_let_go facts rs hs id o a b t =
    facts.leaving.let_go_is rs rs rs hs hs hs o (λ v y. refl) (λ v h. facts.leaving.kept_tells rs hs v o b t h) (settled_so facts rs hs o a (waiting_stands rs hs o b)) (facts.leaving.all_stand rs hs b) b (λ v. refl)

-- the only start is there
pub start_live : (rs : Rows) (id : ℕ) → has rs id ≡ true → (v : ℕ) → is_listed (id ∷ []) v ≡ true → has rs v ≡ true
start_live rs id h v l = elim (eqb_tells id v) [
  | inl y ↦ ap (has rs) (sym y.1) ∙ h
  | inr y ↦ (let z : false ≡ true = rw y.0 at l in absurd (cc))
]

-- it has nothing above it
root_alone : (rs : Rows) (gs : Counts) (id : ℕ) → parent_of (row_at rs id) ≡ None → GoesAlone rs gs id
root_alone rs gs id e = λ p q u. (let z : None ≡ Some p = sym e ∙ q in absurd (cc))

-- so it goes alone
root_let_go : (facts : RowLaws) → (rs new : Rows) (gs : Counts) (id : ℕ) → InOrder rs → AreKnown rs → IsForgotten rs gs id → parent_of (row_at rs id) ≡ None → new ≡ without id rs → IsLetGo rs (count gs) new gs
root_let_go facts rs new gs id o a f e n =
    facts.leaving.alone_let_go rs rs new gs id o f (root_alone rs gs id e) (settled_so facts rs gs o a (facts.leaving.root_waits rs gs id o f.live e f.beside)) n

-- a count that is more than one is more than none once one is taken
not_one : (n : ℕ) → eqb n 1 ≡ false → 0 < n → 0 < n - 1
not_one n e l = elim (eqb_tells n 1) [ inl t ↦ (let z : true ≡ false = sym t.0 ∙ e in absurd (cc)) | inr t ↦ omega (arith, l, t.1) ]

-- it wasn't the last
pub still_held : (hs gs : Counts) (id : ℕ) → 0 < count hs id → eqb (count hs id) 1 ≡ false → hold_at gs id ≡ less_one (hold_at hs id) → is_held gs id ≡ true
still_held hs gs id l e h =
    let some : 0 < count gs id = subst (λ n. 0 < n) (sym (ap count_in h ∙ less_count (hold_at hs id))) (not_one (count hs id) e l) in
    elim (leb_tells 1 (count gs id)) [ inl t ↦ t.0 | inr t ↦ absurd (omega (arith, some, t.1)) ]

pub last_count : (hs gs : Counts) (id v : ℕ) → eqb (count hs id) 1 ≡ true → hold_at gs id ≡ None → ((x : ℕ) → x ≢ id → hold_at gs x ≡ hold_at hs x) → count gs v ≡ count_after id hs v
last_count hs gs id v e h o = elim (eqb_tells v id) [
  | inl y ↦ (let one : count hs id ≡ 1 = elim (eqb_tells (count hs id) 1) [ inl t ↦ t.1 | inr t ↦ (let z : false ≡ true = sym t.0 ∙ e in absurd (cc)) ] in
      let less : count_in (less_one (hold_at hs v)) ≡ 0 = less_count (hold_at hs v) ∙ (let d : count hs v ≡ 1 = ap (count hs) y.1 ∙ one in omega (arith, d)) in
      rw y.0 (ap (count gs) y.1 ∙ ap count_in h ∙ sym less))
  | inr y ↦ rw y.0 (ap count_in (o v y.1))
]

none_more : (s n : ℕ) → n ≡ 0 → s ≡ s + n
none_more s n e = omega (arith, e)

-- what was let go, and at how many steps
pub record IsDone (rs : Rows) (hs : Counts) (id s : ℕ) (new : Rows) (gs : Counts) (n : ℕ) : Type 0 where
  pub gone : IsLetGo rs (count_after id hs) new gs
  pub counted : n ≡ s + going_sum rs (reached rs (after_release id hs)) rs

pub done_kept : (facts : RowLaws) → (rs : Rows) (hs gs : Counts) (id s : ℕ) → InOrder rs → AreKnown rs → Beside rs hs → AreTight [] rs hs → hold_at gs id ≡ less_one (hold_at hs id) → ((v : ℕ) → v ≢ id → hold_at gs v ≡ hold_at hs v)
    → (is_held gs id ≡ false → has_views (shape rs) id ≡ true) → IsDone rs hs id s rs gs s
done_kept facts rs hs gs id s o a b0 t0 h u f =
    let b : Beside rs gs = beside_taken rs hs gs id b0 h u in
    let t : AreTight [] rs gs = tight_one rs gs id (starts_tight rs hs gs [] id u (none_loose rs hs t0)) f in
    record {
      gone = let_go_as rs (count gs) (count_after id hs) rs gs (λ v. count_taken hs gs id v h u) (kept_let_go facts rs gs id o a b t);
      counted = none_more s (going_sum rs (stands gs) rs) (facts.leaving.nothing_goes (stands gs) rs (waiting_stands rs gs o b))
          ∙ ap (λ n. s + n) (going_sums rs (stands gs) (reached rs (after_release id hs)) o (λ v l. facts.leaving.kept_tells rs gs v o b t l ∙ taken rs hs gs id v h u));
    }

-- the last hold of one without views was taken back
pub is_forgotten : (facts : RowLaws) → (rs : Rows) (hs gs : Counts) (id : ℕ) → IsStill rs → Beside rs hs → 0 < count hs id → AreTight [] rs hs → has_views (shape rs) id ≡ false → hold_at gs id ≡ None → ((v : ℕ) → v ≢ id → hold_at gs v ≡ hold_at hs v) → IsForgotten rs gs id
is_forgotten facts rs hs gs id s b l t n h o = record {
  still = s;
  live = starts_live rs hs [] id b l (none_loose rs hs t) id (facts.leaving.under_first id []);
  viewless = n;
  beside = facts.leaving.last_beside rs hs gs id b h o;
  tight = starts_tight rs hs gs [] id o (none_loose rs hs t);
}

pub done_root : (facts : RowLaws) → (rs new : Rows) (hs gs : Counts) (id s : ℕ) → InOrder rs → AreKnown rs → IsForgotten rs gs id → ((v : ℕ) → count gs v ≡ count_after id hs v) → is_none (parent_of (row_at rs id)) ≡ true → new ≡ without id rs → IsDone rs hs id s new gs s
done_root facts rs new hs gs id s o a f e r n =
    let p : parent_of (row_at rs id) ≡ None = is_root (parent_of (row_at rs id)) r in
    record {
      gone = let_go_as rs (count gs) (count_after id hs) new gs e (root_let_go facts rs new gs id o a f p n);
      counted = none_more s (going_sum rs (stands gs) rs) (facts.leaving.nothing_goes (stands gs) rs (facts.leaving.root_waits rs gs id o f.live p f.beside))
          ∙ ap (λ n. s + n) (going_sums rs (stands gs) (reached rs (after_release id hs)) o (λ v l. facts.leaving.alone_tells rs gs id f (root_alone rs gs id p) v l ∙ ap (λ g. reached rs g v) (fun_ext (λ x. ap (nat_lt 0) (e x)))));
    } where
      is_root : (q : Option ℕ) → is_none q ≡ true → q ≡ None
      is_root None y = refl
      is_root (Some x) y = (let z : false ≡ true = y in absurd (cc))

pub done_view : (rs mid new : Rows) (hs gs later : Counts) (id s n : ℕ) → mid ≡ rs → ((v : ℕ) → count gs v ≡ count_after id hs v) → IsLetGo mid (count gs) new later → n ≡ s + going_sum mid (reached mid (is_held gs)) mid → IsDone rs hs id s new later n
done_view rs mid new hs gs later id s n m e g c =
    let P : Rows → Type 0 = λ x. IsLetGo x (count gs) new later in
    record {
      gone = let_go_as rs (count gs) (count_after id hs) new later e (subst P m g);
      counted = c ∙ ap (λ x. s + going_sum x (reached x (is_held gs)) x) m
          ∙ ap (λ g. s + going_sum rs (reached rs g) rs) (fun_ext (λ x. ap (nat_lt 0) (e x)));
    }
