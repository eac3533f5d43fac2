-- What is held once one hold was taken back, and what goes then.
use Rattle.std.proofs.Common.{◌≡◌, ◌≢◌, ℕ, inl, inr, sym, ◌∙◌, ap, nat_lt, is_some, ◌<◌, true, Option, Some, None, refl, arith, ◌||◌, List, ◌∷◌, false, subst, Bool, cond, ◌+◌, []}
use Rattle.std.proofs.Math.Path.{fun_ext}
use Rattle.std.proofs.lemmas.Bool.{eq-eqb}
use Rattle.std.proofs.lemmas.Bool.Decides.{eqb_tells}
use Rattle.pdl_world.specs.Swept.{is_listed}
use Rattle.pdl_nodes.specs.Families.{InOrder}
use Rattle.pdl_nodes.specs.Going.{goes_from, going_at, going_size, going_sum}
use Rattle.pdl_nodes.specs.Holds.{Counts, hold_at, count, count_in, less_one, is_held, Beside}
use Rattle.pdl_nodes.specs.Outcomes.{IsReady, waiting_size}
use Rattle.pdl_nodes.specs.Risen.{AreTight, ComesFrom, IsParentOfGone, IsLetGo}
use Rattle.pdl_nodes.specs.Rows.{Rows, reached, has, row_at}
use Rattle.pdl_nodes.specs.declared.holds.Hold.{Hold}
use Rattle.pdl_engine.specs.Loose.{IsTight}
use Rattle.pdl_engine.specs.Taken.{count_after, after_release}
use Rattle.pdl_engine.proofs.HeldLemmas.{beside_at, less_going, less_some}

-- what is held once one hold was taken back
pub count_taken : (hs later : Counts) (id v : ℕ) → hold_at later id ≡ less_one (hold_at hs id) → ((x : ℕ) → x ≢ id → hold_at later x ≡ hold_at hs x) → count later v ≡ count_after id hs v
count_taken hs later id v h o = elim (eqb_tells v id) [
  | inl e ↦ rw e.0 (ap count_in (ap (hold_at later) e.1 ∙ h ∙ ap (λ x. less_one (hold_at hs x)) (sym e.1)))
  | inr e ↦ rw e.0 (ap count_in (o v e.1))
]

after_take : (hs later : Counts) (id v : ℕ) → hold_at later id ≡ less_one (hold_at hs id) → ((x : ℕ) → x ≢ id → hold_at later x ≡ hold_at hs x) → is_held later v ≡ after_release id hs v
after_take hs later id v h o = ap (nat_lt 0) (count_taken hs later id v h o)

pub taken : (t : Rows) (hs later : Counts) (id v : ℕ) → hold_at later id ≡ less_one (hold_at hs id) → ((x : ℕ) → x ≢ id → hold_at later x ≡ hold_at hs x) → reached t (is_held later) v ≡ reached t (after_release id hs) v
taken t hs later id v h o = ap (λ f. reached t f v) (fun_ext (λ x. after_take hs later id x h o))

-- each array has its holds still
pub beside_taken : (rs : Rows) (hs gs : Counts) (id : ℕ) → Beside rs hs → hold_at gs id ≡ less_one (hold_at hs id) → ((v : ℕ) → v ≢ id → hold_at gs v ≡ hold_at hs v) → Beside rs gs
beside_taken rs hs gs id b e o = beside_at less_one less_some less_going rs hs gs id b e o

-- what is held is there
held_has : (rs : Rows) (hs : Counts) (id : ℕ) → Beside rs hs → 0 < count hs id → has rs id ≡ true
held_has rs hs id b l = sym (b.numbers id) ∙ some_held (hold_at hs id) l where
  some_held : (o : Option Hold) → 0 < count_in o → is_some o ≡ true
  some_held None l = (let z : ⊥ = omega (arith, l) in absurd z)
  some_held (Some h) l = refl

pub starts_live : (rs : Rows) (hs : Counts) (loose : List ℕ) (id : ℕ) → Beside rs hs → 0 < count hs id → IsTight loose rs hs → (v : ℕ) → is_listed (id ∷ loose) v ≡ true → has rs v ≡ true
starts_live rs hs loose id b l t v h = elim (eqb_tells id v) [
  | inl y ↦ ap (has rs) (sym y.1) ∙ held_has rs hs id b l
  | inr y ↦ t.live v (sym (ap (λ c. c || is_listed loose v) y.0) ∙ h)
]

pub starts_tight : (rs : Rows) (hs gs : Counts) (loose : List ℕ) (id : ℕ) → ((v : ℕ) → v ≢ id → hold_at gs v ≡ hold_at hs v) → IsTight loose rs hs → AreTight (id ∷ loose) rs gs
starts_tight rs hs gs loose id o t v h d u = elim (eqb_tells id v) [
  | inl y ↦ (let z : true ≡ false = sym (ap (λ c. c || is_listed loose v) y.0) ∙ d in absurd (cc))
  | inr y ↦ t.tight v h (sym (ap (λ c. c || is_listed loose v) y.0) ∙ d) (sym (ap (λ x. nat_lt 0 (count_in x)) (o v (λ z. y.1 (sym z)))) ∙ u)
]

-- what goes comes from the same starts where rows mean the same
pub comes_ready : (starts : List ℕ) (old mid : Rows) (hs : Counts) → IsReady old mid → ComesFrom starts old hs → ComesFrom starts mid hs
comes_ready starts old mid hs k f = λ v h g d.
    let i : IsParentOfGone old hs v = f v (sym (k.alike.has_is v) ∙ h) g d in
    record { child = i.child; live = k.alike.has_is i.child ∙ i.live; gone = i.gone; parent = k.alike.parent_is i.child ∙ i.parent }

-- held as often
pub let_go_as : (old : Rows) (f g : ℕ → ℕ) (new : Rows) (gs : Counts) → ((v : ℕ) → f v ≡ g v) → IsLetGo old f new gs → IsLetGo old g new gs
let_go_as old f g new gs e i = (let P : (ℕ → ℕ) → Type 0 = λ h. IsLetGo old h new gs in subst P (fun_ext e) i)

-- what goes is told by tests that agree on what is live
goes_same : (t u : ℕ → Bool) (o : Option ℕ) → ((v : ℕ) → o ≡ Some v → t v ≡ u v) → goes_from t o ≡ goes_from u o
goes_same t u None f = refl
goes_same t u (Some v) f = ap (λ b. cond b None (Some v)) (f v refl)

going_agree : (rs : Rows) (t u : ℕ → Bool) (r : ℕ) → InOrder rs → has rs r ≡ true → ((v : ℕ) → has rs v ≡ true → t v ≡ u v) → going_at rs t r ≡ going_at rs u r
going_agree rs t u r o h e = elim (eqb_tells (row_at rs r).root r) [
  | inl a ↦ rw a.0 (ap (λ b. cond b (goes_from t (row_at rs r).waiting) None) (e r h)
      ∙ ap (λ x. cond (u r) x None) (goes_same t u (row_at rs r).waiting (λ v w. e v ((o.family r (h, a.1)).waits v w).live)))
  | inr a ↦ rw a.0 refl
]

sum_agree : (rs : Rows) (t u : ℕ → Bool) (part : Rows) → InOrder rs → ((v : ℕ) → has part v ≡ true → has rs v ≡ true) → ((v : ℕ) → has rs v ≡ true → t v ≡ u v) → going_sum rs t part ≡ going_sum rs u part
sum_agree rs t u [] o h e = refl
sum_agree rs t u ((k, r) ∷ part) o h e =
    ap (λ n. waiting_size rs n + going_sum rs t part) (going_agree rs t u k o (h k (rw (eq-eqb k k refl) refl)) e)
    ∙ ap (λ n. going_size rs u k + n) (sum_agree rs t u part o (λ v g. h v (elim (eqb_tells k v) [ inl y ↦ rw y.0 refl | inr y ↦ rw y.0 g ])) e)

pub going_sums : (rs : Rows) (t u : ℕ → Bool) → InOrder rs → ((v : ℕ) → has rs v ≡ true → t v ≡ u v) → going_sum rs t rs ≡ going_sum rs u rs
going_sums rs t u o e = sum_agree rs t u rs o (λ v h. h) e
