-- Tests that agree on the rows that are there, and the holds of a number that isn't.
use Rattle.std.proofs.Common.{◌≡◌, ◌≢◌, ℕ, Bool, true, false, [], ◌∷◌, Option, Some, None, is_some, inl, inr, refl, sym, ◌∙◌, ap}
use Rattle.std.proofs.lemmas.Bool.{cases_Bool}
use Rattle.std.proofs.lemmas.Bool.Decides.{eqb_tells}
use Rattle.pdl_nodes.specs.declared.holds.Hold.{Hold}
use Rattle.pdl_nodes.specs.Staying.{staying}
use Rattle.pdl_nodes.specs.Rows.{Rows, has, NumbersBelow}
use Rattle.pdl_nodes.specs.Holds.{Counts, hold_at, going_in, Beside}
use Rattle.pdl_nodes.proofs.RowFinds.{not_newest}
use Rattle.std.proofs.lemmas.Bool.{eq-eqb}

-- tests that agree on the live numbers
pub staying_live : (t u : ℕ → Bool) (rs : Rows) → ((v : ℕ) → has rs v ≡ true → t v ≡ u v) → staying t rs ≡ staying u rs
staying_live t u [] e = refl
staying_live t u ((k, r) ∷ rs) e =
    let tail : staying t rs ≡ staying u rs = staying_live t u rs (λ v h. e v (elim (eqb_tells k v) [ inl y ↦ rw y.0 refl | inr n ↦ rw n.0 h ])) in
    let head : t k ≡ u k = e k (rw (eq-eqb k k refl) refl) in
    rw (head, tail) refl

pub none_of : (o : Option Hold) → is_some o ≡ false → o ≡ None
none_of None h = refl
none_of (Some x) h = absurd (cc)

-- a new number has no hold
pub no_hold : (t : Rows) (hs : Counts) (id : ℕ) → Beside t hs → NumbersBelow id t → hold_at hs id ≡ None
no_hold t hs id b n = none_of (hold_at hs id) (b.numbers id ∙ elim (cases_Bool (has t id)) [
  | inl y ↦ absurd (not_newest t id id n y refl)
  | inr y ↦ y
])

-- the holds are as they were
pub beside_same : (t new : Rows) (hs later : Counts) (id : ℕ) → Beside t hs → NumbersBelow id t → new ≡ t → hold_at later id ≡ None → ((v : ℕ) → v ≢ id → hold_at later v ≡ hold_at hs v) → Beside new later
beside_same t new hs later id b n e h o =
    let all : (v : ℕ) → hold_at later v ≡ hold_at hs v = λ v. elim (eqb_tells v id) [
      | inl y ↦ ap (hold_at later) y.1 ∙ h ∙ sym (ap (hold_at hs) y.1 ∙ no_hold t hs id b n)
      | inr y ↦ o v y.1
    ] in
    record { numbers = λ v. ap is_some (all v) ∙ b.numbers v ∙ sym (ap (λ x. has x v) e); clear = λ v. ap going_in (all v) ∙ b.clear v }
