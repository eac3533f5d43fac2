-- Where assigned values are put, and what waits before and after.
use Rattle.std.proofs.Common.{◌≡◌, ℕ, Bool, true, false, cond, None, inl, inr, refl, sym, ◌∙◌, ap, Option, Some, ℤ, eqb, List}
use Rattle.std.proofs.lemmas.Bool.{cases_Bool, eq-eqb, ne_eqb}
use Rattle.pdl_nodes.specs.Families.{has_repeats, InOrder, IsWaiting, InFamily}
use Rattle.pdl_nodes.specs.Put.{IsWrite}
use Rattle.pdl_nodes.specs.Row.{Row}
use Rattle.pdl_nodes.specs.RowLaws.{RowLaws}
use Rattle.pdl_nodes.specs.Rows.{Rows, row_at, has, each}
use Rattle.pdl_nodes.specs.Worlds.{places_seen, IsRoot}
use Rattle.pdl_push.specs.Late.{settle, await}
use Rattle.pdl_push.specs.Targets.{target, WaitsTarget}

-- ---- the target
-- the root is the target where it is the base
either_root : (x : Bool) (rt b : ℕ) → b ≡ rt → cond x rt b ≡ rt
either_root true rt b e = refl
either_root false rt b e = e

pub target_root : (rs : Rows) (rt b v : ℕ) → (row_at rs v).root ≡ rt → (row_at rs v).base ≡ b → b ≡ rt → target rs v ≡ rt
target_root rs rt b v e g h = either_root (has_repeats (places_seen rs (row_at rs v).base)) (row_at rs v).root (row_at rs v).base (g ∙ h ∙ sym e) ∙ e

-- and where the base has repeats, and else the base is
pub target_repeats : (rs : Rows) (rt b v : ℕ) (x : Bool) → (row_at rs v).root ≡ rt → (row_at rs v).base ≡ b → has_repeats (places_seen rs b) ≡ x → target rs v ≡ cond x rt b
target_repeats rs rt b v x e g h = ap (λ y. cond (has_repeats (places_seen rs y)) (row_at rs v).root y) g ∙ ap (λ y. cond y (row_at rs v).root b) h ∙ ap (λ y. cond x y b) e

-- a marked base of the family knows whether it has repeats
pub flag_is : (facts : RowLaws) → (rs : Rows) (rt b v : ℕ) → InOrder rs → has rs v ≡ true → (row_at rs v).root ≡ rt → (row_at rs v).base ≡ b → (row_at rs b).mark ≡ true → (row_at rs b).repeats ≡ has_repeats (places_seen rs b)
flag_is facts rs rt b v o h e g m = ((o.family rt (facts.seen.root_live rs rt v o.still h e)).marked b m (ap (λ x. (row_at rs x).root) (sym g) ∙ (facts.seen.is_seen rs o.still v h).base_root ∙ e)).flag

-- ---- what waits before
-- nothing waits where a base is marked that can't be the waiting one
none_waits : (rs : Rows) (rt b : ℕ) (o : Option ℕ) → (row_at rs rt).waiting ≡ o → InFamily rs rt → (row_at rs b).mark ≡ true → (row_at rs b).root ≡ rt → ((v : ℕ) → IsWaiting rs rt v → b ≡ v → ⊥) → (row_at rs rt).waiting ≡ None
none_waits rs rt b None e m h g n = e
none_waits rs rt b (Some v) e m h g n =
    let w : IsWaiting rs rt v = m.waits v e in
    absurd (n v w (w.only b h g))

-- so nothing waits where the root is marked
pub nothing_root : (facts : RowLaws) → (rs : Rows) (rt b v : ℕ) → InOrder rs → has rs v ≡ true → (row_at rs v).root ≡ rt → (row_at rs v).base ≡ b → (row_at rs b).mark ≡ true → b ≡ rt → (row_at rs rt).waiting ≡ None
nothing_root facts rs rt b v o h e g m d =
    let i : IsRoot rs rt = facts.seen.root_live rs rt v o.still h e in
    none_waits rs rt b (row_at rs rt).waiting refl (o.family rt i) m (ap (λ x. (row_at rs x).root) (sym g) ∙ (facts.seen.is_seen rs o.still v h).base_root ∙ e) (λ u w y. w.not_root (sym y ∙ d))

-- nor where a base with repeats is
pub nothing_repeats : (facts : RowLaws) → (rs : Rows) (rt b v : ℕ) → InOrder rs → has rs v ≡ true → (row_at rs v).root ≡ rt → (row_at rs v).base ≡ b → (row_at rs b).mark ≡ true → has_repeats (places_seen rs b) ≡ true → (row_at rs rt).waiting ≡ None
nothing_repeats facts rs rt b v o h e g m d =
    let i : IsRoot rs rt = facts.seen.root_live rs rt v o.still h e in
    none_waits rs rt b (row_at rs rt).waiting refl (o.family rt i) m (ap (λ x. (row_at rs x).root) (sym g) ∙ (facts.seen.is_seen rs o.still v h).base_root ∙ e)
    (λ u w y. (let c : true ≡ false = sym d ∙ ap (λ x. has_repeats (places_seen rs x)) y ∙ w.once in cc))

-- so nothing waits where the root is the target
pub nothing_target : (facts : RowLaws) → (rs : Rows) (v first : ℕ) (vs : List ℤ) → IsWrite rs v first vs → target rs v ≡ (row_at rs v).root → (row_at rs (row_at rs v).root).waiting ≡ None
nothing_target facts rs v first vs w t = elim (cases_Bool (has_repeats (places_seen rs (row_at rs v).base))) [
  | inl y ↦ nothing_repeats facts rs (row_at rs v).root (row_at rs v).base v w.order w.live refl refl w.fresh y
  | inr n ↦ nothing_root facts rs (row_at rs v).root (row_at rs v).base v w.order w.live refl refl w.fresh (sym (target_repeats rs (row_at rs v).root (row_at rs v).base v false refl refl n) ∙ t)
]

-- and a base that is the target has no repeats
pub once_target : (rs : Rows) (v : ℕ) → target rs v ≡ (row_at rs v).base → ((row_at rs v).base ≡ (row_at rs v).root → ⊥) → has_repeats (places_seen rs (row_at rs v).base) ≡ false
once_target rs v t d = elim (cases_Bool (has_repeats (places_seen rs (row_at rs v).base))) [
  | inl y ↦ absurd (d (sym t ∙ target_repeats rs (row_at rs v).root (row_at rs v).base v true refl refl y))
  | inr n ↦ n
]

-- ---- what waits after an assignment
-- nothing, once they were put into the root
pub waits_root : (facts : RowLaws) → (rs new : Rows) (rt v : ℕ) (es : List ℤ) → (row_at rs v).root ≡ rt → target rs v ≡ rt → new ≡ each (settle rt es rt false) rs → WaitsTarget rs v new
waits_root facts rs new rt v es g tg e r h =
    let k : cond (eqb (target rs v) rt) None (Some (target rs v)) ≡ None = rw (eq-eqb (target rs v) rt tg) refl in
    ap (λ t. (row_at t r).waiting) e ∙ ap (λ (x : Row). x.waiting) (facts.numbers.each_at (settle rt es rt false) rs r h)
    ∙ ap (λ o. cond (eqb r rt) o (row_at rs r).waiting) (sym k)
    ∙ ap (λ x. cond (eqb r x) (cond (eqb (target rs v) x) None (Some (target rs v))) (row_at rs r).waiting) (sym g)

-- and else the base
pub waits_base : (facts : RowLaws) → (rs new : Rows) (rt b v : ℕ) (ks : List ℤ) → (row_at rs v).root ≡ rt → target rs v ≡ b → (b ≡ rt → ⊥) → new ≡ each (await rt b ks) rs → WaitsTarget rs v new
waits_base facts rs new rt b v ks g tg n e r h =
    let k : cond (eqb (target rs v) rt) None (Some (target rs v)) ≡ Some b = ap (λ x. cond (eqb x rt) None (Some x)) tg ∙ rw (ne_eqb b rt n) refl in
    ap (λ t. (row_at t r).waiting) e ∙ ap (λ (x : Row). x.waiting) (facts.numbers.each_at (await rt b ks) rs r h)
    ∙ ap (λ o. cond (eqb r rt) o (row_at rs r).waiting) (sym k)
    ∙ ap (λ x. cond (eqb r x) (cond (eqb (target rs v) x) None (Some (target rs v))) (row_at rs r).waiting) (sym g)
