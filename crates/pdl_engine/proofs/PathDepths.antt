-- How many views are above an array.
use Rattle.std.proofs.Common.{◌≡◌, ℕ, suc, true, inl, inr, arith, false, List, length, sym, ap, None, ◌∙◌, Bool, Some}
use Rattle.std.specs.Prelude.{nat_lt, ◌-◌}
use Rattle.std.proofs.lemmas.Bool.{le-ltb, lt-ltb}
use Rattle.std.proofs.lemmas.Bool.Decides.{leb_tells}
use Rattle.pdl_world.specs.Paths.{path}
use Rattle.pdl_nodes.specs.Row.{parent_of}
use Rattle.pdl_nodes.specs.RowLaws.{RowLaws}
use Rattle.pdl_nodes.specs.Rows.{Rows, row_at, has}
use Rattle.pdl_nodes.specs.Seen.{path_from}
use Rattle.pdl_nodes.specs.Still.{IsStill}
use Rattle.pdl_nodes.specs.Worlds.{shape}

pub deeper_first : (facts : RowLaws) → (rs : Rows) (v n : ℕ) → IsStill rs → has rs v ≡ true → n ≡ 0 → true ≡ nat_lt n (length (path (shape rs) v))
deeper_first facts rs v n s h e =
    let l : length (path (shape rs) v) ≡ suc (length (path_from rs (parent_of (row_at rs v)))) = ap (λ (xs : List ℕ). length xs) (facts.seen.path_is rs s v h) in
    sym (lt-ltb n (length (path (shape rs) v)) (omega (arith, l, e)))

pub deeper_last : (facts : RowLaws) → (rs : Rows) (v n : ℕ) → IsStill rs → has rs v ≡ true → (n ≡ 0 → ⊥) → parent_of (row_at rs v) ≡ None → false ≡ nat_lt n (length (path (shape rs) v))
deeper_last facts rs v n s h m e =
    let l : length (path (shape rs) v) ≡ suc (length (path_from rs None)) = ap (λ (xs : List ℕ). length xs) (facts.seen.path_is rs s v h) ∙ ap (λ o. suc (length (path_from rs o))) e in
    sym (le-ltb n (length (path (shape rs) v)) (omega (arith, l, m)))

pub deeper_next : (facts : RowLaws) → (rs : Rows) (v p n : ℕ) (x : Bool) → IsStill rs → has rs v ≡ true → (n ≡ 0 → ⊥) → parent_of (row_at rs v) ≡ Some p → x ≡ nat_lt (n - 1) (length (path (shape rs) p)) → x ≡ nat_lt n (length (path (shape rs) v))
deeper_next facts rs v p n x s h m e g =
    let l : length (path (shape rs) v) ≡ suc (length (path (shape rs) p)) = ap (λ (xs : List ℕ). length xs) (facts.seen.path_is rs s v h) ∙ ap (λ o. suc (length (path_from rs o))) e in
    g ∙ elim (leb_tells (suc (n - 1)) (length (path (shape rs) p))) [
      | inl t ↦ t.0 ∙ sym (lt-ltb n (length (path (shape rs) v)) (omega (arith, l, m, t.1)))
      | inr t ↦ t.0 ∙ sym (le-ltb n (length (path (shape rs) v)) (omega (arith, l, m, t.1)))
    ]
