-- Which arrays are on a path.
use Rattle.std.proofs.Common.{◌≡◌, ℕ, Bool, true, false, Some, None, sym, refl, ap, ◌∙◌}
use Rattle.std.proofs.lemmas.Bool.{eq-eqb, ne_eqb}
use Rattle.pdl_world.specs.Paths.{path}
use Rattle.pdl_world.specs.Swept.{is_listed}
use Rattle.pdl_nodes.specs.Row.{parent_of}
use Rattle.pdl_nodes.specs.RowLaws.{RowLaws}
use Rattle.pdl_nodes.specs.Rows.{Rows, row_at, has}
use Rattle.pdl_nodes.specs.Seen.{path_from}
use Rattle.pdl_nodes.specs.Still.{IsStill}
use Rattle.pdl_nodes.specs.Worlds.{shape}

pub reach_first : (facts : RowLaws) → (rs : Rows) (v a : ℕ) → IsStill rs → has rs v ≡ true → v ≡ a → true ≡ is_listed (path (shape rs) v) a
reach_first facts rs v a s h e = sym (ap (λ ps. is_listed ps a) (facts.seen.path_is rs s v h) ∙ rw (eq-eqb v a e) refl)

pub reach_last : (facts : RowLaws) → (rs : Rows) (v a : ℕ) → IsStill rs → has rs v ≡ true → (v ≡ a → ⊥) → parent_of (row_at rs v) ≡ None → false ≡ is_listed (path (shape rs) v) a
reach_last facts rs v a s h n e = sym (ap (λ ps. is_listed ps a) (facts.seen.path_is rs s v h) ∙ rw (ne_eqb v a n) (ap (λ o. is_listed (path_from rs o) a) e))

pub reach_next : (facts : RowLaws) → (rs : Rows) (v p a : ℕ) (x : Bool) → IsStill rs → has rs v ≡ true → (v ≡ a → ⊥) → parent_of (row_at rs v) ≡ Some p → x ≡ is_listed (path (shape rs) p) a → x ≡ is_listed (path (shape rs) v) a
reach_next facts rs v p a x s h n e g = g ∙ sym (ap (λ ps. is_listed ps a) (facts.seen.path_is rs s v h) ∙ rw (ne_eqb v a n) (ap (λ o. is_listed (path_from rs o) a) e))
