-- What is known of places stays known where a change leaves places and repeats.
use Rattle.std.proofs.Common.{◌≡◌, ℕ, ℤ, true, eqb, cond, List, is_some, sym, ◌∙◌, ap}
use Rattle.std.proofs.lemmas.Bool.{ne_eqb}
use Rattle.pdl_nodes.specs.Known.{IsKnown, AreKnown}
use Rattle.pdl_nodes.specs.Quiet.{IsQuiet}
use Rattle.pdl_nodes.specs.Row.{Row}
use Rattle.pdl_nodes.specs.RowLaws.{RowLaws}
use Rattle.pdl_nodes.specs.Rows.{Rows, row_at, has, each}

-- no places and repeats change, no other view is marked, and only bases keep other elements
pub known_each : (facts : RowLaws) → (f : ℕ → Row → Row) (rs : Rows) → IsQuiet f → ((k : ℕ) (r : Row) → (f k r).places ≡ r.places) → ((k : ℕ) (r : Row) → (f k r).repeats ≡ r.repeats)
    → ((k : ℕ) → ((row_at rs k).root ≡ k → ⊥) → (f k (row_at rs k)).mark ≡ true → (row_at rs k).mark ≡ true)
    → ((k : ℕ) → ((row_at rs k).base ≡ k → ⊥) → (f k (row_at rs k)).kept ≡ (row_at rs k).kept) → AreKnown rs → AreKnown (each f rs)
known_each facts f rs q p e m w a v h =
    let l : has rs v ≡ true = sym (facts.numbers.each_has f rs v) ∙ h in
    let row : row_at (each f rs) v ≡ f v (row_at rs v) = facts.numbers.each_at f rs v l in
    let x : IsKnown rs v = a v l in
    let ps_is : (row_at (each f rs) v).places ≡ (row_at rs v).places = ap (λ r. r.places) row ∙ p v (row_at rs v) in
    let rp_is : (row_at (each f rs) v).repeats ≡ (row_at rs v).repeats = ap (λ r. r.repeats) row ∙ e v (row_at rs v) in
    let rt_is : (row_at (each f rs) v).root ≡ (row_at rs v).root = facts.quiet.root_each f rs v q in
    let b_is : (row_at (each f rs) v).base ≡ (row_at rs v).base = (facts.quiet.is_alike f rs q).base_is v in
    record {
      places = λ ps g. x.places ps (sym ps_is ∙ g) ∙ sym (facts.quiet.places_each f rs v q);
      repeats = λ ps g. rp_is ∙ x.repeats ps (sym ps_is ∙ g);
      found = λ k n. ap is_some ps_is ∙ x.found (m v (λ y. n (rt_is ∙ y)) (ap (λ r. r.mark) (sym row) ∙ k)) (λ y. n (rt_is ∙ y));
      unlisted = λ ps g y. x.unlisted ps (sym ps_is ∙ g) (sym rt_is ∙ y);
      bare = λ n. ap (λ r. r.kept) row ∙ w v (λ y. n (b_is ∙ y)) ∙ x.bare (λ y. n (b_is ∙ y));
    }

-- a row that isn't its own base keeps what it kept, where those of one base change
pub kept_by : (rs : Rows) (b k : ℕ) (ks : List ℤ) → (row_at rs b).base ≡ b → ((row_at rs k).base ≡ k → ⊥)
    → cond (eqb k b) ks (row_at rs k).kept ≡ (row_at rs k).kept
kept_by rs b k ks own n = ap (λ x. cond x ks (row_at rs k).kept) (ne_eqb k b (λ e. n (ap (λ x. (row_at rs x).base) e ∙ own ∙ sym e)))
