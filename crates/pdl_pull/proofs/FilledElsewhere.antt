-- What filling leaves as it was, of one view, and of a path of them one after the other.
use Rattle.std.proofs.Common.{◌≡◌, ℕ, ℤ, ◌||◌, Bool, true, false, eqb, List, [], ◌∷◌, Option, Some, inl, inr, refl, sym, ◌∙◌, ap, subst}
use Rattle.std.specs.Prelude.{Result, Ok, Err, OnOk, OnErr}
use Rattle.std.proofs.lemmas.Bool.{eq-eqb, ne_eqb, or_parts}
use Rattle.std.proofs.lemmas.Bool.Decides.{eqb_tells}
use Rattle.pdl_world.specs.Paths.{path}
use Rattle.pdl_world.specs.Swept.{is_listed}
use Rattle.pdl_nodes.specs.Changes.{fill_in}
use Rattle.pdl_nodes.specs.Families.{InOrder}
use Rattle.pdl_nodes.specs.Known.{AreKnown}
use Rattle.pdl_nodes.specs.Outcomes.{IsReady}
use Rattle.pdl_nodes.specs.Row.{Row, parent_of}
use Rattle.pdl_nodes.specs.RowLaws.{RowLaws}
use Rattle.pdl_nodes.specs.Rows.{Rows, row_at, has, each}
use Rattle.pdl_nodes.specs.Still.{IsStill}
use Rattle.pdl_nodes.specs.Worlds.{shape}
use Rattle.pdl_pull.specs.Filled.{IsOutdated, IsFilled, IsKept, FillsOnly}
use Rattle.pdl_pull.proofs.FilledPaths.{path_over}

-- filling one leaves the rows of the others
row_beside : (rs : Rows) (b : ℕ) (ks : List ℤ) (f : Bool) (o : Option (List (Option ℕ))) (u : ℕ) → (u ≡ b → ⊥) → row_at (each (fill_in b ks f o) rs) u ≡ row_at rs u
row_beside [] b ks f o u n = refl
row_beside ((k, r) ∷ rs) b ks f o u n = elim (eqb_tells k u) [
  | inl q ↦ rw (q.0, ne_eqb k b (λ e. n (sym q.1 ∙ e))) refl
  | inr q ↦ rw q.0 (row_beside rs b ks f o u n)
]

-- so only a base that wasn't marked changes
only_by : (rs new : Rows) (b : ℕ) → (row_at rs b).base ≡ b → (row_at rs b).mark ≡ false → ((u : ℕ) → (u ≡ b → ⊥) → row_at new u ≡ row_at rs u) → FillsOnly (b ∷ []) rs new
only_by rs new b e m f = record {
  others = λ u h. f u (λ q. (let z : true ≡ false = sym (ap (λ x. x || false) (eq-eqb b u (sym q))) ∙ h in cc));
  marked = λ u y. f u (λ q. (let z : true ≡ false = sym y ∙ ap (λ x. (row_at rs x).mark) q ∙ m in cc));
  shown = λ u n. f u (λ q. n (ap (λ x. (row_at rs x).base) q ∙ e ∙ sym q));
}

-- an outdated view was filled, or nothing was done
pub filled_only : {A E : Type 0} (r : Result A E) (rs new : Rows) (rt b : ℕ) (ks : List ℤ) (f : Bool) (o : Option (List (Option ℕ))) → IsOutdated rs rt b → OnOk r (new ≡ each (fill_in b ks f o) rs) → OnErr r (new ≡ rs) → FillsOnly (b ∷ []) rs new
filled_only (Ok x) rs new rt b ks f o i y n = only_by rs new b i.own i.unmarked (λ u d. ap (λ t. row_at t u) y ∙ row_beside rs b ks f o u d)
filled_only (Err x) rs new rt b ks f o i y n = only_by rs new b i.own i.unmarked (λ u d. ap (λ t. row_at t u) n)

-- an array was filled after others
only_more : (old mid new : Rows) (v : ℕ) (vs : List ℕ) → FillsOnly vs old mid → FillsOnly (v ∷ []) mid new → FillsOnly (v ∷ vs) old new
only_more old mid new v vs a b = record {
  others = λ u h. b.others u (ap (λ x. x || false) (or_parts (eqb v u) (is_listed vs u) h).0) ∙ a.others u (or_parts (eqb v u) (is_listed vs u) h).1;
  marked = λ u m. b.marked u (ap (λ (r : Row). r.mark) (a.marked u m) ∙ m) ∙ a.marked u m;
  shown = λ u n. b.shown u (λ e. n (sym (ap (λ (r : Row). r.base) (a.shown u n)) ∙ e)) ∙ a.shown u n;
}

-- more arrays may change than do
only_wider : (old new : Rows) (v : ℕ) (vs : List ℕ) → FillsOnly vs old new → FillsOnly (v ∷ vs) old new
only_wider old new v vs a = record { others = λ u h. a.others u (or_parts (eqb v u) (is_listed vs u) h).1; marked = a.marked; shown = a.shown }

-- an array was filled after its path, or the path alone was
pub only_path : (facts : RowLaws) → (old mid new : Rows) (v p : ℕ) → IsStill old → has old v ≡ true → parent_of (row_at old v) ≡ Some p → FillsOnly (path (shape old) p) old mid → FillsOnly (v ∷ []) mid new → FillsOnly (path (shape old) v) old new
only_path facts old mid new v p s h e a b = subst (λ vs. FillsOnly vs old new) (sym (path_over facts old v p s h e)) (only_more old mid new v (path (shape old) p) a b)

pub only_above : (facts : RowLaws) → (old new : Rows) (v p : ℕ) → IsStill old → has old v ≡ true → parent_of (row_at old v) ≡ Some p → FillsOnly (path (shape old) p) old new → FillsOnly (path (shape old) v) old new
only_above facts old new v p s h e a = subst (λ vs. FillsOnly vs old new) (sym (path_over facts old v p s h e)) (only_wider old new v (path (shape old) p) a)

-- filling a view, or nothing, keeps all that is kept
pub kept_so : {A E : Type 0} (r : Result A E) (facts : RowLaws) → (old new : Rows) (v : ℕ) → InOrder old → AreKnown old → OnOk r (IsFilled old v new) → OnErr r (new ≡ old) → IsKept old new
kept_so (Ok x) facts old new v o k f n = f.kept
kept_so (Err x) facts old new v o k f n = subst (λ t. IsKept old t) (sym n) (let y : IsReady old old = facts.kept.ready_same old o k in record { order = y.order; known = y.known; world = y.world; alike = y.alike; marks = y.marks; waits = λ u. refl })
