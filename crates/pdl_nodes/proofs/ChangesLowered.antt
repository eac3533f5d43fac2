-- What a marked view keeps is taken out, its root is written, and it is put back.
use Rattle.std.proofs.Common.{◌≡◌, ℕ, ℤ, Bool, true, List, Option, Some, inl, inr, refl, sym, ◌∙◌, ap}
use Rattle.std.proofs.lemmas.Bool.Decides.{eqb_tells}
use Rattle.pdl_nodes.specs.Row.{Row}
use Rattle.pdl_nodes.specs.Rows.{Rows, row_at, each, Falls}
use Rattle.pdl_nodes.specs.Changes.{kept_in, fill_in, lift_in}
use Rattle.pdl_nodes.proofs.ChangesMarks.{each_live, each_each}
use Rattle.std.proofs.lemmas.Bool.{ne_eqb}

-- with what changes
abbrev pub set : Row → List ℤ → Bool → Bool → Option (List (Option ℕ)) → Option ℕ → Row
set r ks m f ps o = record r { kept = ks; mark = m; repeats = f; places = ps; waiting = o }

set_same : (r : Row) (ks js : List ℤ) (m n f g : Bool) (ps qs : Option (List (Option ℕ))) (o p : Option ℕ) → ks ≡ js → m ≡ n → f ≡ g → ps ≡ qs → o ≡ p → set r ks m f ps o ≡ set r js n g qs p
set_same r ks js m n f g ps qs o p a b c d e =
    ap (λ x. set r x m f ps o) a ∙ ap (λ x. set r js x f ps o) b ∙ ap (λ x. set r js n x ps o) c ∙ ap (λ x. set r js n g x o) d ∙ ap (λ x. set r js n g qs x) e

-- the row b keeps ks, is marked, and its places are ps
pub record IsHeld (rs : Rows) (b : ℕ) (ks : List ℤ) (f : Bool) (ps : List (Option ℕ)) : Type 0 where
  pub kept : (row_at rs b).kept ≡ ks
  pub mark : (row_at rs b).mark ≡ true
  pub repeats : (row_at rs b).repeats ≡ f
  pub places : (row_at rs b).places ≡ Some ps

abbrev lowers : (rt b : ℕ) (es ks : List ℤ) (f : Bool) (ps : List (Option ℕ)) → ℕ → Row → Row
lowers rt b es ks f ps k r = fill_in b ks f (Some ps) k (kept_in rt es k (lift_in b k r))

lowered_row : (rs : Rows) (rt b k : ℕ) (es ks : List ℤ) (f : Bool) (ps : List (Option ℕ)) → IsHeld rs b ks f ps → (rt ≡ b → ⊥) → lowers rt b es ks f ps k (row_at rs k) ≡ kept_in rt es k (row_at rs k)
lowered_row rs rt b k es ks f ps h n = elim (eqb_tells k b) [
  | inl t ↦ (let r : Row = row_at rs k in
      let m : k ≡ rt → ⊥ = λ e. n (sym e ∙ t.1) in
      set_same (row_at rs k) _ _ _ _ _ _ _ _ _ _
      (rw (t.0, ne_eqb k rt m) (sym (ap (λ x. (row_at rs x).kept) t.1 ∙ h.kept)))
      (rw t.0 (sym (ap (λ x. (row_at rs x).mark) t.1 ∙ h.mark)))
      (rw t.0 (sym (ap (λ x. (row_at rs x).repeats) t.1 ∙ h.repeats)))
      (rw t.0 (sym (ap (λ x. (row_at rs x).places) t.1 ∙ h.places)))
      refl)
  | inr t ↦ set_same (row_at rs k) _ _ _ _ _ _ _ _ _ _ (rw t.0 refl) (rw t.0 refl) (rw t.0 refl) (rw t.0 refl) refl
]

-- what was taken out and put back leaves what was kept of the root between
pub lowered : (rs : Rows) (rt b : ℕ) (es ks : List ℤ) (f : Bool) (ps : List (Option ℕ)) → Falls rs → IsHeld rs b ks f ps → (rt ≡ b → ⊥) → each (fill_in b ks f (Some ps)) (each (kept_in rt es) (each (lift_in b) rs)) ≡ each (kept_in rt es) rs
lowered rs rt b es ks f ps s h n =
    ap (each (fill_in b ks f (Some ps))) (each_each (kept_in rt es) (lift_in b) rs)
    ∙ each_each (fill_in b ks f (Some ps)) (λ k r. kept_in rt es k (lift_in b k r)) rs
    ∙ each_live (lowers rt b es ks f ps) (kept_in rt es) rs s (λ k l. lowered_row rs rt b k es ks f ps h n)
