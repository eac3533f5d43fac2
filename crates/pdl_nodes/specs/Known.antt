-- The root's places of views that are their own base, once they were found.
use Rattle.std.specs.Prelude.{◌≡◌, ℕ, true, List, [], Option, Some, is_some}
use Rattle.pdl_nodes.specs.Rows.{Rows, row_at, has}
use Rattle.pdl_nodes.specs.Families.{has_repeats}
use Rattle.pdl_nodes.specs.Worlds.{places_seen}

-- what is known of v: places that are known are its own, and whether they have repeats was decided
-- with them; those of a marked view are known, and those of a root aren't listed; a view that is
-- shown over another's elements keeps none
pub record IsKnown (rs : Rows) (v : ℕ) : Type 0 where
  pub places : (ps : List (Option ℕ)) → (row_at rs v).places ≡ Some ps → ps ≡ places_seen rs v
  pub repeats :
      (ps : List (Option ℕ)) → (row_at rs v).places ≡ Some ps
      → (row_at rs v).repeats ≡ has_repeats ps
  pub found :
      (row_at rs v).mark ≡ true → ((row_at rs v).root ≡ v → ⊥) → is_some (row_at rs v).places ≡ true
  pub unlisted :
      (ps : List (Option ℕ)) → (row_at rs v).places ≡ Some ps → (row_at rs v).root ≡ v → ⊥
  pub bare : ((row_at rs v).base ≡ v → ⊥) → (row_at rs v).kept ≡ []

abbrev pub AreKnown : Rows → Type 0
AreKnown rs = (v : ℕ) → has rs v ≡ true → IsKnown rs v
