-- Elements of an array that change where they stand.
use Rattle.std.specs.Prelude.{◌≡◌, ℕ, ℤ, List, map, true, false}
use Rattle.pdl_numbers.specs.Updates.{Suits, updated}
use Rattle.pdl_numbers.specs.declared.updates.Update.{Update}
use Rattle.pdl_nodes.specs.Alike.{is_fresh_in}
use Rattle.pdl_nodes.specs.Copies.{shown_at}
use Rattle.pdl_nodes.specs.Families.{InOrder, has_repeats}
use Rattle.pdl_nodes.specs.Known.{AreKnown}
use Rattle.pdl_nodes.specs.Rows.{Rows, row_at, has}
use Rattle.pdl_nodes.specs.Worlds.{places_seen}

-- what an update makes of the elements of v
abbrev pub updated_at : Update → Rows → (v : ℕ) → List ℤ
updated_at u rs v = map (updated (row_at rs v).ty u) (shown_at rs v)

-- rows are in order, v can be lent and shows no place twice, and the update suits its type
pub record CanUpdate (u : Update) (rs : Rows) (v : ℕ) : Type 0 where
  pub order : InOrder rs
  pub known : AreKnown rs
  pub live : has rs v ≡ true
  pub fresh : is_fresh_in rs v ≡ true
  pub once : has_repeats (places_seen rs v) ≡ false
  pub suits : Suits (row_at rs v).ty u
