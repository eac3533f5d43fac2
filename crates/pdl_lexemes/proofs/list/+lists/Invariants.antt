-- Each call goes down in the fuel, or with the same fuel in the rank of its part.
use Rattle.std.proofs.Common.{◌≡◌, ℕ, ◌+◌, ◌-◌, ◌*◌, length, Option}
use Rattle.pdl_lexemes.specs.ListReading.{ReadPart, read_part, list_reader, items_at}
use Rattle.pdl_lexemes.proofs.list.+lists.Given as goal

-- what is left to read gives the same as what stood there at the start
pub record Turns (now start : Option (ℕ × ReadPart)) (count turn : ℕ) : Type 0 where
  pub same : now ≡ start
  pub counts : count ≡ turn + 1

abbrev pub decreases-list : goal.decreases-list
decreases-list l = 8 * l.fuel

abbrev pub decreases-item : goal.decreases-item
decreases-item l = 8 * l.fuel + 1

abbrev pub decreases-items : goal.decreases-items
decreases-items l = 8 * l.fuel + 2

abbrev pub decreases-filled : goal.decreases-filled
decreases-filled l = 8 * l.fuel + 3

abbrev pub decreases-inside : goal.decreases-inside
decreases-inside l = 8 * l.fuel + 4

abbrev pub invariant-items-loop : goal.invariant-items-loop
invariant-items-loop l =
    Turns
    (items_at (list_reader l.fuel) (l.end - l.counter) l.count (read_part l.row.shape l.row.elems.items l.rest))
    (items_at (list_reader l.fuel) (length l.tokens) 1 (read_part l.fn.first.shape l.fn.first.elems.items l.tokens))
    l.count l.counter
