-- How often each number is held.
use Rattle.std.specs.Prelude.{◌≡◌, ℕ, ◌+◌, ◌-◌, ◌==◌, ◌&&◌, nat_lt, Bool, false, List, Option, Some, None, is_some}
use Rattle.pdl_nodes.specs.declared.holds.Hold.{Hold}
use Rattle.pdl_registry.specs.Numbered.{value_at}
use Rattle.pdl_nodes.specs.Rows.{Rows, has}

abbrev pub Counts : Type 0
Counts = List (ℕ × Hold)

abbrev pub hold_at : Counts → ℕ → Option Hold
hold_at hs v = value_at hs v

abbrev pub count_in : Option Hold → ℕ
count_in None = 0
count_in (Some h) = h.count

abbrev pub count : Counts → ℕ → ℕ
count hs v = count_in (hold_at hs v)

abbrev pub is_held : Counts → ℕ → Bool
is_held hs v = nat_lt 0 (count hs v)

abbrev pub going_in : Option Hold → ℕ
going_in None = 0
going_in (Some h) = h.going

-- how many views of a number are noted as those that go
abbrev pub going : Counts → ℕ → ℕ
going hs v = going_in (hold_at hs v)

abbrev pub with_going : ℕ → Option Hold → Option Hold
with_going n None = None
with_going n (Some h) = Some (record h { going = n })

-- whether an array of so many views goes: it isn't held, and all of them go
abbrev pub goes_in : (views : ℕ) → Option Hold → Bool
goes_in n None = false
goes_in n (Some h) = (h.count == 0) && (h.going == n)

abbrev pub less_one : Option Hold → Option Hold
less_one None = None
less_one (Some h) = Some (record h { count = h.count - 1 })

-- whether a number has holds, be it none
abbrev pub stands : Counts → ℕ → Bool
stands hs v = is_some (hold_at hs v)

-- each live number has a count, no other has, and no view of one is noted as going
pub record Beside (rs : Rows) (hs : Counts) : Type 0 where
  pub numbers : (v : ℕ) → is_some (hold_at hs v) ≡ has rs v
  pub clear : (v : ℕ) → going hs v ≡ 0

abbrev pub one_more : Option Hold → Option Hold
one_more None = None
one_more (Some h) = Some (record h { count = h.count + 1 })

abbrev pub held_once : Hold
held_once = record { count = 1; going = 0 }
