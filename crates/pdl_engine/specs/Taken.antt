-- How often each number is held once one hold was taken back.
use Rattle.std.specs.Prelude.{ℕ, ◌==◌, nat_lt, if◌then◌else◌, Bool}
use Rattle.pdl_nodes.specs.Holds.{Counts, count_in, hold_at, less_one}

-- how often a number is held once one hold of this number was taken back
abbrev pub count_after : ℕ → Counts → ℕ → ℕ
count_after id hs v = count_in (if v == id then less_one (hold_at hs v) else hold_at hs v)

-- what is held then
abbrev pub after_release : ℕ → Counts → ℕ → Bool
after_release id hs v = nat_lt 0 (count_after id hs v)
