-- Which arrays a case can name, and how often each is held.
use Rattle.std.specs.Prelude.{◌≡◌, ℕ, ◌+◌, ◌-◌, ◌<◌, ◌==◌, if◌then◌else◌, Bool, List, All}
use Rattle.pdl_engine.specs.Held.{count_at}
use Rattle.pdl_engine.specs.State.{State}
use Rattle.pdl_world.specs.Sound.{IsLive, IsSound}
use Rattle.pdl_cases.specs.declared.board.Array.{Array}

-- the array is in the world, which is sound, and is held as often as its name says
pub record IsKept (s : State) (a : Array) : Type 0 where
  pub sound : IsSound s.world
  pub live : IsLive s.world a.id
  pub held : count_at s.holds a.id ≡ a.holds
  pub some : 0 < a.holds

abbrev pub AreKept : State → List Array → Type 0
AreKept s arrays = All (IsKept s) arrays

-- how often u is held, which was held n times, after one hold more or less of v
abbrev pub recounted : (more : Bool) → (v u n : ℕ) → ℕ
recounted more v u n = if u == v then (if more then n + 1 else n - 1) else n

-- v is held once more, or once less, in a world that stays sound: each live array is held so, and is
-- live still if it is held at all
abbrev pub Recounts : (more : Bool) → ℕ → (old new : State) → Type 0
Recounts more v old new =
    (u n : ℕ) → IsSound old.world → IsLive old.world u → count_at old.holds u ≡ n → 0 < n
    → 0 < recounted more v u n
    → IsSound new.world × IsLive new.world u × (count_at new.holds u ≡ recounted more v u n)
