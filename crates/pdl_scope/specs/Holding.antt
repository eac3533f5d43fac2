-- How calls change what holds the arrays of an engine.
use Rattle.std.specs.Prelude.{◌≡◌, ◌⊎◌, ℕ, ◌+◌, false, List, [], ◌∷◌, ◌++◌}
use Rattle.pdl_world.specs.Sound.{IsSound, NumbersBelow}
use Rattle.pdl_world.specs.Swept.{KeepsAll, sweep}
use Rattle.pdl_engine.specs.Held.{count_at, one_more_at}
use Rattle.pdl_engine.specs.State.{State as Engine}
use Rattle.pdl_machine.specs.Cuts.{is_read}
use Rattle.pdl_machine.specs.Flows.{Flows, is_flow}
use Rattle.pdl_machine.specs.Names.{Named, Names}
use Rattle.pdl_machine.specs.Watches.{Watches}
use Rattle.pdl_scope.specs.Scope.{names_in, state_in, times, IsHeld}

-- an array is held once more, or the hold that it has at the end of the list is handed over
abbrev pub IsHeldForName : (old : Engine) (leaving : List ℕ) (id : ℕ) (new : Engine) (left : List ℕ)
    → Type 0
IsHeldForName old leaving id new left =
    ((new ≡ old) × (leaving ≡ left ++ id ∷ []))
    ⊎ ((new ≡ record old { holds = one_more_at old.holds id }) × (left ≡ leaving))

-- arrays are held for these names, these watches, these flows, and the list of those that leave
abbrev pub IsHeldFor : (names : Named ℕ) → Watches → Flows → Engine → (leaving : List ℕ) → Type 0
IsHeldFor names watches flows e leaving =
    IsHeld (state_in (names_in names []) watches flows e) e.holds leaving

-- how often arrays are held is all that differs
abbrev pub SameButHolds : Engine → Engine → Type 0
SameButHolds old new = new ≡ record old { holds = new.holds }

-- the arrays are held as names, watches, flows and the list of those that leave hold them
pub record IsHeldBeside (e : Engine) (leaving : List ℕ) : Type 0 where
  pub names : Names
  pub watches : Watches
  pub flows : Flows
  pub held : IsHeld (state_in names watches flows e) e.holds leaving

-- and the names are these
pub record IsHeldWith (names : Named ℕ) (e : Engine) (leaving : List ℕ) : Type 0 where
  pub watches : Watches
  pub flows : Flows
  pub held : IsHeldFor names watches flows e leaving

-- whatever the names, the watches and the flows are, the arrays are held as they and the list of
-- those that leave hold them after a change, where they were before
abbrev pub StaysHeld : (old : Engine) (leaving : List ℕ) (new : Engine) (left : List ℕ) → Type 0
StaysHeld old leaving new left =
    (names : Names) (watches : Watches) (flows : Flows)
    → IsHeld (state_in names watches flows old) old.holds leaving
    → IsHeld (state_in names watches flows new) new.holds left

-- so where the flows are none of an array, and read neither it nor one that reaches it by parents
abbrev pub StaysHeldUnread : (v : ℕ) (old : Engine) (leaving : List ℕ) (new : Engine)
    (left : List ℕ) → Type 0
StaysHeldUnread v old leaving new left =
    (names : Names) (watches : Watches) (flows : Flows) → is_flow flows v ≡ false
    → is_read flows old.world v ≡ false
    → IsHeld (state_in names watches flows old) old.holds leaving
    → IsHeld (state_in names watches flows new) new.holds left

-- so, whatever the watches and the flows are, where other names are bound after it
abbrev pub StaysHeldFor : (names : Named ℕ) (old : Engine) (leaving : List ℕ) →
    (after : Named ℕ) (new : Engine) (left : List ℕ) → Type 0
StaysHeldFor names old leaving after new left =
    (watches : Watches) (flows : Flows) → IsHeldFor names watches flows old leaving
    → IsHeldFor after watches flows new left

-- The arrays are there as a sound world has them, each is held once for each place in two lists,
-- that of what stays held and that of what leaves, and nothing is there but what these reach.
pub record AreHeld (e : Engine) (staying leaving : List ℕ) : Type 0 where
  pub sound : IsSound e.world
  pub below : NumbersBelow e.next e.world
  pub counts : (v : ℕ) → count_at e.holds v ≡ times staying v + times leaving v
  pub reached : KeepsAll e.world (staying ++ leaving)

-- some list of what stays held is there beside that of what leaves
pub record AreHeldBeside (e : Engine) (leaving : List ℕ) : Type 0 where
  pub staying : List ℕ
  pub held : AreHeld e staying leaving

-- arrays were let go, and what the others reach is there: these leave still
pub record LetsGo (staying : List ℕ) (old new : Engine) (leaving : List ℕ) : Type 0 where
  pub is_held : AreHeld new staying leaving
  pub next : new.next ≡ old.next
  pub swept : sweep new.world staying ≡ sweep old.world staying
