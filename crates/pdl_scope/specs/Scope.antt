-- What a scope keeps, and how it is seen.
use Rattle.std.specs.Prelude.{◌≡◌, ℕ, ◌+◌, ◌≤◌, ◌==◌, if◌then◌else◌, ℤ, true, List, [], ◌∷◌, ◌++◌, length, map}
use Rattle.pdl_elem.specs.declared.Ty.{Ty}
use Rattle.pdl_buf.specs.declared.made.Made.{Made}
use Rattle.pdl_world.specs.Sound.{IsLive}
use Rattle.pdl_world.specs.Swept.{KeepsAll}
use Rattle.pdl_world.specs.World.{World, root, view}
use Rattle.pdl_engine.specs.Held.{count_at}
use Rattle.pdl_engine.specs.State.{State as Engine, StayFresh, is_fresh}
use Rattle.pdl_machine.specs.Names.{KernelTexts, Named, Names, names_limit}
use Rattle.pdl_sig.specs.declared.ArgShape.{ArgShape}
use Rattle.pdl_machine.specs.Arrays.{Arrays, array_in}
use Rattle.pdl_sig.specs.Given.{shape_of}
use Rattle.pdl_machine.specs.Flows.{Flows, all_read}
use Rattle.pdl_machine.specs.State.{State, held, IsWhole}
use Rattle.pdl_machine.specs.Watches.{Watches}
use Rattle.pdl_scope.specs.declared.limits.TheConstants.{MOST_READS, MOST_SLOTS}
use Rattle.pdl_machine.specs.Outcome.{Seen, array}

-- the engine's arrays as the machine's
abbrev pub arrays_of : Engine → Arrays
arrays_of e = record { world = e.world; next = e.next }

-- arrays and kernels by their names
abbrev pub names_in : Named ℕ → Named KernelTexts → Names
names_in arrays kernels = record { arrays = arrays; kernels = kernels }

-- Which of an engine's arrays can be lent, what waits to be written back, and how often each array
-- is held.
pub record Lent : Type 0 where
  pub fresh : List ℕ
  pub pending : List (ℕ × ℕ)
  pub holds : List (ℕ × ℕ)

-- What a scope is seen as: names, arrays, by slots the arrays that watchers are attached to, flows,
-- and what its engine can lend.
pub record Scope : Type 0 where
  pub names : Names
  pub arrays : Arrays
  pub watches : Watches
  pub flows : Flows
  pub lent : Lent

-- what the engine of a scope is seen as: its arrays, and what is lent of them
abbrev pub engine_of : Scope → Engine
engine_of s = record {
  world = s.arrays.world;
  fresh = s.lent.fresh;
  pending = s.lent.pending;
  holds = s.lent.holds;
  next = s.arrays.next;
}

-- a scope as a state of the machine, which knows nothing of what can be lent
abbrev pub machine : Scope → State
machine s =
    record { names = s.names; arrays = s.arrays; watches = s.watches; flows = s.flows }

-- what the engine can lend, and how often it holds
abbrev pub lent_by : Engine → Lent
lent_by e = record { fresh = e.fresh; pending = e.pending; holds = e.holds }

-- the scope that has these names, watches and flows, and its arrays in this engine
abbrev pub scope_in : Names → Watches → Flows → Engine → Scope
scope_in names watches flows e = record {
  names = names;
  arrays = arrays_of e;
  watches = watches;
  flows = flows;
  lent = lent_by e;
}

-- names, watches and flows with the engine's arrays as a state of the machine
abbrev pub state_in : Names → Watches → Flows → Engine → State
state_in names watches flows e =
    record { names = names; arrays = arrays_of e; watches = watches; flows = flows }

-- what is seen of an engine's array
abbrev pub made_in : Engine → ℕ → Made
made_in e v = array_in (arrays_of e) v

-- its type and dimensions
abbrev pub shape_in : Engine → ℕ → ArgShape
shape_in e v = shape_of (made_in e v)

-- what a call sees of these arrays
abbrev pub arrays_seen : Arrays → List ℕ → List Seen
arrays_seen a vs = map (λ v. array (array_in a v)) vs

-- an array of this type, these dimensions and these elements
abbrev pub array_of : Ty → List ℕ → List ℤ → Made
array_of ty ds es = record { ty = ty; dims = ds; elems = es }

-- Names, arrays, watches and flows are the same, and each array that could be lent can be lent
-- still.
pub record OnlyReads (old new : Scope) : Type 0 where
  pub names : new.names ≡ old.names
  pub arrays : new.arrays ≡ old.arrays
  pub watches : new.watches ≡ old.watches
  pub flows : new.flows ≡ old.flows
  pub stay : StayFresh (engine_of old) (engine_of new)

-- each root among these arrays can be lent
abbrev pub AreRootsFresh : Engine → World → Type 0
AreRootsFresh e [] = Unit {0}
AreRootsFresh e ((k, root ty ds es) ∷ w) = (is_fresh e k ≡ true) × AreRootsFresh e w
AreRootsFresh e ((k, view p t) ∷ w) = AreRootsFresh e w

-- Nothing but new arrays came, and each root that came can be lent.
pub record HaveCome (old : Arrays) (new : Engine) : Type 0 where
  pub more : World
  pub is : new.world ≡ more ++ old.world
  pub roots : AreRootsFresh new more

-- Names, watches and flows are the same, nothing but new arrays came, each array that was there is
-- there, and each that could be lent can be lent still; so can each root that came.
pub record Grows (old new : Scope) : Type 0 where
  pub names : new.names ≡ old.names
  pub arrays : HaveCome old.arrays (engine_of new)
  pub watches : new.watches ≡ old.watches
  pub flows : new.flows ≡ old.flows
  pub still : (v : ℕ) → IsLive old.arrays.world v → IsLive new.arrays.world v
  pub stay : StayFresh (engine_of old) (engine_of new)

-- how often v stands in the list
abbrev pub times : List ℕ → ℕ → ℕ
times [] v = 0
times (u ∷ us) v = (if u == v then 1 else 0) + times us v

-- at most so many slots are there
abbrev pub slots_limit : ℕ
slots_limit = MOST_SLOTS

-- the formulas of all flows name arrays at most so often
abbrev pub reads_limit : ℕ
reads_limit = MOST_READS

-- the arrays that names, attached slots and formulas hold, as often as these name them
abbrev pub all_held : State → List ℕ
all_held s = held s ++ all_read s.flows

-- The state is whole; at most so many names are bound, at most so many slots are there, and
-- formulas name arrays at most so often; each array is held once for each name of it, once for each
-- slot that is attached to it, once for each place in a formula, and once for each place in the list
-- of those that leave when the statement ends; and nothing is there but what these reach.
pub record IsHeld (s : State) (hs : List (ℕ × ℕ)) (leaving : List ℕ) : Type 0 where
  pub whole : IsWhole s
  pub few : length s.names.arrays ≤ names_limit
  pub slots : length s.watches ≤ slots_limit
  pub reads : length (all_read s.flows) ≤ reads_limit
  pub counts : (v : ℕ) → count_at hs v ≡ times (all_held s) v + times leaving v
  pub reached : KeepsAll s.arrays.world (all_held s ++ leaving)
