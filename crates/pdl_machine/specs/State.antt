-- The state of a machine between two statements.
use Rattle.std.specs.Prelude.{◌≡◌, ℕ, List, [], ◌∷◌, ◌++◌, map}
use Rattle.pdl_flow.specs.Formula.{FormulaTree}
use Rattle.pdl_world.specs.World.{World}
use Rattle.pdl_world.specs.Sound.{NumbersBelow, IsSound, IsLive}
use Rattle.pdl_world.specs.Swept.{sweep}
use Rattle.pdl_machine.specs.Names.{Names, nothing_named}
use Rattle.pdl_machine.specs.Arrays.{Arrays, no_arrays}
use Rattle.pdl_machine.specs.Watches.{Watches, attached}
use Rattle.pdl_machine.specs.Flows.{Flows, flows_with, Needs, needs_of}
use Rattle.pdl_machine.specs.Following.{AreFlows}

-- Names, of arrays and of kernels, the arrays that they are bound to, by slots the arrays that
-- watchers are attached to, and flows.
pub record State : Type 0 where
  pub names : Names
  pub arrays : Arrays
  pub watches : Watches
  pub flows : Flows

-- no names, no arrays, no slot attached, and no flows
abbrev pub no_names : State
no_names = record { names = nothing_named; arrays = no_arrays; watches = []; flows = [] }

-- with other arrays
abbrev pub with_arrays : State → Arrays → State
with_arrays s a = record s { arrays = a }

-- with the arrays of another world
abbrev pub with_world : State → World → State
with_world s w = with_arrays s (record s.arrays { world = w })

-- with one flow more
abbrev pub with_flow : State → (root : ℕ) → FormulaTree → State
with_flow s r f = record s { flows = flows_with s.flows r f }

-- the arrays that the state holds by itself: those that names are bound to, and those that
-- watchers are attached to
abbrev pub held : State → List ℕ
held s = map (λ n. n.1) s.names.arrays ++ attached s.watches

-- the flows that the state keeps, and the arrays that it needs for itself and for these
abbrev pub needs : State → Needs
needs s = needs_of s.arrays.world s.flows (held s)

-- the arrays that the state keeps: those that what it needs reaches by parents
abbrev pub kept : State → World
kept s = sweep s.arrays.world (needs s).arrays

-- Nothing is left over: all arrays are kept, and all flows.
pub record IsSwept (s : State) : Type 0 where
  pub arrays : kept s ≡ s.arrays.world
  pub flows : (needs s).flows ≡ s.flows

-- each of these arrays can be looked at
abbrev pub AreLive : World → List ℕ → Type 0
AreLive w [] = Unit {0}
AreLive w (v ∷ vs) = IsLive w v × AreLive w vs

-- the world is sound, its numbers are below the next one, each array that is held is in it, and
-- each flow's root equals its formula
pub record IsWhole (s : State) : Type 0 where
  pub sound : IsSound s.arrays.world
  pub below : NumbersBelow s.arrays.next s.arrays.world
  pub live : AreLive s.arrays.world (held s)
  pub flows : AreFlows s.arrays s.flows
