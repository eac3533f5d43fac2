-- What flows keep: the dimensions of arrays, and what the formula of a root reads.
use Rattle.std.specs.Prelude.{◌≡◌, ℕ, ◌==◌, ◌++◌, if◌then◌else◌, Bool, List, [], ◌∷◌, Option, Some, None}
use Rattle.std.specs.List.{list_any, slice_get}
use Rattle.pdl_flow.specs.Formula.{arrays_in}
use Rattle.pdl_world.specs.Paths.{root_of}
use Rattle.pdl_world.specs.World.{World}
use Rattle.pdl_machine.specs.Cuts.{is_read, is_watched}
use Rattle.pdl_machine.specs.Flows.{Flow, Flows, is_flow}
use Rattle.pdl_machine.specs.Following.{RootsAbove}
use Rattle.pdl_machine.specs.Watches.{Watches}
use Rattle.pdl_machine.specs.declared.fault.Fault.{Fault}
use Rattle.pdl_machine.specs.declared.fault.Fault.TheVariants.{FlowReads, FlowTarget, StillWatched}

-- the arrays that the formula of a root reads; none where the root is no flow's
abbrev pub read_by : Flows → (root : ℕ) → List ℕ
read_by [] r = []
read_by (f ∷ flows) r =
    if f.root == r then arrays_in f.formula ++ read_by flows r else read_by flows r

-- each root is newer than those of the flows before it
abbrev pub RootsRise : Flows → Type 0
RootsRise [] = Unit {0}
RootsRise (f ∷ flows) = RootsAbove f.root flows × RootsRise flows

-- the flow of a root stands at a place
pub record HasRootAt (flows : Flows) (r at : ℕ) : Type 0 where
  pub flow : Flow
  pub is : slice_get flows at ≡ Some flow
  pub root : flow.root ≡ r

-- whether one of these arrays has a flow's root as its root
abbrev pub have_flow : World → Flows → List ℕ → Bool
have_flow w flows vs = list_any (λ v. is_flow flows (root_of w v)) vs

-- why an array keeps its dimensions, whatever others it is to get: it is watched, or a flow's root,
-- or a flow reads it
abbrev pub kept_shape : Watches → Flows → World → (v : ℕ) → Option Fault
kept_shape watches flows w v =
    if is_watched watches w v then Some StillWatched
    else if is_flow flows v then Some FlowTarget
    else if is_read flows w v then Some FlowReads
    else None
