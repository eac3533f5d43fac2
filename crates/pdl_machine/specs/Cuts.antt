-- Arrays that become roots: cut from their parents, or of other dimensions
-- (PDL::Core: sever, reshape).
use Rattle.std.specs.Prelude.{ℕ, List, Bool, if◌then◌else◌, Result, Ok, Err}
use Rattle.pdl_world.specs.World.{World}
use Rattle.pdl_world.specs.Cut.{breaks, sever, reshape}
use Rattle.pdl_machine.specs.declared.fault.Fault.{Fault}
use Rattle.pdl_machine.specs.declared.fault.Fault.TheVariants.{FlowReads, FlowTarget, ReshapeBreaks, StillWatched}
use Rattle.pdl_machine.specs.Then.{and_then}
use Rattle.pdl_machine.specs.Arrays.{Arrays}
use Rattle.pdl_machine.specs.Watches.{Watches, attached}
use Rattle.pdl_machine.specs.Flows.{Flows, is_flow, all_read, is_reached}
use Rattle.pdl_machine.specs.Fills.{numbers_in, dims_for}
use Rattle.pdl_machine.specs.Outcome.{Given, all_seen}

-- the arrays after this one was cut from its parent
abbrev pub cut : Arrays → ℕ → Arrays
cut a v = record a { world = sever a.world v }

-- the dimensions of the sizes that arguments are
abbrev pub dims_given : Arrays × List Given → Result (List ℕ) Fault
dims_given t = and_then (numbers_in (all_seen t.0 t.1)) dims_for

-- whether a watcher is attached to this array, or to one that reaches it by parents
abbrev pub is_watched : Watches → World → ℕ → Bool
is_watched watches w v = is_reached w (attached watches) v

-- whether a formula reads this array, or one that reaches it by parents
abbrev pub is_read : Flows → World → ℕ → Bool
is_read flows w v = is_reached w (all_read flows) v

-- the arrays after this one got other dimensions, which is refused where these break a view, then
-- where it is watched, then to a flow's root, and then where a flow reads it
abbrev pub reshaped : Watches → Flows → Arrays → (v : ℕ) → (dims : List ℕ) → Result Arrays Fault
reshaped watches flows a v ds =
    if breaks a.world v ds then Err ReshapeBreaks
    else if is_watched watches a.world v then Err StillWatched
    else if is_flow flows v then Err FlowTarget
    else if is_read flows a.world v then Err FlowReads
    else Ok (record a { world = reshape a.world v ds })
