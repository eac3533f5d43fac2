-- What statements move at most.
use Rattle.std.specs.Option.{option_map_or}
use Rattle.std.specs.Prelude.{ℕ, ◌+◌, List, Result, Ok, Err, sum_by}
use Rattle.pdl_shape.specs.Shape.{size_of}
use Rattle.pdl_world.specs.World.{dims_in}
use Rattle.pdl_engine.specs.Reading.{read_steps}
use Rattle.pdl_engine.specs.State.{State as Engine, ready_steps}
use Rattle.pdl_machine.specs.declared.fault.Fault.{Fault}
use Rattle.pdl_machine.specs.Arrays.{Arrays}
use Rattle.pdl_lexemes.specs.declared.AssignOp.{AssignOp}
use Rattle.pdl_syntax.specs.Tree.{Tree}
use Rattle.pdl_machine.specs.Cuts.{dims_given}
use Rattle.pdl_machine.specs.Names.{number_of}
use Rattle.pdl_machine.specs.Outcome.{Given, Valued}
use Rattle.pdl_machine.specs.Step.{assigned, target_in}
use Rattle.pdl_machine.specs.Then.{and_then}
use Rattle.pdl_machine.specs.Value.{value_of}
use Rattle.pdl_machine.specs.Watches.{attached}
use Rattle.pdl_scope.specs.FlowCosts.{following_steps}
use Rattle.pdl_scope.specs.Scope.{Scope, engine_of, machine}
use Rattle.pdl_session.specs.Costs.{named_steps}
use Rattle.pdl_session.specs.Evaluations.{followers_in}

-- the most steps that it takes to cut an array from its parent
abbrev pub cut_steps : Engine → ℕ → ℕ
cut_steps e v = ready_steps e v + size_of (dims_in e.world v)

-- how many elements the array of a value has; none where it is refused
abbrev pub value_size : Valued → ℕ
value_size (Ok v) = size_of (dims_in v.0.world v.1)
value_size (Err e) = 0

-- and how many an array of these dimensions has
abbrev pub wanted_size : Result (List ℕ) Fault → ℕ
wanted_size (Ok ds) = size_of ds
wanted_size (Err e) = 0

-- the most steps that it takes to lay a name's array anew
abbrev pub reshape_steps : Scope → (name : List ℕ) → Result (Arrays × List Given) Fault → ℕ
reshape_steps s x given =
    option_map_or (ready_steps (engine_of s)) (number_of s.names x) 0
    + wanted_size (and_then given dims_given)

-- the arrays after an assignment before flows follow, or why it is refused
abbrev pub arrays_assigned : Scope → (place : Tree) → AssignOp → (value : Tree) → Result Arrays Fault
arrays_assigned s place sign e =
    and_then (target_in (machine s) place) (λ v.
    and_then (value_of s.names v.0 e) (λ u. assigned sign u.0 v.1 u.1))

-- the most steps that flows take that follow it
abbrev pub flows_steps : Scope → (place : Tree) → AssignOp → (value : Tree) → ℕ
flows_steps s place sign e =
    following_steps (engine_of s) (followers_in s place)
    (value_size (target_in (machine s) place)) (arrays_assigned s place sign e)

-- the most steps that an assignment takes beside the elements that come: what its expressions take,
-- to read each array that a slot is attached to, a step for each element of the target, and what
-- the flows take that follow
abbrev pub assign_steps : Scope → (place : Tree) → AssignOp → (value : Tree) → ℕ
assign_steps s place sign e =
    (named_steps s place + named_steps s e)
    + (sum_by (read_steps (engine_of s)) (attached s.watches)
    + value_size (target_in (machine s) place))
    + flows_steps s place sign e
