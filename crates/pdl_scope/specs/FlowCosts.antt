-- What flows take that follow an assignment.
use Rattle.std.specs.Prelude.{ℕ, ◌+◌, ◌≤◌, if◌then◌else◌, List, [], ◌∷◌, ◌++◌, sum_by, Result, Ok, Err}
use Rattle.pdl_numbers.specs.Typed.{count_moved}
use Rattle.pdl_shape.specs.Shape.{size_of}
use Rattle.pdl_flow.specs.Formula.{arrays_in}
use Rattle.pdl_flow.specs.Steps.{steps_in}
use Rattle.pdl_world.specs.Swept.{is_listed}
use Rattle.pdl_world.specs.World.{World, dims_in, elements}
use Rattle.pdl_engine.specs.Reading.{read_steps}
use Rattle.pdl_engine.specs.State.{State as Engine}
use Rattle.pdl_machine.specs.declared.fault.Fault.{Fault}
use Rattle.pdl_machine.specs.Arrays.{Arrays, array_in}
use Rattle.pdl_machine.specs.Flows.{Flow, Flows, followers}
use Rattle.pdl_machine.specs.Following.{follow}
use Rattle.pdl_scope.specs.Costs.{IsInOrder}
use Rattle.pdl_scope.specs.Scope.{Scope, engine_of, Grows}

-- the numbers of a list, each once, without those that were met before
abbrev pub once : (met : List ℕ) → List ℕ → List ℕ
once met [] = []
once met (k ∷ ks) = if is_listed met k then once met ks else k ∷ once (met ++ k ∷ []) ks

-- the most steps that an input of a formula takes: those that it takes to read its array, and one for
-- each element that isn't 0 of what the array shows by then
abbrev pub input_steps : Engine → Arrays → ℕ → ℕ
input_steps e a k = read_steps e k + count_moved (elements a.world k)

-- the most steps that it takes to find what a flow's root gets of these arrays: one input for each
-- array that its formula reads, and what its operators move
abbrev pub find_steps : Engine → Arrays → Flow → ℕ
find_steps e a f =
    sum_by (input_steps e a) (once [] (arrays_in f.formula)) + steps_in (array_in a) f.formula

-- the most steps that a flow takes that follows: to find what its root gets, to read the root, and
-- for each of its elements a step to keep it and one to write it
abbrev pub follow_steps : Engine → Arrays → Flow → ℕ
follow_steps e a f =
    let size = size_of (dims_in e.world f.root) in
    find_steps e a f + (read_steps e f.root + (size + size))

-- of one flow after another
abbrev pub followed_steps : Engine → Arrays → Flows → ℕ
followed_steps e a [] = 0
followed_steps e a (f ∷ flows) = follow_steps e a f + followed_steps e (follow a f) flows

-- the most steps that flows take that follow an assignment of so many values, which left these
-- arrays: a step to keep each value, and then what each flow takes; none where no flow follows, or
-- where the assignment is refused
abbrev pub following_steps : Engine → Flows → (count : ℕ) → Result Arrays Fault → ℕ
following_steps e [] count after = 0
following_steps e (f ∷ flows) count (Err refusal) = 0
following_steps e (f ∷ flows) count (Ok a) = count + followed_steps e a (f ∷ flows)

-- arrays that came, or were read, make no flow dearer that follows an assignment, also to one of these
abbrev pub GrowingMakesNoFlowDearer : Type 0
GrowingMakesNoFlowDearer =
    (old new : Scope) → IsInOrder old → IsInOrder new → Grows old new
    → (w : World) (v count : ℕ) (after : Result Arrays Fault)
    → let flows = followers w old.flows v in
    following_steps (engine_of new) flows count after
    ≤ following_steps (engine_of old) flows count after
