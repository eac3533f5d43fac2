-- How many formulas a statement evaluates at most.
use Rattle.std.specs.Prelude.{◌≡◌, ℕ, ◌+◌, ◌≤◌, [], length, Ok, Err}
use Rattle.pdl_syntax.specs.StatementTree.{StatementTree, assign, flow}
use Rattle.pdl_syntax.specs.Tree.{Tree}
use Rattle.pdl_machine.specs.Flows.{Flows, followers}
use Rattle.pdl_machine.specs.Outcome.{Valued}
use Rattle.pdl_machine.specs.Step.{target, target_in}
use Rattle.pdl_scope.specs.Scope.{Scope, machine}

-- the flows that follow an assignment to a target; none where the target is refused
abbrev pub followers_of : Flows → (target : Valued) → Flows
followers_of flows (Ok v) = followers v.0.world flows v.1
followers_of flows (Err e) = []

-- those that follow an assignment to the target of a statement
abbrev pub followers_in : Scope → (target : Tree) → Flows
followers_in s to = followers_of s.flows (target_in (machine s) to)

-- An assignment evaluates at most one formula for each flow that reads, directly or through flows,
-- an array of the root that it assigns to, `flow` at most its own, and no other statement any.
abbrev pub RunsAtMost : Scope → StatementTree → (before after : ℕ) → Type 0
RunsAtMost s (assign x views sign e) before after =
    after ≤ before + length (followers_in s (target x views))
RunsAtMost s (flow x e) before after = after ≤ before + 1
RunsAtMost s _ before after = after ≡ before
