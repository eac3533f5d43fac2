use Rattle.std.proofs.Common.{◌≡◌, ◌+◌, ◌≤◌, [], All, drop, take, true}
use Rattle.std.specs.Prelude.{is_some, sum_by}
use Rattle.pdl_flow.specs.Inputs.{input_of}
use Rattle.pdl_engine.specs.State.{SameArrays, StayFresh}
use Rattle.pdl_scope.specs.FlowCosts.{input_steps, once}
use Rattle.pdl_scope.specs.Plans.{AreShown, AreSingle, met_by, planned}
use Rattle.pdl_scope.specs.Scope.{arrays_of}
use Rattle.pdl_scope.proofs.following.inputs_planned.Given as goal

-- the arrays before this one have inputs
abbrev pub invariant-loop-read : goal.invariant-loop-read
invariant-loop-read g l = record {
  shown : AreShown (planned (arrays_of l.fn.engine) l.plan) l.inputs.items;
  found : All (λ k. is_some (input_of l.inputs.items k) ≡ true) (take l.read-index l.reads);
  single : AreSingle l.inputs.items;
  same : SameArrays l.fn.engine l.engine;
  stay : StayFresh l.fn.engine l.engine;
  counted : l.steps + sum_by (input_steps l.fn.engine (planned (arrays_of l.fn.engine) l.plan)) (once (met_by l.inputs.items) (drop l.read-index l.reads)) ≤ l.fn.steps + sum_by (input_steps l.fn.engine (planned (arrays_of l.fn.engine) l.plan)) (once [] l.reads);
}
