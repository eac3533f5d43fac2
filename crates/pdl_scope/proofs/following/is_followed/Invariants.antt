use Rattle.std.proofs.Common.{◌≡◌, ◌≢◌, ◌∷◌, [], drop}
use Rattle.std.specs.Prelude.{IfSome}
use Rattle.pdl_world.specs.Paths.{root_of}
use Rattle.pdl_machine.specs.Flows.{affected}
use Rattle.pdl_scope.proofs.following.is_followed.Given as goal

-- none of the flows before this one follows
abbrev pub invariant-loop-flow : goal.invariant-loop-flow
invariant-loop-flow l = record {
  before : affected l.engine.world (drop l.flow-index l.flows) (l.root ∷ []) ≡ affected l.engine.world l.flows (l.root ∷ []);
  apart : IfSome l.apart (λ k. root_of l.engine.world k ≢ l.root);
}
