use Rattle.std.proofs.Common.{◌≡◌, ◌+◌, ◌≤◌, Ok}
use Rattle.pdl_scope.specs.Costs.{total_size}
use Rattle.pdl_session.specs.Costs.{argued_steps, ready_all}
use Rattle.std.specs.Prelude.{take}
use Rattle.pdl_syntax.specs.Tree.{Args, none}
use Rattle.pdl_syntax.specs.TreeOf.{tree_of, args_of, argument_of}
use Rattle.pdl_machine.specs.Arrays.{Arrays}
use Rattle.pdl_machine.specs.Value.{taken}
use Rattle.pdl_session.specs.Arguments.{arguments, AreGivenLive}
use Rattle.pdl_scope.specs.Scope.{Grows}
use Rattle.pdl_session.proofs.ArgumentEvals.{weight, weights}
use Rattle.pdl_session.proofs.eval.+eval.Given as goal

-- the arguments so far are evaluated
abbrev pub invariant-take-loop-arg : goal.invariant-take-loop-arg
invariant-take-loop-arg g l = record {
  so_far : (a : Arrays) (front : Args) → taken l.fn.scope.names a front ≡ Ok (l.fn.scope.arrays, arguments l.fn.given.items)
      → taken l.fn.scope.names a (args_of (take l.arg-index l.args) front) ≡ Ok (l.scope.arrays, arguments l.given.items);
  grown : Grows l.fn.scope l.scope;
  live : AreGivenLive l.scope.arrays.world l.given.items;
  within : l.steps + ready_all l.scope l.given.items + total_size l.fn.scope.arrays.world
      ≤ l.fn.steps + total_size l.scope.arrays.world + (argued_steps l.fn.scope (args_of (take l.arg-index l.args) none) + ready_all l.fn.scope l.fn.given.items);
}

abbrev pub decreases-eval : goal.decreases-eval
decreases-eval g l = weight (tree_of l.value.now)

abbrev pub decreases-take : goal.decreases-take
decreases-take g l = weights (args_of l.args.now none) + 1

abbrev pub decreases-take_one : goal.decreases-take_one
decreases-take_one g l = weights (argument_of l.arg.now none)
