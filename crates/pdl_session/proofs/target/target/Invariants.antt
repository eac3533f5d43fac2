use Rattle.std.proofs.Common.{◌≡◌, ◌+◌, ◌≤◌, Ok}
use Rattle.std.specs.Prelude.{map, take}
use Rattle.pdl_syntax.specs.StatementTree.{view_of}
use Rattle.pdl_world.specs.Sound.{IsLive}
use Rattle.pdl_machine.specs.Step.{target}
use Rattle.pdl_machine.specs.Value.{value_of}
use Rattle.pdl_engine.specs.State.{ready_steps}
use Rattle.pdl_scope.specs.Costs.{total_size}
use Rattle.pdl_scope.specs.Scope.{engine_of, Grows}
use Rattle.pdl_session.specs.Costs.{named_steps}
use Rattle.pdl_session.specs.Bounds.{IsBare}
use Rattle.pdl_session.proofs.target.target.Given as goal

-- the views so far are made
abbrev pub invariant-loop-view : goal.invariant-loop-view
invariant-loop-view g l = record {
  so_far : value_of l.fn.scope.names l.fn.scope.arrays (target l.target.name (map view_of (take l.view-index l.target.views.items))) ≡ Ok (l.scope.arrays, l.id);
  grown : Grows l.fn.scope l.scope;
  live : IsLive l.scope.arrays.world l.id;
  within : l.steps + ready_steps (engine_of l.scope) l.id + total_size l.fn.scope.arrays.world
      ≤ l.fn.steps + total_size l.scope.arrays.world + named_steps l.fn.scope (target l.target.name (map view_of (take l.view-index l.target.views.items)));
  begun : l.view-index ≡ 0 → IsBare l.target.name l.fn.scope l.scope l.fn.steps l.steps (Ok l.id);
}
