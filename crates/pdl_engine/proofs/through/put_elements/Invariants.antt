use Rattle.std.proofs.Common.{◌+◌, ◌-◌, ◌≡◌, ◌≤◌, length, take}
use Rattle.pdl_world.specs.World.{elements}
use Rattle.pdl_nodes.specs.Worlds.{world_of}
use Rattle.pdl_engine.specs.Through.{WentThrough}
use Rattle.pdl_engine.proofs.through.put_elements.Given as goal

abbrev pub invariant-loop-done : goal.invariant-loop-done
invariant-loop-done g l = record {
  inside : l.done ≤ l.all;
  block : length l.block ≡ 512;
  passed : WentThrough l.initial.table l.id (take l.done (elements (world_of l.initial.table) l.source)) l.table;
  counted : l.steps ≡ l.initial.steps + l.done;
}

abbrev pub decreases-loop-done : goal.decreases-loop-done
decreases-loop-done g l = l.all - l.done
