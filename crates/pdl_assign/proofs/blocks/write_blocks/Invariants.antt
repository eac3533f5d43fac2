-- The values before the next block are written.
use Rattle.std.proofs.Common.{◌-◌, ◌+◌, ◌≡◌, ◌≤◌, length, take, true}
use Rattle.pdl_world.specs.Parts.{assign_part}
use Rattle.pdl_world.specs.Sound.{IsSound}
use Rattle.pdl_engine.specs.State.{is_fresh}
use Rattle.pdl_assign.specs.Blocks.{list_of, written_in}
use Rattle.pdl_assign.proofs.blocks.write_blocks.Given as goal

abbrev pub invariant-loop-done : goal.invariant-loop-done
invariant-loop-done g l = record {
  inside : l.done ≤ l.count;
  values : length l.values ≡ g.row.ROOM;
  left : length l.left ≡ g.row.ROOM;
  right : length l.right ≡ g.row.ROOM;
  world : l.engine.world ≡ assign_part l.initial.engine.world l.target 0 (take l.done (list_of (written_in l.sign l.initial.engine.world l.target l.source)));
  holds : l.engine.holds ≡ l.initial.engine.holds;
  next : l.engine.next ≡ l.initial.engine.next;
  sound : IsSound l.engine.world;
  target_fresh : is_fresh l.engine l.target ≡ true;
  source_fresh : is_fresh l.engine l.source ≡ true;
  counted : l.steps ≡ l.initial.steps + l.done;
}

abbrev pub decreases-loop-done : goal.decreases-loop-done
decreases-loop-done g l = l.count - l.done
