-- The values before the next block are written.
use Rattle.std.proofs.Common.{◌-◌, ◌+◌, ◌≡◌, ◌≤◌, ℕ, length, take, true}
use Rattle.pdl_world.specs.Parts.{assign_part}
use Rattle.pdl_world.specs.Paths.{root_of}
use Rattle.pdl_world.specs.Sound.{IsSound}
use Rattle.pdl_engine.specs.State.{is_fresh}
use Rattle.pdl_assign.proofs.blocks.write_shown.Given as goal

abbrev pub invariant-loop-shown : goal.invariant-loop-shown
invariant-loop-shown g l = record {
  inside : l.shown ≤ l.count;
  block : length l.block ≡ g.row.ROOM;
  world : l.engine.world ≡ assign_part l.initial.engine.world l.target 0 (take l.shown l.values.elems);
  holds : l.engine.holds ≡ l.initial.engine.holds;
  next : l.engine.next ≡ l.initial.engine.next;
  sound : IsSound l.engine.world;
  fresh : is_fresh l.engine l.target ≡ true;
  others : (u : ℕ) → (root_of l.initial.engine.world u ≡ root_of l.initial.engine.world l.target → ⊥) → is_fresh l.initial.engine u ≡ true → is_fresh l.engine u ≡ true;
  counted : l.steps ≡ l.initial.steps + l.shown;
}

abbrev pub decreases-loop-shown : goal.decreases-loop-shown
decreases-loop-shown g l = l.count - l.shown
