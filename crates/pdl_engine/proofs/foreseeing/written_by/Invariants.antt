use Rattle.std.proofs.Common.{ℕ, ◌<◌, length, take}
use Rattle.pdl_world.specs.World.{root_elements}
use Rattle.pdl_nodes.specs.Placed.{placed_by}
use Rattle.pdl_nodes.specs.Rows.{row_at}
use Rattle.pdl_nodes.specs.Worlds.{world_of}
use Rattle.pdl_engine.specs.Foresights.{HasRoom, Tells}
use Rattle.pdl_engine.proofs.foreseeing.written_by.Given as goal

-- there is room for each place, and what is written so far tells what these values leave
abbrev pub invariant-writing : goal.invariant-writing
invariant-writing l = record {
  room : (p : ℕ) → p < length (root_elements (world_of l.table) (row_at l.table l.id).root) → HasRoom l.written p;
  tells : Tells (root_elements (world_of l.table) (row_at l.table l.id).root) l.written (take l.position (placed_by l.known l.triple)) (take l.position l.values);
}
