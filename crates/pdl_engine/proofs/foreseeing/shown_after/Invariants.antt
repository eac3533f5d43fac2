use Rattle.std.proofs.Common.{◌≡◌, ◌++◌, drop}
use Rattle.pdl_nodes.specs.Placed.{placed_by}
use Rattle.pdl_engine.specs.Foresights.{elements_after}
use Rattle.pdl_engine.proofs.foreseeing.shown_after.Given as goal

abbrev pub invariant-reading : goal.invariant-reading
invariant-reading l = l.numbers.items ++ elements_after l.written (drop l.position (placed_by l.known l.triple)) (drop l.position l.before) ≡ elements_after l.written (placed_by l.known l.triple) l.before
