use Rattle.std.proofs.Common.{◌≡◌, ◌++◌, map, take, drop}
use Rattle.pdl_broadcast.specs.Cursor.{jumped}
use Rattle.pdl_broadcast.proofs.cursors.jump.Given as goal

-- the cursors so far have jumped
abbrev pub invariant-loop-cursor : goal.invariant-loop-cursor
invariant-loop-cursor l = l.cursor-items ≡ map (jumped l.dimension) (take l.cursor-index l.fn.cursors) ++ drop l.cursor-index l.fn.cursors
