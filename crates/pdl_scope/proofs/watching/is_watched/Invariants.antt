use Rattle.std.proofs.Common.{◌≡◌, drop}
use Rattle.pdl_machine.specs.Cuts.{is_watched}
use Rattle.pdl_scope.proofs.watching.is_watched.Given as goal

-- none of the slots before this one is attached below the array
abbrev pub invariant-loop-watch : goal.invariant-loop-watch
invariant-loop-watch l = is_watched (drop l.watch-index l.watches) l.engine.world l.id ≡ is_watched l.watches l.engine.world l.id
