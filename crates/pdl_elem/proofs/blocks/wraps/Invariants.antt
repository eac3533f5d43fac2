-- The numbers before this one are wrapped, and the others still stand.
use Rattle.std.proofs.Common.{◌≡◌, take, drop, map, ◌++◌}
use Rattle.pdl_elem.specs.Numbers.{wrapped}
use Rattle.pdl_elem.proofs.blocks.wraps.Given as goal

abbrev pub invariant-loop-x : goal.invariant-loop-x
invariant-loop-x g l = l.x-items ≡ map (wrapped g.T.KnownType.ty) (take l.x-index l.initial.x-items) ++ drop l.x-index l.initial.x-items
