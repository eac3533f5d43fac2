-- The numbers before this one are the operator's values, and the others still stand.
use Rattle.std.proofs.Common.{◌≡◌, take, drop, map, ◌++◌}
use Rattle.pdl_elem.specs.Operators.{unary_value}
use Rattle.pdl_elem.proofs.blocks.singles.Given as goal

abbrev pub invariant-loop-x : goal.invariant-loop-x
invariant-loop-x g l = l.x-items ≡ map (unary_value g.O.KnownUnary.op g.T.KnownType.ty) (take l.x-index l.initial.x-items) ++ drop l.x-index l.initial.x-items
