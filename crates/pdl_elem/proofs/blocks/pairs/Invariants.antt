-- The elements before this one are written.
use Rattle.std.proofs.Common.{◌≡◌, take}
use Rattle.pdl_elem.specs.Blocks.{pairwise}
use Rattle.pdl_elem.specs.Operators.{value_of}
use Rattle.pdl_elem.proofs.blocks.pairs.Given as goal

abbrev pub invariant-loop-i : goal.invariant-loop-i
invariant-loop-i g l = take l.i l.into ≡ take l.i (pairwise (value_of g.O.KnownOp.op g.T.KnownType.ty) l.a l.b)
