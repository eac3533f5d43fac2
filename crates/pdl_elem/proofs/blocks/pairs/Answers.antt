-- One more element is written, and all are at the end.
use Rattle.std.proofs.Common.{◌≡◌, arith, get_or, pos, to_z, of_z, All, sym, subst}
use Rattle.std.proofs.lemmas.Int.{to_z-of_z}
use Rattle.std.specs.Int.{w64}
use Rattle.pdl_elem.specs.Blocks.{pairwise}
use Rattle.pdl_elem.specs.Operators.{value_of}
use Rattle.pdl_elem.specs.Types.{InRange, binary_result}
use Rattle.pdl_elem.proofs.BlockLists.{pairs_more, pairs_all, pairwise_in_range}
use Rattle.pdl_elem.proofs.blocks.pairs.Goals as goal

pub loop-i-preserved : goal.loop-i-preserved
loop-i-preserved g c =
    let y : to_z w64 (of_z w64 c.apply.result) ≡ value_of g.O.KnownOp.op g.T.KnownType.ty (get_or c.args.a.now c.loop-i.i (pos 0)) (get_or c.args.b.now c.loop-i.i (pos 0)) = grind (arith, to_z-of_z, c.apply.ensures, c.known.ensures, c.known-in-loop-i.ensures) in
    pairs_more _ _ _ _ _ _ (omega arith) (omega arith) (omega arith) c.loop-i.invariant y

pub returns-clause-value : goal.returns-clause-value
returns-clause-value g c = pairs_all _ _ _ _ c.loop-i.i (omega arith) (omega arith) (omega arith) c.loop-i.invariant

pub returns-clause-in_range : goal.returns-clause-in_range
returns-clause-in_range g c =
    let all : c.loop-i.into ≡ pairwise (value_of g.O.KnownOp.op g.T.KnownType.ty) c.args.a.now c.args.b.now = pairs_all _ _ _ _ c.loop-i.i (omega arith) (omega arith) (omega arith) c.loop-i.invariant in
    subst (All (InRange (binary_result g.O.KnownOp.op g.T.KnownType.ty g.T.KnownType.ty))) (sym all) (pairwise_in_range g.O.KnownOp.op g.T.KnownType.ty c.args.a.now c.args.b.now)
