-- One more number is written over, and all are at the end.
use Rattle.std.proofs.Common.{◌≡◌, ◌<◌, ℤ, length, map, arith, rules, get_or, pos, to_z, of_z, FitsSigned, All, sym, subst, ◌∙◌}
use Rattle.std.proofs.lemmas.Int.{to_z-of_z}
use Rattle.std.proofs.lemmas.List.Elements.{All-get_or}
use Rattle.std.specs.Int.{w64}
use Rattle.pdl_elem.specs.Operators.{unary_value}
use Rattle.pdl_elem.specs.Types.{InRange, unary_result}
use Rattle.pdl_elem.proofs.BlockLists.{ahead, mapped_more, mapped_all, mapped_in_range}
use Rattle.pdl_elem.proofs.OperatorRanges.{unary_in_range}
use Rattle.pdl_elem.proofs.blocks.singles.Goals as goal

pub unary-requires : goal.unary-requires
unary-requires g c =
    let z : ℤ = get_or c.loop-x.x-items c.loop-x.x-index (pos 0) in
    let lt : c.loop-x.x-index < length c.args.numbers.now = c.loop-x-test.true in
    let f : FitsSigned w64 z = search rules in
    let e : to_z w64 (of_z w64 z) ≡ get_or c.args.numbers.now c.loop-x.x-index (pos 0) = to_z-of_z w64 z f ∙ ahead (unary_value g.O.KnownUnary.op g.T.KnownType.ty) c.args.numbers.now c.loop-x.x-items c.loop-x.x-index lt c.loop-x.invariant in
    subst (λ t. InRange t (to_z w64 (of_z w64 z))) (sym c.known-in-loop-x.ensures)
    (subst (InRange g.T.KnownType.ty) (sym e) (All-get_or (InRange g.T.KnownType.ty) c.args.numbers.now c.loop-x.x-index (pos 0) lt c.requires))

pub loop-x-preserved : goal.loop-x-preserved
loop-x-preserved g c =
    let y : to_z w64 (of_z w64 c.unary.result) ≡ unary_value g.O.KnownUnary.op g.T.KnownType.ty (get_or c.loop-x.x-items c.loop-x.x-index (pos 0)) = grind (arith, to_z-of_z, c.unary.ensures.value, c.known.ensures, c.known-in-loop-x.ensures) in
    mapped_more _ c.args.numbers.now _ _ _ (omega arith) c.loop-x.invariant (omega arith) y

pub returns-clause-value : goal.returns-clause-value
returns-clause-value g c = mapped_all _ c.args.numbers.now _ c.loop-x.x-index (omega arith) (omega arith) c.loop-x.invariant

pub returns-clause-in_range : goal.returns-clause-in_range
returns-clause-in_range g c =
    let all : c.loop-x.x-items ≡ map (unary_value g.O.KnownUnary.op g.T.KnownType.ty) c.args.numbers.now = mapped_all _ c.args.numbers.now _ c.loop-x.x-index (omega arith) (omega arith) c.loop-x.invariant in
    subst (All (InRange (unary_result g.O.KnownUnary.op g.T.KnownType.ty))) (sym all) (mapped_in_range _ (unary_value g.O.KnownUnary.op g.T.KnownType.ty) (unary_in_range g.O.KnownUnary.op g.T.KnownType.ty) c.args.numbers.now)
