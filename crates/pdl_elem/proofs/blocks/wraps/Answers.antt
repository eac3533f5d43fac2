-- One more number is wrapped, and all are at the end.
use Rattle.std.proofs.Common.{◌≡◌, map, arith, get_or, pos, to_z, of_z, ℤ, All, sym, subst}
use Rattle.std.proofs.lemmas.Int.{to_z-of_z}
use Rattle.std.specs.Int.{w64}
use Rattle.pdl_elem.specs.Numbers.{wrapped}
use Rattle.pdl_elem.specs.Types.{InRange}
use Rattle.pdl_elem.proofs.BlockLists.{mapped_more, mapped_all, mapped_in_range}
use Rattle.pdl_elem.proofs.NumbersWrapped.{wraps}
use Rattle.pdl_elem.proofs.blocks.wraps.Goals as goal

pub loop-x-preserved : goal.loop-x-preserved
loop-x-preserved g c =
    let y : to_z w64 (of_z w64 c.wrap_word.result) ≡ wrapped g.T.KnownType.ty (get_or c.loop-x.x-items c.loop-x.x-index (pos 0)) = grind (arith, to_z-of_z, c.wrap_word.ensures, c.known.ensures) in
    mapped_more _ c.args.numbers.now _ _ _ (omega arith) c.loop-x.invariant (omega arith) y

pub returns-clause-value : goal.returns-clause-value
returns-clause-value g c = mapped_all _ c.args.numbers.now _ c.loop-x.x-index (omega arith) (omega arith) c.loop-x.invariant

pub returns-clause-in_range : goal.returns-clause-in_range
returns-clause-in_range g c =
    let all : c.loop-x.x-items ≡ map (wrapped g.T.KnownType.ty) c.args.numbers.now = mapped_all _ c.args.numbers.now _ c.loop-x.x-index (omega arith) (omega arith) c.loop-x.invariant in
    subst (All (InRange g.T.KnownType.ty)) (sym all) (mapped_in_range g.T.KnownType.ty (wrapped g.T.KnownType.ty) (λ (x : ℤ). (wraps g.T.KnownType.ty x).in_range) c.args.numbers.now)
