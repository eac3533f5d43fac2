use Rattle.std.proofs.Common.{arith, refl, take, false-eqb}
use Rattle.pdl_lex.proofs.PiecesCut.{extend-quiet}
use Rattle.pdl_lex.proofs.cutter.StatementCutter.extend.Goals as goal

pub returns-clause-quiet : goal.returns-clause-quiet
returns-clause-quiet c =
    let items = rw c.if-is_err.ensures.negation at c.extend_from_slice.ensures.items in
    rw (← c.self.view_is) (extend-quiet _ c.args.part.now (take c.min.result c.args.part.now) _ c.plain_len-len.result c.min.result c.if-self.false (omega (arith, false-eqb _ 0 c.if-is_empty.ensures)) refl (omega arith) c.plain_len-len.ensures.passed items)
