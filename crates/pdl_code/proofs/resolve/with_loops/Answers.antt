use Rattle.std.proofs.Common.{sym, ap, ◌∙◌, Ok, arith}
use Rattle.pdl_code.specs.TreeOf.{indices_of}
use Rattle.pdl_code.proofs.TreeTurns.{loops_turn, loops_end, same_ok}
use Rattle.pdl_code.proofs.resolve.with_loops.Goals as goal

pub loop-k-preserved : goal.loop-k-preserved
loop-k-preserved c = loops_turn (indices_of c.loop-k.found.items) (indices_of c.in-Ok.more.items) c.args.dims.now c.loop-k.k 0 c.args.given.now c.loop-k-test.true (same_ok _ _ c.in-Ok.ensures) ∙ c.loop-k.invariant

pub returns : goal.returns
returns c = ap Ok (sym c.loop-k.invariant ∙ loops_end (indices_of c.loop-k.found.items) c.args.dims.now c.loop-k.k c.args.given.now (omega arith))
