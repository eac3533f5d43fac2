use Rattle.std.proofs.Common.{sym, subst, refl, arith}
use Rattle.pdl_cases.specs.Kept.{AreKept}
use Rattle.pdl_cases.proofs.KeptLemmas.{recounts_more}
use Rattle.pdl_cases.proofs.board.recounted.Goals as goal
use Rattle.pdl_cases.proofs.board.recounted.Goals.{then-holds-gt0+in_ok-put, else-holds-gt0}

pub loop-array-preserved : goal.loop-array-preserved
loop-array-preserved c old new r kept = elim c.if-holds-gt0.branch [
  | then-holds-gt0+in_ok-put w ↦ rw w.left-is (subst (AreKept new) (sym w.in_ok-put.ensures)
      (recounts_more c.args.more c.args.id old new r c.loop-array.left.items _ _ (c.loop-array.invariant old new r kept)
      (kept c.loop-array.array-index _ c.loop-array-test.true) refl c.in_ok-holds.ensures (omega (arith, w.if-holds-gt0.true))))
  | else-holds-gt0 w ↦ rw w.left-is (c.loop-array.invariant old new r kept)
]
