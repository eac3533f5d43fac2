use Rattle.std.proofs.Common.{true, false}
use Rattle.std.proofs.lemmas.Result.{IfOk-weaker}
use Rattle.pdl_lex.proofs.PiecesCut.{reached-answered, reached-completed, reached-stream, reached-earliest, reached-line}
use Rattle.pdl_lex.proofs.cutter.StatementCutter.feed.Goals as goal

pub returns-clause-stream : goal.returns-clause-stream
returns-clause-stream c = IfOk-weaker c.scan.result _ _ (λ fed reaches. reached-stream true _ _ fed.used fed.cut _ (rw (← c.self.view_is) c.self.invariant.0, reaches)) c.scan.ensures.reaches

pub returns-clause-settled : goal.returns-clause-settled
returns-clause-settled c = IfOk-weaker c.scan.result _ _ (λ fed reaches. reached-stream false _ _ fed.used fed.cut _ (rw (← c.self.view_is) c.self.invariant.0, reaches)) c.scan.ensures.reaches

pub returns-clause-earliest : goal.returns-clause-earliest
returns-clause-earliest c = IfOk-weaker c.scan.result _ _ (λ fed reaches. reached-earliest _ _ fed.used fed.cut _ (rw (← c.self.view_is) c.self.invariant.0, reaches)) c.scan.ensures.reaches

pub returns-clause-lines : goal.returns-clause-lines
returns-clause-lines c = IfOk-weaker c.scan.result _ _ (λ fed reaches. reached-line _ _ fed.used fed.cut _ (rw (← c.self.view_is) c.self.invariant.0, reaches)) c.scan.ensures.reaches

pub returns-clause-answered : goal.returns-clause-answered
returns-clause-answered c = IfOk-weaker c.scan.result _ _ (λ fed reaches. reached-answered _ _ fed.used fed.cut _ (rw (← c.self.view_is) c.self.invariant.0, reaches)) c.scan.ensures.reaches

pub returns-clause-completed : goal.returns-clause-completed
returns-clause-completed c = IfOk-weaker c.scan.result _ _ (λ fed reaches. reached-completed _ _ fed.used fed.cut _ (rw (← c.self.view_is) c.self.invariant.0, reaches)) c.scan.ensures.reaches
