use Rattle.std.proofs.Common.{◌+◌, arith, ap, ◌∙◌, sym, rules, take, length, length-drop, subst}
use Rattle.std.proofs.lemmas.List.{take_rest}
use Rattle.pdl_lemmas.specs.Results.{on_err}
use Rattle.pdl_lex.specs.Steps.{IsQuiet}
use Rattle.pdl_lex.proofs.PiecesCut.{quiet-next, quiet-further, failed-at}
use Rattle.pdl_lex.proofs.cutter.StatementCutter.scan.Goals as goal

pub loop-used-preserved : goal.loop-used-preserved
loop-used-preserved c =
    let piece = c.args.piece.now in
    let used = c.loop-used.used in
    let one : IsQuiet c.args.self.now (take (used + 1) piece) c.take.new.self = quiet-next _ _ _ _ _ c.loop-used-test.true c.loop-used.invariant.quiet (sym c.in_ok-cut.ensures.cut ∙ c.in_default.is) c.in_ok-cut.ensures.after in
    record {
      within = omega (arith, c.in_ok-used.ensures.within, ap length (take_rest piece (used + 1)), length-drop (used + 1) piece);
      quiet = quiet-further _ _ (used + 1) c.in_ok-used.field-0 _ _ one (subst (λ xs. IsQuiet c.take.new.self (take c.in_ok-used.field-0 xs) c.extend.new.self) (take_rest piece (used + 1)) c.in_ok-used.ensures.quiet);
      works = search rules;
      count = omega (arith, c.in_ok-used.ensures.count, c.take.ensures.taken);
    }

pub returns-in_err-cut-clause-failed_line : goal.returns-in_err-cut-clause-failed_line
returns-in_err-cut-clause-failed_line c =
    on_err c.from_residual.result
    (failed-at _ c.args.piece.now c.loop-used.used c.loop-used.self c.take.new.self.line c.take.new.self.taken c.loop-used-test.true
    c.loop-used.invariant.quiet c.loop-used.invariant.count c.take.ensures.line c.take.ensures.taken)

pub returns-in_err-used-clause-failed_line : goal.returns-in_err-used-clause-failed_line
returns-in_err-used-clause-failed_line c =
    on_err c.from_residual-in_err-used.result
    (failed-at _ c.args.piece.now c.loop-used.used c.loop-used.self c.extend.new.self.line c.extend.new.self.taken c.loop-used-test.true
    c.loop-used.invariant.quiet c.loop-used.invariant.count (c.extend.ensures.line ∙ c.take.ensures.line) (c.in_err-used.ensures.none_taken ∙ c.take.ensures.taken))
