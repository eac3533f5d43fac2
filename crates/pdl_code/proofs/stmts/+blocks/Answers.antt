use Rattle.std.proofs.Common.{◌∙◌, ◌-◌, ◌+◌, length, sym, ap, arith}
use Rattle.std.proofs.lemmas.Result.{err_from_is_err_and}
use Rattle.pdl_lemmas.specs.Numbers.{one_less}
use Rattle.pdl_code.specs.TreeOf.{code_of}
use Rattle.pdl_code.specs.CodeReading.{before_code, code_at, code_reader, statement_at}
use Rattle.pdl_code.proofs.CodeReadingChains.{ended_code, found_statement, last_turn, no_statement, pass_on, semicolon_read}
use Rattle.pdl_code.proofs.stmts.+blocks.Goals as goal

pub statement-returns-in-Some : goal.statement-returns-in-Some
statement-returns-in-Some t c =
    record { read = semicolon_read (code_reader c.args.fuel) c.args.tokens.now c.in-Some.rest (code_of c.args.found.items) (sym c.in-Some.ensures.rest) }

pub statements-returns-in-Some : goal.statements-returns-in-Some
statements-returns-in-Some t c =
    record {
      read =
          sym c.loop.invariant.same
          ∙ ended_code (code_reader c.args.fuel) (c.len-end.result - c.loop.counter) c.loop.rest c.in-Some.end (code_of c.loop.found.items) (sym c.in-Some.ensures.rest);
    }

pub statements-loop-preserved : goal.statements-loop-preserved
statements-loop-preserved t c =
    let g = code_reader c.args.fuel in
    let found = code_of c.loop.found.items in
    let k = c.len-end.result - (c.loop.counter + 1) in
    record {
      same =
          sym (found_statement g k c.loop.rest c.in_ok-all-in-None.after found (code_of c.in_ok-all-in-None.all.items) (sym c.in-None.ensures.rest) c.in_ok-all-in-None.ensures.read)
          ∙ (ap (λ n. before_code found (code_at g n c.loop.rest)) (sym (one_less c.len-end.result c.loop.counter c.loop-test.true))
          ∙ c.loop.invariant.same);
    }

pub statements-returns-in_err-all-in-None : goal.statements-returns-in_err-all-in-None
statements-returns-in_err-all-in-None t c =
    let g = code_reader c.args.fuel in
    let found = code_of c.loop.found.items in
    let k = c.len-end.result - (c.loop.counter + 1) in
    let p = err_from_is_err_and c.from_residual.result c.from_residual.ensures.1 in
    record {
      read =
          rw (p.1, p.2)
          (pass_on c.in_err-all-in-None.field-0.0 (before_code found (statement_at g c.loop.rest)) (code_at g (length c.args.tokens.now) c.args.tokens.now)
          c.in_err-all-in-None.ensures.read
          (λ h. sym c.loop.invariant.same
          ∙ (ap (λ n. before_code found (code_at g n c.loop.rest)) (one_less c.len-end.result c.loop.counter c.loop-test.true)
          ∙ no_statement g k c.loop.rest found (sym c.in-None.ensures.rest) h)));
    }

pub statements-returns : goal.statements-returns
statements-returns t c =
    record {
      read =
          sym c.loop.invariant.same
          ∙ last_turn (code_reader c.args.fuel) (c.len-end.result - c.loop.counter) c.loop.rest (code_of c.loop.found.items) (omega arith);
    }
