use Rattle.std.proofs.Common.{◌∙◌, ◌-◌, ◌+◌, [], length, map, sym, ap}
use Rattle.std.proofs.lemmas.Result.{err_from_is_err_and}
use Rattle.pdl_lemmas.specs.Numbers.{one_less}
use Rattle.pdl_syntax.specs.ExpressionReading.{reader, maybe_at}
use Rattle.pdl_syntax.specs.StatementReading.{views_at}
use Rattle.pdl_syntax.specs.StatementTree.{view_of}
use Rattle.pdl_syntax.specs.Tree.{none}
use Rattle.pdl_syntax.specs.TreeOf.{args_of}
use Rattle.pdl_syntax.proofs.StatementReadingTurns.{views_stop_at, views_next, views_fail, pass_on}
use Rattle.pdl_syntax.proofs.reader.Reader.views.Goals as goal

pub returns-in-None : goal.returns-in-None
returns-in-None c =
    record {
      read =
          sym c.loop.invariant.same
          ∙ views_stop_at c.args.self.now.source.now (reader c.args.self.now.source.now c.args.self.now.fuel) (c.len-end.result - c.loop.counter)
          (map view_of c.loop.views.items) c.loop.rest (sym c.in-None.ensures.read);
    }

pub loop-preserved : goal.loop-preserved
loop-preserved c =
    let source = c.args.self.now.source.now in
    let f = reader source c.args.self.now.fuel in
    let all = c.len-end.result in
    let k = all - (c.loop.counter + 1) in
    let so_far = map view_of c.loop.views.items in
    let rest = c.in_ok-args-in-Some.after in
    record {
      same =
          ap (λ vs. views_at source f k vs rest) c.in_ok-views-in-Some.ensures.ok
          ∙ (sym (views_next source f k so_far c.loop.rest c.in-Some.after rest c.in-Some.method
          (args_of c.in_ok-args-in-Some.args.items none) (sym c.in-Some.ensures.read) c.in_ok-args-in-Some.ensures.read)
          ∙ (ap (λ n. views_at source f n so_far c.loop.rest) (sym (one_less all c.loop.counter c.loop-test.true))
          ∙ c.loop.invariant.same));
    }

pub returns-in_err-args-in-Some : goal.returns-in_err-args-in-Some
returns-in_err-args-in-Some c =
    let source = c.args.self.now.source.now in
    let f = reader source c.args.self.now.fuel in
    let all = c.len-end.result in
    let so_far = map view_of c.loop.views.items in
    let p = err_from_is_err_and c.from_residual.result c.from_residual.ensures.1 in
    record {
      read =
          rw (p.1, p.2)
          (pass_on c.in_err-args-in-Some.field-0.0 (maybe_at source f none c.in-Some.after) (views_at source f (length c.args.tokens.now) [] c.args.tokens.now)
          c.in_err-args-in-Some.ensures.read
          (λ h. sym c.loop.invariant.same
          ∙ (ap (λ n. views_at source f n so_far c.loop.rest) (one_less all c.loop.counter c.loop-test.true)
          ∙ views_fail source f (all - (c.loop.counter + 1)) so_far c.loop.rest c.in-Some.after c.in-Some.method
          (sym c.in-Some.ensures.read) h)));
    }
