use Rattle.std.proofs.Common.{◌∙◌, ◌-◌, ◌+◌, sym, ap}
use Rattle.pdl_lemmas.specs.Numbers.{one_less}
use Rattle.pdl_syntax.specs.StatementReading.{names_at}
use Rattle.pdl_syntax.proofs.StatementReadingTurns.{names_stop_at, names_next, names_fail}
use Rattle.pdl_syntax.proofs.reader.Reader.more_names.Goals as goal

pub returns-in-None : goal.returns-in-None
returns-in-None c =
    record {
      read =
          sym c.loop.invariant.same
          ∙ names_stop_at c.args.self.now.source.now (c.len-end.result - c.loop.counter) c.loop.names.items c.loop.rest (sym c.in-None.ensures.rest);
    }

pub returns-in-None-name : goal.returns-in-None-name
returns-in-None-name c =
    let all = c.len-end.result in
    record {
      read =
          sym c.loop.invariant.same
          ∙ (ap (λ n. names_at c.args.self.now.source.now n c.loop.names.items c.loop.rest) (one_less all c.loop.counter c.loop-test.true)
          ∙ names_fail c.args.self.now.source.now (all - (c.loop.counter + 1)) c.loop.names.items c.loop.rest c.in-Some.after
          (sym c.in-Some.ensures.rest) (sym c.in-None-name.ensures.read));
    }

pub loop-preserved : goal.loop-preserved
loop-preserved c =
    let all = c.len-end.result in
    let k = all - (c.loop.counter + 1) in
    let rest = c.in-Some-name.after in
    record {
      same =
          ap (λ ns. names_at c.args.self.now.source.now k ns rest) c.in_ok-names-in-Some-name.ensures.ok
          ∙ (sym (names_next c.args.self.now.source.now k c.loop.names.items c.loop.rest c.in-Some.after rest c.in-Some-name.name
          (sym c.in-Some.ensures.rest) (sym c.in-Some-name.ensures.read))
          ∙ (ap (λ n. names_at c.args.self.now.source.now n c.loop.names.items c.loop.rest) (sym (one_less all c.loop.counter c.loop-test.true))
          ∙ c.loop.invariant.same));
    }
