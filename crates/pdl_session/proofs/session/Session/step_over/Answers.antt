use Rattle.pdl_syntax.specs.StatementTree.{statement_of}
use Rattle.pdl_watch.specs.Slots.{slots_by}
use Rattle.pdl_scope.specs.Scope.{machine}
use Rattle.std.proofs.Common.{Err, refl, sym, subst}
use Rattle.pdl_session.specs.declared.fault.StepFault.{StepFault}
use Rattle.pdl_session.specs.Steps.{HasStepped, moment}
use Rattle.pdl_session.proofs.StatementEndings.{refused_step}
use Rattle.pdl_session.proofs.DumpingLemmas.{prints_dump}
use Rattle.pdl_session.proofs.NewsHeard.{has_done, has_run, stops_step, served_after}
use Rattle.pdl_session.proofs.session.Session.step_over.Goals as goal

pub returns-in-Ok-hear : goal.returns-in-Ok-hear
returns-in-Ok-hear g c =
    let laws = c.slot_laws.ensures in
    let before = slots_by g.W.Watcher.seen c.args.watchers.now.items in
    let after = slots_by g.W.Watcher.seen c.hear.new.watchers.items in
    let done = has_done before after laws.quiet laws.keeps laws.none laws.ended c.in-Ok.ensures.ok c.in-Ok-hear.ensures.ok in
    record {
      ok = done;
      fault = tt;
      ran = tt;
      kept = tt;
      unprinted = tt;
      untold = tt;
      served = served_after c.args.number c.args.self.now.state c.advance.new.self.state (statement_of c.args.statement.now) before after laws.keeps laws.leaves laws.told_long laws.long laws.told_open laws.open c.watching_laws.ensures.none_comes c.watching_laws.ensures.there c.requires.served done;
      numbered = c.in-Ok.ensures.numbered;
      warm = c.in-Ok.ensures.warm;
      warm_kept = tt;
      scope_kept = tt;
      flows = c.in-Ok.ensures.flows;
      flowing = c.in-Ok.ensures.flowing;
      unrun = tt;
      bounded = c.in-Ok.ensures.bounded;
      again = c.in-Ok.ensures.again;
      shown = c.in-Ok.ensures.shown;
      readable = c.in-Ok.ensures.readable;
      in_place = c.in-Ok.ensures.in_place;
      dumps = prints_dump c.dump_law.ensures (machine c.args.self.now.scope) c.args.self.now.state (statement_of c.args.statement.now) c.at_rest.ensures.state c.dumpable.ensures.again c.in-Ok.ensures.ok;
    }

pub returns-in-Ok : goal.returns-in-Ok
returns-in-Ok g c =
    let laws = c.slot_laws.ensures in
    let before = slots_by g.W.Watcher.seen c.args.watchers.now.items in
    let after = slots_by g.W.Watcher.seen c.hear.new.watchers.items in
    record {
      ok = tt;
      fault = stops_step before after laws.stops laws.stops_one laws.ends laws.ends_one c.in-Ok.ensures.ok c.in-Err-hear.ensures.short;
      ran = has_run before c.in-Ok.ensures.ok;
      kept = tt;
      unprinted = tt;
      untold = tt;
      served = tt;
      numbered = c.in-Ok.ensures.numbered;
      warm = tt;
      warm_kept = tt;
      scope_kept = tt;
      flows = c.in-Ok.ensures.flows;
      flowing = c.in-Ok.ensures.flowing;
      unrun = tt;
      bounded = c.in-Ok.ensures.bounded;
      again = c.in-Ok.ensures.again;
      shown = c.in-Ok.ensures.shown;
      readable = tt;
      in_place = tt;
      dumps = tt;
    }

pub returns : goal.returns
returns g c =
    let e = c.in-Err.ensures in
    let slots = slots_by g.W.Watcher.seen c.args.watchers.now.items in
    let old = moment c.args.self.now c.args.out.now.items slots c.args.steps.now c.args.runs.now in
    let new = moment c.advance.new.self c.advance.new.out.items slots c.advance.new.steps c.advance.new.runs in
    let tree = statement_of c.args.statement.now in
    subst (λ (f : StepFault). HasStepped c.args.number tree old new (Err f)) (sym c.from.ensures)
    (refused_step c.args.number tree old new c.in-Err.fault e.fault e.kept e.unprinted refl e.numbered e.warm_kept e.scope_kept e.flows e.flowing e.unrun e.bounded e.again e.shown)
