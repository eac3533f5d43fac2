use Rattle.std.proofs.Common.{◌≡◌, rules, ap, subst, ◌∙◌}
use Rattle.std.specs.Prelude.{OnErr, OnOk}
use Rattle.pdl_syntax.specs.StatementTree.{statement_of}
use Rattle.pdl_watch.specs.Slots.{slots_by, present_in}
use Rattle.pdl_machine.specs.Step.{effect}
use Rattle.pdl_scope.specs.Scope.{machine}
use Rattle.pdl_session.specs.Bounds.{LeavesReadable, RunsInPlace, warm_after}
use Rattle.pdl_session.specs.Session.{AssignsAgain, IsAsBefore, PrintsAtMost, Session}
use Rattle.pdl_session.specs.Evaluations.{RunsAtMost}
use Rattle.pdl_session.specs.Faults.{ending}
use Rattle.pdl_session.specs.Statements.{MovesAtMost}
use Rattle.pdl_session.proofs.AdvancedLemmas.{advanced, advance_refused}
use Rattle.pdl_session.proofs.StatementEndings.{moves_at_most}
use Rattle.pdl_session.proofs.SessionResting as resting
use Rattle.pdl_session.proofs.SessionResting.{as_before, in_place, readable_then, refused_unmoved, warm_err, warm_ok}
use Rattle.pdl_session.proofs.DumpableLawSpelled.{left_spelled}
use Rattle.pdl_session.proofs.PerformedStatements.{kept_out, kept_seen}
use Rattle.pdl_session.proofs.StateTidied.{tidied_after}
use Rattle.pdl_session.proofs.session.Session.advance.Goals as goal

pub returns : goal.returns
returns g c = record {
  ok = (
      advanced c.run-ran.result c.args.number (present_in (slots_by g.W.Watcher.seen c.args.watchers.now.items)) (statement_of c.args.statement.now) c.self.inside.scope c.run-ran.new.scope (machine c.let_go.new.self) c.args.self.now.state c.args.out.now.items c.run-ran.new.out.items
      c.numbering_laws.ensures.alike c.watching_laws.ensures.assignments c.in_order.ensures.whole c.self.invariant.swept c.let_go.ensures.unseen (ap (λ (s : Session). s.state) c.self.view_is) c.run-ran.ensures.runs c.run-ran.ensures.news
      );
  fault = (
      advance_refused c.run-ran.result c.args.number (present_in (slots_by g.W.Watcher.seen c.args.watchers.now.items)) (statement_of c.args.statement.now) c.self.inside.scope c.run-ran.new.scope c.args.self.now.state c.args.out.now.items c.run-ran.new.out.items
      c.numbering_laws.ensures.alike c.in_order.ensures.whole c.self.invariant.swept (ap (λ (s : Session). s.state) c.self.view_is) c.run-ran.ensures.runs
      );
  kept = (
      kept_seen c.run-ran.result (effect (present_in (slots_by g.W.Watcher.seen c.args.watchers.now.items)) (machine c.self.inside.scope) (statement_of c.args.statement.now)) c.self.inside.scope c.run-ran.new.scope (machine c.let_go.new.self) c.args.self.now.state c.args.out.now.items c.run-ran.new.out.items
      c.numbering_laws.ensures.unseen c.in_order.ensures.whole c.in_order-2.ensures.whole c.let_go.ensures.unseen (ap (λ (s : Session). s.state) c.self.view_is) c.run-ran.ensures.runs
      );
  unprinted = kept_out c.run-ran.result (effect (present_in (slots_by g.W.Watcher.seen c.args.watchers.now.items)) (machine c.self.inside.scope) (statement_of c.args.statement.now)) c.self.inside.scope c.run-ran.new.scope c.args.out.now.items c.run-ran.new.out.items c.run-ran.ensures.runs;
  numbered = search rules;
  warm = (
      let tree = statement_of c.args.statement.now in
      let P : Session → Type 0 = λ s. OnOk c.run-ran.result (c.run-ran.new.bare ≡ warm_after s.scope tree) in
      warm_ok c.run-ran.result c.run-ran.new.bare c.self.inside.warm c.warm_then-self-inside.result (warm_after c.args.self.now.scope tree) c.warm_then-self-inside.ensures
      (subst P c.self.view_is c.run-ran.ensures.bare)
      );
  warm_kept = warm_err c.run-ran.result c.run-ran.new.bare c.self.inside.warm c.warm_then-self-inside.result c.args.self.now.warm c.warm_then-self-inside.ensures (ap (λ (s : Session). s.warm) c.self.view_is);
  scope_kept = (
      let P : Session → Type 0 = λ s. OnErr c.run-ran.result (IsAsBefore s.scope c.let_go.new.self) in
      subst P c.self.view_is
      (as_before (record { goes = c.sweep_laws.ensures.new; older = c.growth_laws.ensures.older; paths = c.growth_laws.ensures.older_paths; assigned_paths = c.assignment_laws.ensures.paths; bases = c.sweep_laws.ensures.bases; seen = c.sweep_laws.ensures.seen; assigned = c.sweep_laws.ensures.assigned })
      c.run-ran.result (effect (present_in (slots_by g.W.Watcher.seen c.args.watchers.now.items)) (machine c.self.inside.scope) (statement_of c.args.statement.now)) c.self.inside.scope c.run-ran.new.scope c.let_go.new.self c.args.out.now.items c.run-ran.new.out.items
      (record { whole = c.in_order.ensures.whole; swept = c.self.invariant.swept; ran = c.in_order-2.ensures.whole; gone = c.let_go.ensures.gone; stay = c.let_go.ensures.stay }) c.run-ran.ensures.runs)
      );
  flows = c.flow_laws.ensures.tidied (machine c.let_go.new.self) c.whole.ensures;
  flowing = (
      let tree = statement_of c.args.statement.now in
      subst (λ (s : Session). RunsAtMost s.scope tree c.args.runs.now c.run-ran.new.runs) c.self.view_is c.run-ran.ensures.flowing
      );
  unrun = c.run-ran.ensures.unrun;
  bounded = (
      let tree = statement_of c.args.statement.now in
      let present = present_in (slots_by g.W.Watcher.seen c.args.watchers.now.items) in
      let P : Session → Type 0 = λ s. MovesAtMost present tree s.scope c.let_go.new.self c.args.steps.now c.let_go.new.steps (ending c.run-ran.result) in
      subst P c.self.view_is
      (moves_at_most present c.run-ran.result tree c.self.inside.scope c.run-ran.new.scope c.let_go.new.self c.args.steps.now c.run-ran.new.steps c.let_go.new.steps c.args.out.now.items c.run-ran.new.out.items
      c.in_order-2.ensures c.run-ran.ensures.runs c.run-ran.ensures.bounded c.let_go.ensures.gone c.let_go.ensures.counted c.let_go.ensures.written
      (refused_unmoved (record { goes = c.sweep_laws.ensures.new; older = c.growth_laws.ensures.older; paths = c.growth_laws.ensures.older_paths; assigned_paths = c.assignment_laws.ensures.paths; bases = c.sweep_laws.ensures.bases; seen = c.sweep_laws.ensures.seen; assigned = c.sweep_laws.ensures.assigned }) c.cost_laws.ensures.unwritten
      c.run-ran.result (effect present (machine c.self.inside.scope) tree) c.self.inside.scope c.run-ran.new.scope c.let_go.new.self c.run-ran.new.steps c.let_go.new.steps c.args.out.now.items c.run-ran.new.out.items
      (record { whole = c.in_order.ensures.whole; swept = c.self.invariant.swept; ran = c.in_order-2.ensures.whole; gone = c.let_go.ensures.gone; stay = c.let_go.ensures.stay })
      c.in_order.ensures c.in_order-2.ensures c.run-ran.ensures.runs c.let_go.ensures.risen c.let_go.ensures.written))
      );
  again = (
      let tree = statement_of c.args.statement.now in
      let P : Session → Type 0 = λ s. AssignsAgain s tree c.args.steps.now c.let_go.new.steps in
      subst P c.self.view_is
      (resting.again (record { goes = c.sweep_laws.ensures.new; older = c.growth_laws.ensures.older; paths = c.growth_laws.ensures.older_paths; assigned_paths = c.assignment_laws.ensures.paths; bases = c.sweep_laws.ensures.bases; seen = c.sweep_laws.ensures.seen; assigned = c.sweep_laws.ensures.assigned }) (present_in (slots_by g.W.Watcher.seen c.args.watchers.now.items)) c.run-ran.result tree c.self.inside.warm c.self.inside.scope c.run-ran.new.scope c.let_go.new.self c.args.steps.now c.run-ran.new.steps c.let_go.new.steps c.args.out.now.items c.run-ran.new.out.items
      (record { whole = c.in_order.ensures.whole; swept = c.self.invariant.swept; ran = c.in_order-2.ensures.whole; gone = c.let_go.ensures.gone; stay = c.let_go.ensures.stay }) c.self.invariant.kept_warm c.run-ran.ensures.runs c.run-ran.ensures.moves c.let_go.ensures.counted)
      );
  shown = (
      let tree = statement_of c.args.statement.now in
      let P : Session → Type 0 = λ s. PrintsAtMost s tree c.args.steps.now c.let_go.new.steps in
      subst P c.self.view_is
      (resting.shown (record { goes = c.sweep_laws.ensures.new; older = c.growth_laws.ensures.older; paths = c.growth_laws.ensures.older_paths; assigned_paths = c.assignment_laws.ensures.paths; bases = c.sweep_laws.ensures.bases; seen = c.sweep_laws.ensures.seen; assigned = c.sweep_laws.ensures.assigned }) tree c.self.inside.scope c.run-ran.new.scope c.let_go.new.self c.args.steps.now c.run-ran.new.steps c.let_go.new.steps (record { whole = c.in_order.ensures.whole; swept = c.self.invariant.swept; ran = c.in_order-2.ensures.whole; gone = c.let_go.ensures.gone; stay = c.let_go.ensures.stay }) c.run-ran.ensures.moves c.let_go.ensures.counted)
      );
  readable = (
      let tree = statement_of c.args.statement.now in
      let P : Session → Type 0 = λ s. OnOk c.run-ran.result (LeavesReadable tree s.scope c.let_go.new.self) in
      subst P c.self.view_is
      (readable_then (record { goes = c.sweep_laws.ensures.new; older = c.growth_laws.ensures.older; paths = c.growth_laws.ensures.older_paths; assigned_paths = c.assignment_laws.ensures.paths; bases = c.sweep_laws.ensures.bases; seen = c.sweep_laws.ensures.seen; assigned = c.sweep_laws.ensures.assigned }) (present_in (slots_by g.W.Watcher.seen c.args.watchers.now.items)) c.run-ran.result tree c.self.inside.scope c.run-ran.new.scope c.let_go.new.self c.args.steps.now c.run-ran.new.steps c.args.out.now.items c.run-ran.new.out.items
      (record { whole = c.in_order.ensures.whole; swept = c.self.invariant.swept; ran = c.in_order-2.ensures.whole; gone = c.let_go.ensures.gone; stay = c.let_go.ensures.stay }) c.run-ran.ensures.runs c.run-ran.ensures.moves c.run-ran.ensures.readable)
      );
  in_place = (
      let tree = statement_of c.args.statement.now in
      let present = present_in (slots_by g.W.Watcher.seen c.args.watchers.now.items) in
      let P : Session → Type 0 = λ s. OnOk c.run-ran.result (RunsInPlace present s.scope tree c.let_go.new.self) in
      subst P c.self.view_is (in_place present c.run-ran.result tree c.self.inside.scope c.run-ran.new.scope c.let_go.new.self c.args.out.now.items c.run-ran.new.out.items c.let_go.ensures.gone c.run-ran.ensures.runs)
      );
}

pub invariant_of-self : goal.invariant_of-self
invariant_of-self g c =
    resting.at_rest (record { goes = c.sweep_laws.ensures.new; older = c.growth_laws.ensures.older; paths = c.growth_laws.ensures.older_paths; assigned_paths = c.assignment_laws.ensures.paths; bases = c.sweep_laws.ensures.bases; seen = c.sweep_laws.ensures.seen; assigned = c.sweep_laws.ensures.assigned }) (present_in (slots_by g.W.Watcher.seen c.args.watchers.now.items)) c.run-ran.result (statement_of c.args.statement.now) c.self.inside.warm c.run-ran.new.bare c.warm_then-self-inside.result c.self.inside.scope c.run-ran.new.scope c.let_go.new.self c.args.out.now.items c.run-ran.new.out.items
    (record { whole = c.in_order.ensures.whole; swept = c.self.invariant.swept; ran = c.in_order-2.ensures.whole; gone = c.let_go.ensures.gone; stay = c.let_go.ensures.stay }) (tidied_after (machine c.run-ran.new.scope) (machine c.let_go.new.self) c.sweep_laws.ensures.seen c.numbering_laws.ensures.again c.in_order-2.ensures.whole c.let_go.ensures.gone)
    (left_spelled (record { unseen = c.numbering_laws.ensures.unseen; keeps = c.dumpable_laws.ensures.keeps; numbers = c.dumpable_laws.ensures.numbers }) (present_in (slots_by g.W.Watcher.seen c.args.watchers.now.items)) c.run-ran.result (statement_of c.args.statement.now) c.self.inside.scope c.run-ran.new.scope (machine c.let_go.new.self) c.args.out.now.items c.run-ran.new.out.items
    c.in_order.ensures.whole c.self.invariant.swept c.self.invariant.spelled c.requires.made c.in_order-2.ensures.whole c.let_go.ensures.unseen c.run-ran.ensures.runs)
    c.self.invariant.kept_warm
    c.run-ran.ensures.bare c.warm_then-self-inside.ensures c.run-ran.ensures.runs c.run-ran.ensures.readable
