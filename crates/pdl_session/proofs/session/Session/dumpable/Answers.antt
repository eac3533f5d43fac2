use Rattle.std.proofs.Common.{subst}
use Rattle.pdl_machine.specs.Dumpable.{IsDumpable}
use Rattle.pdl_scope.specs.Scope.{machine}
use Rattle.pdl_session.specs.Session.{Session}
use Rattle.pdl_session.proofs.session.Session.dumpable.Goals as goal

pub returns-clause-state : goal.returns-clause-state
returns-clause-state c =
    subst (λ (s : Session). IsDumpable s.state) c.self.view_is
    (c.dumpable_laws.ensures.tidied (machine c.self.inside.scope) c.whole.ensures c.self.invariant.spelled)

pub returns-clause-again : goal.returns-clause-again
returns-clause-again c = λ text is.
    (let is_dumpable : IsDumpable c.args.self.now.state =
    subst (λ (s : Session). IsDumpable s.state) c.self.view_is
    (c.dumpable_laws.ensures.tidied (machine c.self.inside.scope) c.whole.ensures c.self.invariant.spelled) in
    record {
      read = c.dumps_are_reread.ensures c.args.self.now.state text is_dumpable is;
      leads = c.dumps_rebuild.ensures c.args.self.now.state text is_dumpable is;
    })
