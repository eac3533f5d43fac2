use Rattle.std.proofs.Common.{◌≡◌, refl, subst}
use Rattle.pdl_engine.specs.State.{IsLazy}
use Rattle.pdl_machine.specs.Following.{AreFlows}
use Rattle.pdl_machine.specs.Tidy.{tidy}
use Rattle.pdl_scope.specs.Scope.{engine_of, machine}
use Rattle.pdl_session.specs.Session.{IsAtRest, Session}
use Rattle.pdl_session.proofs.session.Session.at_rest.Goals as goal

pub returns-clause-state : goal.returns-clause-state
returns-clause-state c = subst (λ (s : Session). s.state ≡ tidy (machine s.scope)) c.self.view_is refl

pub returns-clause-rest : goal.returns-clause-rest
returns-clause-rest c = subst (λ (s : Session). IsAtRest s.scope s.warm) c.self.view_is c.self.invariant

pub returns-clause-lazy : goal.returns-clause-lazy
returns-clause-lazy c = subst (λ (s : Session). IsLazy (engine_of s.scope)) c.self.view_is c.lazy_law.ensures

pub returns-clause-flows : goal.returns-clause-flows
returns-clause-flows c =
    subst (λ (s : Session). AreFlows s.state.arrays s.state.flows) c.self.view_is (c.flow_laws.ensures.tidied (machine c.self.inside.scope) c.whole.ensures)
