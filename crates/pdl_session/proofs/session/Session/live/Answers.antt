use Rattle.std.proofs.Common.{length, ap, ◌∙◌}
use Rattle.pdl_scope.specs.Scope.{machine}
use Rattle.pdl_session.specs.Session.{Session}
use Rattle.pdl_session.proofs.StateTidied.{live_is}
use Rattle.pdl_session.proofs.session.Session.live.Goals as goal

pub returns : goal.returns
returns c = c.live.ensures ∙ live_is (machine c.self.inside.scope) c.self.invariant.swept ∙ ap (λ (s : Session). length s.state.arrays.world) c.self.view_is
