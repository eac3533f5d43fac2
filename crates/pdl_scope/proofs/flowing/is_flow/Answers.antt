use Rattle.std.proofs.Common.{◌∙◌}
use Rattle.pdl_scope.proofs.FlowingHalves.{place_tells}
use Rattle.pdl_scope.proofs.flowing.is_flow.Goals as goal

pub returns : goal.returns
returns c = c.is_some.ensures ∙ place_tells c.args.flows.now c.args.id c.place_of_flow.result c.place_of_flow.ensures.here c.place_of_flow.ensures.none
