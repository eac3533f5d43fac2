use Rattle.std.proofs.Common.{◌∙◌}
use Rattle.pdl_scope.proofs.ScopeKernels.{shapes_refused}
use Rattle.pdl_scope.proofs.calling.resolved_on.Goals as goal

pub returns : goal.returns
returns c =
    shapes_refused c.args.kernel.now c.args.engine.now c.args.ids.now c.kernel_signature.result.now c.deref.result.now c.in-Err.fault c.from.result c.kernel_signature.ensures
    (c.deref.ensures.value ∙ c.in_ok-shapes.ensures) c.in-Err.ensures.resolved c.from.ensures
