use Rattle.std.proofs.Common.{map, Vec, Global}
use Rattle.pdl_buf.specs.declared.made.Made.{Made}
use Rattle.pdl_machine.specs.Kernels.{outputs_by}
use Rattle.pdl_scope.specs.Scope.{made_in, shape_in}
use Rattle.pdl_scope.proofs.ScopeKernels.{all_given, call_refused, can_run_so, handed, live_again, resolves_to, shapes_again}
use Rattle.pdl_scope.proofs.calling.kernel_outputs.Goals as goal

pub called_on-requires-clause-live : goal.called_on-requires-clause-live
called_on-requires-clause-live g c = live_again c.args.engine.now c.ready_all.new.engine c.args.ids.now c.ready_all.ensures.same c.requires

pub called_on-requires-clause-resolved : goal.called_on-requires-clause-resolved
called_on-requires-clause-resolved g c =
    shapes_again c.args.kernel.now c.args.engine.now c.ready_all.new.engine c.args.ids.now c.in_ok-resolved.resolved c.ready_all.ensures.same
    (resolves_to c.args.kernel.now (map (shape_in c.args.engine.now) c.args.ids.now) c.in_ok-resolved.resolved c.in_ok-resolved.ensures)

pub returns-in_err-resolved-clause-value : goal.returns-in_err-resolved-clause-value
returns-in_err-resolved-clause-value g c =
    let f = c.in_err-resolved.field-0.0 in
    let given = map (made_in c.args.engine.now) c.args.ids.now in
    handed (λ (ms : Vec Made Global). ms.items) (outputs_by c.args.wanted given c.args.kernel.now) f c.from_residual.result c.from_residual.ensures.1
    (call_refused c.args.kernel.now c.args.engine.now c.args.ids.now c.args.wanted c.outputs_count.result f (rw (← c.kernel_signature.ensures) c.outputs_count.ensures) c.if-outputs_count-wanted.false c.in_err-resolved.ensures)

pub returns-clause-value : goal.returns-clause-value
returns-clause-value g c =
    all_given c.args.kernel.now c.args.wanted c.outputs_count.result c.args.engine.now c.ready_all.new.engine c.args.ids.now c.called_on.result
    (rw (← c.kernel_signature.ensures) c.outputs_count.ensures) c.if-outputs_count-wanted.false c.ready_all.ensures.same c.called_on.ensures.value

pub returns-clause-unmoved : goal.returns-clause-unmoved
returns-clause-unmoved g c = λ cannot.
    let can = can_run_so c.args.kernel.now c.args.wanted c.outputs_count.result (map (shape_in c.args.engine.now) c.args.ids.now) c.in_ok-resolved.resolved (rw (← c.kernel_signature.ensures) c.outputs_count.ensures) c.if-outputs_count-wanted.false (resolves_to c.args.kernel.now (map (shape_in c.args.engine.now) c.args.ids.now) c.in_ok-resolved.resolved c.in_ok-resolved.ensures) in
    absurd (cc)
