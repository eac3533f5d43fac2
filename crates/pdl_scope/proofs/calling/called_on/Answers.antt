use Rattle.std.proofs.Common.{map, refl, ap, sym, ◌∙◌}
use Rattle.pdl_kernel.specs.Runs.{Run}
use Rattle.pdl_scope.specs.Scope.{made_in, shape_in}
use Rattle.pdl_scope.proofs.ScopeKernels.{call_done, call_faulted}
use Rattle.pdl_scope.proofs.calling.called_on.Goals as goal

pub begin-requires : goal.begin-requires
begin-requires c = record { shapes = map (shape_in c.args.engine.now) c.args.ids.now; resolves = c.requires.resolved }

pub returns-in-Ok-clause-value : goal.returns-in-Ok-clause-value
returns-in-Ok-clause-value c =
    call_done c.args.kernel.now c.args.engine.now c.args.ids.now c.args.resolved c.give_all.new.run c.in-Ok.outputs.items
    (record {
      signature = c.args.kernel.now.signature;
      shapes = map (shape_in c.args.engine.now) c.args.ids.now;
      same = refl;
      seen = refl;
      resolves = c.requires.resolved;
      run_is = c.in_ok-give_all.ensures ∙ ap (λ (r : Run). record r { given = map (made_in c.args.engine.now) c.args.ids.now }) c.in_ok-run.ensures;
    }) c.in-Ok.ensures.outputs

pub returns-in-Err-clause-value : goal.returns-in-Err-clause-value
returns-in-Err-clause-value c =
    call_faulted c.args.kernel.now c.args.engine.now c.args.ids.now c.args.resolved c.give_all.new.run c.in-Err.fault c.from.result
    (record {
      signature = c.args.kernel.now.signature;
      shapes = map (shape_in c.args.engine.now) c.args.ids.now;
      same = refl;
      seen = refl;
      resolves = c.requires.resolved;
      run_is = c.in_ok-give_all.ensures ∙ ap (λ (r : Run). record r { given = map (made_in c.args.engine.now) c.args.ids.now }) c.in_ok-run.ensures;
    }) c.in-Err.ensures.outputs c.from.ensures
