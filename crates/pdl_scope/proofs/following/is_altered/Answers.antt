use Rattle.std.proofs.Common.{◌≡◌, sym, ap, ◌∙◌}
use Rattle.std.specs.Prelude.{Option, is_some}
use Rattle.pdl_scope.specs.declared.following.Change.{Change}
use Rattle.pdl_scope.proofs.PlanAssignments.{altered_found, some_seen}
use Rattle.pdl_scope.proofs.following.is_altered.Goals as goal

pub returns : goal.returns
returns c =
    c.is_some.ensures ∙ sym (some_seen (λ d. d.now) c.find_change.result) ∙ ap (λ (o : Option Change). is_some o) c.find_change.ensures ∙ altered_found c.args.plan.now c.args.root
