use Rattle.std.proofs.Common.{ap, ◌∙◌}
use Rattle.pdl_machine.specs.Names.{found}
use Rattle.pdl_scope.proofs.ScopeNames.{number_found}
use Rattle.pdl_scope.proofs.kernels.Kernels.get.Goals as goal

pub returns : goal.returns
returns c = c.get.ensures.value ∙ number_found c.self.inside.kernels.entries c.args.name.now ∙ ap (λ b. found b c.args.name.now) c.self.view_is
