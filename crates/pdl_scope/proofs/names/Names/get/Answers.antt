use Rattle.std.proofs.Common.{ap, ◌∙◌}
use Rattle.pdl_machine.specs.Names.{found}
use Rattle.pdl_scope.specs.Room.{Table}
use Rattle.pdl_scope.proofs.ScopeNames.{number_found}
use Rattle.pdl_scope.proofs.names.Names.get.Goals as goal

pub returns : goal.returns
returns c = c.copied.ensures ∙ c.get.ensures.value ∙ number_found c.self.inside.arrays.entries c.args.name.now ∙ ap (λ (t : Table). found t.entries c.args.name.now) c.self.view_is
