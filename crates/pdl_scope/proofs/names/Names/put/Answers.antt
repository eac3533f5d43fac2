use Rattle.std.proofs.Common.{ap, ◌∙◌}
use Rattle.pdl_machine.specs.Names.{found, with_name}
use Rattle.pdl_scope.specs.Room.{Table}
use Rattle.pdl_scope.proofs.ScopeNames.{number_found, name_inserted}
use Rattle.pdl_scope.proofs.names.Names.put.Goals as goal

pub returns-clause-given_up : goal.returns-clause-given_up
returns-clause-given_up c = c.in-Ok.ensures.old ∙ number_found c.self.inside.arrays.entries c.args.name ∙ ap (λ (t : Table). found t.entries c.args.name) c.self.view_is

pub returns-clause-names : goal.returns-clause-names
returns-clause-names c = c.in-Ok.ensures.entries ∙ name_inserted c.self.inside.arrays.entries c.args.name c.args.id ∙ ap (λ (t : Table). with_name t.entries c.args.name c.args.id) c.self.view_is
