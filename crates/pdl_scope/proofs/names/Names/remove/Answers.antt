use Rattle.std.proofs.Common.{ap, ◌∙◌}
use Rattle.pdl_machine.specs.Names.{found, without_name}
use Rattle.pdl_scope.specs.Room.{Table}
use Rattle.pdl_scope.proofs.ScopeNames.{number_found, name_removed}
use Rattle.pdl_scope.proofs.names.Names.remove.Goals as goal

pub returns-clause-given_up : goal.returns-clause-given_up
returns-clause-given_up c = c.shift_remove.ensures.value ∙ number_found c.self.inside.arrays.entries c.args.name.now ∙ ap (λ (t : Table). found t.entries c.args.name.now) c.self.view_is

pub returns-clause-names : goal.returns-clause-names
returns-clause-names c = c.shift_remove.ensures.entries ∙ name_removed c.self.inside.arrays.entries c.args.name.now ∙ ap (λ (t : Table). without_name t.entries c.args.name.now) c.self.view_is
