use Rattle.std.proofs.Common.{ap, ◌∙◌}
use Rattle.pdl_machine.specs.Names.{found, with_name}
use Rattle.pdl_scope.specs.Room.{Table}
use Rattle.pdl_scope.proofs.ScopeNames.{name_set, none_told, number_found}
use Rattle.pdl_scope.proofs.names.Names.rebind.Goals as goal

pub returns-in-None-clause-given_up : goal.returns-in-None-clause-given_up
returns-in-None-clause-given_up c = none_told _ c.in-None.ensures.found ∙ number_found c.self.inside.arrays.entries c.args.name.now ∙ ap (λ (t : Table). found t.entries c.args.name.now) c.self.view_is

pub returns-clause-given_up : goal.returns-clause-given_up
returns-clause-given_up c = c.in-Some-get_index_mut.ensures.value ∙ c.in-Some.ensures.value ∙ number_found c.self.inside.arrays.entries c.args.name.now ∙ ap (λ (t : Table). found t.entries c.args.name.now) c.self.view_is

pub returns-clause-known : goal.returns-clause-known
returns-clause-known c =
    name_set c.self.inside.arrays.entries c.args.name.now c.in-Some.index c.args.id c.in-Some.ensures.index ∙ ap (λ (t : Table). with_name t.entries c.args.name.now c.args.id) c.self.view_is
