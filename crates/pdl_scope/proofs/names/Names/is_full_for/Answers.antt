use Rattle.std.proofs.Common.{length, ap, ◌∙◌}
use Rattle.std.specs.Option.{option_copied}
use Rattle.pdl_machine.specs.Names.{found, names_limit}
use Rattle.pdl_scope.specs.Room.{Table}
use Rattle.pdl_scope.proofs.ScopeNames.{number_found, full_told, some_copied}
use Rattle.pdl_scope.proofs.names.Names.is_full_for.Goals as goal

pub returns-then-len-ge-MOST_NAMES : goal.returns-then-len-ge-MOST_NAMES
returns-then-len-ge-MOST_NAMES c =
    full_told names_limit c.args.self.now.entries c.args.name.now c.len.result (option_copied c.get.result) c.is_none.result
    (c.len.ensures.len ∙ ap (λ (t : Table). length t.entries) c.self.view_is)
    (c.get.ensures.value ∙ number_found c.self.inside.arrays.entries c.args.name.now ∙ ap (λ (t : Table). found t.entries c.args.name.now) c.self.view_is)
    (some_copied c.get.result ∙ c.is_none.ensures) c.if-len-ge-MOST_NAMES.true
