use Rattle.std.proofs.Common.{length, ap, ◌∙◌}
use Rattle.std.specs.Option.{option_copied}
use Rattle.pdl_machine.specs.Names.{found, kernels_limit}
use Rattle.pdl_scope.proofs.ScopeNames.{number_found, full_told, some_copied}
use Rattle.pdl_scope.proofs.kernels.Kernels.is_full_for.Goals as goal

pub returns-then-len-ge-MOST_KERNELS : goal.returns-then-len-ge-MOST_KERNELS
returns-then-len-ge-MOST_KERNELS c =
    full_told kernels_limit c.args.self.now c.args.name.now c.len.result (option_copied c.get.result) c.is_none.result
    (c.len.ensures.len ∙ ap length c.self.view_is)
    (c.get.ensures.value ∙ number_found c.self.inside.kernels.entries c.args.name.now ∙ ap (λ b. found b c.args.name.now) c.self.view_is)
    (some_copied c.get.result ∙ c.is_none.ensures) c.if-len-ge-MOST_KERNELS.true
