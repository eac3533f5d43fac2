use Rattle.std.proofs.Common.{nat_eq, refl, ap, ◌∙◌}
use Rattle.std.specs.Cmp.Lexicographic.{pointwise}
use Rattle.indexmap.specs.IndexMap.{insert_entry}
use Rattle.pdl_machine.specs.declared.fault.Fault.TheVariants.{TooManyKernels}
use Rattle.pdl_machine.specs.Names.{kernels_limit}
use Rattle.pdl_scope.proofs.ScopeNames.{bind_free}
use Rattle.pdl_scope.proofs.kernels.Kernels.define.Goals as goal

pub returns-in-Ok-clause-ok : goal.returns-in-Ok-clause-ok
returns-in-Ok-clause-ok c =
    bind_free kernels_limit TooManyKernels c.args.self.now c.insert.new.self.entries c.args.name c.args.name c.args.kernel c.is_full_for.result c.is_full_for.ensures c.if-is_full_for.false refl
    (c.in-Ok.ensures.entries ∙ ap (λ z. insert_entry (pointwise nat_eq) z c.args.name c.args.kernel) c.self.view_is)
