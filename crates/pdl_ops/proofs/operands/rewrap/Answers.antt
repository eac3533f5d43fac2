-- Numbers of the type itself stay.
use Rattle.std.proofs.Common.{rules, ◌≡◌, sym, subst, All}
use Rattle.pdl_elem.specs.declared.Ty.{Ty}
use Rattle.pdl_elem.specs.Types.{InRange}
use Rattle.pdl_ops.proofs.BlockLists.{wrapped_stay}
use Rattle.pdl_ops.proofs.operands.rewrap.Goals as goal

pub returns-else-ne-clause-value : goal.returns-else-ne-clause-value
returns-else-ne-clause-value c =
    let same : c.args.from ≡ c.args.to = search rules in
    sym (wrapped_stay c.wrapping_laws.ensures c.args.to c.args.numbers.now (subst (λ (t : Ty). All (InRange t) c.args.numbers.now) same c.requires))
