-- Numbers of the type stay as they are.
use Rattle.std.proofs.Common.{rules, ◌≡◌, ℤ, List, map, All, ap, subst, ◌∙◌}
use Rattle.pdl_elem.specs.declared.Ty.{Ty}
use Rattle.pdl_elem.specs.Numbers.{wrapped}
use Rattle.pdl_elem.specs.Types.{InRange}
use Rattle.pdl_reduce.proofs.FoldNumbers.{wrapped_same}
use Rattle.pdl_reduce.proofs.sums.read_wrapped.Goals as goal

pub returns-else-ne : goal.returns-else-ne
returns-else-ne c =
    let xs : List ℤ = c.strided_read.new.into in
    let e : c.args.from.now.ty ≡ c.args.ty = search rules in
    let all : All (InRange c.args.ty) xs = subst (λ (t : Ty). All (InRange t) xs) e c.strided_read.ensures.in_range in
    wrapped_same c.wrapping_laws.ensures c.args.ty xs all ∙ ap (λ (zs : List ℤ). map (wrapped c.args.ty) zs) c.strided_read.ensures.value
