-- Operands of the same dimensions join to these, and are stretched to themselves.
use Rattle.std.proofs.Common.{◌≡◌, ◌≤◌, ℕ, List, ap₂, sym, subst, ◌∙◌}
use Rattle.std.specs.Cmp.Lexicographic.{same_text}
use Rattle.pdl_shape.specs.Joined.{joined_dims}
use Rattle.pdl_shape.specs.Shape.{extent}
use Rattle.pdl_ops.proofs.ElementwiseResults.{answers_same, elementwise_alike, elementwise_joined, joined_ok}
use Rattle.pdl_ops.proofs.arrays.elementwise.Goals as goal

pub returns-then-eq-clause-value : goal.returns-then-eq-clause-value
returns-then-eq-clause-value c =
    let a = c.args.a.now in
    let b = c.args.b.now in
    let e : a.dims ≡ b.dims = sym (c.dims_list.ensures.list ∙ c.strided_dims-left.ensures.dims) ∙ same_text _ _ (sym c.if-eq.true ∙ c.eq.ensures) ∙ c.dims_list-2.ensures.list ∙ c.strided_dims-right.ensures.dims in
    let h : extent b.dims ≤ 1048576 = subst (λ (ds : List ℕ). extent ds ≤ 1048576) c.strided_dims-right.ensures.dims c.dims_list-2.ensures.limits.within in
    answers_same _ _ _ _ (elementwise_alike c.shape_laws.ensures.positions c.args.op a b e c.strided_dims-left.ensures.count c.strided_dims-right.ensures.count h) c.of_alike.ensures.value

pub returns-clause-value : goal.returns-clause-value
returns-clause-value c =
    let j = ap₂ joined_dims (sym c.strided_dims-left.ensures.dims) (sym c.strided_dims-right.ensures.dims) ∙ joined_ok _ _ c.in_ok-dims.ensures.value in
    answers_same _ _ _ _ (elementwise_joined c.args.op c.args.a.now c.args.b.now c.stretched.result c.stretched-2.result c.in_ok-dims.dims j c.stretched.ensures c.stretched-2.ensures) c.of_alike-4.ensures.value
