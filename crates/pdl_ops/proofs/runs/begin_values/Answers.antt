-- Numbers of the type are wrapped to themselves, and no divisor is 0 where nothing is divided.
use Rattle.std.proofs.Common.{◌≡◌, ℕ, ℤ, List, Ok, All, take, map, refl, ap, ap₂, sym, subst, ◌∙◌}
use Rattle.std.proofs.lemmas.Result.{IfOk-weaker}
use Rattle.pdl_elem.specs.declared.Ty.{Ty}
use Rattle.pdl_elem.specs.Blocks.{pairwise}
use Rattle.pdl_elem.specs.Numbers.{wrapped}
use Rattle.pdl_elem.specs.Operators.{value_of}
use Rattle.pdl_elem.specs.Types.{InRange}
use Rattle.pdl_numbers.specs.Typed.{TypedElements}
use Rattle.pdl_ops.specs.Elementwise.{operands_from, values_at, values_of}
use Rattle.pdl_ops.proofs.BlockLists.{wrapped_first}
use Rattle.pdl_ops.proofs.ElementwiseForms.{no_zero}
use Rattle.pdl_ops.proofs.runs.begin_values.Goals as goal

pub returns-then-goes_by_runs-clause-values : goal.returns-then-goes_by_runs-clause-values
returns-then-goes_by_runs-clause-values c =
    let ty : Ty = c.args.ty in
    let xs : List ℤ = c.args.a.now.elems in
    let ys : List ℤ = c.args.b.now.elems in
    let result : c.args.made.now.ty ≡ ty = ap (λ (p : TypedElements). p.ty) c.requires.empty ∙ c.if-goes_by_runs.ensures.result_type refl in
    let left : (k : ℕ) → map (wrapped ty) (take k xs) ≡ take k xs =
    λ k. wrapped_first c.wrapping_laws.ensures ty xs k (subst (λ (t : Ty). All (InRange t) xs) (c.if-goes_by_runs.ensures.left_type refl) c.strided_is_in_range.ensures) in
    let right : (k : ℕ) → map (wrapped ty) (take k ys) ≡ take k ys =
    λ k. wrapped_first c.wrapping_laws.ensures ty ys k (subst (λ (t : Ty). All (InRange t) ys) (c.if-goes_by_runs.ensures.right_type refl) c.strided_is_in_range-2.ensures) in
    IfOk-weaker c.put_runs.result
    (λ (k : ℕ). c.put_runs.new.made ≡ record c.args.made.now { elems = pairwise (value_of c.args.op c.args.made.now.ty) (take k xs) (take k ys) })
    (λ (k : ℕ). values_of c.args.op ty (operands_from ty 0 k xs) (operands_from ty 0 k ys) ≡ Ok c.put_runs.new.made.elems)
    (λ k is.
    ap (values_at c.args.op ty (map (wrapped ty) (take k xs)) (map (wrapped ty) (take k ys))) (no_zero c.args.op (map (wrapped ty) (take k ys)) (c.if-goes_by_runs.ensures.undivided refl))
    ∙ ap Ok (ap₂ (pairwise (value_of c.args.op ty)) (left k) (right k) ∙ ap (λ (t : Ty). pairwise (value_of c.args.op t) (take k xs) (take k ys)) (sym result) ∙ sym (ap (λ (p : TypedElements). p.elems) is)))
    c.put_runs.ensures.made
