-- The values on one run more are put.
use Rattle.std.proofs.Common.{◌++◌, ℤ, List, take, drop, arith, ap, ◌∙◌}
use Rattle.pdl_elem.specs.declared.Ty.{Ty}
use Rattle.pdl_elem.specs.Blocks.{pairwise}
use Rattle.pdl_elem.specs.Operators.{value_of}
use Rattle.pdl_numbers.specs.Typed.{TypedElements}
use Rattle.pdl_shape.specs.Shape.{size_of}
use Rattle.pdl_ops.proofs.ElementwiseParts.{values_more}
use Rattle.pdl_ops.proofs.runs.put_runs.Goals as goal

pub loop-done-preserved : goal.loop-done-preserved
loop-done-preserved c =
    let xs : List ℤ = c.args.a.now.elems in
    let ys : List ℤ = c.args.b.now.elems in
    let us : List ℤ = take c.in_ok-size.size (drop c.loop-done.done xs) in
    let vs : List ℤ = take c.in_ok-size.size (drop c.loop-done.done ys) in
    let put = c.in_ok-size.ensures.made in
    record {
      inside = omega (arith, c.in_ok-size.ensures.within, c.elements_of-count.ensures.count, c.strided_dims.ensures.count, ap size_of c.strided_dims.ensures.dims);
      ty = ap (λ (p : TypedElements). p.ty) put ∙ c.loop-done.invariant.ty;
      made = values_more (value_of c.args.op c.args.made.now.ty) xs ys c.loop-done.made.elems _ c.loop-done.done c.in_ok-size.size c.requires.paired
          (omega (arith, c.loop-done.invariant.inside, c.elements_of-count.ensures.count, c.strided_dims.ensures.count, ap size_of c.strided_dims.ensures.dims)) c.loop-done.invariant.made
          (ap (λ (p : TypedElements). p.elems) put ∙ ap (λ (ty : Ty). c.loop-done.made.elems ++ pairwise (value_of c.args.op ty) us vs) c.loop-done.invariant.ty);
    }
