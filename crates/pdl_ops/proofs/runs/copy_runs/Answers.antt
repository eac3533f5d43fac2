-- One run more is copied.
use Rattle.std.proofs.Common.{◌≡◌, ℕ, ℤ, List, ◌++◌, length, length-drop, take, drop, arith, ap, ap₂, sym, ◌∙◌}
use Rattle.std.proofs.Math.ListN.{length-take}
use Rattle.std.proofs.Math.Seq.{take-add}
use Rattle.pdl_numbers.specs.Typed.{TypedElements}
use Rattle.pdl_shape.specs.Shape.{size_of}
use Rattle.pdl_ops.proofs.runs.copy_runs.Goals as goal

pub loop-done-preserved : goal.loop-done-preserved
loop-done-preserved c =
    let es : List ℤ = c.args.a.now.elems in
    let k : ℕ = c.loop-done.done in
    let n : ℕ = c.len-done.result in
    let rs : List ℤ = c.strided_run-run.result.elems in
    let shown : rs ≡ take (length rs) (drop k es) = c.strided_run-run.ensures.shown in
    let count : n ≡ length rs = c.len-done.ensures in
    let put = c.in_ok-extend_run.ensures.ok in
    record {
      inside = omega (arith, count, ap (λ (zs : List ℤ). length zs) shown, length-take (length rs) (drop k es), length-drop k es, c.loop-done.invariant.inside, c.elements_of-count.ensures.count, c.strided_dims.ensures.count, ap size_of c.strided_dims.ensures.dims);
      ty = ap (λ (p : TypedElements). p.ty) put ∙ c.loop-done.invariant.ty;
      made = ap (λ (p : TypedElements). p.elems) put ∙ ap₂ (λ (us vs : List ℤ). us ++ vs) c.loop-done.invariant.made (shown ∙ ap (λ (m : ℕ). take m (drop k es)) (sym count)) ∙ sym (take-add k n es);
    }
