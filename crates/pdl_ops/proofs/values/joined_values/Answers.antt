-- What is joined is the target's sizes, and 1 for each further one of the right side: the positions are the target's.
use Rattle.std.proofs.Common.{◌≡◌, ◌≤◌, ℕ, ℤ, List, length, true, arith, ap, ap₂, sym, ◌∙◌, Result, Err}
use Rattle.std.specs.Prelude.{Bool, if◌then◌else◌}
use Rattle.pdl_elem.specs.declared.Ty.{Ty}
use Rattle.pdl_shape.specs.Refusals.{mismatch, refusal_of}
use Rattle.pdl_shape.specs.Shape.{extent}
use Rattle.pdl_shape.specs.Stretched.{stretched}
use Rattle.pdl_buf.specs.Window.{Window}
use Rattle.pdl_buf.specs.Made.{array_of}
use Rattle.pdl_ops.specs.Elementwise.{OpRefusal, no_dims}
use Rattle.pdl_ops.specs.Values.{fits, new_values, values_for}
use Rattle.pdl_ops.proofs.ValueFitting.{joined_padded, joined_never, padded_stretched}
use Rattle.pdl_ops.proofs.ElementwiseResults.{answers_same, stretched_length}
use Rattle.pdl_ops.proofs.values.joined_values.Goals as goal

pub new_values-requires : goal.new_values-requires
new_values-requires c =
    let ds : List ℕ = c.args.value.now.dims in
    let ts : List ℕ = c.args.target.now.dims in
    let es : List ℤ = c.args.value.now.elems in
    let f : fits ds ts ≡ true = ap₂ fits (sym (c.dims_list.ensures.list ∙ c.strided_dims-sizes.ensures.dims)) (sym (c.dims_list-2.ensures.list ∙ c.strided_dims-wanted.ensures.dims)) ∙ sym c.fits.ensures ∙ c.if-not-fits.false in
    let h : extent ts ≤ 1048576 = omega (arith, c.dims_list-2.ensures.limits.within, ap extent c.strided_dims-wanted.ensures.dims) in
    let js : c.in-Ok.dims ≡ _ = joined_padded ds ts c.in-Ok.dims _ _ f h c.strided_dims-sizes.ensures.dims c.strided_dims-wanted.ensures.dims c.in-Ok.ensures.joined in
    let s : c.stretched.result.elems ≡ stretched ds ts es = ap (λ (w : Window). w.elems) c.stretched.ensures ∙ ap (λ (us : List ℕ). stretched ds us es) js ∙ padded_stretched ds ts es f in
    c.strided_dims-wanted.ensures.count ∙ sym (ap (λ (us : List ℤ). length us) s ∙ stretched_length ds ts es)

pub unreachable-requires : goal.unreachable-requires
unreachable-requires c =
    let ds : List ℕ = c.args.value.now.dims in
    let ts : List ℕ = c.args.target.now.dims in
    let f : fits ds ts ≡ true = ap₂ fits (sym (c.dims_list.ensures.list ∙ c.strided_dims-sizes.ensures.dims)) (sym (c.dims_list-2.ensures.list ∙ c.strided_dims-wanted.ensures.dims)) ∙ sym c.fits.ensures ∙ c.if-not-fits.false in
    let h : extent ts ≤ 1048576 = omega (arith, c.dims_list-2.ensures.limits.within, ap extent c.strided_dims-wanted.ensures.dims) in
    joined_never ds ts _ _ (refusal_of c.in-Err.field-0) f h c.strided_dims-sizes.ensures.dims c.strided_dims-wanted.ensures.dims c.in-Err.ensures.joined

pub returns-clause-value : goal.returns-clause-value
returns-clause-value c =
    let ds : List ℕ = c.args.value.now.dims in
    let ts : List ℕ = c.args.target.now.dims in
    let es : List ℤ = c.args.value.now.elems in
    let f : fits ds ts ≡ true = ap₂ fits (sym (c.dims_list.ensures.list ∙ c.strided_dims-sizes.ensures.dims)) (sym (c.dims_list-2.ensures.list ∙ c.strided_dims-wanted.ensures.dims)) ∙ sym c.fits.ensures ∙ c.if-not-fits.false in
    let h : extent ts ≤ 1048576 = omega (arith, c.dims_list-2.ensures.limits.within, ap extent c.strided_dims-wanted.ensures.dims) in
    let js : c.in-Ok.dims ≡ _ = joined_padded ds ts c.in-Ok.dims _ _ f h c.strided_dims-sizes.ensures.dims c.strided_dims-wanted.ensures.dims c.in-Ok.ensures.joined in
    let s : c.stretched.result.elems ≡ stretched ds ts es = ap (λ (w : Window). w.elems) c.stretched.ensures ∙ ap (λ (us : List ℕ). stretched ds us es) js ∙ padded_stretched ds ts es f in
    let t : c.stretched.result.ty ≡ c.args.value.now.ty = ap (λ (w : Window). w.ty) c.stretched.ensures in
    let at : Ty → List ℤ → Result (List ℤ) OpRefusal = λ ty us. new_values c.args.sign c.args.target.now.ty ty c.args.target.now.elems us in
    let e : values_for c.args.sign (array_of c.args.target.now) (array_of c.args.value.now) ≡ at c.stretched.result.ty c.stretched.result.elems =
    ap (λ (b : Bool). if b then at c.args.value.now.ty (stretched ds ts es) else Err (no_dims mismatch)) f ∙ ap₂ at (sym t) (sym s) in
    answers_same _ _ _ _ e c.new_values-in-Ok.ensures.value
