-- A right side of no more dimensions is stretched to the target's.
use Rattle.std.proofs.Common.{◌≡◌, ℕ, ℤ, List, length, true, ap, ap₂, sym, ◌∙◌, Result, Err}
use Rattle.std.specs.Prelude.{Bool, if◌then◌else◌}
use Rattle.std.specs.Cmp.Lexicographic.{same_text}
use Rattle.pdl_elem.specs.declared.Ty.{Ty}
use Rattle.pdl_shape.specs.Refusals.{mismatch}
use Rattle.pdl_shape.specs.Shape.{size_of}
use Rattle.pdl_shape.specs.Stretched.{stretched}
use Rattle.pdl_buf.specs.Window.{Window}
use Rattle.pdl_buf.specs.Made.{array_of}
use Rattle.pdl_ops.specs.Elementwise.{OpRefusal, no_dims}
use Rattle.pdl_ops.specs.Values.{fits, new_values, values_for}
use Rattle.pdl_ops.proofs.ElementwiseResults.{answers_same, stretched_length, values_alike}
use Rattle.pdl_ops.proofs.values.values_for.Goals as goal

pub new_values-requires-2 : goal.new_values-requires-2
new_values-requires-2 c =
    let ds : List ℕ = c.args.value.now.dims in
    let ts : List ℕ = c.args.target.now.dims in
    let es : List ℤ = c.args.value.now.elems in
    let s : c.stretched.result.elems ≡ stretched ds ts es = ap (λ (w : Window). w.elems) c.stretched.ensures ∙ ap (λ (us : List ℕ). stretched ds us es) c.strided_dims-wanted.ensures.dims in
    c.strided_dims-wanted.ensures.count ∙ sym (ap (λ (us : List ℤ). length us) s ∙ stretched_length ds ts es)

pub returns-clause-value : goal.returns-clause-value
returns-clause-value c =
    let ds : List ℕ = c.args.value.now.dims in
    let ts : List ℕ = c.args.target.now.dims in
    let es : List ℤ = c.args.value.now.elems in
    let f : fits ds ts ≡ true = ap₂ fits (sym c.strided_dims-sizes.ensures.dims) (sym c.strided_dims-wanted.ensures.dims) ∙ sym c.stretches.ensures.fits ∙ c.if-not-stretches.false in
    let s : c.stretched.result.elems ≡ stretched ds ts es = ap (λ (w : Window). w.elems) c.stretched.ensures ∙ ap (λ (us : List ℕ). stretched ds us es) c.strided_dims-wanted.ensures.dims in
    let t : c.stretched.result.ty ≡ c.args.value.now.ty = ap (λ (w : Window). w.ty) c.stretched.ensures in
    let at : Ty → List ℤ → Result (List ℤ) OpRefusal = λ ty us. new_values c.args.sign c.args.target.now.ty ty c.args.target.now.elems us in
    let e : values_for c.args.sign (array_of c.args.target.now) (array_of c.args.value.now) ≡ at c.stretched.result.ty c.stretched.result.elems =
    ap (λ (b : Bool). if b then at c.args.value.now.ty (stretched ds ts es) else Err (no_dims mismatch)) f ∙ ap₂ at (sym t) (sym s) in
    answers_same _ _ _ _ e c.new_values-3.ensures.value

-- sizes that are the target's fit it, and nothing is stretched
pub new_values-requires : goal.new_values-requires
new_values-requires c =
    let e : c.args.value.now.dims ≡ c.args.target.now.dims = sym (c.dims_list.ensures.list ∙ c.strided_dims-sizes.ensures.dims) ∙ same_text _ _ (sym c.if-eq.true ∙ c.eq.ensures) ∙ c.dims_list-2.ensures.list ∙ c.strided_dims-wanted.ensures.dims in
    c.strided_dims-wanted.ensures.count ∙ sym (ap size_of e) ∙ sym c.strided_dims-sizes.ensures.count

pub returns-then-eq-clause-value : goal.returns-then-eq-clause-value
returns-then-eq-clause-value c =
    let ds : List ℕ = c.args.value.now.dims in
    let ts : List ℕ = c.args.target.now.dims in
    let es : List ℤ = c.args.value.now.elems in
    let e : ds ≡ ts = sym (c.dims_list.ensures.list ∙ c.strided_dims-sizes.ensures.dims) ∙ same_text _ _ (sym c.if-eq.true ∙ c.eq.ensures) ∙ c.dims_list-2.ensures.list ∙ c.strided_dims-wanted.ensures.dims in
    answers_same _ _ _ _ (values_alike c.shape_laws.ensures.positions c.args.sign c.args.target.now c.args.value.now e c.strided_dims-sizes.ensures.count) c.new_values.ensures.value
