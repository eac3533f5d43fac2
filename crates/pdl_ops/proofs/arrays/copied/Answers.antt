use Rattle.std.proofs.Common.{◌≡◌, ◌∙◌, ℤ, List, ap}
use Rattle.std.proofs.lemmas.Result.{IfOk-weaker}
use Rattle.pdl_elem.specs.declared.Ty.{Ty}
use Rattle.pdl_buf.specs.Made.{array_of}
use Rattle.pdl_buf.specs.Window.{Window}
use Rattle.pdl_buf.specs.declared.made.Made.{Made}
use Rattle.pdl_ops.specs.Elementwise.{converted}
use Rattle.pdl_ops.proofs.BlockLists.{wrapped_stay}
use Rattle.pdl_ops.proofs.arrays.copied.Goals as goal

pub returns-clause-value : goal.returns-clause-value
returns-clause-value c =
    let w : Window = c.args.window.now in
    let kept : converted w.ty (array_of w) ≡ array_of w =
    ap (λ (es : List ℤ). array_of (record w { elems = es })) (wrapped_stay c.wrapping_laws.ensures w.ty w.elems c.strided_is_in_range.ensures) in
    IfOk-weaker c.convert.result (λ (m : Made). m ≡ converted c.strided_type.result (array_of w)) (λ (m : Made). m ≡ array_of w)
    (λ m is. is ∙ ap (λ (ty : Ty). converted ty (array_of w)) c.strided_type.ensures ∙ kept) c.convert.ensures.value
