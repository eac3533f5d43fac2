use Rattle.std.proofs.Common.{◌∷◌, [], subst}
use Rattle.pdl_image.specs.Adding.{Writes}
use Rattle.pdl_image.specs.Lines.{kernel_line}
use Rattle.pdl_image.proofs.AddingLemmas.{writes_one}
use Rattle.pdl_image.proofs.draft.Draft.add_kernel.Goals as goal

pub returns : goal.returns
returns c =
    let l = kernel_line c.args.name.now c.args.signature.now c.args.code.now in
    rw (← c.self.view_is) (subst (λ t. Writes t c.keep_line.new.page.text (l ∷ []) c.keep_line.result) c.write_kernel-made.ensures.text
    (writes_one _ _ l c.keep_line.result (c.keep_line.ensures.adds l c.write_kernel-made.ensures.line) c.keep_line.ensures.err))
