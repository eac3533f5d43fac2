use Rattle.std.proofs.Common.{◌∷◌, [], subst}
use Rattle.pdl_image.specs.Adding.{Adds}
use Rattle.pdl_image.specs.Dump.{affine_call}
use Rattle.pdl_image.specs.Lines.{view_line}
use Rattle.pdl_image.proofs.draft.Draft.add_affine.Goals as goal

pub returns : goal.returns
returns c =
    let l = view_line c.args.name.now c.args.parent.now (affine_call c.args.affine.now) in
    rw (← c.self.view_is) (subst (λ t. Adds t c.keep_line.new.page.text (l ∷ []) c.keep_line.result) c.write_affine-made.ensures.text
    (c.keep_line.ensures.adds l c.write_affine-made.ensures.line))
