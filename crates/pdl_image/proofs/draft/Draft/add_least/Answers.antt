use Rattle.std.proofs.Common.{◌∷◌, [], subst}
use Rattle.pdl_image.specs.Adding.{Adds}
use Rattle.pdl_image.specs.Lines.{least_line}
use Rattle.pdl_image.proofs.draft.Draft.add_least.Goals as goal

pub returns : goal.returns
returns c =
    let l = least_line c.args.name.now c.args.position in
    rw (← c.self.view_is) (subst (λ t. Adds t c.keep_line.new.page.text (l ∷ []) c.keep_line.result) c.write_least-made.ensures.text
    (c.keep_line.ensures.adds l c.write_least-made.ensures.line))
