use Rattle.std.proofs.Common.{◌∷◌, [], subst}
use Rattle.pdl_image.specs.Adding.{Writes}
use Rattle.pdl_image.specs.Lines.{same_line}
use Rattle.pdl_image.proofs.AddingLemmas.{writes_one}
use Rattle.pdl_image.proofs.draft.Draft.add_same.Goals as goal

pub returns : goal.returns
returns c =
    let l = same_line c.args.name.now c.args.other.now in
    rw (← c.self.view_is) (subst (λ t. Writes t c.keep_line.new.page.text (l ∷ []) c.keep_line.result) c.write_same-made.ensures.text
    (writes_one _ _ l c.keep_line.result (c.keep_line.ensures.adds l c.write_same-made.ensures.line) c.keep_line.ensures.err))
