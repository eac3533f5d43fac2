use Rattle.std.proofs.Common.{◌∷◌, [], subst}
use Rattle.pdl_image.specs.Adding.{Adds}
use Rattle.pdl_image.specs.Dump.{edge_number}
use Rattle.pdl_image.specs.Lines.{ranged, view_line}
use Rattle.pdl_image.proofs.draft.Draft.add_ranged.Goals as goal

pub returns : goal.returns
returns c =
    let l = view_line c.args.name.now c.args.parent.now (ranged c.args.index.now c.args.sizes.now (edge_number c.args.edge)) in
    rw (← c.self.view_is) (subst (λ t. Adds t c.keep_line.new.page.text (l ∷ []) c.keep_line.result) c.write_ranged-made.ensures.text
    (c.keep_line.ensures.adds l c.write_ranged-made.ensures.line))
