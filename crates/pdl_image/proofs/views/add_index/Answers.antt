use Rattle.std.proofs.Common.{◌∷◌, [], ◌++◌, subst, codes}
use Rattle.pdl_elem.specs.declared.Ty.TheVariants.{Longlong}
use Rattle.pdl_image.specs.Adding.{Adds}
use Rattle.pdl_image.specs.Dump.{root_lines}
use Rattle.pdl_image.specs.Lines.{chosen, undef_line, view_line}
use Rattle.pdl_image.proofs.AddingLemmas.{adds_then}
use Rattle.pdl_image.proofs.views.add_index.Goals as goal

pub returns : goal.returns
returns c =
    let l = view_line c.args.name.now c.args.parent.now (chosen (codes "index") c.args.index.now) in
    let view = l ∷ undef_line c.args.index.now ∷ [] in
    let listed = c.listed in
    subst (λ ns. Adds c.args.draft.now c.add_choice.new.draft (root_lines c.args.index.now Longlong c.args.dims.now ns ++ view) c.add_choice.result) listed.ensures
    (adds_then _ _ _ _ view _ _ c.in_ok-add_root.ensures c.add_choice.ensures)
