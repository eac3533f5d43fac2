use Rattle.std.proofs.Common.{◌∷◌, [], ◌++◌, subst}
use Rattle.pdl_image.specs.Dump.{edge_number}
use Rattle.pdl_elem.specs.declared.Ty.TheVariants.{Longlong}
use Rattle.pdl_image.specs.Adding.{Adds}
use Rattle.pdl_image.specs.Dump.{root_lines}
use Rattle.pdl_image.specs.Lines.{ranged, undef_line, view_line}
use Rattle.pdl_image.proofs.AddingLemmas.{adds_then}
use Rattle.pdl_image.proofs.views.add_range.Goals as goal

pub returns : goal.returns
returns c =
    let l = view_line c.args.name.now c.args.parent.now (ranged c.args.index.now c.args.windows.now.sizes.now (edge_number c.args.windows.now.edge)) in
    let view = l ∷ undef_line c.args.index.now ∷ [] in
    let listed = c.listed-corners in
    subst (λ ns. Adds c.args.draft.now c.add_windows.new.draft (root_lines c.args.index.now Longlong c.args.windows.now.dims.now ns ++ view) c.add_windows.result) listed.ensures
    (adds_then _ _ _ _ view _ _ c.in_ok-add_root.ensures c.add_windows.ensures)
