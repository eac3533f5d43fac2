use Rattle.std.proofs.Common.{◌∷◌, []}
use Rattle.pdl_image.specs.Dump.{edge_number}
use Rattle.pdl_image.specs.Lines.{ranged, undef_line, view_line}
use Rattle.pdl_image.proofs.AddingLemmas.{adds_then}
use Rattle.pdl_image.proofs.views.add_windows.Goals as goal

pub returns : goal.returns
returns c =
    let l = view_line c.args.name.now c.args.parent.now (ranged c.args.index.now c.args.windows.now.sizes.now (edge_number c.args.windows.now.edge)) in
    adds_then _ _ _ (l ∷ []) (undef_line c.args.index.now ∷ []) _ _ c.in_ok-add_ranged.ensures c.add_undef.ensures
