use Rattle.std.proofs.Common.{◌∷◌, []}
use Rattle.pdl_image.specs.Lines.{chosen, undef_line, view_line}
use Rattle.pdl_image.proofs.AddingLemmas.{adds_then}
use Rattle.pdl_image.proofs.views.add_choice.Goals as goal

pub returns : goal.returns
returns c =
    let l = view_line c.args.name.now c.args.parent.now (chosen c.args.word.now c.args.by.now) in
    adds_then _ _ _ (l ∷ []) (undef_line c.args.by.now ∷ []) _ _ c.in_ok-add_chosen.ensures c.add_undef.ensures
