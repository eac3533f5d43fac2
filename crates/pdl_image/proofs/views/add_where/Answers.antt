use Rattle.std.proofs.Common.{ℕ, ◌∷◌, [], ◌++◌, codes, ap, subst, ◌∙◌}
use Rattle.pdl_elem.specs.declared.Ty.TheVariants.{Byte}
use Rattle.pdl_shape.specs.Shape.{size_of}
use Rattle.pdl_image.specs.Adding.{Adds}
use Rattle.pdl_image.specs.Dump.{mask_of, root_lines}
use Rattle.pdl_image.specs.Lines.{chosen, undef_line, view_line}
use Rattle.pdl_image.proofs.AddingLemmas.{adds_then}
use Rattle.pdl_image.proofs.DumpMasks.{non_decreasing}
use Rattle.pdl_image.proofs.views.add_where.Goals as goal

pub marked-mask-requires-clause-rises : goal.marked-mask-requires-clause-rises
marked-mask-requires-clause-rises c = non_decreasing 0 (size_of c.args.dims.now) c.args.places.now c.requires

pub returns : goal.returns
returns c =
    let l = view_line c.args.name.now c.args.parent.now (chosen (codes "where") c.args.index.now) in
    let view = l ∷ undef_line c.args.index.now ∷ [] in
    let mask = c.marked-mask.ensures ∙ ap (λ (n : ℕ). mask_of n c.args.places.now) c.elements_of.ensures.count in
    subst (λ ns. Adds c.args.draft.now c.add_choice.new.draft (root_lines c.args.index.now Byte c.args.dims.now ns ++ view) c.add_choice.result) mask
    (adds_then _ _ _ _ view _ _ c.in_ok-add_root.ensures c.add_choice.ensures)
