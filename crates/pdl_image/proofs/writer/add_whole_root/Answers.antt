use Rattle.std.proofs.Common.{Result, ap, refl, subst, sym, ◌∙◌}
use Rattle.pdl_image.specs.declared.ImageFault.{ImageFault}
use Rattle.pdl_image.specs.Adding.{Adds, Writes}
use Rattle.pdl_image.specs.Dump.{root_lines}
use Rattle.pdl_image.proofs.AddingLemmas.{writes_by}
use Rattle.pdl_image.proofs.writer.add_whole_root.Goals as goal

pub returns : goal.returns
returns c =
    let name = c.args.name.now in
    let window = c.args.elems.now in
    let lines = root_lines name window.ty window.dims window.elems in
    let is =
    ap (λ ty. root_lines name ty c.strided_dims.result.now c.shown-numbers.result) c.strided_type.ensures
    ∙ ap (λ dims. root_lines name window.ty dims c.shown-numbers.result) c.strided_dims.ensures.dims
    ∙ ap (root_lines name window.ty window.dims) c.shown-numbers.ensures in
    let added = subst (λ ls. Adds c.args.draft.now c.add_root-done.new.draft ls c.add_root-done.result) is c.add_root-done.ensures in
    subst (λ (r : Result (Unit {0}) ImageFault). Writes c.args.draft.now c.settled.new.draft lines r) (sym c.settled.ensures.result)
    (writes_by _ _ _ c.len-mark.result lines _ _ c.add_root-done.result refl added c.settled.ensures.ok c.settled.ensures.err c.len-mark.ensures.count)
