use Rattle.std.proofs.Common.{Result, subst, sym}
use Rattle.pdl_image.specs.declared.ImageFault.{ImageFault}
use Rattle.pdl_image.specs.Adding.{Writes}
use Rattle.pdl_image.specs.Dump.{view_lines}
use Rattle.pdl_image.proofs.AddingLemmas.{writes_by}
use Rattle.pdl_image.proofs.DumpFilling.{view_some}
use Rattle.pdl_image.proofs.writer.add_whole_view.Goals as goal

pub returns : goal.returns
returns c =
    let lines = view_lines c.args.name.now c.args.parent.now c.args.index.now c.args.trans.now in
    let some = view_some c.args.name.now c.args.parent.now c.args.index.now c.args.trans.now in
    subst (λ (r : Result (Unit {0}) ImageFault). Writes c.args.draft.now c.settled.new.draft lines r) (sym c.settled.ensures.result)
    (writes_by _ _ _ c.len-mark.result lines some.0 some.1.0 c.add_view-done.result some.1.1 c.add_view-done.ensures c.settled.ensures.ok c.settled.ensures.err c.len-mark.ensures.count)
