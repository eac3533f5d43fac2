use Rattle.pdl_scope.proofs.StepPrinting.{lines_more}
use Rattle.pdl_scope.proofs.scope.Scope.print_names.Goals as goal

pub loop-index-preserved : goal.loop-index-preserved
loop-index-preserved c =
    lines_more c.args.self.now.arrays c.args.self.now.names.arrays c.loop-index.index c.entry-id.result.0.now c.entry-id.result.1 c.args.out.now.items c.loop-index.out.items c.print_name.new.out.items
    c.entry-id.ensures.entry c.loop-index.invariant c.in_ok-print_name.ensures.text
