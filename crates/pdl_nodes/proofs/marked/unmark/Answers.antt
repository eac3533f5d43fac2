use Rattle.std.proofs.Common.{◌∙◌, arith}
use Rattle.pdl_nodes.proofs.marked.unmark.Goals as goal
use Rattle.pdl_nodes.proofs.MarkedListing.{unmark_step, unmark_done}

pub loop-id-preserved : goal.loop-id-preserved
loop-id-preserved c = record {
  table = c.unmark_one.ensures.table;
  left = unmark_step c.args.root c.args.base c.loop-id.id-index 0 c.args.views.now _ _ (omega (arith, c.loop-id-test.true)) c.unmark_one.ensures.rows ∙ c.loop-id.invariant.left;
}

pub returns-clause-rows : goal.returns-clause-rows
returns-clause-rows c = unmark_done c.args.root c.args.base c.loop-id.id-index c.args.views.now _ (omega (arith, c.loop-id-test.false)) ∙ c.loop-id.invariant.left
