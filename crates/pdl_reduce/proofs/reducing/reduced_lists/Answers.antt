-- One list more.
use Rattle.std.proofs.Common.{◌∙◌}
use Rattle.pdl_reduce.specs.Reductions.{reduced_row}
use Rattle.pdl_reduce.proofs.ReductionResults.{made_more}
use Rattle.pdl_reduce.proofs.reducing.reduced_lists.Goals as goal

pub loop-i-preserved : goal.loop-i-preserved
loop-i-preserved c = record {
  ty = c.in_ok-add_row.ensures.typed ∙ c.loop-i.invariant.ty;
  made = made_more (reduced_row c.args.kind c.args.a.now.ty) c.loop-i.i c.args.size c.args.a.now.elems c.loop-i.made.elems _ c.loop-i.invariant.made c.in_ok-add_row.ensures.value;
}
