use Rattle.std.proofs.Common.{◌∙◌}
use Rattle.pdl_image.proofs.DumpFilling.{arg_more}
use Rattle.pdl_image.proofs.numbers.push_more_args.Goals as goal

pub loop-arg-preserved : goal.loop-arg-preserved
loop-arg-preserved c = record {
  line = arg_more c.args.page.now.line c.loop-arg.page.line _ _ c.args.args.now c.loop-arg.arg-index _ c.loop-arg-test.true c.loop-arg.invariant.line c.in_ok-push.ensures.line c.in_ok-push_arg.ensures.line;
  text = c.in_ok-push_arg.ensures.text ∙ c.in_ok-push.ensures.text ∙ c.loop-arg.invariant.text;
}
