use Rattle.std.proofs.Common.{◌++◌, ◌*◌, length-take, drop, length, map, arith, ap, ◌∙◌}
use Rattle.pdl_image.specs.declared.TheConstants.{PART}
use Rattle.pdl_image.specs.Dump.{as_listed}
use Rattle.pdl_image.specs.Lines.{more_text}
use Rattle.pdl_image.proofs.DumpParts.{text_more}
use Rattle.pdl_image.proofs.numbers.push_parts.Goals as goal

pub push_part-requires : goal.push_part-requires
push_part-requires c = omega (arith, ap length c.part.ensures, length-take PART (drop (PART * c.loop-p.p) c.args.numbers.now))

pub loop-p-preserved : goal.loop-p-preserved
loop-p-preserved c = record {
  line = text_more c.args.page.now.line c.loop-p.page.line _ c.args.numbers.now c.loop-p.p c.loop-p.invariant.line
      (c.in_ok-push_part.ensures.line ∙ ap (λ ns. c.loop-p.page.line ++ more_text (map as_listed ns)) c.part.ensures);
  text = c.in_ok-push_part.ensures.text ∙ c.loop-p.invariant.text;
}
