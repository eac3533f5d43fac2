use Rattle.std.proofs.Common.{take_all, arith}
use Rattle.pdl_image.specs.Dump.{mask_of}
use Rattle.pdl_image.proofs.DumpMasks.{mask_len}
use Rattle.pdl_image.proofs.content.Content.marked.Goals as goal

pub invariant_of-result : goal.invariant_of-result
invariant_of-result c = (omega (arith, mask_len c.args.count c.args.places.now), (omega (arith, c.requires.small), c.requires.rises))

pub returns : goal.returns
returns c = take_all c.args.count (mask_of c.args.count c.args.places.now) (omega (arith, mask_len c.args.count c.args.places.now))
