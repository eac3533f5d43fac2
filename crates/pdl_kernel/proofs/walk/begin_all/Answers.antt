use Rattle.std.proofs.Common.{rules, ap, ◌∙◌}
use Rattle.pdl_kernel.specs.Places.{begun_at}
use Rattle.pdl_kernel.proofs.Mapping.{mapped_more}
use Rattle.pdl_kernel.proofs.walk.begin_all.Goals as goal

pub loop-i-preserved : goal.loop-i-preserved
loop-i-preserved c =
    let b = c.index_mut-argument.result.now in
    let f = begun_at c.args.coordinates.now in
    mapped_more f c.loop-i.arguments.items c.args.arguments.now.items c.loop-i.i b c.begin_at.new.self (search rules) c.loop-i.invariant (c.begin_at.ensures ∙ ap f c.index_mut-argument.ensures.value)
