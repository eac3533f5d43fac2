use Rattle.std.proofs.Common.{◌≡◌, true, sym, ◌∙◌}
use Rattle.pdl_image.specs.Stems.{is_in}
use Rattle.pdl_image.proofs.StemLemmas.{least_begins, least_goes_on}
use Rattle.pdl_image.proofs.stems.least_free.Goals as goal

pub loop-k-init : goal.loop-k-init
loop-k-init c =
    least_begins c.args.counts.now

pub loop-k-preserved : goal.loop-k-preserved
loop-k-preserved c =
    let there : is_in c.args.counts.now c.loop-k.k ≡ true = sym c.is_in.ensures ∙ c.if-not-is_in.false in
    least_goes_on c.args.counts.now _ c.loop-k.k c.loop-k.invariant c.loop-k-test.true there
