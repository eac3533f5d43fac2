use Rattle.std.proofs.Common.{◌≡◌, sym, ◌∙◌, ap₂}
use Rattle.pdl_ops.specs.Values.{fits}
use Rattle.pdl_ops.proofs.ValueCuts.{fits_stretch}
use Rattle.pdl_ops.proofs.in_parts.stretches.Goals as goal

pub returns-clause-stretches : goal.returns-clause-stretches
returns-clause-stretches c = λ e.
    let same : c.fits.result ≡ fits c.args.source.now c.args.target.now = c.fits.ensures ∙ ap₂ fits c.dims_list.ensures.list c.dims_list-2.ensures.list in
    fits_stretch c.args.source.now c.args.target.now c.requires (sym same ∙ e)
