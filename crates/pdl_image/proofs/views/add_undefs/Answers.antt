use Rattle.pdl_image.proofs.DumpFilling.{passed_on, undef_added, undef_refused}
use Rattle.pdl_image.proofs.views.add_undefs.Goals as goal

pub returns-in_err-add_undef : goal.returns-in_err-add_undef
returns-in_err-add_undef c =
    passed_on _ _ _ c.from_residual.result c.in_err-add_undef.field-0.0 c.from_residual.ensures.1
    (undef_refused _ _ _ c.args.stem.now c.loop-k.k c.args.count _ _ c.loop-k-test.true c.array.ensures c.loop-k.invariant c.in_err-add_undef.ensures)

pub loop-k-preserved : goal.loop-k-preserved
loop-k-preserved c =
    undef_added _ _ _ c.args.stem.now c.loop-k.k _ _ c.array.ensures c.loop-k.invariant c.in_ok-add_undef.ensures
