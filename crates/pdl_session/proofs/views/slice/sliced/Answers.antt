use Rattle.std.proofs.Common.{Ok, ap}
use Rattle.pdl_machine.specs.Views.{slice_by}
use Rattle.pdl_session.specs.Arguments.{outcome_of}
use Rattle.pdl_scope.specs.Faults.{of_slice}
use Rattle.pdl_session.proofs.ScopeFacts.{handed_on}
use Rattle.pdl_session.proofs.RefusalSlices.{by_reading, slice_refused, steps_read}
use Rattle.pdl_session.proofs.views.slice.sliced.Goals as goal

pub returns-in_err-args-clause-value : goal.returns-in_err-args-clause-value
returns-in_err-args-clause-value c =
    let text = c.args.text.now in
    let fault = c.in_err-args.field-0.0 in
    handed_on outcome_of (slice_by text) (of_slice fault) c.from_residual.result c.from_residual.ensures.1
    (slice_refused text fault (c.slice_meaning.ensures text) c.in_err-args.ensures.refused)

pub returns-clause-value : goal.returns-clause-value
returns-clause-value c = ap by_reading ((c.slice_meaning.ensures c.args.text.now (Ok c.in_ok-args.args)).1 c.in_ok-args.ensures.read)

pub returns-clause-made : goal.returns-clause-made
returns-clause-made c = steps_read c.in_ok-args.args c.in_ok-args.ensures.read.allowed
