use Rattle.std.proofs.Common.{Err, ap, ◌∙◌}
use Rattle.std.specs.Prelude.{List, ℕ, Result}
use Rattle.pdl_shape.specs.declared.sizes.ShapeFault.{ShapeFault}
use Rattle.pdl_shape.specs.Refusals.{named, refusal_of}
use Rattle.pdl_machine.specs.declared.fault.Fault.{Fault}
use Rattle.pdl_machine.specs.Refused.{shape_fault, or_named}
use Rattle.pdl_session.proofs.SizeClamps.{dims_found, dims_refused}
use Rattle.pdl_session.proofs.dims.dims_for.Goals as goal

abbrev seen : Result (List ℕ) ShapeFault → Result (List ℕ) Fault
seen r = or_named shape_fault (named refusal_of r)

pub returns-in-Err : goal.returns-in-Err
returns-in-Err c = dims_refused c.shape_laws.ensures.sizes.extent_above c.args.numbers.now c.in-Err.fault c.in-Err.ensures

pub returns-in-Ok-dims_of : goal.returns-in-Ok-dims_of
returns-in-Ok-dims_of c =
    dims_found c.shape_laws.ensures.sizes.extent_above c.args.numbers.now c.in-Ok.sizes.items c.deref.result.now (named refusal_of c.dims_of.result) c.in-Ok.ensures c.deref.ensures.value c.dims_of.ensures ∙ ap seen c.in-Ok-dims_of.is

pub returns-in-Err-TooManyDims : goal.returns-in-Err-TooManyDims
returns-in-Err-TooManyDims c =
    dims_found c.shape_laws.ensures.sizes.extent_above c.args.numbers.now c.in-Ok.sizes.items c.deref.result.now (named refusal_of c.dims_of.result) c.in-Ok.ensures c.deref.ensures.value c.dims_of.ensures
    ∙ ap seen (c.in-Err-TooManyDims.is ∙ ap Err c.in-Err-TooManyDims.field-0-is)

pub returns : goal.returns
returns c =
    dims_found c.shape_laws.ensures.sizes.extent_above c.args.numbers.now c.in-Ok.sizes.items c.deref.result.now (named refusal_of c.dims_of.result) c.in-Ok.ensures c.deref.ensures.value c.dims_of.ensures
    ∙ ap seen (c.in-Err-TooLarge.is ∙ ap Err c.in-Err-TooLarge.field-0-is)
