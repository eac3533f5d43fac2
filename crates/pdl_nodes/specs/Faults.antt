-- Which fault names why there is no view.
use Rattle.std.specs.Prelude.{◌≡◌, Option, Some, None}
use Rattle.pdl_affine.specs.declared.PlanFault.{PlanFault}
use Rattle.pdl_affine.specs.declared.PlanFault.TheVariants as plan
use Rattle.pdl_choice.specs.declared.answers.ChoiceFault.{ChoiceFault}
use Rattle.pdl_choice.specs.declared.answers.ChoiceFault.TheVariants as choice
use Rattle.pdl_shape.specs.Refusals.{bad_dimension, mismatch, out_of_range, too_many_dims, too_large}
use Rattle.pdl_world.specs.Refused.{NoView, refused, too_deep}
use Rattle.pdl_nodes.specs.declared.faults.ViewFault.TheVariants.{BadDimension, Mismatch, OutOfRange, TooManyDims, TooLarge, TooDeep, NoMemory}
use Rattle.pdl_nodes.specs.declared.faults.ViewFault.{ViewFault}
use Rattle.pdl_nodes.specs.declared.relaid.RelayFault.{RelayFault}
use Rattle.pdl_nodes.specs.declared.relaid.RelayFault.TheVariants as relay

-- the fault of a view that has the name of a plan's, or of a choice's
abbrev pub of_plan : PlanFault → ViewFault
of_plan plan.BadDimension = BadDimension
of_plan plan.OutOfRange = OutOfRange
of_plan plan.TooManyDims = TooManyDims
of_plan plan.TooLarge = TooLarge
of_plan plan.NoMemory = NoMemory

abbrev pub of_choice : ChoiceFault → ViewFault
of_choice choice.BadDimension = BadDimension
of_choice choice.Mismatch = Mismatch
of_choice (choice.OutOfRange at) = OutOfRange
of_choice choice.TooManyDims = TooManyDims
of_choice choice.TooLarge = TooLarge
of_choice choice.NoMemory = NoMemory

-- the reason that a fault names, if it names one
abbrev pub reason_of : ViewFault → Option NoView
reason_of BadDimension = Some (refused bad_dimension)
reason_of Mismatch = Some (refused mismatch)
reason_of OutOfRange = Some (refused out_of_range)
reason_of TooManyDims = Some (refused too_many_dims)
reason_of TooLarge = Some (refused too_large)
reason_of TooDeep = Some too_deep
reason_of NoMemory = None

abbrev pub NamesReason : Option NoView → Option NoView → Type 0
NamesReason None there = Unit {0}
NamesReason (Some reason) there = there ≡ Some reason

-- the fault names why there is no view; `NoMemory` names nothing
abbrev pub Names : ViewFault → Option NoView → Type 0
Names fault there = NamesReason (reason_of fault) there

-- where a layout can't be made anew, a view breaks, or there is no memory
abbrev pub of_view : ViewFault → RelayFault
of_view BadDimension = relay.Breaks
of_view Mismatch = relay.Breaks
of_view OutOfRange = relay.Breaks
of_view TooManyDims = relay.Breaks
of_view TooLarge = relay.Breaks
of_view TooDeep = relay.Breaks
of_view NoMemory = relay.NoMemory
