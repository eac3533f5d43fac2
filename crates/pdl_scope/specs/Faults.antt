-- The faults of the crates below as those of a statement: what a fault names has its name in the
-- machine, and one that names nothing is `NoMemory`.
use Rattle.std.specs.Prelude.{Option, Some, None, Result, Ok, Err, option_map}
use Rattle.pdl_nodes.specs.declared.faults.ViewFault.{ViewFault}
use Rattle.pdl_nodes.specs.declared.faults.ViewFault.TheVariants as view
use Rattle.pdl_nodes.specs.declared.relaid.RelayFault.{RelayFault}
use Rattle.pdl_nodes.specs.declared.relaid.RelayFault.TheVariants as relay
use Rattle.pdl_ops.specs.declared.OpFault.{OpFault}
use Rattle.pdl_ops.specs.Answers as operator
use Rattle.pdl_reduce.specs.declared.ReduceFault.{ReduceFault}
use Rattle.pdl_reduce.specs.Answers as reduce
use Rattle.pdl_slices.specs.declared.SliceFault.{SliceFault}
use Rattle.pdl_slices.specs.declared.SliceFault.TheVariants as slice
use Rattle.pdl_sig.specs.declared.ResolveFault.{ResolveFault}
use Rattle.pdl_sig.specs.Resolution.{reason_named}
use Rattle.pdl_sig.specs.declared.SigFault.{SigFault}
use Rattle.pdl_sig.specs.declared.SigFault.TheVariants as signature
use Rattle.pdl_code.specs.declared.fault.KernelFault.{KernelFault}
use Rattle.pdl_code.specs.declared.fault.KernelFault.TheVariants as code
use Rattle.pdl_kernel.specs.declared.faults.RunFault.{RunFault}
use Rattle.pdl_kernel.specs.Call.{fault_named}
use Rattle.pdl_machine.specs.Kernels.{resolve_fault, run_fault}
use Rattle.pdl_machine.specs.Refused.{operator_fault, reduce_fault}
use Rattle.pdl_machine.specs.declared.fault.Fault.{Fault}
use Rattle.pdl_machine.specs.declared.fault.Fault.TheVariants.{BadSignature, BadKernel, BadDimension, Mismatch, OutOfRange, TooManyDims, TooLarge, TooDeep, BadSlice, ReshapeBreaks}
use Rattle.pdl_scope.specs.declared.fault.ScopeFault.{ScopeFault}
use Rattle.pdl_scope.specs.declared.fault.ScopeFault.TheVariants.{Script, NoMemory}

-- the fault of the script, or `NoMemory` where there is none
abbrev pub scope_fault : Option Fault → ScopeFault
scope_fault None = NoMemory
scope_fault (Some fault) = Script fault

-- why there is no view
abbrev pub of_view : ViewFault → ScopeFault
of_view view.BadDimension = Script BadDimension
of_view view.Mismatch = Script Mismatch
of_view view.OutOfRange = Script OutOfRange
of_view view.TooManyDims = Script TooManyDims
of_view view.TooLarge = Script TooLarge
of_view view.TooDeep = Script TooDeep
of_view view.NoMemory = NoMemory

-- why an array doesn't get other dimensions
abbrev pub of_reshape : RelayFault → ScopeFault
of_reshape relay.Breaks = Script ReshapeBreaks
of_reshape relay.NoMemory = NoMemory

-- why an operator has no values
abbrev pub of_operator : OpFault → ScopeFault
of_operator fault = scope_fault (option_map operator_fault (operator.refusal_named fault))

-- what an operator answers, with such a fault in place of its own
abbrev pub operator_named : {A : Type 0} → Result A OpFault → Result A ScopeFault
operator_named (Ok x) = Ok x
operator_named (Err fault) = Err (of_operator fault)

-- why a reduction or a product of two arrays has no result
abbrev pub of_reduce : ReduceFault → ScopeFault
of_reduce fault = scope_fault (option_map reduce_fault (reduce.refusal_named fault))

-- why a text is no slice's
abbrev pub of_slice : SliceFault → ScopeFault
of_slice (slice.BadText at) = Script BadSlice
of_slice slice.TooManyArgs = Script BadSlice
of_slice slice.NumberTooLarge = Script BadSlice
of_slice slice.ZeroStep = Script BadSlice
of_slice slice.NoMemory = NoMemory

-- why arguments don't resolve
abbrev pub of_resolve : ResolveFault → ScopeFault
of_resolve fault = scope_fault (option_map resolve_fault (reason_named fault))

-- why a kernel has no outputs
abbrev pub of_run : RunFault → ScopeFault
of_run fault = scope_fault (option_map run_fault (fault_named fault))

-- why a text is no signature
abbrev pub of_signature : SigFault → ScopeFault
of_signature signature.NoMemory = NoMemory
of_signature _ = Script BadSignature

-- why a text is no kernel's code
abbrev pub of_code : KernelFault → ScopeFault
of_code code.NoMemory = NoMemory
of_code _ = Script BadKernel
