-- Calls: what each gives for what it sees of its arguments, or its first fault.
use Rattle.std.specs.Prelude.{ℕ, List, [], ◌∷◌, Option, Some, None, option_map, Result, Err}
use Rattle.pdl_buf.specs.declared.made.Made.{Made}
use Rattle.pdl_machine.specs.declared.fault.Fault.{Fault}
use Rattle.pdl_machine.specs.declared.fault.Fault.TheVariants.{UnknownFunction, WrongArguments}
use Rattle.pdl_machine.specs.declared.builtin.Builtin.{Builtin}
use Rattle.pdl_machine.specs.declared.builtin.Builtin.TheVariants.{Filled, Told, Dim, Slice, Nice, Arranged, Index, Where, Range, Reduced, Whole, Paired}
use Rattle.pdl_machine.specs.Builtin.{builtin_of}
use Rattle.pdl_machine.specs.Then.{and_then, or_fault}
use Rattle.pdl_machine.specs.Arrays.{Arrays}
use Rattle.pdl_machine.specs.Outcome.{Given, Seen, Outcome, Valued, all_seen, new_root, placed}
use Rattle.pdl_machine.specs.Kernels.{kernel_outputs}
use Rattle.pdl_machine.specs.Names.{KernelTexts, Names, found}
use Rattle.pdl_machine.specs.Fills.{fill_outcome}
use Rattle.pdl_machine.specs.Inquiries.{inquiry_outcome, dim_outcome}
use Rattle.pdl_machine.specs.Views.{slice_outcome, arrangement_outcome, index_outcome, where_outcome, range_outcome}
use Rattle.pdl_machine.specs.NiceCalls.{nice_outcome}
use Rattle.pdl_machine.specs.Reductions.{of_one, of_two}
use Rattle.pdl_reduce.specs.Reductions.{reduced, whole_reduced}
use Rattle.pdl_reduce.specs.Pairings.{paired}

abbrev pub outcome : Builtin → List Seen → Result Outcome Fault
outcome (Filled fill) given = fill_outcome fill given
outcome (Told inquiry) given = inquiry_outcome inquiry given
outcome Dim given = dim_outcome given
outcome Slice given = slice_outcome given
outcome Nice given = nice_outcome given
outcome (Arranged word) given = arrangement_outcome word given
outcome Index given = index_outcome given
outcome Where given = where_outcome given
outcome Range given = range_outcome given
outcome (Reduced kind) given = of_one (reduced kind) given
outcome (Whole kind) given = of_one (whole_reduced kind) given
outcome (Paired kind) given = of_two (paired kind) given

-- a built-in call's value
abbrev pub builtin_value : Builtin → Arrays → List Given → Valued
builtin_value b a given = placed a given (outcome b (all_seen a given))

-- What the name of a call stands for: a built-in call, or a kernel.
pub data Callee : Type 0 where
  builtin : Builtin → Callee
  kernel : KernelTexts → Callee

-- built-in calls come first
abbrev pub callee_among : Option Builtin → Option KernelTexts → Option Callee
callee_among (Some b) k = Some (builtin b)
callee_among None k = option_map kernel k

abbrev pub callee_of : Names → List ℕ → Result Callee Fault
callee_of names f = or_fault UnknownFunction (callee_among (builtin_of f) (found names.kernels f))

-- the only output, where one value is wanted
abbrev pub only_root : Arrays → List Made → Valued
only_root a (m ∷ []) = new_root a m
only_root a _ = Err WrongArguments

-- the outputs of the kernel of a name
abbrev pub outputs_of : Names → (name : List ℕ) → (wanted : ℕ) → List Seen →
    Result (List Made) Fault
outputs_of names f wanted given =
    and_then (or_fault UnknownFunction (found names.kernels f)) (λ k.
    kernel_outputs k wanted given)

-- the outputs of a call where not one is wanted: a built-in call has one
abbrev pub several : (wanted : ℕ) → List Seen → Callee → Result (List Made) Fault
several wanted given (builtin b) = Err WrongArguments
several wanted given (kernel k) = kernel_outputs k wanted given

-- the value of a call where one is wanted
abbrev pub value_by : Arrays → List Given → Callee → Valued
value_by a given (builtin b) = builtin_value b a given
value_by a given (kernel k) = and_then (kernel_outputs k 1 (all_seen a given)) (only_root a)

-- the call of a name with arguments
abbrev pub call_value : Names → (name : List ℕ) → Arrays → List Given → Valued
call_value names f a given = and_then (callee_of names f) (value_by a given)
