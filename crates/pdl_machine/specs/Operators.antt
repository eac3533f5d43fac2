-- Operators over whole arrays, and what an assignment writes, with the faults
-- of scripts (PDL::Ops).
use Rattle.std.specs.Prelude.{ℤ, List, Result}
use Rattle.pdl_elem.specs.declared.BinaryOp.{BinaryOp}
use Rattle.pdl_buf.specs.declared.made.Made.{Made}
use Rattle.pdl_lexemes.specs.declared.AssignOp.{AssignOp}
use Rattle.pdl_ops.specs.Elementwise.{elementwise}
use Rattle.pdl_ops.specs.Values as ops
use Rattle.pdl_machine.specs.declared.fault.Fault.{Fault}
use Rattle.pdl_machine.specs.Refused.{operator_fault, or_named}

-- an operator of two operands, or why it has no values
abbrev pub binary_each : BinaryOp → (left right : Made) → Result Made Fault
binary_each op left right = or_named operator_fault (elementwise op left right)

-- the values that an assignment writes at the target's positions, or why there are none
abbrev pub values_for : AssignOp → (target right : Made) → Result (List ℤ) Fault
values_for sign target right = or_named operator_fault (ops.values_for sign target right)
