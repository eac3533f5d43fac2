use Rattle.std.proofs.Common.{◌≡◌, drop}
use Rattle.pdl_flow.specs.Inputs.{input_of}
use Rattle.pdl_flow.proofs.formula.find_input.Given as goal

-- no input before this one is the array's
abbrev pub invariant-loop-input : goal.invariant-loop-input
invariant-loop-input l = input_of l.inputs l.array ≡ input_of (drop l.input-index l.inputs) l.array
