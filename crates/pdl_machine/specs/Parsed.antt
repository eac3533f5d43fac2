-- What the parser finds of a text's tokens, as the machine names it.
use Rattle.std.specs.Prelude.{Result, Ok, Err}
use Rattle.pdl_syntax.specs.Refusals.{NoStatement, too_deep, number_too_large, not_spelled, ragged_list}
use Rattle.pdl_syntax.specs.StatementTree.{StatementTree}
use Rattle.pdl_machine.specs.declared.fault.Fault.{Fault}
use Rattle.pdl_machine.specs.declared.fault.Fault.TheVariants.{Syntax, TooDeep, NumberTooLarge, Ragged}

-- the fault of the first check that the tokens fail
abbrev pub fault_of : NoStatement → Fault
fault_of too_deep = TooDeep
fault_of number_too_large = NumberTooLarge
fault_of not_spelled = Syntax
fault_of ragged_list = Ragged

-- the statement, or the fault of the check
abbrev pub as_read : Result StatementTree NoStatement → Result StatementTree Fault
as_read (Ok s) = Ok s
as_read (Err e) = Err (fault_of e)
