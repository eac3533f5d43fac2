-- What a fault of an evaluation isn't.
use Rattle.pdl_ops.specs.declared.OpFault.{OpFault}
use Rattle.pdl_ops.specs.declared.OpFault.TheVariants.{DivideByZero}

-- it names no divisor 0
abbrev pub NamesNoDivisor : OpFault → Type 0
NamesNoDivisor (DivideByZero place) = ⊥
NamesNoDivisor _ = Unit {0}
