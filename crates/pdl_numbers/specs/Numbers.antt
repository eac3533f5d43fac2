-- What packed numbers are: their type, and the list of them.
use Rattle.pdl_elem.specs.declared.Ty.TheVariants.{Sbyte, Byte, Short, Ushort, Long, Ulong, Longlong}
use Rattle.pdl_numbers.specs.declared.numbers.Numbers.{Numbers}
use Rattle.pdl_numbers.specs.declared.numbers.Numbers.TheVariants as packed
use Rattle.pdl_numbers.specs.Typed.{TypedElements}

abbrev pub elements_in : Numbers → TypedElements
elements_in (packed.Sbytes es) = record { ty = Sbyte; elems = es }
elements_in (packed.Bytes es) = record { ty = Byte; elems = es }
elements_in (packed.Shorts es) = record { ty = Short; elems = es }
elements_in (packed.Ushorts es) = record { ty = Ushort; elems = es }
elements_in (packed.Longs es) = record { ty = Long; elems = es }
elements_in (packed.Ulongs es) = record { ty = Ulong; elems = es }
elements_in (packed.Longlongs es) = record { ty = Longlong; elems = es }
