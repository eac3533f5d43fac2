-- The elements of an array: a list of numbers, or numbers that are packed.
use Rattle.std.specs.Prelude.{◌≡◌, ℤ, List, All}
use Rattle.pdl_elem.specs.declared.Ty.{Ty}
use Rattle.pdl_elem.specs.Types.{InRange}
use Rattle.pdl_buf.specs.declared.packing.Form.{Form}
use Rattle.pdl_buf.specs.declared.packing.Form.TheVariants.{Wide, Packed}
use Rattle.pdl_numbers.specs.Numbers.{elements_in}

abbrev pub listed : Form → List ℤ
listed (Wide es) = es.items
listed (Packed ns) = (elements_in ns).elems

-- what is packed is packed at this type, and a list is of numbers in its range
abbrev pub IsAtType : Ty → Form → Type 0
IsAtType ty (Wide es) = All (InRange ty) es.items
IsAtType ty (Packed ns) = (elements_in ns).ty ≡ ty
