-- Numbers as bytes: two's complement, lowest byte first, in the width of their type.
use Rattle.std.specs.Prelude.{◌≡◌, ℕ, ℤ, pos, List, All}
use Rattle.std.specs.Int.{Width, w8, w16, w32, w64, to_le_bytes, from_le_bytes}
use Rattle.pdl_elem.specs.declared.Ty.{Ty}
use Rattle.pdl_elem.specs.declared.Ty.TheVariants.{Sbyte, Byte, Short, Ushort, Long, Ulong, Longlong}
use Rattle.pdl_elem.specs.Numbers.{wrapped, pattern}

-- the machine word that is as wide as the type
abbrev pub word_of : Ty → Width
word_of Sbyte = w8
word_of Byte = w8
word_of Short = w16
word_of Ushort = w16
word_of Long = w32
word_of Ulong = w32
word_of Longlong = w64

-- a number's bytes at the type
abbrev pub bytes_of : Ty → ℤ → List ℕ
bytes_of t n = to_le_bytes (word_of t) (pattern t n)

-- the number of the type that has these bytes
abbrev pub number_of : Ty → List ℕ → ℤ
number_of t bytes = wrapped t (pos (from_le_bytes (word_of t) bytes))

-- these are the bytes of their number
abbrev pub IsPacked : Ty → List ℕ → Type 0
IsPacked t bytes = bytes_of t (number_of t bytes) ≡ bytes

-- each of these is the bytes of its number
abbrev pub ArePacked : Ty → List (List ℕ) → Type 0
ArePacked t cells = All (IsPacked t) cells
