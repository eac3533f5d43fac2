-- Each operator's result is a number of the operator's result type, and some types' numbers are all
-- numbers of another one.
use Rattle.std.proofs.Common.{◌≡◌, ℤ, pos, Bool, true, false, arith, refl, subst, sym}
use Rattle.std.proofs.lemmas.Int.{ints}
use Rattle.std.specs.Prelude.{not, int_lt, int_le, nat_lt, if◌then◌else◌}
use Rattle.std.specs.Ordering.{int_eq}
use Rattle.pdl_elem.specs.declared.Ty.{Ty}
use Rattle.pdl_elem.specs.declared.Ty.TheVariants.{Sbyte, Byte, Short, Ushort, Long, Ulong, Longlong}
use Rattle.pdl_elem.specs.declared.UnaryOp.{UnaryOp}
use Rattle.pdl_elem.specs.declared.UnaryOp.TheVariants.{Neg, Not, Complement}
use Rattle.pdl_elem.specs.declared.BinaryOp.{BinaryOp}
use Rattle.pdl_elem.specs.declared.BinaryOp.TheVariants.{Add, Sub, Mul, Div, Rem, Shl, Shr, Lt, Le, Gt, Ge, Eq, Ne, And, Or, Xor}
use Rattle.pdl_elem.specs.Types.{InRange, lowest, rank, promoted, unary_result, binary_result}
use Rattle.pdl_elem.specs.Numbers.{wrapped}
use Rattle.pdl_elem.specs.Operators.{truth, unary_whole, binary_whole}
use Rattle.pdl_elem.proofs.NumbersWrapped.{wraps}

either_same : (b : Bool) (t : Ty) → (if b then t else t) ≡ t
either_same true t = refl
either_same false t = refl

promoted_same : (t : Ty) → promoted t t ≡ t
promoted_same t = either_same (nat_lt (rank t) (rank t)) t

truth_in_range : (t : Ty) (b : Bool) → InRange Byte (wrapped t (truth b))
truth_in_range Sbyte true = (record { le = tt }, record { le = tt })
truth_in_range Sbyte false = (record { le = tt }, record { le = tt })
truth_in_range Byte true = (record { le = tt }, record { le = tt })
truth_in_range Byte false = (record { le = tt }, record { le = tt })
truth_in_range Short true = (record { le = tt }, record { le = tt })
truth_in_range Short false = (record { le = tt }, record { le = tt })
truth_in_range Ushort true = (record { le = tt }, record { le = tt })
truth_in_range Ushort false = (record { le = tt }, record { le = tt })
truth_in_range Long true = (record { le = tt }, record { le = tt })
truth_in_range Long false = (record { le = tt }, record { le = tt })
truth_in_range Ulong true = (record { le = tt }, record { le = tt })
truth_in_range Ulong false = (record { le = tt }, record { le = tt })
truth_in_range Longlong true = (record { le = tt }, record { le = tt })
truth_in_range Longlong false = (record { le = tt }, record { le = tt })

pub unary_in_range : (op : UnaryOp) (t : Ty) (a : ℤ) → InRange (unary_result op t) (wrapped t (unary_whole op t a))
unary_in_range Not t a = truth_in_range t (int_eq a (pos 0))
unary_in_range Neg t a = (wraps t (unary_whole Neg t a)).in_range
unary_in_range Complement t a = (wraps t (unary_whole Complement t a)).in_range

at_type : (t : Ty) (z : ℤ) → InRange (promoted t t) (wrapped t z)
at_type t z = subst (λ u. InRange u (wrapped t z)) (sym (promoted_same t)) (wraps t z).in_range

pub binary_in_range : (op : BinaryOp) (t : Ty) (a b : ℤ) → InRange (binary_result op t t) (wrapped t (binary_whole op t a b))
binary_in_range Lt t a b = truth_in_range t (int_lt a b)
binary_in_range Le t a b = truth_in_range t (int_le a b)
binary_in_range Gt t a b = truth_in_range t (int_lt b a)
binary_in_range Ge t a b = truth_in_range t (int_le b a)
binary_in_range Eq t a b = truth_in_range t (int_eq a b)
binary_in_range Ne t a b = truth_in_range t (not (int_eq a b))
binary_in_range Add t a b = at_type t (binary_whole Add t a b)
binary_in_range Sub t a b = at_type t (binary_whole Sub t a b)
binary_in_range Mul t a b = at_type t (binary_whole Mul t a b)
binary_in_range Div t a b = at_type t (binary_whole Div t a b)
binary_in_range Rem t a b = at_type t (binary_whole Rem t a b)
binary_in_range Shl t a b = at_type t (binary_whole Shl t a b)
binary_in_range Shr t a b = at_type t (binary_whole Shr t a b)
binary_in_range And t a b = at_type t (binary_whole And t a b)
binary_in_range Or t a b = at_type t (binary_whole Or t a b)
binary_in_range Xor t a b = at_type t (binary_whole Xor t a b)

-- each number of a type is one of longlong
pub in_longlong : (t : Ty) (n : ℤ) → InRange t n → InRange Longlong n
in_longlong Sbyte n h = (omega (arith, ints, h.0), omega (arith, ints, h.1))
in_longlong Byte n h = (omega (arith, ints, h.0), omega (arith, ints, h.1))
in_longlong Short n h = (omega (arith, ints, h.0), omega (arith, ints, h.1))
in_longlong Ushort n h = (omega (arith, ints, h.0), omega (arith, ints, h.1))
in_longlong Long n h = (omega (arith, ints, h.0), omega (arith, ints, h.1))
in_longlong Ulong n h = (omega (arith, ints, h.0), omega (arith, ints, h.1))
in_longlong Longlong n h = h

-- the lowest number of longlong is one of longlong alone
pub only_longlong : (t : Ty) → InRange t (lowest Longlong) → t ≡ Longlong
only_longlong Sbyte h = absurd (omega (arith, ints, h.0))
only_longlong Byte h = absurd (omega (arith, ints, h.0))
only_longlong Short h = absurd (omega (arith, ints, h.0))
only_longlong Ushort h = absurd (omega (arith, ints, h.0))
only_longlong Long h = absurd (omega (arith, ints, h.0))
only_longlong Ulong h = absurd (omega (arith, ints, h.0))
only_longlong Longlong h = refl
