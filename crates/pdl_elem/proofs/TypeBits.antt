-- The bits of two numbers of a type are, put together by `& | ^`, a number of the type: from the
-- type's highest bit on, a number of a type has the same bit in the whole of its word.
use Rattle.std.proofs.Common.{◌≡◌, ℕ, suc, ◌-◌, ◌<◌, ◌≤◌, ◌/◌, ◌^◌, ℤ, pos, negsuc, arith, refl, sym, ◌∙◌, subst, ◌⊎◌, inl, inr, bit_and, bit_or, bit_xor}
use Rattle.std.proofs.lemmas.Int.{ints, to_z_pos}
use Rattle.std.proofs.lemmas.Nat.{and_shr, or_shr, xor_shr}
use Rattle.std.proofs.Math.Path.{ap₂}
use Rattle.std.specs.Int.Bits.{and_lt, or_lt, xor_lt, and_self, and_zero_r, or_self, or_zero_r, xor_self, xor_zero_r}
use Rattle.std.specs.Int.{cast_signed, cast_unsigned, w64}
use Rattle.pdl_elem.specs.declared.Ty.{Ty}
use Rattle.pdl_elem.specs.declared.Ty.TheVariants.{Sbyte, Byte, Short, Ushort, Long, Ulong, Longlong}
use Rattle.pdl_elem.specs.Types.{InRange}
use Rattle.pdl_elem.proofs.NumbersWrapped.{top_half}

-- below which bit the numbers of the type differ
abbrev below : Ty → ℕ
below Sbyte = 7
below Byte = 8
below Short = 15
below Ushort = 16
below Long = 31
below Ulong = 32
below Longlong = 63

-- what a negative number's word has from that bit on
abbrev above_negative : Ty → ℕ
above_negative Sbyte = 144115188075855871
above_negative Byte = 0
above_negative Short = 562949953421311
above_negative Ushort = 0
above_negative Long = 8589934591
above_negative Ulong = 0
above_negative Longlong = 1

-- no bit, or the bits m
abbrev IsEither : ℕ → ℕ → Type 0
IsEither m x = (x ≡ 0) ⊎ (x ≡ m)

abbrev IsExtended : Ty → ℕ → Type 0
IsExtended t x = IsEither (above_negative t) (x / 2 ^ below t)

extended_word : (t : Ty) (a : ℤ) → InRange t a → IsExtended t (cast_unsigned w64 a)
extended_word Sbyte (pos n) h = inl (omega (arith, ints, h.1))
extended_word Byte (pos n) h = inl (omega (arith, ints, h.1))
extended_word Sbyte (negsuc n) h = inr (omega (arith, ints, h.0))
extended_word Byte (negsuc n) h = absurd (omega (arith, ints, h.0))
extended_word Short (pos n) h = inl (omega (arith, ints, h.1))
extended_word Short (negsuc n) h = inr (omega (arith, ints, h.0))
extended_word Ushort (pos n) h = inl (omega (arith, ints, h.1))
extended_word Ushort (negsuc n) h = absurd (omega (arith, ints, h.0))
extended_word Long (pos n) h = inl (omega (arith, ints, h.1))
extended_word Long (negsuc n) h = inr (omega (arith, ints, h.0))
extended_word Ulong (pos n) h = inl (omega (arith, ints, h.1))
extended_word Longlong (pos n) h = inl (omega (arith, ints, h.1))
extended_word Ulong (negsuc n) h = absurd (omega (arith, ints, h.0))
extended_word Longlong (negsuc n) h = inr (omega (arith, ints, h.0))

word_below : (t : Ty) (a : ℤ) → InRange t a → cast_unsigned w64 a < 2 ^ 64
word_below Sbyte (pos n) h = omega (arith, ints, h.1)
word_below Byte (pos n) h = omega (arith, ints, h.1)
word_below Short (pos n) h = omega (arith, ints, h.1)
word_below Ushort (pos n) h = omega (arith, ints, h.1)
word_below Long (pos n) h = omega (arith, ints, h.1)
word_below Ulong (pos n) h = omega (arith, ints, h.1)
word_below Longlong (pos n) h = omega (arith, ints, h.1)
word_below t (negsuc n) h = omega arith

low_in_range : (t : Ty) (x : ℕ) → x / 2 ^ below t ≡ 0 → InRange t (pos x)
low_in_range Sbyte x e = (omega (arith, ints), omega (arith, ints))
low_in_range Byte x e = (omega (arith, ints), omega (arith, ints))
low_in_range Short x e = (omega (arith, ints), omega (arith, ints))
low_in_range Ushort x e = (omega (arith, ints), omega (arith, ints))
low_in_range Long x e = (omega (arith, ints), omega (arith, ints))
low_in_range Ulong x e = (omega (arith, ints), omega (arith, ints))
low_in_range Longlong x e = (omega (arith, ints), omega (arith, ints))

low_below : (t : Ty) (x : ℕ) → x / 2 ^ below t ≡ 0 → x < 9223372036854775808
low_below Sbyte x e = omega arith
low_below Byte x e = omega arith
low_below Short x e = omega arith
low_below Ushort x e = omega arith
low_below Long x e = omega arith
low_below Ulong x e = omega arith
low_below Longlong x e = omega arith

from_low : (t : Ty) (x : ℕ) → x / 2 ^ below t ≡ 0 → InRange t (cast_signed w64 x)
from_low t x e = subst (InRange t) (sym (to_z_pos w64 x (low_below t x e))) (low_in_range t x e)

from_high : (t : Ty) (x : ℕ) → x < 18446744073709551616 → 9223372036854775808 ≤ x → InRange t (negsuc (18446744073709551616 - suc x)) → InRange t (cast_signed w64 x)
from_high t x h k r = subst (InRange t) (sym (top_half x h k)) r

extended_in_range : (t : Ty) (x : ℕ) → x < 2 ^ 64 → IsExtended t x → InRange t (cast_signed w64 x)
extended_in_range t x h (inl e) = from_low t x e
extended_in_range Sbyte x h (inr e) = from_high Sbyte x (omega arith) (omega arith) (omega (arith, ints), omega (arith, ints))
extended_in_range Byte x h (inr e) = from_low Byte x e
extended_in_range Ushort x h (inr e) = from_low Ushort x e
extended_in_range Ulong x h (inr e) = from_low Ulong x e
extended_in_range Short x h (inr e) = from_high Short x (omega arith) (omega arith) (omega (arith, ints), omega (arith, ints))
extended_in_range Long x h (inr e) = from_high Long x (omega arith) (omega arith) (omega (arith, ints), omega (arith, ints))
extended_in_range Longlong x h (inr e) = from_high Longlong x (omega arith) (omega arith) (omega (arith, ints), omega (arith, ints))

-- ---- each of `& | ^` of the bits above is again one of the two

module _ (f : ℕ → ℕ → ℕ) (none : f 0 0 ≡ 0) (right : (m : ℕ) → IsEither m (f 0 m)) (left : (m : ℕ) → IsEither m (f m 0)) (both : (m : ℕ) → IsEither m (f m m)) where
  either_of : (m x y : ℕ) → IsEither m x → IsEither m y → IsEither m (f x y)
  either_of m x y (inl p) (inl q) = inl (ap₂ f p q ∙ none)
  either_of m x y (inl p) (inr q) = subst (IsEither m) (sym (ap₂ f p q)) (right m)
  either_of m x y (inr p) (inl q) = subst (IsEither m) (sym (ap₂ f p q)) (left m)
  either_of m x y (inr p) (inr q) = subst (IsEither m) (sym (ap₂ f p q)) (both m)

and_either : (m x y : ℕ) → IsEither m x → IsEither m y → IsEither m (bit_and x y)
and_either = either_of bit_and refl (λ m. inl refl) (λ m. inl (and_zero_r m)) (λ m. inr (and_self m))

or_either : (m x y : ℕ) → IsEither m x → IsEither m y → IsEither m (bit_or x y)
or_either = either_of bit_or refl (λ m. inr refl) (λ m. inr (or_zero_r m)) (λ m. inr (or_self m))

xor_either : (m x y : ℕ) → IsEither m x → IsEither m y → IsEither m (bit_xor x y)
xor_either = either_of bit_xor refl (λ m. inr refl) (λ m. inr (xor_zero_r m)) (λ m. inl (xor_self m))

pub and_in_range : (t : Ty) (a b : ℤ) → InRange t a → InRange t b → InRange t (cast_signed w64 (bit_and (cast_unsigned w64 a) (cast_unsigned w64 b)))
and_in_range t a b h k =
    let x : ℕ = cast_unsigned w64 a in
    let y : ℕ = cast_unsigned w64 b in
    extended_in_range t (bit_and x y) (and_lt 64 x y (word_below t a h) (word_below t b k))
    (subst (IsEither (above_negative t)) (sym (and_shr x y (below t))) (and_either _ _ _ (extended_word t a h) (extended_word t b k)))

pub or_in_range : (t : Ty) (a b : ℤ) → InRange t a → InRange t b → InRange t (cast_signed w64 (bit_or (cast_unsigned w64 a) (cast_unsigned w64 b)))
or_in_range t a b h k =
    let x : ℕ = cast_unsigned w64 a in
    let y : ℕ = cast_unsigned w64 b in
    extended_in_range t (bit_or x y) (or_lt 64 x y (word_below t a h) (word_below t b k))
    (subst (IsEither (above_negative t)) (sym (or_shr x y (below t))) (or_either _ _ _ (extended_word t a h) (extended_word t b k)))

pub xor_in_range : (t : Ty) (a b : ℤ) → InRange t a → InRange t b → InRange t (cast_signed w64 (bit_xor (cast_unsigned w64 a) (cast_unsigned w64 b)))
xor_in_range t a b h k =
    let x : ℕ = cast_unsigned w64 a in
    let y : ℕ = cast_unsigned w64 b in
    extended_in_range t (bit_xor x y) (xor_lt 64 x y (word_below t a h) (word_below t b k))
    (subst (IsEither (above_negative t)) (sym (xor_shr x y (below t))) (xor_either _ _ _ (extended_word t a h) (extended_word t b k)))
