-- What 64-bit arithmetic leaves of each operator's whole-number result.
use Rattle.std.proofs.Common.{◌≡◌, ◌≢◌, ℕ, zero, suc, ◌+◌, ◌-◌, ◌*◌, ◌<◌, ◌≤◌, ◌%◌, ◌/◌, ◌^◌, ℤ, pos, negsuc, ◌+ℤ◌, ◌-ℤ◌, ◌*ℤ◌, neg_ℤ, ◌≤ℤ◌, ◌<ℤ◌, arith, refl, ap, sym, ◌∙◌, inl, inr, bit_and, bit_or, bit_xor}
use Rattle.std.proofs.lemmas.Int.{ints, to_z-of_z, wrapping_add_is, wrapping_mul_is, wrapping_sub_is}
use Rattle.std.proofs.lemmas.Nat.{and_mod, or_mod, xor_mod, div-add-mod', div-mul-add, mod-mul-add}
use Rattle.std.proofs.lemmas.Bool.{cases_lt}
use Rattle.std.proofs.Math.IntN.{negsuc-*ℤ-pos}
use Rattle.std.proofs.Math.Nat.{div-le_self, mod-lt}
use Rattle.std.proofs.Math.Path.{ap₂}
use Rattle.std.specs.Int.Bits.{and_lt, or_lt, xor_lt}
use Rattle.std.specs.Int.{cast_signed, cast_unsigned, w64, int_wrapping_add, int_wrapping_mul, int_wrapping_sub}
use Rattle.std.specs.Int.RustNames.{FitsSigned, int_div, int_rem, unsigned_abs}
use Rattle.pdl_elem.specs.declared.Ty.{Ty}
use Rattle.pdl_elem.specs.declared.Ty.TheVariants.{Sbyte, Byte, Short, Ushort, Long, Ulong, Longlong}
use Rattle.pdl_elem.specs.Types.{bits_of}
use Rattle.pdl_elem.specs.Numbers.{wrapped, pattern, count_of}
use Rattle.pdl_elem.specs.Operators.{modulo}
use Rattle.pdl_elem.proofs.NumbersWrapped.{wrapped_word, wrapped_negative, wrapped_signed, wrapped_int_wrap}

-- what a call says of two words' numbers, at the numbers that were written to them
pub told : (f : ℤ → ℤ → ℤ) (r a b : ℤ) → FitsSigned w64 r → FitsSigned w64 a → FitsSigned w64 b → r ≡ f (cast_signed w64 (cast_unsigned w64 a)) (cast_signed w64 (cast_unsigned w64 b)) → cast_signed w64 (cast_unsigned w64 r) ≡ f a b
told f r a b u v w e = to_z-of_z w64 r u ∙ e ∙ ap₂ f (to_z-of_z w64 a v) (to_z-of_z w64 b w)

pub wrapped_sum : (t : Ty) (a b : ℤ) → FitsSigned w64 a → FitsSigned w64 b → wrapped t (int_wrapping_add w64 a b) ≡ wrapped t (a +ℤ b)
wrapped_sum t a b f g = ap (wrapped t) (wrapping_add_is w64 a b f g) ∙ wrapped_int_wrap t (a +ℤ b)

pub wrapped_difference : (t : Ty) (a b : ℤ) → FitsSigned w64 a → FitsSigned w64 b → wrapped t (int_wrapping_sub w64 a b) ≡ wrapped t (a -ℤ b)
wrapped_difference t a b f g = ap (wrapped t) (wrapping_sub_is w64 a b f g) ∙ wrapped_int_wrap t (a -ℤ b)

pub wrapped_product : (t : Ty) (a b : ℤ) → FitsSigned w64 a → FitsSigned w64 b → wrapped t (int_wrapping_mul w64 a b) ≡ wrapped t (a *ℤ b)
wrapped_product t a b f g = ap (wrapped t) (wrapping_mul_is w64 a b f g) ∙ wrapped_int_wrap t (a *ℤ b)

-- ---- quotients

-- a number of at most 64 bits, written to a word and read as a signed number
wrapped_round : (t : Ty) (q : ℤ) → unsigned_abs q ≤ 9223372036854775808 → wrapped t (cast_signed w64 (cast_unsigned w64 q)) ≡ wrapped t q
wrapped_round t (pos n) h = wrapped_signed t n (omega arith)
wrapped_round t (negsuc n) h = wrapped_signed t (18446744073709551616 - suc n) (omega arith) ∙ wrapped_negative t n (18446744073709551616 - suc n) 1 (omega arith)

abs_neg : (n : ℕ) → unsigned_abs (neg_ℤ (pos n)) ≡ n
abs_neg zero = refl
abs_neg (suc n) = refl

abs_div : (a b : ℤ) → unsigned_abs (int_div a b) ≤ unsigned_abs a
abs_div (pos a) (pos b) = div-le_self a b
abs_div (pos a) (negsuc b) = omega (arith, abs_neg (a / suc b), div-le_self a (suc b))
abs_div (negsuc a) (pos b) = omega (arith, abs_neg (suc a / b), div-le_self (suc a) b)
abs_div (negsuc a) (negsuc b) = div-le_self (suc a) (suc b)

abs_fits : (a : ℤ) → FitsSigned w64 a → unsigned_abs a ≤ 9223372036854775808
abs_fits (pos n) h = omega (arith, h.sfits)
abs_fits (negsuc n) h = omega (arith, h.sfits)

pub wrapped_quotient : (t : Ty) (a b : ℤ) → FitsSigned w64 a → wrapped t (cast_signed w64 (cast_unsigned w64 (int_div a b))) ≡ wrapped t (int_div a b)
wrapped_quotient t a b f = wrapped_round t (int_div a b) (omega (arith, abs_div a b, abs_fits a f))

-- ---- shifts

neg_pos : (x : ℕ) → 0 < x → neg_ℤ (pos x) ≡ negsuc (x - 1)
neg_pos zero h = absurd (omega arith)
neg_pos (suc x) h = ap negsuc (omega arith)

pub wrapped_shift : (t : Ty) (a : ℤ) (p : ℕ) → FitsSigned w64 a → 0 < p → wrapped t (cast_signed w64 ((cast_unsigned w64 a * p) % 18446744073709551616)) ≡ wrapped t (a *ℤ pos p)
wrapped_shift t (pos n) p f h = wrapped_signed t (n * p % 18446744073709551616) (omega arith) ∙ wrapped_word t (n * p)
wrapped_shift t (negsuc n) p f h =
    let m : ℕ = 18446744073709551616 - suc n in
    let e : m + suc n ≡ 18446744073709551616 = omega (arith, f.sfits) in
    let k : m * p + suc (suc n * p - 1) ≡ p * 18446744073709551616 = whole n m p e h in
    wrapped_signed t (m * p % 18446744073709551616) (omega arith) ∙ wrapped_word t (m * p)
    ∙ wrapped_negative t (suc n * p - 1) (m * p) p k
    ∙ ap (wrapped t) (sym (negsuc-*ℤ-pos n p ∙ neg_pos (suc n * p) (above n p h)))
  where
    above : (n p : ℕ) → 0 < p → 0 < suc n * p
    above n p h = omega arith

    whole : (n m p : ℕ) → m + suc n ≡ 18446744073709551616 → 0 < p → m * p + suc (suc n * p - 1) ≡ p * 18446744073709551616
    whole n m p e h = omega (arith, ap (λ x. x * p) e, above n p h)

-- ---- bits

wrapped_low : (t : Ty) (n : ℕ) → wrapped t (pos (n % count_of t)) ≡ wrapped t (pos n)
wrapped_low Sbyte n = omega (arith, ints)
wrapped_low Byte n = omega (arith, ints)
wrapped_low Short n = omega (arith, ints)
wrapped_low Ushort n = omega (arith, ints)
wrapped_low Long n = omega (arith, ints)
wrapped_low Ulong n = omega (arith, ints)
wrapped_low Longlong n = wrapped_word Longlong n

-- the pattern is what a word's bits have at the type's width
pattern_is : (t : Ty) (a : ℤ) → FitsSigned w64 a → pattern t a ≡ cast_unsigned w64 a % count_of t
pattern_is t (pos n) f = refl
pattern_is Sbyte (negsuc n) f = omega (arith, f.sfits)
pattern_is Byte (negsuc n) f = omega (arith, f.sfits)
pattern_is Short (negsuc n) f = omega (arith, f.sfits)
pattern_is Ushort (negsuc n) f = omega (arith, f.sfits)
pattern_is Long (negsuc n) f = omega (arith, f.sfits)
pattern_is Ulong (negsuc n) f = omega (arith, f.sfits)
pattern_is Longlong (negsuc n) f = omega (arith, f.sfits)

word_below : (a : ℤ) → FitsSigned w64 a → cast_unsigned w64 a < 2 ^ 64
word_below (pos n) f = omega (arith, f.sfits)
word_below (negsuc n) f = omega (arith, f.sfits)

flipped : (t : Ty) (x : ℕ) → x < 18446744073709551616 → (18446744073709551615 - x) % count_of t ≡ count_of t - 1 - x % count_of t
flipped Sbyte x h = omega arith
flipped Byte x h = omega arith
flipped Short x h = omega arith
flipped Ushort x h = omega arith
flipped Long x h = omega arith
flipped Ulong x h = omega arith
flipped Longlong x h = omega arith

pub wrapped_not : (t : Ty) (a : ℤ) → FitsSigned w64 a → wrapped t (cast_signed w64 (18446744073709551615 - cast_unsigned w64 a)) ≡ wrapped t (pos (count_of t - 1 - pattern t a))
wrapped_not t a f =
    let x : ℕ = cast_unsigned w64 a in
    wrapped_signed t (18446744073709551615 - x) (omega arith) ∙ sym (wrapped_low t (18446744073709551615 - x))
    ∙ ap (λ n. wrapped t (pos n)) (flipped t x (word_below a f) ∙ ap (λ n. count_of t - 1 - n) (sym (pattern_is t a f)))

pub wrapped_and : (t : Ty) (a b : ℤ) → FitsSigned w64 a → FitsSigned w64 b → wrapped t (cast_signed w64 (bit_and (cast_unsigned w64 a) (cast_unsigned w64 b))) ≡ wrapped t (pos (bit_and (pattern t a) (pattern t b)))
wrapped_and t a b f g =
    let x : ℕ = cast_unsigned w64 a in
    let y : ℕ = cast_unsigned w64 b in
    wrapped_signed t (bit_and x y) (and_lt 64 x y (word_below a f) (word_below b g)) ∙ sym (wrapped_low t (bit_and x y))
    ∙ ap (λ n. wrapped t (pos n)) (and_mod x y (bits_of t) ∙ ap₂ bit_and (sym (pattern_is t a f)) (sym (pattern_is t b g)))

pub wrapped_or : (t : Ty) (a b : ℤ) → FitsSigned w64 a → FitsSigned w64 b → wrapped t (cast_signed w64 (bit_or (cast_unsigned w64 a) (cast_unsigned w64 b))) ≡ wrapped t (pos (bit_or (pattern t a) (pattern t b)))
wrapped_or t a b f g =
    let x : ℕ = cast_unsigned w64 a in
    let y : ℕ = cast_unsigned w64 b in
    wrapped_signed t (bit_or x y) (or_lt 64 x y (word_below a f) (word_below b g)) ∙ sym (wrapped_low t (bit_or x y))
    ∙ ap (λ n. wrapped t (pos n)) (or_mod x y (bits_of t) ∙ ap₂ bit_or (sym (pattern_is t a f)) (sym (pattern_is t b g)))

pub wrapped_xor : (t : Ty) (a b : ℤ) → FitsSigned w64 a → FitsSigned w64 b → wrapped t (cast_signed w64 (bit_xor (cast_unsigned w64 a) (cast_unsigned w64 b))) ≡ wrapped t (pos (bit_xor (pattern t a) (pattern t b)))
wrapped_xor t a b f g =
    let x : ℕ = cast_unsigned w64 a in
    let y : ℕ = cast_unsigned w64 b in
    wrapped_signed t (bit_xor x y) (xor_lt 64 x y (word_below a f) (word_below b g)) ∙ sym (wrapped_low t (bit_xor x y))
    ∙ ap (λ n. wrapped t (pos n)) (xor_mod x y (bits_of t) ∙ ap₂ bit_xor (sym (pattern_is t a f)) (sym (pattern_is t b g)))

-- ---- what is left of a division

-- one more, where it stays in its row of b numbers, and where it begins the next row
suc_kept : (a b : ℕ) → suc (a % b) < b → (suc a / b ≡ a / b) × (suc a % b ≡ suc (a % b))
suc_kept a b h =
    let e : suc a ≡ a / b * b + suc (a % b) = omega (arith, div-add-mod' a b) in
    (ap (λ x. x / b) e ∙ div-mul-add (a / b) b (suc (a % b)) h, ap (λ x. x % b) e ∙ mod-mul-add (a / b) b (suc (a % b)) h)

suc_carried : (a b : ℕ) → 0 < b → b ≤ suc (a % b) → (suc a / b ≡ suc (a / b)) × (suc a % b ≡ 0)
suc_carried a b p h =
    let e : suc a ≡ suc (a / b) * b + 0 = omega (arith, div-add-mod' a b, mod-lt a p) in
    (ap (λ x. x / b) e ∙ div-mul-add (suc (a / b)) b 0 p, ap (λ x. x % b) e ∙ mod-mul-add (suc (a / b)) b 0 p)

zero_div : (b : ℕ) → 0 / suc b ≡ 0
zero_div b =
    let e : 0 ≡ 0 * suc b + 0 = omega arith in
    ap (λ x. x / suc b) e ∙ div-mul-add 0 (suc b) 0 (omega arith)

-- a negative rest of a positive divisor, and a positive rest of a negative one
pub modulo_raised : (a b : ℤ) → int_rem a b <ℤ pos 0 → pos 0 <ℤ b → int_rem a b +ℤ b ≡ modulo a b
modulo_raised (pos a) b h k = absurd (omega (arith, ints))
modulo_raised (negsuc a) (pos zero) h k = absurd (omega (arith, ints))
modulo_raised (negsuc a) (negsuc b) h k = absurd (omega (arith, ints))
modulo_raised (negsuc a) (pos (suc b)) h k =
    elim (cases_lt (suc (a % suc b)) (suc b)) [
      | inl same ↦ let s : _ = suc_kept a (suc b) same in omega (arith, ints, s.0, s.1, div-add-mod' a (suc b), mod-lt a {m = suc b} (omega arith))
      | inr next ↦ let s : _ = suc_carried a (suc b) (omega arith) next in absurd (omega (arith, ints, s.1))
    ]

pub modulo_lowered : (a b : ℤ) → pos 0 <ℤ int_rem a b → b <ℤ pos 0 → int_rem a b +ℤ b ≡ modulo a b
modulo_lowered (negsuc a) b h k = absurd (omega (arith, ints))
modulo_lowered (pos a) (pos b) h k = absurd (omega (arith, ints))
modulo_lowered (pos zero) (negsuc b) h k = absurd (omega (arith, ints))
modulo_lowered (pos (suc a)) (negsuc b) h k =
    elim (cases_lt (suc (a % suc b)) (suc b)) [
      | inl same ↦ let s : _ = suc_kept a (suc b) same in omega (arith, ints, s.0, s.1, div-add-mod' a (suc b))
      | inr next ↦ let s : _ = suc_carried a (suc b) (omega arith) next in absurd (omega (arith, ints, s.1))
    ]

-- every other rest stays
pub modulo_kept : (a b : ℤ) → b ≢ pos 0 → (int_rem a b <ℤ pos 0 → b ≤ℤ pos 0) → (pos 0 <ℤ int_rem a b → pos 0 ≤ℤ b) → int_rem a b ≡ modulo a b
modulo_kept a (pos zero) n h k = absurd (n refl)
modulo_kept (pos a) (pos (suc b)) n h k = omega (arith, ints, div-add-mod' a (suc b))
modulo_kept (negsuc a) (negsuc b) n h k = omega (arith, ints, div-add-mod' (suc a) (suc b))
modulo_kept (pos zero) (negsuc b) n h k = omega (arith, ints, zero_div b)
modulo_kept (pos (suc a)) (negsuc b) n h k =
    elim (cases_lt (suc (a % suc b)) (suc b)) [
      | inl same ↦ let s : _ = suc_kept a (suc b) same in absurd (omega (arith, ints, s.1))
      | inr next ↦ let s : _ = suc_carried a (suc b) (omega arith) next in omega (arith, ints, s.0, s.1, div-add-mod' (suc a) (suc b))
    ]
modulo_kept (negsuc a) (pos (suc b)) n h k =
    elim (cases_lt (suc (a % suc b)) (suc b)) [
      | inl same ↦ let s : _ = suc_kept a (suc b) same in absurd (omega (arith, ints, s.1))
      | inr next ↦ let s : _ = suc_carried a (suc b) (omega arith) next in omega (arith, ints, s.0, s.1, div-add-mod' (suc a) (suc b))
    ]
