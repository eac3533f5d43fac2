-- Numbers: what is left of a count, products, sizes, tests of two numbers, and digits.
use Rattle.std.specs.Prelude.{ℤ, ◌≤ℤ◌, unsigned_abs}
use Rattle.std.specs.Char.{is_ascii_digit}
use Rattle.std.specs.Cmp.{nat_cmp_is}
use Rattle.std.specs.Ordering.{is_eq, nat_cmp}
use Rattle.std.specs.declared.cmp.Ordering.TheVariants.{Less, Equal, Greater}
use Rattle.std.proofs.Common.{◌≡◌, ℕ, zero, suc, ◌+◌, ◌-◌, ◌*◌, ◌<◌, ◌≤◌, pos, ◌<ℤ◌, max, true, false, inl, inr, refl, sym, ap, arith}
use Rattle.std.proofs.Math.Nat.{mul-le-mul, mul-le-mul_left, mul_assoc}
use Rattle.std.proofs.lemmas.Bool.Decides.{leb_tells}
use Rattle.std.proofs.lemmas.Int.{ints}

-- one step of a count that ends at e
pub one_less : (e c : ℕ) → c < e → e - c ≡ suc (e - (c + 1))
one_less e c h = omega arith

-- element x of row r, of s rows of n
pub row_place_below : (n s x r : ℕ) → x < n → r < s → x + n * r < n * s
row_place_below n s x r hx hr = grind arith

-- a product is at most that in which a factor 0 counts as 1
pub product_within : (n d e m : ℕ) → n * (max d 1 * e) ≤ m → n * d * e ≤ m
product_within n d e m h = omega (arith, mul_assoc n d e, mul-le-mul_left n (mul-le-mul {n₁ = d} {m₁ = e} {n₂ = max d 1} {m₂ = e} (omega arith) (omega arith)))

pub pos-lt : (a n : ℕ) → a < n → pos a <ℤ pos n
pos-lt a n h = omega (arith, ints)

-- a number that isn't below 0 is its size
pub abs_pos : (z : ℤ) → pos 0 ≤ℤ z → pos (unsigned_abs z) ≡ z
abs_pos z h = omega (arith, ints)

-- two numbers compare as equal where they are, and nowhere else
pub at_same : (v k : ℕ) → k ≡ v → is_eq (nat_cmp v k) ≡ true
at_same v k e = ap is_eq (sym (nat_cmp_is v k Equal (sym e)))

pub at_other : (v k : ℕ) → (k ≡ v → ⊥) → is_eq (nat_cmp v k) ≡ false
at_other v k n = elim (leb_tells v k) [
  | inl t ↦ (let l : v < k = omega (arith, t.1, n) in ap is_eq (sym (nat_cmp_is v k Less l)))
  | inr t ↦ ap is_eq (sym (nat_cmp_is v k Greater t.1))
]

-- the byte of a digit
pub digit_is : (d : ℕ) → d < 10 → is_ascii_digit (48 + d) ≡ true
digit_is zero below = refl
digit_is (suc zero) below = refl
digit_is (suc (suc zero)) below = refl
digit_is (suc (suc (suc zero))) below = refl
digit_is (suc (suc (suc (suc zero)))) below = refl
digit_is (suc (suc (suc (suc (suc zero))))) below = refl
digit_is (suc (suc (suc (suc (suc (suc zero)))))) below = refl
digit_is (suc (suc (suc (suc (suc (suc (suc zero))))))) below = refl
digit_is (suc (suc (suc (suc (suc (suc (suc (suc zero)))))))) below = refl
digit_is (suc (suc (suc (suc (suc (suc (suc (suc (suc zero))))))))) below = refl
digit_is (suc (suc (suc (suc (suc (suc (suc (suc (suc (suc d)))))))))) below = absurd (omega arith)
