-- What a byte is, by its kind.
use Rattle.std.proofs.Common.{◌≡◌, ℕ, ◌-◌, Bool, true, false, ◌==◌, if◌then◌else◌, IsTrue, refl, eqb-true, arith}
use Rattle.pdl_slices.specs.declared.reading.Kind.{Kind}
use Rattle.pdl_slices.specs.declared.reading.Kind.TheVariants.{Blank, Digit, Minus, Open, Close, Star, Colon, Comma, Other}
use Rattle.std.specs.Char.{is_ascii_digit}
use Rattle.pdl_slices.specs.Grammar.{is_blank}
use Rattle.pdl_slices.specs.SliceReading.{kind_of}

-- what is known of a byte of this kind
abbrev pub Fact : Kind → ℕ → Type 0
Fact Blank b = IsTrue (is_blank b)
Fact (Digit d) b = IsTrue (is_ascii_digit b) × (d ≡ b - 48)
Fact Minus b = b ≡ 45
Fact Open b = b ≡ 40
Fact Close b = b ≡ 41
Fact Star b = b ≡ 42
Fact Colon b = b ≡ 58
Fact Comma b = b ≡ 44
Fact Other b = Unit {0}

choice : (t : Bool) (P : Kind → Type 0) (x y : Kind) → (t ≡ true → P x) → P y → P (if t then x else y)
choice true P x y f g = f refl
choice false P x y f g = g

pub fact : (b : ℕ) → Fact (kind_of b) b
fact b =
    choice (is_blank b) (λ k. Fact k b) Blank _ (λ h. h)
    (choice (is_ascii_digit b) (λ k. Fact k b) (Digit (b - 48)) _ (λ h. (h, refl))
    (choice (b == 45) (λ k. Fact k b) Minus _ (λ h. eqb-true b 45 h)
    (choice (b == 40) (λ k. Fact k b) Open _ (λ h. eqb-true b 40 h)
    (choice (b == 41) (λ k. Fact k b) Close _ (λ h. eqb-true b 41 h)
    (choice (b == 42) (λ k. Fact k b) Star _ (λ h. eqb-true b 42 h)
    (choice (b == 58) (λ k. Fact k b) Colon _ (λ h. eqb-true b 58 h)
    (choice (b == 44) (λ k. Fact k b) Comma Other (λ h. eqb-true b 44 h) tt)))))))

pub kind_of-blank : (b : ℕ) → IsTrue (is_blank b) → kind_of b ≡ Blank
kind_of-blank b h = rw h refl

digit_no_blank : (b : ℕ) → IsTrue (is_ascii_digit b) → is_blank b ≡ false
digit_no_blank b h = grind arith

pub kind_of-digit : (b : ℕ) → IsTrue (is_ascii_digit b) → kind_of b ≡ Digit (b - 48)
kind_of-digit b h = rw (digit_no_blank b h, h) refl
