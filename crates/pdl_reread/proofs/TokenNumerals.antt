-- Numbers in decimal, and back.
use Rattle.std.proofs.Common.{◌≡◌, ℕ, zero, suc, ◌+◌, ◌*◌, ◌<◌, ◌≤◌, ◌^◌, true, false, List, [], ◌∷◌, ◌++◌, refl, sym, ◌∙◌, ap, subst, arith, map, fold, get_or, eqb-true}
use Rattle.std.specs.Prelude.{Some, ◌==◌, not, decimal}
use Rattle.std.specs.Fmt.{digits}
use Rattle.std.specs.List.{list_all}
use Rattle.std.specs.Char.{is_ascii_digit}
use Rattle.std.specs.Int.Digits.{digits_of, number_from_digits_after, AllBelowBase}
use Rattle.std.proofs.lemmas.Fmt.{decimal-digits_of}
use Rattle.std.proofs.lemmas.Int.Digits.{first_digits_of, all_below_base_digits_of, number_digits_of, number_after_ge}
use Rattle.pdl_lemmas.specs.Numbers.{digit_is}
use Rattle.pdl_lemmas.specs.Tests.{by_test}
use Rattle.pdl_lex.specs.Bytes.{is_letter}
use Rattle.pdl_lex.specs.Tokens.{kind_of, is_sign}
use Rattle.pdl_lex.specs.Written.{joins}
use Rattle.pdl_lex.specs.declared.TokenKind.TheVariants.{Number, Sign}
use Rattle.pdl_lexemes.specs.Lexing.{with_digit, number_of}

record IsFirstDigit (b : ℕ) : Type 0 where
  no_letter : is_letter b ≡ false
  no_dollar : (b == 36) ≡ false
  no_nought : (b == 48) ≡ false
  digit : is_ascii_digit b ≡ true
  minus : is_sign (45 ∷ b ∷ []) ≡ false

first_digit : (d : ℕ) → 0 < d → d < 10 → IsFirstDigit (48 + d)
first_digit zero above below = absurd (omega arith)
first_digit (suc zero) above below = record { no_letter = refl; no_dollar = refl; no_nought = refl; digit = refl; minus = refl }
first_digit (suc (suc zero)) above below = record { no_letter = refl; no_dollar = refl; no_nought = refl; digit = refl; minus = refl }
first_digit (suc (suc (suc zero))) above below = record { no_letter = refl; no_dollar = refl; no_nought = refl; digit = refl; minus = refl }
first_digit (suc (suc (suc (suc zero)))) above below = record { no_letter = refl; no_dollar = refl; no_nought = refl; digit = refl; minus = refl }
first_digit (suc (suc (suc (suc (suc zero))))) above below = record { no_letter = refl; no_dollar = refl; no_nought = refl; digit = refl; minus = refl }
first_digit (suc (suc (suc (suc (suc (suc zero)))))) above below = record { no_letter = refl; no_dollar = refl; no_nought = refl; digit = refl; minus = refl }
first_digit (suc (suc (suc (suc (suc (suc (suc zero))))))) above below = record { no_letter = refl; no_dollar = refl; no_nought = refl; digit = refl; minus = refl }
first_digit (suc (suc (suc (suc (suc (suc (suc (suc zero)))))))) above below = record { no_letter = refl; no_dollar = refl; no_nought = refl; digit = refl; minus = refl }
first_digit (suc (suc (suc (suc (suc (suc (suc (suc (suc zero))))))))) above below = record { no_letter = refl; no_dollar = refl; no_nought = refl; digit = refl; minus = refl }
first_digit (suc (suc (suc (suc (suc (suc (suc (suc (suc (suc d)))))))))) above below = absurd (omega arith)

digits_all : (ds : List ℕ) → AllBelowBase 10 ds → list_all is_ascii_digit (map (λ d. 48 + d) ds) ≡ true
digits_all [] below = refl
digits_all (d ∷ ds) below = rw (digit_is d below.0) (digits_all ds below.1)

kind_digits : (ds : List ℕ) → AllBelowBase 10 ds → 0 < get_or ds 0 0 → kind_of (map (λ d. 48 + d) ds) ≡ Some Number
kind_digits [] below first = absurd (omega arith)
kind_digits (d ∷ ds) below first =
    let f = first_digit d first below.0 in
    rw (f.no_letter, f.no_dollar, f.no_nought, f.digit, digits_all ds below.1)

-- a number in decimal is one number token
pub decimal_is_token : (n : ℕ) → n < 2 ^ 64 → kind_of (decimal n) ≡ Some Number
unfolding digits
decimal_is_token zero small = refl
decimal_is_token (suc n) small =
    subst (λ t. kind_of t ≡ Some Number) (sym (decimal-digits_of (suc n) (omega arith) small))
    (kind_digits (digits_of 10 (suc n)) (all_below_base_digits_of 10 (suc n) (omega arith)) (first_digits_of 10 (suc n) (omega arith) (omega arith)))

with_one : (n d : ℕ) → n * 10 + d ≤ 9223372036854775808 → with_digit n (48 + d) ≡ n * 10 + d
with_one n d small = omega arith

value_after : (n : ℕ) (ds : List ℕ) → number_from_digits_after 10 n ds ≤ 9223372036854775808 → fold with_digit n (map (λ d. 48 + d) ds) ≡ number_from_digits_after 10 n ds
value_after n [] small = refl
value_after n (d ∷ ds) small =
    ap (λ m. fold with_digit m (map (λ e. 48 + e) ds)) (with_one n d (omega (arith, number_after_ge 10 (n * 10 + d) ds (omega arith), small)))
    ∙ value_after (n * 10 + d) ds small

-- and that token's value is the number
pub decimal_and_back : (n : ℕ) → n ≤ 9223372036854775808 → number_of (decimal n) ≡ n
unfolding digits
decimal_and_back zero small = refl
decimal_and_back (suc n) small =
    let back = number_digits_of 10 (suc n) (omega arith) in
    ap number_of (decimal-digits_of (suc n) (omega arith) (omega arith))
    ∙ value_after 0 (digits_of 10 (suc n)) (omega (arith, back, small)) ∙ back

-- a minus doesn't join the number behind it
minus_digits : (ds rest : List ℕ) → AllBelowBase 10 ds → 0 < get_or ds 0 0 → joins Sign (45 ∷ []) (map (λ d. 48 + d) ds ++ rest) ≡ false
minus_digits [] rest below first = absurd (omega arith)
minus_digits (d ∷ ds) rest below first = (first_digit d first below.0).minus

pub minus_apart : (n : ℕ) (rest : List ℕ) → suc n < 2 ^ 64 → joins Sign (45 ∷ []) (decimal (suc n) ++ rest) ≡ false
minus_apart n rest small =
    subst (λ t. joins Sign (45 ∷ []) (t ++ rest) ≡ false) (sym (decimal-digits_of (suc n) (omega arith) small))
    (minus_digits (digits_of 10 (suc n)) rest (all_below_base_digits_of 10 (suc n) (omega arith)) (first_digits_of 10 (suc n) (omega arith) (omega arith)))

no_quote : (d : ℕ) → (48 + d == 34) ≡ false
no_quote d = by_test (48 + d == 34) (λ same. absurd (omega (arith, eqb-true (48 + d) 34 same))) (λ other. other)

no_quotes : (ds : List ℕ) → list_all (λ b. not (b == 34)) (map (λ d. 48 + d) ds) ≡ true
no_quotes [] = refl
no_quotes (d ∷ ds) = rw (no_quote d) (no_quotes ds)

-- a number in decimal has no quote
pub decimal_no_quote : (n : ℕ) → n < 2 ^ 64 → list_all (λ b. not (b == 34)) (decimal n) ≡ true
unfolding digits
decimal_no_quote zero small = refl
decimal_no_quote (suc n) small =
    subst (λ t. list_all (λ b. not (b == 34)) t ≡ true) (sym (decimal-digits_of (suc n) (omega arith) small)) (no_quotes (digits_of 10 (suc n)))
