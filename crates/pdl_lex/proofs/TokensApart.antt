-- A token that can't join what follows it is the longest one.
use Rattle.std.proofs.Common.{◌≡◌, ℕ, zero, suc, ◌<◌, ◌≤◌, Bool, true, false, List, [], ◌∷◌, ◌++◌, length, refl, sym, subst, arith, take, length-append, eqb-true}
use Rattle.std.proofs.Math.Dec.{eqb-suc-zero}
use Rattle.std.specs.Prelude.{Some, not, ◌==◌, ◌&&◌, bytes_eq}
use Rattle.std.specs.List.{list_all}
use Rattle.std.specs.Char.{is_ascii_digit}
use Rattle.pdl_lemmas.specs.Tests.{by_test}
use Rattle.pdl_lex.specs.Bytes.{is_quote, is_letter, is_word_byte}
use Rattle.pdl_lex.specs.Tokens.{is_sign, is_word, is_closed, only_where, kind_of, IsLongest}
use Rattle.pdl_lex.specs.declared.TokenKind.{TokenKind}
use Rattle.pdl_lex.specs.declared.TokenKind.TheVariants.{Name, Word, Number, Str, Sign}
use Rattle.pdl_lex.specs.Written.{joins, quoted}
use Rattle.pdl_lex.proofs.TokensLongest.{sign-long}

-- what a token of a kind says of the test on its bytes
fits_kind : (fits : Bool) (K kind : TokenKind) → only_where fits K ≡ Some kind → (fits ≡ true) × (K ≡ kind)
fits_kind true K kind h = (refl, some_inj K kind h) where
  some_inj : (x y : TokenKind) → Some x ≡ Some y → x ≡ y
  some_inj x y e = cc
fits_kind false K kind h = absurd (cc)

-- a test that a byte behind a front fails fails of each longer front
all_broken : (p : ℕ → Bool) (bs : List ℕ) (c : ℕ) (rest : List ℕ) (k : ℕ) → p c ≡ false → length bs < k → list_all p (take k (bs ++ c ∷ rest)) ≡ false
all_broken p bs c rest zero fails above = absurd (omega arith)
all_broken p [] c rest (suc k) fails above = rw fails
all_broken p (b ∷ bs) c rest (suc k) fails above =
    by_test (p b)
    (λ passes. rw passes (all_broken p bs c rest k fails (omega arith)))
    (λ broken. rw broken)

-- a string's bytes and more don't end with its only other quote
closed_no_longer : (quote : ℕ) (bs more : List ℕ) (k : ℕ) → is_closed quote bs ≡ true → length bs < k → k ≤ length (bs ++ more) → is_closed quote (take k (bs ++ more)) ≡ false
closed_no_longer quote bs more zero closed above within = absurd (omega arith)
closed_no_longer quote [] more (suc k) closed above within = absurd (cc)
closed_no_longer quote (b ∷ bs) more (suc k) closed above within =
    by_test (b == quote)
    (λ same. rw same (some_left (bs ++ more) k (omega arith) (omega arith)))
    (λ other. rw other (closed_no_longer quote bs more k (rw other at closed) (omega arith) (omega arith)))
  where
    never : (n : ℕ) → (suc n == 0) ≡ false
    never n = by_test (suc n == 0) (λ same. absurd (omega (arith, eqb-true (suc n) 0 same))) (λ other. other)

    some_left : (xs : List ℕ) (k : ℕ) → 0 < k → k ≤ length xs → (length (take k xs) == 0) ≡ false
    some_left xs zero above within = absurd (omega arith)
    some_left [] (suc k) above within = absurd (omega arith)
    some_left (x ∷ xs) (suc k) above within = never (length (take k xs))

-- two bytes that are these are a sign, so three that begin with them aren't the issue
same_two : (a b x y : ℕ) → is_sign (x ∷ y ∷ []) ≡ true → is_sign (a ∷ b ∷ []) ≡ false → ((a == x) && (b == y)) ≡ false
same_two a b x y sign none =
    by_test (a == x)
    (λ first. by_test (b == y)
    (λ second. absurd (cc_of (subst (λ n. is_sign (n ∷ y ∷ []) ≡ false) (eqb-true a x first) (subst (λ n. is_sign (a ∷ n ∷ []) ≡ false) (eqb-true b y second) none))))
    (λ other. rw (first, other)))
    (λ other. rw other)
  where
    cc_of : is_sign (x ∷ y ∷ []) ≡ false → ⊥
    cc_of never = cc

third_too : (a b c x y z : ℕ) → ((a == x) && (b == y)) ≡ false → bytes_eq (a ∷ b ∷ c ∷ []) (x ∷ y ∷ z ∷ []) ≡ false
third_too a b c x y z none =
    by_test (a == x)
    (λ first. let second : (b == y) ≡ false = rw first at none in rw (first, second))
    (λ other. rw other)

-- the first two bytes of a sign of three are a sign
two_of_three : (a b c : ℕ) → is_sign (a ∷ b ∷ []) ≡ false → is_sign (a ∷ b ∷ c ∷ []) ≡ false
two_of_three a b c none =
    rw (third_too a b c 60 60 61 (same_two a b 60 60 refl none), third_too a b c 62 62 61 (same_two a b 62 62 refl none))

-- more bytes than a sign's are no sign, where one more isn't
sign_no_longer : (bs : List ℕ) (c : ℕ) (rest : List ℕ) (k : ℕ) → is_sign (bs ++ c ∷ []) ≡ false → length bs < k → 0 < length bs → k ≤ length (bs ++ c ∷ rest) → is_sign (take k (bs ++ c ∷ rest)) ≡ false
sign_no_longer [] c rest k none above some within = absurd (omega arith)
sign_no_longer (a ∷ []) c rest zero none above some within = absurd (omega arith)
sign_no_longer (a ∷ []) c rest (suc zero) none above some within = absurd (omega arith)
sign_no_longer (a ∷ []) c rest (suc (suc zero)) none above some within = none
sign_no_longer (a ∷ []) c [] (suc (suc (suc k))) none above some within = absurd (omega arith)
sign_no_longer (a ∷ []) c (d ∷ rest) (suc (suc (suc zero))) none above some within = two_of_three a c d none
sign_no_longer (a ∷ []) c (d ∷ rest) (suc (suc (suc (suc k)))) none above some within = sign-long (a ∷ c ∷ d ∷ rest) (suc (suc (suc (suc k)))) (omega arith) within
sign_no_longer (a ∷ b ∷ []) c rest zero none above some within = absurd (omega arith)
sign_no_longer (a ∷ b ∷ []) c rest (suc zero) none above some within = absurd (omega arith)
sign_no_longer (a ∷ b ∷ []) c rest (suc (suc zero)) none above some within = absurd (omega arith)
sign_no_longer (a ∷ b ∷ []) c rest (suc (suc (suc zero))) none above some within = none
sign_no_longer (a ∷ b ∷ []) c rest (suc (suc (suc (suc k)))) none above some within = sign-long (a ∷ b ∷ c ∷ rest) (suc (suc (suc (suc k)))) (omega arith) within
sign_no_longer (a ∷ b ∷ d ∷ bs) c rest k none above some within = sign-long (a ∷ b ∷ d ∷ (bs ++ c ∷ rest)) k (omega arith) within

-- a word and a name after its first bytes
word_no_longer : (bs : List ℕ) (c : ℕ) (rest : List ℕ) (k : ℕ) → is_word bs ≡ true → is_word_byte c ≡ false → length bs < k → is_word (take k (bs ++ c ∷ rest)) ≡ false
word_no_longer [] c rest k is apart above = absurd (cc)
word_no_longer (b ∷ bs) c rest zero is apart above = absurd (omega arith)
word_no_longer (b ∷ bs) c rest (suc k) is apart above =
    by_test (is_letter b)
    (λ letter. rw letter (all_broken is_word_byte bs c rest k apart (omega arith)))
    (λ other. rw other)

nothing_more : (xs : List ℕ) (k : ℕ) → 0 < k → 0 < length xs → (length (take k xs) == 0) ≡ false
nothing_more xs zero above some = absurd (omega arith)
nothing_more [] (suc k) above some = absurd (omega arith)
nothing_more (x ∷ xs) (suc k) above some = eqb-suc-zero (length (take k xs))

-- a token that can't join what follows it is the longest one
pub longer : (kind : TokenKind) (bytes rest : List ℕ) → kind_of bytes ≡ Some kind → joins kind bytes rest ≡ false → IsLongest (length bytes) (bytes ++ rest)
longer kind bytes [] is apart k above within = absurd (omega (arith, length-append bytes []))
longer kind [] (c ∷ rest) is apart k above within = absurd (cc)
longer kind (b ∷ bs) (c ∷ rest) is apart zero above within = absurd (omega arith)
longer kind (b ∷ bs) (c ∷ rest) is apart (suc k) above within =
    let apart_of : (K : TokenKind) → K ≡ kind → joins K (b ∷ bs) (c ∷ rest) ≡ false = λ K same. subst (λ j. joins j (b ∷ bs) (c ∷ rest) ≡ false) (sym same) apart in
    by_test (is_letter b)
    (λ letter.
    let f = fits_kind (list_all is_word_byte bs) Word kind (rw letter at is) in
    rw (letter, all_broken is_word_byte bs c rest k (apart_of Word f.1) (omega arith)))
    (λ no_letter. by_test (b == 36)
    (λ dollar.
    let f = fits_kind (is_word bs) Name kind (rw (no_letter, dollar) at is) in
    rw (no_letter, dollar, word_no_longer bs c rest k f.0 (apart_of Name f.1) (omega arith)))
    (λ no_dollar. by_test (b == 48)
    (λ nought.
    rw (no_letter, no_dollar, nought, nothing_more (bs ++ c ∷ rest) k (omega arith) (omega (arith, length-append bs (c ∷ rest)))))
    (λ no_nought. by_test (is_ascii_digit b)
    (λ digit.
    let f = fits_kind (list_all is_ascii_digit bs) Number kind (rw (no_letter, no_dollar, no_nought, digit) at is) in
    rw (no_letter, no_dollar, no_nought, digit, all_broken is_ascii_digit bs c rest k (apart_of Number f.1) (omega arith)))
    (λ no_digit. by_test (is_quote b)
    (λ quote.
    let f = fits_kind (is_closed b bs) Str kind (rw (no_letter, no_dollar, no_nought, no_digit, quote) at is) in
    rw (no_letter, no_dollar, no_nought, no_digit, quote, closed_no_longer b bs (c ∷ rest) k f.0 (omega arith) (omega arith)))
    (λ no_quote.
    let f = fits_kind (is_sign (b ∷ bs)) Sign kind (rw (no_letter, no_dollar, no_nought, no_digit, no_quote) at is) in
    rw (no_letter, no_dollar, no_nought, no_digit, no_quote, sign_no_longer (b ∷ bs) c rest (suc k) (apart_of Sign f.1) above (omega arith) within))))))

-- a string is a token
closed_is : (quote : ℕ) (inside : List ℕ) → list_all (λ b. not (b == quote)) inside ≡ true → is_closed quote (inside ++ quote ∷ []) ≡ true
closed_is quote [] none = rw (same_self quote) where
  same_self : (n : ℕ) → (n == n) ≡ true
  same_self n = by_test (n == n) (λ same. same) (λ other. absurd (differs n other)) where
    differs : (n : ℕ) → (n == n) ≡ false → ⊥
    differs n other = grind arith
closed_is quote (b ∷ bs) none =
    by_test (b == quote)
    (λ same. let never : false ≡ true = rw same at none in absurd (cc))
    (λ other. rw other (closed_is quote bs (rw other at none)))

pub string_kind : (quote : ℕ) (inside : List ℕ) → is_quote quote ≡ true → list_all (λ b. not (b == quote)) inside ≡ true → kind_of (quoted quote inside) ≡ Some Str
string_kind quote inside is none =
    by_test (quote == 34)
    (λ double. subst (λ q. kind_of (q ∷ (inside ++ q ∷ [])) ≡ Some Str) (sym (eqb-true quote 34 double)) (rw (closed_is 34 inside (subst (λ q. list_all (λ b. not (b == q)) inside ≡ true) (eqb-true quote 34 double) none))))
    (λ other.
    let single : (quote == 39) ≡ true = rw other at is in
    subst (λ q. kind_of (q ∷ (inside ++ q ∷ [])) ≡ Some Str) (sym (eqb-true quote 39 single)) (rw (closed_is 39 inside (subst (λ q. list_all (λ b. not (b == q)) inside ≡ true) (eqb-true quote 39 single) none))))
