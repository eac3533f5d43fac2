-- From the counted front of a text to what is read there.
use Rattle.std.proofs.Common.{◌≡◌, ℕ, ◌<◌, ◌≤◌, min, Bool, true, false, nat_lt, List, take, drop, Some, None, ap, ap₂, sym, ◌∙◌, arith, if◌then◌else◌}
use Rattle.std.specs.List.{prefix_len}
use Rattle.std.specs.Char.{is_ascii_digit}
use Rattle.std.proofs.lemmas.Bool.Decides.{nat_tests}
use Rattle.pdl_lex.specs.Bytes.{is_letter, is_word_byte}
use Rattle.pdl_sig.specs.Grammar.{past_blanks, begins, value_after, is_number}
use Rattle.pdl_sig.specs.SignatureReading.{word_in, word_at, in_limit, where_number, number_of_digits, number_in, number_at}

-- the front of a text past its blanks, and what is left after it
pub record Parts (p : ℕ → Bool) (s u front rest : List ℕ) : Type 0 where
  pub past : u ≡ past_blanks s
  pub front_is : front ≡ take (prefix_len p u) u
  pub rest_is : rest ≡ drop (prefix_len p u) u

pub word_found : (s u w t : List ℕ) → Parts is_word_byte s u w t → begins is_letter u ≡ true → Some (w, t) ≡ word_at s
unfolding word_at
word_found s u w t k h =
    ap₂ (λ x y. Some (x, y)) k.front_is k.rest_is
    ∙ sym (ap word_in (sym k.past) ∙ ap (λ x. if x then Some (take (prefix_len is_word_byte u) u, drop (prefix_len is_word_byte u) u) else None) h)

number_seen : (s u digits t : List ℕ) → Parts is_ascii_digit s u digits t → number_at s ≡ where_number (value_after 0 digits) t (is_number digits)
unfolding number_at
number_seen s u digits t k = ap number_in (sym k.past) ∙ ap₂ number_of_digits (sym k.front_is) (sym k.rest_is)

pub no_number : (s u digits t : List ℕ) → Parts is_ascii_digit s u digits t → is_number digits ≡ false → None ≡ number_at s
no_number s u digits t k h = sym (number_seen s u digits t k ∙ ap (where_number (value_after 0 digits) t) h)

pub large_number : (s u digits t : List ℕ) (n : ℕ) → Parts is_ascii_digit s u digits t → is_number digits ≡ true → n ≡ min (value_after 0 digits) 1048577 → 1048576 < n
    → None ≡ number_at s
large_number s u digits t n k h e l =
    let above : 1048576 < value_after 0 digits = omega (arith, e, l) in
    let large : nat_lt 1048576 (value_after 0 digits) ≡ true = grind (arith, nat_tests, above) in
    sym (number_seen s u digits t k ∙ ap (where_number (value_after 0 digits) t) h ∙ ap (in_limit (value_after 0 digits) t) large)

pub number_found : (s u digits t : List ℕ) (n : ℕ) → Parts is_ascii_digit s u digits t → is_number digits ≡ true → n ≡ min (value_after 0 digits) 1048577 → n ≤ 1048576
    → Some (n, t) ≡ number_at s
number_found s u digits t n k h e l =
    let same : n ≡ value_after 0 digits = omega (arith, e, l) in
    let within : value_after 0 digits ≤ 1048576 = omega (arith, same, l) in
    let small : nat_lt 1048576 (value_after 0 digits) ≡ false = grind (arith, nat_tests, within) in
    ap (λ m. Some (m, t)) same
    ∙ sym (number_seen s u digits t k ∙ ap (where_number (value_after 0 digits) t) h ∙ ap (in_limit (value_after 0 digits) t) small)
