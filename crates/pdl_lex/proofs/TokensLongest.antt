-- The longest token is the one that is read from its first byte on.
use Rattle.std.proofs.Common.{◌≡◌, ℕ, zero, suc, ◌+◌, ◌<◌, ◌≤◌, Bool, true, false, List, [], ◌∷◌, length, refl, sym, ◌∙◌, ap, subst, arith, take, ⊎_elim, length-take-le, eqb-true, leb-true}
use Rattle.std.proofs.lemmas.Bool.{leb-false, ltb-true, ltb-false}
use Rattle.std.proofs.lemmas.List.Sums.{prefix_len-le-length}
use Rattle.std.proofs.str.Laws.{order}
use Rattle.std.specs.Prelude.{Some, None, nat_lt, nat_le, not, ◌==◌}
use Rattle.std.specs.List.{list_all, prefix_len}
use Rattle.std.specs.Char.{is_ascii_digit}
use Rattle.pdl_lemmas.specs.Tests.{by_test}
use Rattle.pdl_lex.specs.Bytes.{is_quote, is_letter, is_word_byte}
use Rattle.pdl_lex.specs.Tokens.{is_sign, is_closed, only_where, kind_of, longest, token_at}
use Rattle.pdl_lex.specs.TokenReading.{word_len, digits_len, other_len, name_after, string_after, begins_sign, sign_at, read_at}
use Rattle.pdl_lex.specs.declared.TokenKind.{TokenKind}
use Rattle.pdl_lex.specs.declared.TokenKind.TheVariants.{Name, Word, Number, Str, Sign}

-- no token has one of the lengths from m + 1 to n
abbrev NoneAbove : ℕ → ℕ → List ℕ → Type 0
NoneAbove m n text = (k : ℕ) → m < k → k ≤ n → kind_of (take k text) ≡ None

pub longest_none : (n : ℕ) (text : List ℕ) → NoneAbove 0 n text → longest n text ≡ None
unfolding longest
longest_none zero text none = refl
longest_none (suc n) text none = rw (none (suc n) (omega arith) (omega arith)) (longest_none n text (λ k above below. none k above (omega arith)))

pub longest_is : (n m : ℕ) (text : List ℕ) (kind : TokenKind) → 0 < m → m ≤ n → kind_of (take m text) ≡ Some kind → NoneAbove m n text → longest n text ≡ Some (kind, m)
unfolding longest
longest_is zero m text kind some below here none = absurd (omega arith)
longest_is (suc n) m text kind some below here none =
    ⊎_elim
    (λ at_end. let same : suc n ≡ m = omega arith in rw (same, here))
    (λ before. rw (none (suc n) (omega arith) (omega arith)) (longest_is n m text kind some before here (λ k above within. none k above (omega arith))))
    (order n m)

-- one length more has no token
none_from : (m n : ℕ) (text : List ℕ) → NoneAbove (suc m) n text → (suc m ≤ n → kind_of (take (suc m) text) ≡ None) → NoneAbove m n text
none_from m n text none here k above within =
    ⊎_elim
    (λ further. none k further within)
    (λ at. let same : k ≡ suc m = omega arith in subst (λ j. kind_of (take j text) ≡ None) (sym same) (here (omega arith)))
    (order (suc m) k)

one_add : (n : ℕ) → 1 + n ≡ suc n
one_add n = omega arith

module _ (p : ℕ → Bool) where
  pub prefix-yes : (x : ℕ) (xs : List ℕ) → p x ≡ true → prefix_len p (x ∷ xs) ≡ suc (prefix_len p xs)
  prefix-yes x xs passes = rw passes (omega arith)

  pub prefix-no : (x : ℕ) (xs : List ℕ) → p x ≡ false → prefix_len p (x ∷ xs) ≡ 0
  prefix-no x xs fails = rw fails

  pub list_all-front : (xs : List ℕ) → list_all p (take (prefix_len p xs) xs) ≡ true
  list_all-front [] = refl
  list_all-front (x ∷ xs) = by_test (p x) (λ passes. rw (prefix-yes x xs passes, passes) (list_all-front xs)) (λ fails. rw (prefix-no x xs fails))

  all-past : (xs : List ℕ) (k : ℕ) → prefix_len p xs < k → k ≤ length xs → list_all p (take k xs) ≡ false
  all-past xs zero past within = absurd (omega arith)
  all-past [] (suc k) past within = absurd (omega arith)
  all-past (x ∷ xs) (suc k) past within =
      by_test (p x)
      (λ passes. rw passes (all-past xs k (omega (arith, prefix-yes x xs passes)) (omega arith)))
      (λ fails. rw fails)

-- a string's other bytes, its quote and its end
closed-at : (quote : ℕ) (bs : List ℕ) → other_len quote bs < length bs → is_closed quote (take (suc (other_len quote bs)) bs) ≡ true
closed-at quote [] below = absurd (omega arith)
closed-at quote (b ∷ bs) below =
    by_test (b == quote)
    (λ same. let at : other_len quote (b ∷ bs) ≡ 0 = rw same in rw (at, same))
    (λ other. let more : other_len quote (b ∷ bs) ≡ suc (other_len quote bs) = prefix-yes (λ c. not (c == quote)) b bs (rw other) in rw (more, other) (closed-at quote bs (omega (arith, more))))

pub differs-eqb : (k : ℕ) → (k ≡ 0 → ⊥) → (k == 0) ≡ false
differs-eqb k some = by_test (k == 0) (λ same. absurd (some (eqb-true k 0 same))) (λ other. other)

closed-not : (quote : ℕ) (bs : List ℕ) (k : ℕ) → k ≤ length bs → (k ≡ suc (other_len quote bs) → ⊥) → is_closed quote (take k bs) ≡ false
closed-not quote bs zero within differs = refl
closed-not quote [] (suc k) within differs = refl
closed-not quote (b ∷ bs) (suc k) within differs =
    by_test (b == quote)
    (λ same.
    let at : other_len quote (b ∷ bs) ≡ 0 = rw same in
    let some : (k ≡ 0 → ⊥) = λ none. differs (ap suc (none ∙ sym at)) in
    rw (same, length-take-le k bs (omega arith)) (differs-eqb k some))
    (λ other.
    let more : other_len quote (b ∷ bs) ≡ suc (other_len quote bs) = prefix-yes (λ c. not (c == quote)) b bs (rw other) in
    rw other (closed-not quote bs k (omega arith) (λ e. differs (ap suc (e ∙ sym more)))))

-- no sign has more than three bytes
pub sign-long : (text : List ℕ) (k : ℕ) → 3 < k → k ≤ length text → is_sign (take k text) ≡ false
sign-long (a ∷ b ∷ c ∷ d ∷ rest) (suc (suc (suc (suc k)))) long within = refl
sign-long text k long within = absurd (omega arith)

begins-yes : (n : ℕ) (text : List ℕ) → begins_sign n text ≡ true → (n ≤ length text) × (is_sign (take n text) ≡ true)
begins-yes n text begins =
    by_test (nat_le n (length text))
    (λ fits. (leb-true n (length text) fits, rw fits at begins))
    (λ short. let never : false ≡ true = rw short at begins in absurd (cc))

begins-no : (n : ℕ) (text : List ℕ) → begins_sign n text ≡ false → n ≤ length text → is_sign (take n text) ≡ false
begins-no n text begins within =
    by_test (nat_le n (length text))
    (λ fits. rw fits at begins)
    (λ short. absurd (omega (arith, leb-false n (length text) short)))

none_above : (m n : ℕ) (text : List ℕ) → ((j : ℕ) → m ≤ j → j < n → kind_of (take (suc j) text) ≡ None) → NoneAbove m n text
none_above m n text none zero above within = absurd (omega arith)
none_above m n text none (suc j) above within = none j (omega arith) (omega arith)

-- the longest token, by its first byte
module _ (b : ℕ) (bs : List ℕ) where
  word-longest : is_letter b ≡ true → token_at (b ∷ bs) ≡ Some (Word, 1 + word_len bs)
  unfolding token_at
  word-longest letter =
      longest_is (length (b ∷ bs)) (1 + word_len bs) (b ∷ bs) Word (omega arith) (omega (arith, prefix_len-le-length is_word_byte bs))
      (rw (one_add (word_len bs), letter, list_all-front is_word_byte bs))
      (none_above (1 + word_len bs) (length (b ∷ bs)) (b ∷ bs) (λ j above below. rw (letter, all-past is_word_byte bs j (omega arith) (omega arith))))

  zero-longest : is_letter b ≡ false → (b == 36) ≡ false → (b == 48) ≡ true → token_at (b ∷ bs) ≡ Some (Number, 1)
  unfolding token_at
  zero-longest letter dollar at_zero =
      longest_is (length (b ∷ bs)) 1 (b ∷ bs) Number (omega arith) (omega arith)
      (rw (letter, dollar, at_zero))
      (none_above 1 (length (b ∷ bs)) (b ∷ bs) (λ j above below.
      rw (letter, dollar, at_zero, length-take-le j bs (omega arith), differs-eqb j (λ none. omega arith))))

  digits-longest : is_letter b ≡ false → (b == 36) ≡ false → (b == 48) ≡ false → is_ascii_digit b ≡ true → token_at (b ∷ bs) ≡ Some (Number, 1 + digits_len bs)
  unfolding token_at
  digits-longest letter dollar at_zero digit =
      longest_is (length (b ∷ bs)) (1 + digits_len bs) (b ∷ bs) Number (omega arith) (omega (arith, prefix_len-le-length is_ascii_digit bs))
      (rw (one_add (digits_len bs), letter, dollar, at_zero, digit, list_all-front is_ascii_digit bs))
      (none_above (1 + digits_len bs) (length (b ∷ bs)) (b ∷ bs) (λ j above below. rw (letter, dollar, at_zero, digit, all-past is_ascii_digit bs j (omega arith) (omega arith))))

  string-longest : is_letter b ≡ false → (b == 36) ≡ false → (b == 48) ≡ false → is_ascii_digit b ≡ false → is_quote b ≡ true → token_at (b ∷ bs) ≡ string_after b bs
  unfolding token_at
  string-longest letter dollar at_zero digit quote =
      by_test (nat_lt (other_len b bs) (length bs))
      (λ closed.
      let below : other_len b bs < length bs = ltb-true (other_len b bs) (length bs) closed in
      let size : other_len b bs + 2 ≡ suc (suc (other_len b bs)) = omega arith in
      rw closed (longest_is (length (b ∷ bs)) (other_len b bs + 2) (b ∷ bs) Str (omega arith) (omega arith)
      (rw (size, letter, dollar, at_zero, digit, quote, closed-at b bs below))
      (none_above (other_len b bs + 2) (length (b ∷ bs)) (b ∷ bs) (λ j above further.
      rw (letter, dollar, at_zero, digit, quote, closed-not b bs j (omega arith) (λ e. omega arith))))))
      (λ open'.
      let short : length bs ≤ other_len b bs = ltb-false (other_len b bs) (length bs) open' in
      rw open' (longest_none (length (b ∷ bs)) (b ∷ bs)
      (none_above 0 (length (b ∷ bs)) (b ∷ bs) (λ j above further.
      rw (letter, dollar, at_zero, digit, quote, closed-not b bs j (omega arith) (λ e. omega arith))))))

  sign-longest : is_letter b ≡ false → (b == 36) ≡ false → (b == 48) ≡ false → is_ascii_digit b ≡ false → is_quote b ≡ false → token_at (b ∷ bs) ≡ sign_at (b ∷ bs)
  unfolding token_at
  sign-longest letter dollar at_zero digit quote =
      let text : List ℕ = b ∷ bs in
      let n = length text in
      let sign : (j : ℕ) → kind_of (take (suc j) text) ≡ only_where (is_sign (take (suc j) text)) Sign = λ j. rw (letter, dollar, at_zero, digit, quote) in
      let fails : (j : ℕ) → is_sign (take (suc j) text) ≡ false → kind_of (take (suc j) text) ≡ None = λ j no_sign. sign j ∙ ap (λ v. only_where v Sign) no_sign in
      let fits : (j : ℕ) → is_sign (take (suc j) text) ≡ true → kind_of (take (suc j) text) ≡ Some Sign = λ j is. sign j ∙ ap (λ v. only_where v Sign) is in
      let above_three : NoneAbove 3 n text = none_above 3 n text (λ j above below. fails j (sign-long text (suc j) (omega arith) (omega arith))) in
      by_test (begins_sign 3 text)
      (λ three. rw three (longest_is n 3 text Sign (omega arith) (begins-yes 3 text three).0 (fits 2 (begins-yes 3 text three).1) above_three))
      (λ no_three.
      let above_two : NoneAbove 2 n text = none_from 2 n text above_three (λ within. fails 2 (begins-no 3 text no_three within)) in
      by_test (begins_sign 2 text)
      (λ two. rw (no_three, two) (longest_is n 2 text Sign (omega arith) (begins-yes 2 text two).0 (fits 1 (begins-yes 2 text two).1) above_two))
      (λ no_two.
      let above_one : NoneAbove 1 n text = none_from 1 n text above_two (λ within. fails 1 (begins-no 2 text no_two within)) in
      by_test (begins_sign 1 text)
      (λ one. rw (no_three, no_two, one) (longest_is n 1 text Sign (omega arith) (begins-yes 1 text one).0 (fits 0 (begins-yes 1 text one).1) above_one))
      (λ no_one.
      let above_none : NoneAbove 0 n text = none_from 0 n text above_one (λ within. fails 0 (begins-no 1 text no_one within)) in
      rw (no_three, no_two, no_one) (longest_none n text above_none))))

-- a name's bytes after its `$`
name-past : (b c : ℕ) (cs : List ℕ) → is_letter b ≡ false → (b == 36) ≡ true → is_letter c ≡ true → (j : ℕ) → 2 + word_len cs ≤ j → j < length (b ∷ c ∷ cs) → kind_of (take (suc j) (b ∷ c ∷ cs)) ≡ None
name-past b c cs letter dollar first zero above below = absurd (omega arith)
name-past b c cs letter dollar first (suc j) above below = rw (letter, dollar, first, all-past is_word_byte cs j (omega arith) (omega arith))

name-none : (b c : ℕ) (cs : List ℕ) → is_letter b ≡ false → (b == 36) ≡ true → is_letter c ≡ false → (j : ℕ) → kind_of (take (suc j) (b ∷ c ∷ cs)) ≡ None
name-none b c cs letter dollar other zero = rw (letter, dollar)
name-none b c cs letter dollar other (suc j) = rw (letter, dollar, other)

name-longest : (b : ℕ) (bs : List ℕ) → is_letter b ≡ false → (b == 36) ≡ true → token_at (b ∷ bs) ≡ name_after bs
unfolding token_at
name-longest b [] letter dollar =
    longest_none 1 (b ∷ []) (none_above 0 1 (b ∷ []) (λ j above below.
    let at : j ≡ 0 = omega arith in rw (at, letter, dollar)))
name-longest b (c ∷ cs) letter dollar =
    let text : List ℕ = b ∷ c ∷ cs in
    let name_past : is_letter c ≡ true → (j : ℕ) → 2 + word_len cs ≤ j → j < length text → kind_of (take (suc j) text) ≡ None = name-past b c cs letter dollar in
    let no_name : is_letter c ≡ false → (j : ℕ) → kind_of (take (suc j) text) ≡ None = name-none b c cs letter dollar in
    by_test (is_letter c)
    (λ first. rw first (longest_is (length text) (2 + word_len cs) text Name (omega arith) (omega (arith, prefix_len-le-length is_word_byte cs))
    (let size : 2 + word_len cs ≡ suc (suc (word_len cs)) = omega arith in rw (size, letter, dollar, first, list_all-front is_word_byte cs))
    (none_above (2 + word_len cs) (length text) text (name_past first))))
    (λ other. rw other (longest_none (length text) text (none_above 0 (length text) text (λ j above below. no_name other j))))

nothing-longest : token_at [] ≡ None
unfolding token_at longest
nothing-longest = refl

-- the longest token, however it begins
pub read-longest : (text : List ℕ) → read_at text ≡ token_at text
read-longest [] = sym nothing-longest
read-longest (b ∷ bs) =
    by_test (is_letter b) (λ letter. rw letter (sym (word-longest b bs letter))) (λ letter.
    by_test (b == 36) (λ dollar. rw (letter, dollar) (sym (name-longest b bs letter dollar))) (λ dollar.
    by_test (b == 48) (λ at_zero. rw (letter, dollar, at_zero) (sym (zero-longest b bs letter dollar at_zero))) (λ at_zero.
    by_test (is_ascii_digit b) (λ digit. rw (letter, dollar, at_zero, digit) (sym (digits-longest b bs letter dollar at_zero digit))) (λ digit.
    by_test (is_quote b)
    (λ quote. rw (letter, dollar, at_zero, digit, quote) (sym (string-longest b bs letter dollar at_zero digit quote)))
    (λ quote. rw (letter, dollar, at_zero, digit, quote) (sym (sign-longest b bs letter dollar at_zero digit quote)))))))
