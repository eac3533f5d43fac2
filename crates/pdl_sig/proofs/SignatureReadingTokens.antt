-- Signs, words and numbers are read exactly where they stand.
use Rattle.std.proofs.Common.{◌≡◌, ℕ, suc, ◌+◌, ◌<◌, ◌≤◌, Bool, true, false, cond, ◌&&◌, ◌==◌, nat_lt, List, [], ◌∷◌, ◌++◌, length, take, drop, Some, None, refl, ap, ap₂, sym, ◌∙◌, arith, eq-eqb, eqb-true, take-append-drop, if◌then◌else◌}
use Rattle.std.specs.List.{list_all, prefix_len}
use Rattle.std.specs.Char.{is_ascii_digit}
use Rattle.std.proofs.Math.Seq.{take-append_seam, drop-append_seam}
use Rattle.std.proofs.lemmas.Bool.Decides.{nat_tests}
use Rattle.std.proofs.lemmas.List.{length-append}
use Rattle.std.proofs.lemmas.Option.{same_Some}
use Rattle.std.proofs.lemmas.Bool.{and_parts}
use Rattle.pdl_lex.specs.Bytes.{is_letter, is_word_byte}
use Rattle.pdl_lex.specs.Tokens.{is_word}
use Rattle.pdl_sig.specs.Grammar.{past_blanks, begins, Sign, Word, Number, value_after, is_number, size_limit}
use Rattle.pdl_sig.specs.SignatureReading.{sign_in, sign_at, word_in, word_at, in_limit, where_number, number_of_digits, number_in, number_at}
use Rattle.pdl_sig.proofs.GrammarFronts.{front_all, all_front, front_stops, past_shorter, letter_goes_on}

pub sign_read : (b : ℕ) (s t : List ℕ) → Sign b s t → sign_at b s ≡ Some t
unfolding sign_at
sign_read b s t k = ap (sign_in b) k.stands ∙ ap (λ x. if x then Some t else None) (eq-eqb b b refl)

sign_is : (b c : ℕ) (v t : List ℕ) (k : Bool) → (c == b) ≡ k → (if k then Some v else None) ≡ Some t → c ∷ v ≡ b ∷ t
sign_is b c v t true e h = let v_is : v ≡ t = cc in ap₂ (λ x y. x ∷ y) (eqb-true c b e) v_is
sign_is b c v t false e h = cc

sign_front : (b : ℕ) (u t : List ℕ) → sign_in b u ≡ Some t → u ≡ b ∷ t
sign_front b [] t h = cc
sign_front b (c ∷ v) t h = sign_is b c v t (c == b) refl h

pub sign_stands : (b : ℕ) (s t : List ℕ) → sign_at b s ≡ Some t → Sign b s t
unfolding sign_at
sign_stands b s t h = record { stands = sign_front b (past_blanks s) t h }

pub sign_shorter : (b : ℕ) (s t : List ℕ) → Sign b s t → length t < length s
sign_shorter b s t k = omega (arith, past_shorter s, ap length k.stands)

-- another sign, a word or the end stands there
pub no_sign_before : (b c : ℕ) (s t : List ℕ) → Sign c s t → (c == b) ≡ false → sign_at b s ≡ None
unfolding sign_at
no_sign_before b c s t k e = ap (sign_in b) k.stands ∙ ap (λ x. if x then Some t else None) e

pub no_sign_end : (b : ℕ) (s : List ℕ) → past_blanks s ≡ [] → sign_at b s ≡ None
unfolding sign_at
no_sign_end b s e = ap (sign_in b) e

other_byte : (b c : ℕ) → is_letter c ≡ true → is_letter b ≡ false → (c == b) ≡ false
other_byte b c h e = different (c == b) refl where
  different : (k : Bool) → (c == b) ≡ k → k ≡ false
  different false q = refl
  different true q = let same : c ≡ b = eqb-true c b q in cc (ap is_letter same)

word_front : (b : ℕ) (w t : List ℕ) → is_word w ≡ true → is_letter b ≡ false → sign_in b (w ++ t) ≡ None
word_front b [] t h e = cc
word_front b (c ∷ w) t h e = ap (λ x. if x then Some (w ++ t) else None) (other_byte b c (and_parts (is_letter c) (list_all is_word_byte w) h).0 e)

pub no_sign_word : (b : ℕ) (w s t : List ℕ) → Word w s t → is_letter b ≡ false → sign_at b s ≡ None
unfolding sign_at
no_sign_word b w s t k e = ap (sign_in b) k.stands ∙ word_front b w t k.word e

pub no_word_sign : (b : ℕ) (s t : List ℕ) → Sign b s t → is_letter b ≡ false → word_at s ≡ None
unfolding word_at
no_word_sign b s t k e = ap word_in k.stands ∙ ap (λ x. if x then Some (take (prefix_len is_word_byte (b ∷ t)) (b ∷ t), drop (prefix_len is_word_byte (b ∷ t)) (b ∷ t)) else None) e

pub no_word_end : (s : List ℕ) → past_blanks s ≡ [] → word_at s ≡ None
unfolding word_at
no_word_end s e = ap word_in e

-- a word
word_all : (w : List ℕ) → is_word w ≡ true → list_all is_word_byte w ≡ true
word_all [] h = cc
word_all (b ∷ w) h = ap₂ (λ x y. x && y) (letter_goes_on b (and_parts (is_letter b) (list_all is_word_byte w) h).0) (and_parts (is_letter b) (list_all is_word_byte w) h).1

word_begins : (w t : List ℕ) → is_word w ≡ true → begins is_letter (w ++ t) ≡ true
word_begins [] t h = cc
word_begins (b ∷ w) t h = (and_parts (is_letter b) (list_all is_word_byte w) h).0

-- the front of so many elements, and what is left
abbrev parted : List ℕ → ℕ → List ℕ × List ℕ
parted s n = (take n s, drop n s)

parted_at : (w t : List ℕ) (n : ℕ) → n ≡ length w → parted (w ++ t) n ≡ (w, t)
parted_at w t n e = ap (parted (w ++ t)) e ∙ ap₂ (λ x y. (x, y)) (take-append_seam w t) (drop-append_seam w t)

pub word_read : (w s t : List ℕ) → Word w s t → word_at s ≡ Some (w, t)
unfolding word_at
word_read w s t k =
    ap word_in k.stands
    ∙ ap (λ x. if x then Some (parted (w ++ t) (prefix_len is_word_byte (w ++ t))) else None) (word_begins w t k.word)
    ∙ ap Some (parted_at w t _ (front_all is_word_byte w t (word_all w k.word) k.longest))

word_made : (s : List ℕ) → begins is_letter s ≡ true → is_word (take (prefix_len is_word_byte s) s) ≡ true
word_made [] h = cc
word_made (b ∷ s) h = by_first (is_word_byte b) (letter_goes_on b h) where
  by_first : (k : Bool) → k ≡ true → is_word (take (cond k (1 + prefix_len is_word_byte s) 0) (b ∷ s)) ≡ true
  by_first false e = cc
  by_first true e = ap (λ n. is_word (take n (b ∷ s))) one_more ∙ ap₂ (λ x y. x && y) h (all_front is_word_byte s) where
    one_more : 1 + prefix_len is_word_byte s ≡ suc (prefix_len is_word_byte s)
    one_more = omega arith

word_is : (s u w t : List ℕ) (k : Bool) → past_blanks s ≡ u → begins is_letter u ≡ k
    → (if k then Some (parted u (prefix_len is_word_byte u)) else None) ≡ Some (w, t) → Word w s t
word_is s u w t false p e h = cc
word_is s u w t true p e h =
    let pair : parted u (prefix_len is_word_byte u) ≡ (w, t) = cc in
    let w_is : take (prefix_len is_word_byte u) u ≡ w = ap (λ x. x.0) pair in
    let t_is : drop (prefix_len is_word_byte u) u ≡ t = ap (λ x. x.1) pair in
    record {
      stands = p ∙ sym (take-append-drop (prefix_len is_word_byte u) u) ∙ ap₂ (λ x y. x ++ y) w_is t_is;
      word = ap is_word (sym w_is) ∙ word_made u e;
      longest = ap (begins is_word_byte) (sym t_is) ∙ front_stops is_word_byte u;
    }

pub word_stands : (w s t : List ℕ) → word_at s ≡ Some (w, t) → Word w s t
unfolding word_at
word_stands w s t h = word_is s (past_blanks s) w t (begins is_letter (past_blanks s)) refl refl h

word_some : (w : List ℕ) → is_word w ≡ true → 1 ≤ length w
word_some [] h = cc
word_some (b ∷ w) h = omega arith

pub word_shorter : (w s t : List ℕ) → Word w s t → length t < length s
word_shorter w s t k = omega (arith, past_shorter s, ap length k.stands, length-append w t, word_some w k.word)

-- a number
number_some : (w : List ℕ) → is_number w ≡ true → 1 ≤ length w
number_some [] h = cc
number_some (b ∷ w) h = omega arith

pub number_shorter : (n : ℕ) (s t : List ℕ) → Number n s t → length t < length s
number_shorter n s t k = omega (arith, past_shorter s, ap length k.stands, length-append k.digits t, number_some k.digits k.number)

allowed : (n m : ℕ) (t : List ℕ) → n ≡ m → n ≤ 1048576 → in_limit m t (nat_lt 1048576 m) ≡ Some (n, t)
allowed n m t e h =
    let small : nat_lt 1048576 m ≡ false = grind (arith, nat_tests) in
    ap (in_limit m t) small ∙ ap (λ x. Some (x, t)) (sym e)

pub number_read : (n : ℕ) (s t : List ℕ) → Number n s t → n ≤ size_limit → number_at s ≡ Some (n, t)
unfolding number_at
number_read n s t k h =
    ap number_in k.stands
    ∙ ap (λ (x : List ℕ × List ℕ). number_of_digits x.0 x.1) (parted_at k.digits t _ (front_all is_ascii_digit k.digits t k.all k.longest))
    ∙ ap (where_number (value_after 0 k.digits) t) k.number
    ∙ allowed n (value_after 0 k.digits) t k.value h

-- a number within the limit stands there
pub record Within (n : ℕ) (s t : List ℕ) : Type 0 where
  pub number : Number n s t
  pub limit : n ≤ size_limit

-- what the reader of digits answers
record Digits (n m : ℕ) (v t : List ℕ) : Type 0 where
  limit : m ≤ 1048576
  value : n ≡ m
  rest : v ≡ t

value_is : (n m : ℕ) (t v : List ℕ) (k : Bool) → nat_lt 1048576 m ≡ k → in_limit m v k ≡ Some (n, t) → Digits n m v t
value_is n m t v true e h = cc
value_is n m t v false e h =
    let inner = same_Some {A = ℕ × List ℕ} (m, v) (n, t) h in
    record { limit = grind (arith, nat_tests, e); value = sym (ap (λ (x : ℕ × List ℕ). x.0) inner); rest = ap (λ (x : ℕ × List ℕ). x.1) inner }

digits_are : (n m : ℕ) (v t : List ℕ) (k : Bool) → where_number m v k ≡ Some (n, t) → (k ≡ true) × Digits n m v t
digits_are n m v t false h = cc
digits_are n m v t true h = (refl, value_is n m t v (nat_lt 1048576 m) refl h)

number_is : (n : ℕ) (s u t : List ℕ) → past_blanks s ≡ u → number_in u ≡ Some (n, t) → Within n s t
number_is n s u t p h =
    let digits = take (prefix_len is_ascii_digit u) u in
    let found = digits_are n (value_after 0 digits) (drop (prefix_len is_ascii_digit u) u) t (is_number digits) h in
    record {
      number = record {
        digits = digits;
        stands = p ∙ sym (take-append-drop (prefix_len is_ascii_digit u) u) ∙ ap (λ x. digits ++ x) found.1.rest;
        all = all_front is_ascii_digit u;
        number = found.0;
        longest = ap (begins is_ascii_digit) (sym found.1.rest) ∙ front_stops is_ascii_digit u;
        value = found.1.value;
      };
      limit = omega (arith, found.1.limit, found.1.value);
    }

pub number_stands : (n : ℕ) (s t : List ℕ) → number_at s ≡ Some (n, t) → Within n s t
unfolding number_at
number_stands n s t h = number_is n s (past_blanks s) t refl h
