-- What a text is: its tokens with their spans, or the fault of the first byte at which none begins.
use Rattle.std.proofs.Common.{◌≡◌, ◌↔◌, ℕ, zero, suc, ◌+◌, ◌<◌, ◌≤◌, true, false, List, [], ◌∷◌, ◌++◌, length, refl, sym, ap, ◌∙◌, subst, arith, take, drop, ⊎_elim, take-append-drop, length-take-le, length-append, eqb-true, true≢false}
use Rattle.std.proofs.lemmas.List.Sums.{prefix_len-le-length}
use Rattle.std.proofs.str.Laws.{order}
use Rattle.std.specs.Prelude.{◌==◌, Option, Some, None, Result, Ok, Err, not}
use Rattle.std.specs.List.{prefix_len}
use Rattle.pdl_lemmas.specs.Tests.{by_test}
use Rattle.pdl_lex.specs.declared.LexFault.{LexFault}
use Rattle.pdl_lex.specs.declared.Token.{Token}
use Rattle.pdl_lex.specs.declared.TokenKind.{TokenKind}
use Rattle.pdl_lex.specs.Bytes.{is_blank, is_hash, is_newline}
use Rattle.pdl_lex.specs.Tokens.{gap_at, token_at, after_tokens, toks_from, toks, longest, kind_of, or_shorter, is_line_end, is_one_line, IsLongest, MeansFrom, at_end, a_blank, a_comment, a_token, no_token, Means, Spans}
use Rattle.pdl_lex.proofs.TokensLongest.{list_all-front, prefix-yes, prefix-no, longest_is, longest_none}
use Rattle.pdl_lex.proofs.TokenWalks.{gap-first, token-first, none-first}

-- the first m bytes are the longest token of at most n bytes
record IsFound (n : ℕ) (text : List ℕ) (kind : TokenKind) (m : ℕ) : Type 0 where
  some : 0 < m
  within : m ≤ n
  here : kind_of (take m text) ≡ Some kind
  none : (k : ℕ) → m < k → k ≤ n → kind_of (take k text) ≡ None

found_or : (n : ℕ) (text : List ℕ) (kind : TokenKind) (m : ℕ) (o : Option TokenKind) → kind_of (take (suc n) text) ≡ o →
    (longest n text ≡ Some (kind, m) → IsFound n text kind m) → or_shorter o (suc n) (longest n text) ≡ Some (kind, m) → IsFound (suc n) text kind m
found_or n text kind m None e shorter h =
    let s = shorter h in
    record {
      some = s.some;
      within = omega (arith, s.within);
      here = s.here;
      none = λ k above below. ⊎_elim
          (λ last. let same : k ≡ suc n = omega arith in rw same e)
          (λ before. s.none k above (omega arith))
          (order n k);
    }
found_or n text kind m (Some kind') e shorter h =
    let pair : (kind', suc n) ≡ (kind, m) = some_inj _ _ h in
    let size : suc n ≡ m = ap (λ x. x.1) pair in
    let same : kind' ≡ kind = ap (λ x. x.0) pair in
    record {
      some = omega (arith, size);
      within = omega (arith, size);
      here = subst (λ k. kind_of (take k text) ≡ Some kind) size (subst (λ x. kind_of (take (suc n) text) ≡ Some x) same e);
      none = λ k above below. absurd (omega (arith, size));
    }
  where
    some_inj : (x y : TokenKind × ℕ) → Some x ≡ Some y → x ≡ y
    some_inj x y e = cc

longest_found : (n : ℕ) (text : List ℕ) (kind : TokenKind) (m : ℕ) → longest n text ≡ Some (kind, m) → IsFound n text kind m
unfolding longest
longest_found zero text kind m h = absurd (cc)
longest_found (suc n) text kind m h = found_or n text kind m (kind_of (take (suc n) text)) refl (longest_found n text kind m) h

token_found : (text : List ℕ) (kind : TokenKind) (m : ℕ) → token_at text ≡ Some (kind, m) → IsFound (length text) text kind m
unfolding token_at
token_found text kind m h = longest_found (length text) text kind m h

-- how long a comment is, without its newline
abbrev line_len : List ℕ → ℕ
line_len bs = prefix_len (λ c. not (is_newline c)) bs

line-ends : (bs : List ℕ) → is_line_end (drop (line_len bs) bs) ≡ true
line-ends [] = refl
line-ends (b ∷ bs) =
    by_test (is_newline b)
    (λ newline.
    let none : line_len (b ∷ bs) ≡ 0 = prefix-no (λ c. not (is_newline c)) b bs (rw newline) in
    subst (λ k. is_line_end (drop k (b ∷ bs)) ≡ true) (sym none) newline)
    (λ other.
    let more : line_len (b ∷ bs) ≡ suc (line_len bs) = prefix-yes (λ c. not (is_newline c)) b bs (rw other) in
    subst (λ k. is_line_end (drop k (b ∷ bs)) ≡ true) (sym more) (line-ends bs))

-- no token begins where none is found
none_or : (n : ℕ) (text : List ℕ) (k : ℕ) → 0 < k → k ≤ suc n → (o : Option TokenKind) → kind_of (take (suc n) text) ≡ o →
    (longest n text ≡ None → k ≤ n → kind_of (take k text) ≡ None) → or_shorter o (suc n) (longest n text) ≡ None → kind_of (take k text) ≡ None
none_or n text k above below (Some kind) e shorter h = absurd (cc)
none_or n text k above below None e shorter h =
    ⊎_elim
    (λ last. let same : k ≡ suc n = omega arith in rw same e)
    (λ before. shorter h (omega arith))
    (order n k)

longest_nothing : (n : ℕ) (text : List ℕ) → longest n text ≡ None → (k : ℕ) → 0 < k → k ≤ n → kind_of (take k text) ≡ None
unfolding longest
longest_nothing zero text h k above below = absurd (omega arith)
longest_nothing (suc n) text h k above below =
    none_or n text k above below (kind_of (take (suc n) text)) refl (λ e within. longest_nothing n text e k above within) h

token_nothing : (text : List ℕ) → token_at text ≡ None → IsLongest 0 text
unfolding token_at
token_nothing text h = longest_nothing (length text) text h

drop_shorter : (k : ℕ) (xs : List ℕ) → length (drop k xs) ≤ length xs
drop_shorter zero xs = omega arith
drop_shorter (suc k) [] = omega arith
drop_shorter (suc k) (x ∷ xs) = omega (arith, drop_shorter k xs)

-- what is read from a place on, where it's shown for shorter texts
module _ (n : ℕ) (shorter : (at : ℕ) (text : List ℕ) → length text ≤ n → MeansFrom at text (toks_from at 0 text)) where
  blank-means : (at b : ℕ) (bs : List ℕ) → length bs ≤ n → is_blank b ≡ true → MeansFrom at (b ∷ bs) (toks_from at 0 (b ∷ bs))
  blank-means at b bs few blank =
      let gap : gap_at (b ∷ bs) ≡ 1 = rw blank in
      subst (MeansFrom at (b ∷ bs)) (sym (gap-first b bs at 0 gap)) (a_blank blank (shorter (at + 1) bs few))

  comment-means : (at b : ℕ) (bs : List ℕ) → length bs ≤ n → is_blank b ≡ false → is_hash b ≡ true → MeansFrom at (b ∷ bs) (toks_from at 0 (b ∷ bs))
  comment-means at b bs few blank hash =
      let m = line_len bs in
      let gap : gap_at (b ∷ bs) ≡ suc m = rw (blank, hash) in
      let fits : m ≤ length bs = prefix_len-le-length (λ c. not (is_newline c)) bs in
      let size : length (take m bs) ≡ m = length-take-le m bs fits in
      let answer : Result (List Token) LexFault = toks_from (at + suc m) 0 (drop m bs) in
      let rest : MeansFrom (at + suc m) (drop m bs) answer = shorter (at + suc m) (drop m bs) (omega (arith, drop_shorter m bs)) in
      let place : at + suc m ≡ at + length (b ∷ take m bs) = ap (λ k. at + suc k) (sym size) in
      subst (MeansFrom at (b ∷ bs)) (sym (gap-first b bs at m gap))
      (subst (λ xs. MeansFrom at (b ∷ xs) answer) (take-append-drop m bs)
      (a_comment (take m bs) hash (list_all-front (λ c. not (is_newline c)) bs) (line-ends bs) (subst (λ p. MeansFrom p (drop m bs) answer) place rest)))

  -- a token, and then what is read after it
  token-means : (at b : ℕ) (bs : List ℕ) (kind : TokenKind) (k : ℕ) → length bs ≤ n → gap_at (b ∷ bs) ≡ 0 → token_at (b ∷ bs) ≡ Some (kind, suc k)
      → MeansFrom at (b ∷ bs) (toks_from at 0 (b ∷ bs))
  token-means at b bs kind k few gap token =
      let text : List ℕ = b ∷ bs in
      let m : ℕ = suc k in
      let found = token_found text kind m token in
      let size : length (take m text) ≡ m = length-take-le m text found.within in
      let whole : take m text ++ drop m text ≡ text = take-append-drop m text in
      let long : IsLongest (length (take m text)) (take m text ++ drop m text) =
      subst (λ xs. IsLongest (length (take m text)) xs) (sym whole) (λ j above within. found.none j (omega (arith, size)) within) in
      let answer : Result (List Token) LexFault = toks_from (at + m) 0 (drop k bs) in
      let rest : MeansFrom (at + m) (drop k bs) answer = shorter (at + m) (drop k bs) (omega (arith, drop_shorter k bs)) in
      let one : MeansFrom at (take m text ++ drop m text) (after_tokens (record { kind = kind; from = at; to = at + length (take m text) } ∷ []) answer) =
      a_token (take m text) found.here long (subst (λ j. MeansFrom (at + j) (drop m text) answer) (sym size) rest) in
      subst (MeansFrom at text) (sym (token-first b bs at kind k gap token))
      (subst (λ j. MeansFrom at text (after_tokens (record { kind = kind; from = at; to = at + j } ∷ []) answer)) size
      (subst (λ xs. MeansFrom at xs (after_tokens (record { kind = kind; from = at; to = at + length (take m text) } ∷ []) answer)) whole one))

  nothing-means : (at b : ℕ) (bs : List ℕ) → is_blank b ≡ false → is_hash b ≡ false → token_at (b ∷ bs) ≡ None → MeansFrom at (b ∷ bs) (toks_from at 0 (b ∷ bs))
  nothing-means at b bs blank hash token =
      let gap : gap_at (b ∷ bs) ≡ 0 = rw (blank, hash) in
      subst (MeansFrom at (b ∷ bs)) (sym (none-first b bs at gap token)) (no_token blank hash (token_nothing (b ∷ bs) token))

  found-means : (at b : ℕ) (bs : List ℕ) (o : Option (TokenKind × ℕ)) → length bs ≤ n → is_blank b ≡ false → is_hash b ≡ false → token_at (b ∷ bs) ≡ o
      → MeansFrom at (b ∷ bs) (toks_from at 0 (b ∷ bs))
  found-means at b bs None few blank hash token = nothing-means at b bs blank hash token
  found-means at b bs (Some (kind, zero)) few blank hash token = let found = token_found (b ∷ bs) kind 0 token in absurd (omega (arith, found.some))
  found-means at b bs (Some (kind, suc k)) few blank hash token = token-means at b bs kind k few (rw (blank, hash)) token

  first-means : (at b : ℕ) (bs : List ℕ) → length bs ≤ n → MeansFrom at (b ∷ bs) (toks_from at 0 (b ∷ bs))
  first-means at b bs few =
      by_test (is_blank b) (λ blank. blank-means at b bs few blank) (λ blank.
      by_test (is_hash b) (λ hash. comment-means at b bs few blank hash) (λ hash.
      found-means at b bs (token_at (b ∷ bs)) few blank hash refl))

nothing-left : (at : ℕ) → MeansFrom at [] (toks_from at 0 [])
unfolding toks_from
nothing-left at = at_end

toks_from-means : (n at : ℕ) (text : List ℕ) → length text ≤ n → MeansFrom at text (toks_from at 0 text)
toks_from-means n at [] few = nothing-left at
toks_from-means zero at (b ∷ bs) few = absurd (omega arith)
toks_from-means (suc n) at (b ∷ bs) few = first-means n (toks_from-means n) at b bs (omega arith)

toks-means : (text : List ℕ) → Means text (toks text)
unfolding toks
toks-means text = toks_from-means (length text) 0 text (omega arith)

-- no token begins with a blank or with `#`
abbrev begins_none : ℕ → Type 0
begins_none b = (bs : List ℕ) → kind_of (b ∷ bs) ≡ None

none_at_space : begins_none 32
none_at_space [] = refl
none_at_space (x ∷ []) = refl
none_at_space (x ∷ y ∷ []) = refl
none_at_space (x ∷ y ∷ z ∷ bs) = refl

none_at_tab : begins_none 9
none_at_tab [] = refl
none_at_tab (x ∷ []) = refl
none_at_tab (x ∷ y ∷ []) = refl
none_at_tab (x ∷ y ∷ z ∷ bs) = refl

none_at_newline : begins_none 10
none_at_newline [] = refl
none_at_newline (x ∷ []) = refl
none_at_newline (x ∷ y ∷ []) = refl
none_at_newline (x ∷ y ∷ z ∷ bs) = refl

none_at_return : begins_none 13
none_at_return [] = refl
none_at_return (x ∷ []) = refl
none_at_return (x ∷ y ∷ []) = refl
none_at_return (x ∷ y ∷ z ∷ bs) = refl

none_at_hash : begins_none 35
none_at_hash [] = refl
none_at_hash (x ∷ []) = refl
none_at_hash (x ∷ y ∷ []) = refl
none_at_hash (x ∷ y ∷ z ∷ bs) = refl

none_at : (b c : ℕ) → (b == c) ≡ true → begins_none c → begins_none b
none_at b c same none = subst begins_none (sym (eqb-true b c same)) none

none_at_blank : (b : ℕ) → is_blank b ≡ true → begins_none b
none_at_blank b blank =
    by_test (b == 32) (λ e. none_at b 32 e none_at_space) (λ not_space.
    by_test (b == 9) (λ e. none_at b 9 e none_at_tab) (λ not_tab.
    by_test (b == 10) (λ e. none_at b 10 e none_at_newline) (λ not_newline.
    by_test (b == 13) (λ e. none_at b 13 e none_at_return) (λ not_return.
    let none : false ≡ true = rw (not_space, not_tab, not_newline, not_return) at blank in absurd (true≢false (sym none))))))

-- so where a token begins there is no gap
no_gap : (b : ℕ) (bs rest : List ℕ) (kind : TokenKind) → kind_of (b ∷ bs) ≡ Some kind → gap_at (b ∷ rest) ≡ 0
no_gap b bs rest kind is =
    by_test (is_blank b) (λ blank. let none = none_at_blank b blank bs in absurd (cc)) (λ blank.
    by_test (is_hash b) (λ hash. let none = none_at b 35 hash none_at_hash bs in absurd (cc)) (λ hash. rw (blank, hash)))

hash_no_blank : (b : ℕ) → is_hash b ≡ true → is_blank b ≡ false
hash_no_blank b hash = let is : b ≡ 35 = eqb-true b 35 hash in rw is

one_line : (line rest : List ℕ) → is_one_line line ≡ true → is_line_end rest ≡ true → line_len (line ++ rest) ≡ length line
one_line [] [] one end = refl
one_line [] (b ∷ bs) one end = prefix-no (λ c. not (is_newline c)) b bs (rw end)
one_line (b ∷ bs) rest one end =
    by_test (is_newline b)
    (λ newline. let none : false ≡ true = rw newline at one in absurd (true≢false (sym none)))
    (λ other. let others : is_one_line bs ≡ true = rw other at one in prefix-yes (λ c. not (is_newline c)) b (bs ++ rest) (rw other) ∙ ap suc (one_line bs rest others end))

drop_front : (xs ys : List ℕ) → drop (length xs) (xs ++ ys) ≡ ys
drop_front [] ys = refl
drop_front (x ∷ xs) ys = drop_front xs ys

take_front : (xs ys : List ℕ) → take (length xs) (xs ++ ys) ≡ xs
take_front [] ys = refl
take_front (x ∷ xs) ys = ap (λ zs. x ∷ zs) (take_front xs ys)

long_token : (bytes bs : List ℕ) (kind : TokenKind) → 0 < length bytes → kind_of bytes ≡ Some kind → IsLongest (length bytes) (bytes ++ bs)
    → token_at (bytes ++ bs) ≡ Some (kind, length bytes)
unfolding token_at
long_token bytes bs kind some is long =
    longest_is (length (bytes ++ bs)) (length bytes) (bytes ++ bs) kind some (omega (arith, length-append bytes bs))
    (ap kind_of (take_front bytes bs) ∙ is) long

no_long_token : (text : List ℕ) → IsLongest 0 text → token_at text ≡ None
unfolding token_at
no_long_token text none = longest_none (length text) text none

read_token : (at : ℕ) (kind : TokenKind) (bytes bs : List ℕ) (answer : Result (List Token) LexFault) → kind_of bytes ≡ Some kind
    → IsLongest (length bytes) (bytes ++ bs) → toks_from (at + length bytes) 0 bs ≡ answer
    → toks_from at 0 (bytes ++ bs) ≡ after_tokens (record { kind = kind; from = at; to = at + length bytes } ∷ []) answer
read_token at kind [] bs answer is long rest = absurd (cc)
read_token at kind (b ∷ more) bs answer is long rest =
    token-first b (more ++ bs) at kind (length more) (no_gap b more (more ++ bs) kind is) (long_token (b ∷ more) bs kind (omega arith) is long)
    ∙ ap (λ xs. after_tokens (record { kind = kind; from = at; to = at + length (b ∷ more) } ∷ []) (toks_from (at + length (b ∷ more)) 0 xs)) (drop_front more bs)
    ∙ ap (after_tokens (record { kind = kind; from = at; to = at + length (b ∷ more) } ∷ [])) rest

read_nothing : (at : ℕ) → toks_from at 0 [] ≡ Ok []
unfolding toks_from
read_nothing at = refl

-- what the bytes mean is what is read
means-read : {at : ℕ} {text : List ℕ} {answer : Result (List Token) LexFault} → MeansFrom at text answer → toks_from at 0 text ≡ answer
means-read (at_end {at = at}) = read_nothing at
means-read (a_blank {at = at} {b = b} {bs = bs} blank h) = gap-first b bs at 0 (rw blank) ∙ means-read h
means-read (a_comment {at = at} {b = b} line {bs = bs} hash one end h) =
    let gap : gap_at (b ∷ line ++ bs) ≡ suc (length line) = rw (hash_no_blank b hash, hash, one_line line bs one end) in
    gap-first b (line ++ bs) at (length line) gap ∙ ap (toks_from (at + suc (length line)) 0) (drop_front line bs) ∙ means-read h
means-read (a_token {at = at} {kind = kind} bytes {bs = bs} {answer = answer} is long h) = read_token at kind bytes bs answer is long (means-read h)
means-read (no_token {at = at} {b = b} {bs = bs} blank hash none) = none-first b bs at (rw (blank, hash)) (no_long_token (b ∷ bs) none)

means-toks : (text : List ℕ) (answer : Result (List Token) LexFault) → Means text answer → toks text ≡ answer
unfolding toks
means-toks text answer means = means-read means

pub toks-meaning : (text : List ℕ) (answer : Result (List Token) LexFault) → (toks text ≡ answer) ↔ Means text answer
toks-meaning text answer = (λ is. subst (Means text) is (toks-means text), means-toks text answer)

-- no more tokens than bytes
abbrev count_of : Result (List Token) LexFault → ℕ
count_of (Ok ts) = length ts
count_of (Err fault) = 0

token-some : (bytes : List ℕ) (kind : TokenKind) → kind_of bytes ≡ Some kind → 0 < length bytes
token-some [] kind e = absurd (cc)
token-some (b ∷ bs) kind e = omega arith

one_more : (t : Token) (answer : Result (List Token) LexFault) → count_of (after_tokens (t ∷ []) answer) ≤ suc (count_of answer)
one_more t (Ok ts) = omega arith
one_more t (Err fault) = omega arith

means-few : {at : ℕ} {text : List ℕ} {answer : Result (List Token) LexFault} → MeansFrom at text answer → count_of answer ≤ length text
means-few at_end = omega arith
means-few (a_blank blank h) = let a = means-few h in omega arith
means-few (a_comment {b = b} line {bs = bs} hash one end h) = let a = means-few h in omega (arith, length-append line bs)
means-few (a_token {at = at} {kind = kind} bytes {bs = bs} {answer = answer} is long h) =
    let a = means-few h in
    let some = token-some bytes kind is in
    omega (arith, length-append bytes bs, one_more (record { kind = kind; from = at; to = at + length bytes }) answer)
means-few (no_token blank hash none) = omega arith

pub toks-spans : (text : List ℕ) (ts : List Token) → toks text ≡ Ok ts → Spans text ts
toks-spans text ts read = let spans : Means text (Ok ts) = (toks-meaning text (Ok ts)).0 read in record { spans = spans; few = means-few spans }
