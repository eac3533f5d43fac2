-- Tokens as they are written have the looks of the tokens.
use Rattle.std.proofs.Common.{◌≡◌, ℕ, zero, suc, ◌+◌, ◌-◌, ◌<◌, ◌≤◌, true, false, ◌||◌, List, [], ◌∷◌, length, get_or, take, drop, map, refl, sym, ◌∙◌, ap, ap₂, if◌then◌else◌, arith}
use Rattle.std.proofs.lemmas.List.{drop_more, drop_all, get_or-drop, length-drop}
use Rattle.std.specs.Prelude.{◌==◌, nat_lt, bytes_eq, codes, slice_index_or}
use Rattle.pdl_lex.specs.declared.Token.{Token}
use Rattle.pdl_lex.specs.declared.TokenKind.{TokenKind}
use Rattle.pdl_lex.specs.declared.TokenKind.TheVariants.{Name, Word, Number, Str, Sign}
use Rattle.pdl_lex.specs.Written.{Written, written, between}
use Rattle.pdl_lex.specs.Brackets.{Brackets, behind_kind, behind_sign, behind_token, no_brackets, go_deep}
use Rattle.pdl_nice.specs.declared.looks.Before.{Before}
use Rattle.pdl_nice.specs.declared.looks.Before.TheVariants.{Other as another}
use Rattle.pdl_nice.specs.declared.looks.Open.{Open}
use Rattle.pdl_nice.specs.Looks.{look, look_of, sign_look, before_of, begins_nice}
use Rattle.pdl_nice.specs.Nice.{is_open, has_nice}
use Rattle.pdl_nice.specs.Ends.{token_look, looks_nice, none_open, open_behind, looks_deep}
use Rattle.pdl_lemmas.specs.Tests.{by_test}

look_is : (w : Written) → look w ≡ look_of w.kind w.bytes
unfolding look
look_is w = refl

pub looks_are : (text : List ℕ) (at : ℕ) (ts : List Token) → map look (written text at ts) ≡ map (token_look text) ts
looks_are text at [] = refl
looks_are text at (t ∷ ts) = ap₂ (λ l ls. l ∷ ls) (look_is _) (looks_are text t.to ts)

pub nice_looks : (b : Before) (ws : List Written) → has_nice b ws ≡ looks_nice b (map look ws)
unfolding has_nice
nice_looks b [] = refl
nice_looks b (w ∷ ws) = ap (λ r. begins_nice b (look w) || r) (nice_looks (before_of (look w)) ws)

-- the same brackets, as they are counted
abbrev counted : Open → Brackets
counted now = record { round = now.round; square = now.square }

sign_same : (now : Open) (bytes : List ℕ) → behind_sign (counted now) bytes ≡ counted (open_behind now (sign_look bytes))
sign_same now bytes =
    by_test (bytes_eq bytes (codes "(")) (λ is. rw is refl)
    (λ no1. by_test (bytes_eq bytes (codes ")")) (λ is. rw (no1, is) refl)
    (λ no2. by_test (bytes_eq bytes (codes "[")) (λ is. rw (no1, no2, is) refl)
    (λ no3. by_test (bytes_eq bytes (codes "]")) (λ is. rw (no1, no2, no3, is) refl)
    (λ no4. by_test (bytes_eq bytes (codes ",")) (λ is. rw (no1, no2, no3, no4, is) refl)
    (λ no5. by_test (bytes_eq bytes (codes ":")) (λ is. rw (no1, no2, no3, no4, no5, is) refl)
    (λ no6. by_test (bytes_eq bytes (codes "*")) (λ is. rw (no1, no2, no3, no4, no5, no6, is) refl)
    (λ no7. by_test (bytes_eq bytes (codes "->")) (λ is. rw (no1, no2, no3, no4, no5, no6, no7, is) refl)
    (λ no8. rw (no1, no2, no3, no4, no5, no6, no7, no8) refl))))))))

kind_same : (now : Open) (kind : TokenKind) (bytes : List ℕ) → behind_kind (counted now) kind bytes ≡ counted (open_behind now (look_of kind bytes))
kind_same now Name bytes = refl
kind_same now Word bytes = refl
kind_same now Number bytes = refl
kind_same now Str bytes = refl
kind_same now Sign bytes = sign_same now bytes

token_same : (now : Open) (w : Written) → behind_token (counted now) w ≡ counted (open_behind now (look w))
unfolding behind_token look
token_same now w = kind_same now w.kind w.bytes

deep_same : (now : Open) (ws : List Written) → go_deep (counted now) ws ≡ looks_deep now (map look ws)
unfolding go_deep
deep_same now [] = refl
deep_same now (w ∷ ws) =
    let then' = open_behind now (look w) in
    rw (token_same now w) (ap (λ r. if nat_lt 64 (then'.round + then'.square) then true else r) (deep_same then' ws))

pub deep_looks : (ws : List Written) → go_deep no_brackets ws ≡ looks_deep none_open (map look ws)
deep_looks ws = deep_same none_open ws

-- no other sign opens a round bracket
other_sign : (bytes : List ℕ) → bytes_eq bytes (codes "(") ≡ false → is_open (sign_look bytes) ≡ false
other_sign bytes no1 =
    by_test (bytes_eq bytes (codes ")")) (λ is. rw (no1, is) refl)
    (λ no2. by_test (bytes_eq bytes (codes "[")) (λ is. rw (no1, no2, is) refl)
    (λ no3. by_test (bytes_eq bytes (codes "]")) (λ is. rw (no1, no2, no3, is) refl)
    (λ no4. by_test (bytes_eq bytes (codes ",")) (λ is. rw (no1, no2, no3, no4, is) refl)
    (λ no5. by_test (bytes_eq bytes (codes ":")) (λ is. rw (no1, no2, no3, no4, no5, is) refl)
    (λ no6. by_test (bytes_eq bytes (codes "*")) (λ is. rw (no1, no2, no3, no4, no5, no6, is) refl)
    (λ no7. by_test (bytes_eq bytes (codes "->")) (λ is. rw (no1, no2, no3, no4, no5, no6, no7, is) refl)
    (λ no8. rw (no1, no2, no3, no4, no5, no6, no7, no8) refl)))))))

-- bytes that begin with another one than `(`, or are none
other_first : (bytes : List ℕ) (n : ℕ) → (0 < length bytes → (get_or bytes 0 0 == 40) ≡ false) → is_open (sign_look (take n bytes)) ≡ false
other_first [] zero h = refl
other_first [] (suc n) h = refl
other_first (b ∷ bytes) zero h = refl
other_first (b ∷ bytes) (suc n) h = other_sign (b ∷ take n bytes) (rw (h (omega arith)) refl)

-- the same of the bytes from a place on
pub other_byte : (text : List ℕ) (at to : ℕ) → (at < length text → (get_or text at 0 == 40) ≡ false) → is_open (sign_look (between text at to)) ≡ false
other_byte text at to h =
    let same : at + 0 ≡ at = omega arith in
    let left : length (drop at text) ≡ length text - at = length-drop at text in
    other_first (drop at text) (to - at)
    (λ lt. ap (λ b. b == 40) (get_or-drop at text 0 0 ∙ ap (λ n. get_or text n 0) same) ∙ h (omega (arith, lt, left)))

-- what stands where no token is
abbrev pub absent : Token
absent = record { kind = Name; from = 0; to = 0 }

-- the token at a place
abbrev pub token_at : List Token → (at : ℕ) → Token
token_at ts at = slice_index_or ts at absent

-- what stands before it
abbrev pub behind_token_at : List ℕ → List Token → (at : ℕ) → Before
behind_token_at text ts at = before_of (token_look text (token_at ts (at - 1)))

-- the tokens behind the first one
pub nice_from_second : (text : List ℕ) (ts : List Token) →
    looks_nice (behind_token_at text ts 1) (map (token_look text) (drop 1 ts)) ≡ looks_nice another (map (token_look text) ts)
nice_from_second text [] = refl
nice_from_second text (t ∷ ts) = refl

pub nice_here : (text : List ℕ) (ts : List Token) (at : ℕ) → at < length ts → begins_nice (behind_token_at text ts at) (token_look text (token_at ts at)) ≡ true
    → looks_nice (behind_token_at text ts at) (map (token_look text) (drop at ts)) ≡ true
nice_here text ts at lt is =
    ap (λ us. looks_nice (behind_token_at text ts at) (map (token_look text) us)) (drop_more ts at absent lt) ∙ rw is refl

pub nice_later : (text : List ℕ) (ts : List Token) (at : ℕ) → at < length ts → begins_nice (behind_token_at text ts at) (token_look text (token_at ts at)) ≡ false
    → looks_nice (behind_token_at text ts (at + 1)) (map (token_look text) (drop (at + 1) ts)) ≡ looks_nice (behind_token_at text ts at) (map (token_look text) (drop at ts))
nice_later text ts at lt is =
    let back : at + 1 - 1 ≡ at = omega arith in
    rw back (sym (ap (λ us. looks_nice (behind_token_at text ts at) (map (token_look text) us)) (drop_more ts at absent lt) ∙ rw is refl))

pub nice_nowhere : (text : List ℕ) (ts : List Token) (at : ℕ) → length ts ≤ at → looks_nice (behind_token_at text ts at) (map (token_look text) (drop at ts)) ≡ false
nice_nowhere text ts at all = ap (λ us. looks_nice (behind_token_at text ts at) (map (token_look text) us)) (drop_all at ts all)
