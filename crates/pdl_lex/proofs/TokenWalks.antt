-- The tokens from a place on, item by item.
use Rattle.std.proofs.Common.{◌≡◌, ℕ, zero, suc, ◌+◌, ◌<◌, ◌≤◌, true, List, [], ◌∷◌, ◌++◌, length, refl, sym, ◌∙◌, ap, arith, drop, append_assoc, get_or, add-zero, lt-ltb, drop-cons, drop-drop, append-nil}
use Rattle.std.proofs.lemmas.List.{drop_all}
use Rattle.std.specs.Prelude.{Some, None, Result, Ok, Err, nat_lt}
use Rattle.pdl_lex.specs.declared.LexFault.{LexFault}
use Rattle.pdl_lex.specs.declared.Token.{Token}
use Rattle.pdl_lex.specs.declared.TokenKind.{TokenKind}
use Rattle.pdl_lex.specs.Tokens.{gap_at, token_at, fault_of, after_tokens, toks_from, toks}

-- tokens put before tokens
after-after : (xs ys : List Token) (r : Result (List Token) LexFault) → after_tokens xs (after_tokens ys r) ≡ after_tokens (xs ++ ys) r
after-after xs ys (Ok zs) = ap Ok (sym (append_assoc xs ys zs))
after-after xs ys (Err fault) = refl

after-nothing : (r : Result (List Token) LexFault) → after_tokens [] r ≡ r
after-nothing (Ok ts) = refl
after-nothing (Err fault) = refl

-- bytes that are passed
toks_from-passed : (bs : List ℕ) (at passed : ℕ) → toks_from at passed bs ≡ toks_from (at + passed) 0 (drop passed bs)
unfolding toks_from
toks_from-passed bs at zero = rw (add-zero at)
toks_from-passed [] at (suc passed) = refl
toks_from-passed (b ∷ bs) at (suc passed) =
    let place : suc at + passed ≡ at + suc passed = omega arith in
    toks_from-passed bs (suc at) passed ∙ ap (λ p. toks_from p 0 (drop passed bs)) place

-- a blank, a comment, a token or none at the front of what is left
pub gap-first : (b : ℕ) (bs : List ℕ) (at n : ℕ) → gap_at (b ∷ bs) ≡ suc n → toks_from at 0 (b ∷ bs) ≡ toks_from (at + suc n) 0 (drop (suc n) (b ∷ bs))
unfolding toks_from
gap-first b bs at n gap =
    let some : nat_lt 0 (suc n) ≡ true = lt-ltb 0 (suc n) (omega arith) in
    let place : suc at + n ≡ at + suc n = omega arith in
    rw (gap, some) (toks_from-passed bs (suc at) n ∙ ap (λ p. toks_from p 0 (drop n bs)) place)

pub token-first : (b : ℕ) (bs : List ℕ) (at : ℕ) (kind : TokenKind) (n : ℕ) → gap_at (b ∷ bs) ≡ 0 → token_at (b ∷ bs) ≡ Some (kind, suc n) → toks_from at 0 (b ∷ bs) ≡ after_tokens (record { kind = kind; from = at; to = at + suc n } ∷ []) (toks_from (at + suc n) 0 (drop (suc n) (b ∷ bs)))
unfolding toks_from
token-first b bs at kind n gap token =
    let place : suc at + n ≡ at + suc n = omega arith in
    rw (gap, token) (ap (after_tokens (record { kind = kind; from = at; to = at + suc n } ∷ [])) (toks_from-passed bs (suc at) n ∙ ap (λ p. toks_from p 0 (drop n bs)) place))

pub none-first : (b : ℕ) (bs : List ℕ) (at : ℕ) → gap_at (b ∷ bs) ≡ 0 → token_at (b ∷ bs) ≡ None → toks_from at 0 (b ∷ bs) ≡ Err (fault_of at b)
unfolding toks_from
none-first b bs at gap token = rw (gap, token)

-- the same at a place of a text
pub gap-at : (text : List ℕ) (at n : ℕ) → at < length text → 0 < n → n ≡ gap_at (drop at text) → toks_from at 0 (drop at text) ≡ toks_from (at + n) 0 (drop (at + n) text)
gap-at text at zero below some gap = absurd (omega arith)
gap-at text at (suc n) below some gap =
    let rest = drop-cons text at 0 below in
    ap (toks_from at 0) rest
    ∙ gap-first (get_or text at 0) (drop (suc at) text) at n (ap gap_at (sym rest) ∙ sym gap)
    ∙ ap (λ xs. toks_from (at + suc n) 0 (drop (suc n) xs)) (sym rest)
    ∙ ap (toks_from (at + suc n) 0) (drop-drop (suc n) at text)

pub token-at : (text : List ℕ) (at n : ℕ) (kind : TokenKind) → at < length text → gap_at (drop at text) ≡ 0 → token_at (drop at text) ≡ Some (kind, n) → 0 < n → toks_from at 0 (drop at text) ≡ after_tokens (record { kind = kind; from = at; to = at + n } ∷ []) (toks_from (at + n) 0 (drop (at + n) text))
token-at text at zero kind below gap token some = absurd (omega arith)
token-at text at (suc n) kind below gap token some =
    let rest = drop-cons text at 0 below in
    ap (toks_from at 0) rest
    ∙ token-first (get_or text at 0) (drop (suc at) text) at kind n (ap gap_at (sym rest) ∙ gap) (ap token_at (sym rest) ∙ token)
    ∙ ap (λ xs. after_tokens (record { kind = kind; from = at; to = at + suc n } ∷ []) (toks_from (at + suc n) 0 xs)) (ap (drop (suc n)) (sym rest) ∙ drop-drop (suc n) at text)

pub none-at : (text : List ℕ) (at : ℕ) → at < length text → gap_at (drop at text) ≡ 0 → token_at (drop at text) ≡ None → toks_from at 0 (drop at text) ≡ Err (fault_of at (get_or text at 0))
none-at text at below gap token =
    let rest = drop-cons text at 0 below in
    ap (toks_from at 0) rest ∙ none-first (get_or text at 0) (drop (suc at) text) at (ap gap_at (sym rest) ∙ gap) (ap token_at (sym rest) ∙ token)

-- one more token was found
pub found-more : (found : List Token) (t : Token) (r r' : Result (List Token) LexFault) → r ≡ after_tokens (t ∷ []) r' → after_tokens found r ≡ after_tokens (found ++ t ∷ []) r'
found-more found t r r' e = ap (after_tokens found) e ∙ after-after found (t ∷ []) r'

-- the walk begins and ends
pub at-start : (text : List ℕ) (found : List Token) → found ≡ [] → after_tokens found (toks_from 0 0 text) ≡ toks text
unfolding toks
at-start text found none = rw none (after-nothing (toks_from 0 0 text))

pub at-end : (text : List ℕ) (at : ℕ) (found : List Token) → length text ≤ at → after_tokens found (toks_from at 0 (drop at text)) ≡ toks text → toks text ≡ Ok found
unfolding toks_from
at-end text at found past read =
    let nothing : after_tokens found (toks_from at 0 (drop at text)) ≡ Ok (found ++ []) = ap (λ xs. after_tokens found (toks_from at 0 xs)) (drop_all at text past) in
    sym read ∙ nothing ∙ ap Ok (append-nil found)
