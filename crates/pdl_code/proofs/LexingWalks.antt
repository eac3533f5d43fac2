-- The tokens from a place on, one after another.
use Rattle.std.proofs.Common.{◌≡◌, ℕ, zero, suc, ◌+◌, ◌<◌, ◌≤◌, true, false, List, [], ◌∷◌, ◌++◌, length, refl, sym, ◌∙◌, ap, arith, drop, append_assoc, get_or, add-zero, drop-cons, drop-drop, append-nil}
use Rattle.std.proofs.lemmas.List.{drop_all}
use Rattle.std.specs.Prelude.{Some, None}
use Rattle.pdl_lex.specs.Bytes.{is_blank}
use Rattle.pdl_code.specs.declared.lexeme.Lexeme.{Lexeme}
use Rattle.pdl_code.specs.Lexing.{Lexed, behind, lexeme_at, lexed_from, lexed}

-- tokens put before tokens
behind_behind : (xs ys : List Lexeme) (r : Lexed) → behind xs (behind ys r) ≡ behind (xs ++ ys) r
behind_behind xs ys r = ap (λ zs. record { lexemes = zs; whole = r.whole }) (sym (append_assoc xs ys r.lexemes))

-- bytes that are passed
passed_from : (bs : List ℕ) (at passed : ℕ) → lexed_from at passed bs ≡ lexed_from (at + passed) 0 (drop passed bs)
unfolding lexed_from
passed_from bs at zero = rw (add-zero at)
passed_from [] at (suc passed) = refl
passed_from (b ∷ bs) at (suc passed) =
    let place : suc at + passed ≡ at + suc passed = omega arith in
    passed_from bs (suc at) passed ∙ ap (λ p. lexed_from p 0 (drop passed bs)) place

blank_first : (b : ℕ) (bs : List ℕ) (at : ℕ) → is_blank b ≡ true → lexed_from at 0 (b ∷ bs) ≡ lexed_from (suc at) 0 bs
unfolding lexed_from
blank_first b bs at blank = rw blank

token_first : (b : ℕ) (bs : List ℕ) (at : ℕ) (l : Lexeme) (n : ℕ) → is_blank b ≡ false → lexeme_at at (b ∷ bs) ≡ Some (l, suc n)
    → lexed_from at 0 (b ∷ bs) ≡ behind (l ∷ []) (lexed_from (at + suc n) 0 (drop n bs))
unfolding lexed_from
token_first b bs at l n blank token =
    let place : suc at + n ≡ at + suc n = omega arith in
    rw (blank, token) (ap (behind (l ∷ [])) (passed_from bs (suc at) n ∙ ap (λ p. lexed_from p 0 (drop n bs)) place))

none_first : (b : ℕ) (bs : List ℕ) (at : ℕ) → is_blank b ≡ false → lexeme_at at (b ∷ bs) ≡ None
    → lexed_from at 0 (b ∷ bs) ≡ record { lexemes = []; whole = false }
unfolding lexed_from
none_first b bs at blank token = rw (blank, token)

-- the same at a place of a text
pub blank_at : (text : List ℕ) (at : ℕ) → at < length text → is_blank (get_or text at 0) ≡ true
    → lexed_from at 0 (drop at text) ≡ lexed_from (at + 1) 0 (drop (at + 1) text)
blank_at text at below blank =
    let place : suc at ≡ at + 1 = omega arith in
    ap (lexed_from at 0) (drop-cons text at 0 below) ∙ blank_first (get_or text at 0) (drop (suc at) text) at blank
    ∙ ap (λ p. lexed_from p 0 (drop p text)) place

pub token_at : (text : List ℕ) (at n : ℕ) (l : Lexeme) → at < length text → is_blank (get_or text at 0) ≡ false
    → lexeme_at at (drop at text) ≡ Some (l, n) → 0 < n → lexed_from at 0 (drop at text) ≡ behind (l ∷ []) (lexed_from (at + n) 0 (drop (at + n) text))
token_at text at zero l below blank token some = absurd (omega arith)
token_at text at (suc n) l below blank token some =
    let rest = drop-cons text at 0 below in
    ap (lexed_from at 0) rest
    ∙ token_first (get_or text at 0) (drop (suc at) text) at l n blank (ap (lexeme_at at) (sym rest) ∙ token)
    ∙ ap (λ xs. behind (l ∷ []) (lexed_from (at + suc n) 0 xs)) (ap (drop (suc n)) (sym rest) ∙ drop-drop (suc n) at text)

pub none_at : (text : List ℕ) (at : ℕ) → at < length text → is_blank (get_or text at 0) ≡ false → lexeme_at at (drop at text) ≡ None
    → lexed_from at 0 (drop at text) ≡ record { lexemes = []; whole = false }
none_at text at below blank token =
    let rest = drop-cons text at 0 below in
    ap (lexed_from at 0) rest ∙ none_first (get_or text at 0) (drop (suc at) text) at blank (ap (lexeme_at at) (sym rest) ∙ token)

-- one more token was found
pub found_more : (found : List Lexeme) (l : Lexeme) (r r' : Lexed) → r ≡ behind (l ∷ []) r' → behind found r ≡ behind (found ++ l ∷ []) r'
found_more found l r r' e = ap (behind found) e ∙ behind_behind found (l ∷ []) r'

pub found_last : (found : List Lexeme) (r : Lexed) → r ≡ record { lexemes = []; whole = false } → behind found r ≡ record { lexemes = found; whole = false }
found_last found r e = ap (behind found) e ∙ ap (λ xs. record { lexemes = xs; whole = false }) (append-nil found)

-- the walk begins and ends
pub at_start : (text : List ℕ) (found : List Lexeme) → found ≡ [] → behind found (lexed_from 0 0 text) ≡ lexed text
unfolding lexed
at_start text found none = rw none refl

pub at_end : (text : List ℕ) (at : ℕ) (found : List Lexeme) → length text ≤ at → behind found (lexed_from at 0 (drop at text)) ≡ lexed text
    → lexed text ≡ record { lexemes = found; whole = true }
unfolding lexed_from
at_end text at found past read =
    let nothing : behind found (lexed_from at 0 (drop at text)) ≡ record { lexemes = found ++ []; whole = true } = ap (λ xs. behind found (lexed_from at 0 xs)) (drop_all at text past) in
    sym read ∙ nothing ∙ ap (λ xs. record { lexemes = xs; whole = true }) (append-nil found)
