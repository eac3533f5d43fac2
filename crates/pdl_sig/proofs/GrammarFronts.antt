-- The longest front of a list that passes a test, and the digits of a number.
use Rattle.std.proofs.Common.{◌≡◌, ℕ, suc, ◌+◌, ◌-◌, ◌*◌, ◌<◌, ◌≤◌, min, Bool, true, false, cond, ◌&&◌, List, [], ◌∷◌, ◌++◌, length, take, drop, get_or, refl, ap, ap₂, sym, ◌∙◌, arith, if◌then◌else◌}
use Rattle.std.specs.List.{list_all, prefix_len}
use Rattle.std.proofs.lemmas.List.{at_drop_more}
use Rattle.std.proofs.lemmas.Bool.{and_parts}
use Rattle.pdl_lex.specs.Bytes.{is_blank, is_letter, is_word_byte}
use Rattle.pdl_sig.specs.Grammar.{past_blanks, begins, value_after}

none_front : (p : ℕ → Bool) (t : List ℕ) → begins p t ≡ false → prefix_len p t ≡ 0
none_front p [] h = refl
none_front p (b ∷ t) h = ap (λ k. cond k (1 + prefix_len p t) 0) h

-- what passes, before what doesn't go on with it, is the longest front
pub front_all : (p : ℕ → Bool) (w t : List ℕ) → list_all p w ≡ true → begins p t ≡ false → prefix_len p (w ++ t) ≡ length w
front_all p [] t h e = none_front p t e
front_all p (b ∷ w) t h e =
    let rest : prefix_len p (w ++ t) ≡ length w = front_all p w t (and_parts (p b) (list_all p w) h).1 e in
    ap (λ k. cond k (1 + prefix_len p (w ++ t)) 0) (and_parts (p b) (list_all p w) h).0 ∙ omega arith

all_by : (p : ℕ → Bool) (b : ℕ) (s : List ℕ) (k : Bool) → p b ≡ k → list_all p (take (prefix_len p s) s) ≡ true → list_all p (take (cond k (1 + prefix_len p s) 0) (b ∷ s)) ≡ true
all_by p b s false e h = refl
all_by p b s true e h =
    let one_more : 1 + prefix_len p s ≡ suc (prefix_len p s) = omega arith in
    ap (λ n. list_all p (take n (b ∷ s))) one_more ∙ ap₂ (λ x y. x && y) e h

-- the longest front passes
pub all_front : (p : ℕ → Bool) (s : List ℕ) → list_all p (take (prefix_len p s) s) ≡ true
all_front p [] = refl
all_front p (b ∷ s) = all_by p b s (p b) refl (all_front p s)

stops_by : (p : ℕ → Bool) (b : ℕ) (s : List ℕ) (k : Bool) → p b ≡ k → begins p (drop (prefix_len p s) s) ≡ false → begins p (drop (cond k (1 + prefix_len p s) 0) (b ∷ s)) ≡ false
stops_by p b s false e h = e
stops_by p b s true e h =
    let one_more : 1 + prefix_len p s ≡ suc (prefix_len p s) = omega arith in
    ap (λ n. begins p (drop n (b ∷ s))) one_more ∙ h

-- and what is left doesn't go on with it
pub front_stops : (p : ℕ → Bool) (s : List ℕ) → begins p (drop (prefix_len p s) s) ≡ false
front_stops p [] = refl
front_stops p (b ∷ s) = stops_by p b s (p b) refl (front_stops p s)

shorter_by : (b : ℕ) (s : List ℕ) (k : Bool) → length (past_blanks s) ≤ length s → length (if k then past_blanks s else b ∷ s) ≤ length (b ∷ s)
shorter_by b s false h = omega arith
shorter_by b s true h = omega (arith, h)

-- a text past its blanks is no longer
pub past_shorter : (s : List ℕ) → length (past_blanks s) ≤ length s
past_shorter [] = omega arith
past_shorter (b ∷ s) = shorter_by b s (is_blank b) (past_shorter s)

-- a word goes on with a letter
pub letter_goes_on : (b : ℕ) → is_letter b ≡ true → is_word_byte b ≡ true
letter_goes_on b h = grind arith

-- digits after a cut number
pub value_cut : (n c : ℕ) (digits : List ℕ) → min (value_after (min n c) digits) c ≡ min (value_after n digits) c
value_cut n c [] = omega arith
value_cut n c (d ∷ digits) =
    let same : min (10 * min n c + (d - 48)) c ≡ min (10 * n + (d - 48)) c = omega arith in
    sym (value_cut (10 * min n c + (d - 48)) c digits) ∙ ap (λ m. min (value_after m digits) c) same ∙ value_cut (10 * n + (d - 48)) c digits

-- one more digit
pub value_more : (n new c : ℕ) (digits : List ℕ) (i d total : ℕ) → i < length digits → d ≡ get_or digits i 0 → new ≡ min (10 * n + (d - 48)) c
    → min (value_after n (drop i digits)) c ≡ total → min (value_after new (drop (i + 1) digits)) c ≡ total
value_more n new c digits i d total h e k p =
    ap (λ m. min (value_after m (drop (i + 1) digits)) c) k
    ∙ value_cut (10 * n + (d - 48)) c (drop (i + 1) digits)
    ∙ ap (λ x. min (value_after (10 * n + (x - 48)) (drop (i + 1) digits)) c) e
    ∙ sym (at_drop_more (λ rest. min (value_after n rest) c) digits i 0 h)
    ∙ p
