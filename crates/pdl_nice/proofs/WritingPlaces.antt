-- The tokens of a text, by their places.
use Rattle.std.proofs.Common.{◌≡◌, ℕ, zero, suc, ◌+◌, ◌-◌, ◌<◌, ◌≤◌, List, [], ◌∷◌, length, drop, take, refl, ap, sym, ◌∙◌, arith, get_or, drop-cons, add-one}
use Rattle.std.proofs.lemmas.List.{drop-take}
use Rattle.pdl_lex.specs.declared.Token.{Token}
use Rattle.pdl_lex.specs.Written.{Written, between, written}
use Rattle.pdl_nice.specs.Ends.{no_token, range}
use Rattle.pdl_nice.specs.Writing.{end_before, token_there}

pub end_there : (start : ℕ) (ts : List Token) (at : ℕ) (d : Token) → at < length ts → end_before start ts (suc at) ≡ (get_or ts at d).to
end_there start [] at d lt = absurd (omega (arith, lt))
end_there start (t ∷ ts) zero d lt = refl
end_there start (t ∷ ts) (suc at) d lt = end_there t.to ts at d (omega (arith, lt))

pub end_behind_there : (ts : List Token) (at : ℕ) (d : Token) → (at ≡ 0 → ⊥) → at ≤ length ts → (get_or ts (at - 1) d).to ≡ end_before 0 ts at
end_behind_there ts zero d some le = absurd (some refl)
end_behind_there ts (suc at) d some le =
    let same : suc at - 1 ≡ at = omega arith in
    ap (λ n. (get_or ts n d).to) same ∙ sym (end_there 0 ts at d (omega (arith, le)))

is_there : (text : List ℕ) (start : ℕ) (ts : List Token) (at : ℕ) (d : Token) → at < length ts →
    get_or (written text start ts) at no_token ≡ record {
      gap = between text (end_before start ts at) (get_or ts at d).from;
      kind = (get_or ts at d).kind;
      bytes = between text (get_or ts at d).from (get_or ts at d).to;
    }
is_there text start [] at d lt = absurd (omega (arith, lt))
is_there text start (t ∷ ts) zero d lt = refl
is_there text start (t ∷ ts) (suc at) d lt = is_there text t.to ts at d (omega (arith, lt))

gap_there : (text : List ℕ) (ts : List Token) (at : ℕ) (d : Token) → at < length ts →
    (token_there text ts at).gap ≡ between text (end_before 0 ts at) (get_or ts at d).from
gap_there text ts at d lt = ap (λ (w : Written). w.gap) (is_there text 0 ts at d lt)

pub gap_is : (text bs : List ℕ) (ts : List Token) (at start : ℕ) (d : Token) → at < length ts → start ≡ end_before 0 ts at →
    bs ≡ between text start (get_or ts at d).from → bs ≡ (token_there text ts at).gap
gap_is text bs ts at start d lt e f = f ∙ (ap (λ n. between text n (get_or ts at d).from) e ∙ sym (gap_there text ts at d lt))

pub bytes_there : (text : List ℕ) (ts : List Token) (at : ℕ) (d : Token) → at < length ts →
    (token_there text ts at).bytes ≡ between text (get_or ts at d).from (get_or ts at d).to
bytes_there text ts at d lt = ap (λ (w : Written). w.bytes) (is_there text 0 ts at d lt)

pub as_many_written : (text : List ℕ) (start : ℕ) (ts : List Token) → length (written text start ts) ≡ length ts
as_many_written text start [] = refl
as_many_written text start (t ∷ ts) = ap suc (as_many_written text t.to ts)

-- the first tokens
pub first_written : (text : List ℕ) (start n : ℕ) (ts : List Token) → written text start (take n ts) ≡ take n (written text start ts)
first_written text start zero ts = refl
first_written text start (suc n) [] = refl
first_written text start (suc n) (t ∷ ts) = ap (λ ws. record { gap = between text start t.from; kind = t.kind; bytes = between text t.from t.to } ∷ ws) (first_written text t.to n ts)

-- the tokens from one place to another are those of the first tokens
pub range_is : (ws : List Written) (from to : ℕ) → from ≤ to → range ws from to ≡ drop from (take to ws)
range_is ws from to le =
    let sum : from + (to - from) ≡ to = omega (arith, le) in
    sym (drop-take from (to - from) ws) ∙ ap (λ n. drop from (take n ws)) sum

pub value_is : (text : List ℕ) (ts : List Token) (from to : ℕ) → from ≤ to → drop from (written text 0 (take to ts)) ≡ range (written text 0 ts) from to
value_is text ts from to le = ap (drop from) (first_written text 0 to ts) ∙ sym (range_is (written text 0 ts) from to le)

-- the token at a place, and those behind it
pub front_there : (text : List ℕ) (ts : List Token) (at : ℕ) → at < length ts →
    drop at (written text 0 ts) ≡ token_there text ts at ∷ drop (at + 1) (written text 0 ts)
front_there text ts at lt =
    let len = as_many_written text 0 ts in
    drop-cons (written text 0 ts) at no_token (omega (arith, len, lt)) ∙ ap (λ n. token_there text ts at ∷ drop n (written text 0 ts)) (sym (add-one at))
