-- A text that is written token by token has these tokens, and each text with tokens is written so.
use Rattle.std.proofs.Common.{◌≡◌, ℕ, ◌+◌, ◌-◌, List, [], ◌∷◌, ◌++◌, length, take, drop, refl, ap, sym, ◌∙◌, subst, arith, append_assoc, length-append, true, true≢false}
use Rattle.std.proofs.Math.Seq.{drop-append_seam, take-append_seam}
use Rattle.std.specs.Prelude.{Some, Result, Ok, Err}
use Rattle.std.specs.Result.{is_ok}
use Rattle.pdl_lex.specs.Bytes.{is_hash}
use Rattle.pdl_lex.specs.declared.Token.{Token}
use Rattle.pdl_lex.specs.declared.LexFault.{LexFault}
use Rattle.pdl_lex.specs.declared.TokenKind.{TokenKind}
use Rattle.pdl_lex.specs.Tokens.{kind_of, IsLongest, is_line_end, is_one_line, MeansFrom, at_end, a_blank, a_comment, a_token, no_token, after_tokens}
use Rattle.pdl_lex.specs.Written.{Written, text_of, placed, IsGap, no_gap, blank_then, comment_then, AreWritten, between, written, end_behind, IsWritten}

-- bytes that are read behind a gap, which goes before them
gap_means : {gap rest : List ℕ} → IsGap gap rest → (at : ℕ) {answer : Result (List Token) LexFault} →
    MeansFrom (at + length gap) rest answer → MeansFrom at (gap ++ rest) answer
gap_means (no_gap {rest = rest}) at {answer} m =
    let same : at + 0 ≡ at = omega arith in subst (λ k. MeansFrom k rest answer) same m
gap_means (blank_then {b = b} {bs = bs} {rest = rest} blank gap) at {answer} m =
    let same : at + length (b ∷ bs) ≡ at + 1 + length bs = omega arith in
    a_blank blank (gap_means gap (at + 1) (subst (λ k. MeansFrom k rest answer) same m))
gap_means (comment_then {b = b} line {bs = bs} {rest = rest} hash one ends gap) at {answer} m =
    let sum = length-append line bs in
    let same : at + length (b ∷ (line ++ bs)) ≡ at + length (b ∷ line) + length bs = omega (arith, sum) in
    subst (λ xs. MeansFrom at (b ∷ xs) answer) (sym (append_assoc line bs rest))
    (a_comment line hash one ends (gap_means gap (at + length (b ∷ line)) (subst (λ k. MeansFrom k rest answer) same m)))

nothing_behind : (g : List ℕ) → g ++ [] ≡ g
nothing_behind [] = refl
nothing_behind (b ∷ g) = ap (λ x. b ∷ x) (nothing_behind g)

pub written_means : (at : ℕ) (ws : List Written) (end : List ℕ) → AreWritten ws end → MeansFrom at (text_of ws end) (Ok (placed at ws))
written_means at [] end gap =
    subst (λ xs. MeansFrom at xs (Ok [])) (nothing_behind end) (gap_means gap at at_end)
written_means at (w ∷ ws) end is =
    gap_means is.0 at (a_token w.bytes is.1 is.2 (written_means (at + length w.gap + length w.bytes) ws end is.3))

-- one gap behind another
gap_on : {gap behind : List ℕ} → IsGap gap behind → (more rest : List ℕ) → behind ≡ more ++ rest → IsGap more rest → IsGap (gap ++ more) rest
gap_on no_gap more rest e m = m
gap_on (blank_then blank gap) more rest e m = blank_then blank (gap_on gap more rest e m)
gap_on (comment_then {b = b} line {bs = bs} hash one ends gap) more rest e m =
    subst (λ xs. IsGap (b ∷ xs) rest) (sym (append_assoc line bs more))
    (comment_then line hash one (subst (λ xs. is_line_end xs ≡ true) (ap (λ xs. bs ++ xs) e ∙ sym (append_assoc bs more rest)) ends) (gap_on gap more rest e m))

gap_then : {gap : List ℕ} (more rest : List ℕ) → IsGap gap (more ++ rest) → IsGap more rest → IsGap (gap ++ more) rest
gap_then more rest gap m = gap_on gap more rest refl m

comment_gap : (b : ℕ) (line rest : List ℕ) → is_hash b ≡ true → is_one_line line ≡ true → is_line_end rest ≡ true → IsGap (b ∷ line) rest
comment_gap b line rest hash one ends = subst (λ xs. IsGap (b ∷ xs) rest) (nothing_behind line) (comment_then line hash one ends no_gap)

list_in : Result (List Token) LexFault → List Token
list_in (Ok ts) = ts
list_in (Err f) = []

ok_inj : {us ts : List Token} → ◌≡◌ {A = Result (List Token) LexFault} (Ok us) (Ok ts) → us ≡ ts
unfolding list_in
ok_inj e = ap list_in e

err_ok : {f : LexFault} {ts : List Token} → ◌≡◌ {A = Result (List Token) LexFault} (Err f) (Ok ts) → ⊥
err_ok e = true≢false (sym (ap (λ r. is_ok r) e))

after_elim : (P : Type 0) (t : Token) (answer : Result (List Token) LexFault) (ts : List Token) → after_tokens (t ∷ []) answer ≡ Ok ts →
    ((us : List Token) → answer ≡ Ok us → t ∷ us ≡ ts → P) → P
after_elim P t (Ok us) ts e h = h us refl (ok_inj e)
after_elim P t (Err f) ts e h = absurd (err_ok e)

-- the bytes that stand between others
found_between : (text pre bytes rest : List ℕ) (from to : ℕ) → text ≡ pre ++ (bytes ++ rest) → length pre ≡ from → from + length bytes ≡ to →
    between text from to ≡ bytes
found_between text pre bytes rest from to e f t =
    let many : to - from ≡ length bytes = omega (arith, t) in
    ap (λ n. take n (drop from text)) many
    ∙ (ap (λ n. take (length bytes) (drop n text)) (sym f)
    ∙ (ap (λ x. take (length bytes) (drop (length pre) x)) e
    ∙ (ap (take (length bytes)) (drop-append_seam pre (bytes ++ rest)) ∙ take-append_seam bytes rest)))

-- what stands from a place on, where a gap before it was passed
record Reached (text gap bs : List ℕ) (start : ℕ) (ts : List Token) : Type 0 where
  whole : text_of (written text start ts) (end_behind text start ts) ≡ gap ++ bs
  spans : placed start (written text start ts) ≡ ts
  are : AreWritten (written text start ts) (end_behind text start ts)

-- one more token before others
abbrev StandsAs : (kind : TokenKind) (gap bytes rest : List ℕ) → Type 0
StandsAs kind gap bytes rest = IsGap gap (bytes ++ rest) × (kind_of bytes ≡ Some kind) × IsLongest (length bytes) (bytes ++ rest)

with_token : (text gap bytes bs : List ℕ) (start at : ℕ) (kind : TokenKind) (us : List Token) → StandsAs kind gap bytes bs → start + length gap ≡ at →
    between text start at ≡ gap → between text at (at + length bytes) ≡ bytes → Reached text [] bs (at + length bytes) us →
    Reached text gap (bytes ++ bs) start (record { kind = kind; from = at; to = at + length bytes } ∷ us)
with_token text gap bytes bs start at kind us is k gap_is bytes_are r =
    let to = at + length bytes in
    let g = between text start at in
    let y = between text at to in
    let rest = text_of (written text to us) (end_behind text to us) in
    let first : start + length g ≡ at = ap (λ x. start + length x) gap_is ∙ k in
    let last : start + length g + length y ≡ to = ap (λ n. n + length y) first ∙ ap (λ x. at + length x) bytes_are in
    let stands : StandsAs kind g y rest = rw (gap_is, bytes_are, r.whole) is in
    record {
      whole = ap (λ x. x ++ (y ++ rest)) gap_is ∙ (ap (λ x. gap ++ (x ++ rest)) bytes_are ∙ ap (λ x. gap ++ (bytes ++ x)) r.whole);
      spans = ap (λ n. record { kind = kind; from = n; to = n + length y } ∷ placed (n + length y) (written text to us)) first
          ∙ (ap (λ x. record { kind = kind; from = at; to = at + length x } ∷ placed (at + length x) (written text to us)) bytes_are
          ∙ ap (λ ts. record { kind = kind; from = at; to = to } ∷ ts) r.spans);
      are = (stands.0, stands.1, stands.2, r.are);
    }

reached : {at : ℕ} {bs : List ℕ} {answer : Result (List Token) LexFault} → MeansFrom at bs answer → (ts : List Token) → answer ≡ Ok ts →
    (text pre gap : List ℕ) (start : ℕ) → IsGap gap bs → text ≡ pre ++ (gap ++ bs) → length pre ≡ start → start + length gap ≡ at →
    Reached text gap bs start ts
reached at_end ts e text pre gap start g t l k =
    let behind : drop start text ≡ gap = ap (λ n. drop n text) (sym l) ∙ (ap (drop (length pre)) t ∙ (drop-append_seam pre (gap ++ []) ∙ nothing_behind gap)) in
    subst (Reached text gap [] start) (ok_inj e)
    (record { whole = behind ∙ sym (nothing_behind gap); spans = refl; are = subst (λ x. IsGap x []) (sym behind) g })
reached (a_blank {b = b} {bs = bs} h m) ts e text pre gap start g t l k =
    let move = append_assoc gap (b ∷ []) bs in
    let len = length-append gap (b ∷ []) in
    let r = reached m ts e text pre (gap ++ b ∷ []) start (gap_then (b ∷ []) bs g (blank_then h no_gap)) (t ∙ ap (λ x. pre ++ x) (sym move)) l (omega (arith, len, k)) in
    record { whole = r.whole ∙ move; spans = r.spans; are = r.are }
reached (a_comment {b = b} line {bs = bs} h o n m) ts e text pre gap start g t l k =
    let move = append_assoc gap (b ∷ line) bs in
    let len = length-append gap (b ∷ line) in
    let r = reached m ts e text pre (gap ++ b ∷ line) start (gap_then (b ∷ line) bs g (comment_gap b line bs h o n)) (t ∙ ap (λ x. pre ++ x) (sym move)) l (omega (arith, len, k)) in
    record { whole = r.whole ∙ move; spans = r.spans; are = r.are }
reached (a_token {at = at} {kind = kind} bytes {bs = bs} {answer = answer} h n m) ts e text pre gap start g t l k =
    let token : Token = record { kind = kind; from = at; to = at + length bytes } in
    after_elim (Reached text gap (bytes ++ bs) start ts) token answer ts e
    (λ us a same.
    let len = length-append pre (gap ++ bytes) in
    let len2 = length-append gap bytes in
    let len3 = length-append pre gap in
    let whole : text ≡ (pre ++ (gap ++ bytes)) ++ bs =
    t ∙ (ap (λ x. pre ++ x) (sym (append_assoc gap bytes bs)) ∙ sym (append_assoc pre (gap ++ bytes) bs)) in
    let front : text ≡ (pre ++ gap) ++ (bytes ++ bs) = t ∙ sym (append_assoc pre gap (bytes ++ bs)) in
    let r = reached m us a text (pre ++ (gap ++ bytes)) [] (at + length bytes) no_gap whole (omega (arith, len, len2, l, k)) (omega arith) in
    subst (Reached text gap (bytes ++ bs) start) same
    (with_token text gap bytes bs start at kind us (g, h, n) k (found_between text pre gap (bytes ++ bs) start at t l k)
    (found_between text (pre ++ gap) bytes bs at (at + length bytes) front (omega (arith, len3, l, k)) refl) r))
reached (no_token h k l) ts e text pre gap start g t x y = absurd (err_ok e)

pub all_written : (text : List ℕ) (ts : List Token) → MeansFrom 0 text (Ok ts) → IsWritten text ts
all_written text ts m =
    let r = reached m ts refl text [] [] 0 no_gap refl refl refl in
    record { whole = r.whole; spans = r.spans; are = r.are }
