-- The pieces still to come, byte by byte.
use Rattle.std.proofs.Common.{◌≡◌, ℕ, zero, suc, ◌+◌, ◌-◌, ◌<◌, ◌≤◌, Bool, true, false, cond, List, [], ◌∷◌, ◌++◌, length, refl, sym, ◌∙◌, ap, subst, arith, append_assoc, length-append, eqb-true, append-nil, add-zero, take, drop, take-take, take_all, drop-cons, get_or, add-one, take-append-drop, take-add, length-take-le}
use Rattle.std.specs.Prelude.{Option, Some, None, option_to_list, if◌then◌else◌, ◌==◌}
use Rattle.std.proofs.lemmas.List.{drop_all, length-take, nil_from_length, take_more}
use Rattle.std.specs.List.{list_all, prefix_len}
use Rattle.std.proofs.lemmas.List.Sums.{sum_by-append, prefix_len-le-length}
use Rattle.pdl_lemmas.specs.Tests.{by_test}
use Rattle.pdl_lex.proofs.TokensLongest.{list_all-front}
use Rattle.pdl_lex.specs.Bytes.{newlines, is_newline}
use Rattle.pdl_lex.specs.declared.cutter.Mode.{Mode}
use Rattle.pdl_lex.specs.declared.cutter.Mode.TheVariants.{Code, Comment, Double, Single}
use Rattle.pdl_lex.specs.declared.Piece.{Piece}
use Rattle.pdl_lex.specs.declared.Piece.TheVariants.{Whole, TooLong}
use Rattle.pdl_lex.specs.Pieces.{State, mode_after, is_end, is_between, chunks, onto_first, text_piece, settled_piece, has_ended, numbered, begun_piece, from_chunks, settled_from, start_state}
use Rattle.pdl_lex.specs.Limits.{statement_limit}
use Rattle.pdl_lex.specs.Steps.{next, cut_at, begun, ended, is_idle, is_full, IsQuiet, Reaches, Fits, is_plain, extended}

-- there is always a chunk that has no end yet
pub chunks-some : (mode : Mode) (bs : List ℕ) → (c : List ℕ) × (cs : List (List ℕ)) × (chunks mode bs ≡ c ∷ cs)
chunks-some m [] = ([], [], refl)
chunks-some m (b ∷ bs) =
    let inner = chunks-some (mode_after m b) bs in
    elim (is_end m b) as (λ v. (c : List ℕ) × (cs : List (List ℕ)) × ((if v then ([] ∷ chunks Code bs) else onto_first b (chunks (mode_after m b) bs)) ≡ c ∷ cs)) [
      | true ↦ ([], chunks Code bs, refl)
      | false ↦ (b ∷ inner.0, inner.1, rw inner.2)
    ]

-- a text past the limit is too long, whatever is put onto it
text_piece-long : (line : ℕ) (text more : List ℕ) → length text ≡ suc statement_limit → text_piece line (text ++ more) ≡ TooLong line
text_piece-long line text more e = grind (arith, length-append {A = ℕ})

-- a text within the limit is whole
pub text_piece-whole : (line : ℕ) (text : List ℕ) → length text ≤ statement_limit → text_piece line text ≡ Whole (record { text = text; line = line })
text_piece-whole line text e = grind arith

-- a byte that ends no statement, put before the rest of its chunk, by what the cutter is in
module _ (k : Bool) (s : State) (b : ℕ) (c : List ℕ) (e : is_end s.mode b ≡ false) where
  step-over : s.over ≡ true → settled_piece k (begun_piece s (b ∷ c)) ≡ option_to_list (cut_at s b) ++ settled_piece k (begun_piece (next s b) c)
  step-over over = rw (e, over)

  step-between : s.over ≡ false → is_idle s ≡ true → is_between s.mode b ≡ true → settled_piece k (begun_piece s (b ∷ c)) ≡ option_to_list (cut_at s b) ++ settled_piece k (begun_piece (next s b) c)
  step-between over idle between =
      let small : is_full s ≡ false = rw (nil_from_length s.text (eqb-true _ _ idle)) in
      rw (e, over, idle, between, small, idle)

  step-first : s.over ≡ false → is_idle s ≡ true → is_between s.mode b ≡ false → settled_piece k (begun_piece s (b ∷ c)) ≡ option_to_list (cut_at s b) ++ settled_piece k (begun_piece (next s b) c)
  step-first over idle between =
      let empty : s.text ≡ [] = nil_from_length s.text (eqb-true _ _ idle) in
      let small : is_full s ≡ false = rw empty in
      rw (e, over, idle, between, small, empty)

  step-full : s.over ≡ false → is_idle s ≡ false → is_full s ≡ true → settled_piece k (begun_piece s (b ∷ c)) ≡ option_to_list (cut_at s b) ++ settled_piece k (begun_piece (next s b) c)
  step-full over idle full =
      let long : length (s.text ++ b ∷ []) ≡ suc statement_limit = grind (arith, length-append {A = ℕ}) in
      let put : text_piece s.start ((s.text ++ b ∷ []) ++ c) ≡ TooLong s.start = text_piece-long s.start (s.text ++ b ∷ []) c long in
      let too_long : text_piece s.start (s.text ++ b ∷ c) ≡ TooLong s.start = ap (text_piece s.start) (sym (append_assoc s.text (b ∷ []) c)) ∙ put in
      rw (e, over, idle, full, too_long)

  step-grown : s.over ≡ false → is_idle s ≡ false → is_full s ≡ false → settled_piece k (begun_piece s (b ∷ c)) ≡ option_to_list (cut_at s b) ++ settled_piece k (begun_piece (next s b) c)
  step-grown over idle full =
      let more : (length (s.text ++ b ∷ []) == 0) ≡ false = grind (arith, length-append {A = ℕ}) in
      rw (e, over, idle, full, more, append_assoc)

  pub begun-step : settled_piece k (begun_piece s (b ∷ c)) ≡ option_to_list (cut_at s b) ++ settled_piece k (begun_piece (next s b) c)
  begun-step =
      by_test s.over step-over (λ over.
      by_test (is_idle s)
      (λ idle. by_test (is_between s.mode b) (step-between over idle) (step-first over idle))
      (λ idle. by_test (is_full s) (step-full over idle) (step-grown over idle)))

-- a byte that ends no statement leaves the mode and the line as the definitions say
next-mode : (s : State) (b : ℕ) → is_end s.mode b ≡ false → (next s b).mode ≡ mode_after s.mode b
next-mode s b e = grind arith

is_end-newlines : (mode : Mode) (b : ℕ) → is_end mode b ≡ true → newlines (b ∷ []) ≡ 0
is_end-newlines Code b e = rw (eqb-true b 59 e)
is_end-newlines Comment b e = cc
is_end-newlines Double b e = cc
is_end-newlines Single b e = cc

-- each byte counts its newline, and itself
pub next-line : (s : State) (b : ℕ) → (next s b).line ≡ s.line + newlines (b ∷ [])
next-line s b = by_test (is_end s.mode b) (λ e. rw (e, is_end-newlines s.mode b e, add-zero)) (λ e. grind arith)

-- after the end of a statement the rest is numbered from its line on
fresh-chunks : (last : Bool) (s : State) (cs : List (List ℕ)) → s.mode ≡ Code → s.text ≡ [] → s.over ≡ false → from_chunks last s cs ≡ numbered last s.line cs
fresh-chunks last s [] mode text over = refl
fresh-chunks last s (c ∷ cs) mode text over = rw (over, text, mode)

-- before the first byte all of a script is to come
pub start-pieces : (last : Bool) (bytes : List ℕ) → from_chunks last start_state (chunks Code bytes) ≡ numbered last 1 (chunks Code bytes)
start-pieces last bytes = fresh-chunks last start_state (chunks Code bytes) refl refl refl

-- what an ended chunk leaves of the statement that it ends
begun_piece-end : (s : State) → length s.text ≤ statement_limit → settled_piece true (begun_piece s []) ≡ option_to_list (begun s)
begun_piece-end s fits =
    by_test s.over (λ over. rw over) (λ over.
    by_test (is_idle s) (λ idle. rw (over, idle)) (λ idle.
    let whole : text_piece s.start (s.text ++ []) ≡ Whole (record { text = s.text; line = s.start }) = ap (text_piece s.start) (append-nil s.text) ∙ text_piece-whole s.start s.text fits in
    rw (over, idle, whole)))

newlines-append : (xs ys : List ℕ) → newlines (xs ++ ys) ≡ newlines xs + newlines ys
newlines-append xs ys = sum_by-append (λ x. cond (is_newline x) 1 0) xs ys

pub newlines-cons : (b : ℕ) (c : List ℕ) → newlines (b ∷ c) ≡ newlines (b ∷ []) + newlines c
newlines-cons b c = newlines-append (b ∷ []) c

split : (last : Bool) (s : State) (cs : List (List ℕ)) → (d : List ℕ) × (ds : List (List ℕ)) × (cs ≡ d ∷ ds) → length s.text ≤ statement_limit → from_chunks last s ([] ∷ cs) ≡ option_to_list (begun s) ++ numbered last s.line cs
split last s cs some fits =
    let more : has_ended last cs ≡ true = rw some.2 in
    ap (λ k. settled_piece k (begun_piece s []) ++ numbered last (s.line + 0) cs) more
    ∙ ap (λ ps. ps ++ numbered last (s.line + 0) cs) (begun_piece-end s fits)
    ∙ ap (λ n. option_to_list (begun s) ++ numbered last n cs) (add-zero s.line)

ends : (last : Bool) (s : State) (b : ℕ) (bs : List ℕ) → length s.text ≤ statement_limit → is_end s.mode b ≡ true → from_chunks last s (chunks s.mode (b ∷ bs)) ≡ option_to_list (cut_at s b) ++ from_chunks last (next s b) (chunks (next s b).mode bs)
ends last s b bs fits e =
    let fresh : from_chunks last (record (ended s) { taken = s.taken + 1 }) (chunks Code bs) ≡ numbered last s.line (chunks Code bs) = fresh-chunks last (record (ended s) { taken = s.taken + 1 }) (chunks Code bs) refl refl refl in
    rw e (split last s (chunks Code bs) (chunks-some Code bs) fits ∙ ap (λ ps. option_to_list (begun s) ++ ps) (sym fresh))

goes_on_at : (last : Bool) (s : State) (b : ℕ) (c : List ℕ) (cs : List (List ℕ)) → is_end s.mode b ≡ false → from_chunks last s ((b ∷ c) ∷ cs) ≡ option_to_list (cut_at s b) ++ from_chunks last (next s b) (c ∷ cs)
goes_on_at last s b c cs e =
    let line : s.line + newlines (b ∷ c) ≡ (next s b).line + newlines c = rw (next-line s b, newlines-cons b c) (omega arith) in
    ap (λ ps. ps ++ numbered last (s.line + newlines (b ∷ c)) cs) (begun-step (has_ended last cs) s b c e)
    ∙ ap (λ n. (option_to_list (cut_at s b) ++ settled_piece (has_ended last cs) (begun_piece (next s b) c)) ++ numbered last n cs) line
    ∙ append_assoc (option_to_list (cut_at s b)) (settled_piece (has_ended last cs) (begun_piece (next s b) c)) (numbered last ((next s b).line + newlines c) cs)

goes_on : (last : Bool) (s : State) (b : ℕ) (bs : List ℕ) → is_end s.mode b ≡ false → from_chunks last s (chunks s.mode (b ∷ bs)) ≡ option_to_list (cut_at s b) ++ from_chunks last (next s b) (chunks (next s b).mode bs)
goes_on last s b bs e =
    let rest = chunks-some (mode_after s.mode b) bs in
    let front : chunks s.mode (b ∷ bs) ≡ (b ∷ rest.0) ∷ rest.1 = rw (e, rest.2) in
    let back : chunks (next s b).mode bs ≡ rest.0 ∷ rest.1 = ap (λ m. chunks m bs) (next-mode s b e) ∙ rest.2 in
    ap (from_chunks last s) front ∙ goes_on_at last s b rest.0 rest.1 e ∙ ap (λ cs. option_to_list (cut_at s b) ++ from_chunks last (next s b) cs) (sym back)

-- one byte at the front: its piece, and then what the cutter after it has still to answer
pub from_chunks-step : (last : Bool) (s : State) (b : ℕ) (bs : List ℕ) → length s.text ≤ statement_limit → from_chunks last s (chunks s.mode (b ∷ bs)) ≡ option_to_list (cut_at s b) ++ from_chunks last (next s b) (chunks (next s b).mode bs)
from_chunks-step last s b bs fits = by_test (is_end s.mode b) (ends last s b bs fits) (goes_on last s b bs)

next-fits : (s : State) (b : ℕ) → Fits s → Fits (next s b)
next-fits s b fits = grind (arith, length-append {A = ℕ})

pub quiet-more : (s : State) (bs : List ℕ) (t : State) (b : ℕ) → IsQuiet s bs t → cut_at t b ≡ None → IsQuiet s (bs ++ b ∷ []) (next t b)
quiet-more s [] t b quiet none = rw quiet (none, refl)
quiet-more s (c ∷ bs) t b quiet none = (quiet.0, quiet-more (next s c) bs t b quiet.1 none)

pub quiet-fits : (s : State) (bs : List ℕ) (t : State) → Fits s → IsQuiet s bs t → Fits t
quiet-fits s [] t fits quiet = subst Fits quiet fits
quiet-fits s (b ∷ bs) t fits quiet = quiet-fits (next s b) bs t (next-fits s b fits) quiet.1

-- such bytes leave all that is to come
pub quiet-stream : (last : Bool) (s : State) (bs : List ℕ) (t : State) (more : List ℕ) → Fits s → IsQuiet s bs t → from_chunks last s (chunks s.mode (bs ++ more)) ≡ from_chunks last t (chunks t.mode more)
quiet-stream last s [] t more fits quiet = ap (λ u. from_chunks last u (chunks u.mode more)) quiet
quiet-stream last s (b ∷ bs) t more fits quiet =
    from_chunks-step last s b (bs ++ more) fits
    ∙ ap (λ c. option_to_list c ++ from_chunks last (next s b) (chunks (next s b).mode (bs ++ more))) quiet.0
    ∙ quiet-stream last (next s b) bs t more (next-fits s b fits) quiet.1

quiet-line : (s : State) (bs : List ℕ) (t : State) → IsQuiet s bs t → t.line ≡ s.line + newlines bs
quiet-line s [] t quiet = rw (← quiet) (sym (add-zero s.line))
quiet-line s (b ∷ bs) t quiet = rw (quiet-line (next s b) bs t quiet.1, next-line s b, newlines-cons b bs) (omega arith)

quiet-take : (s : State) (bs : List ℕ) (t : State) (k : ℕ) → IsQuiet s bs t → (u : State) × IsQuiet s (take k bs) u
quiet-take s bs t zero quiet = (s, refl)
quiet-take s [] t (suc k) quiet = (s, refl)
quiet-take s (b ∷ bs) t (suc k) quiet = let rest = quiet-take (next s b) bs t k quiet.1 in (rest.0, (quiet.0, rest.1))

-- nothing is settled before the first byte, and none of these bytes settles a piece
settled-nothing : (s : State) → Fits s → settled_from s [] ≡ []
settled-nothing s fits =
    by_test s.over (λ over. rw over) (λ over.
    by_test (is_idle s) (λ idle. rw (over, idle)) (λ idle.
    let whole : text_piece s.start (s.text ++ []) ≡ Whole (record { text = s.text; line = s.start }) = ap (text_piece s.start) (append-nil s.text) ∙ text_piece-whole s.start s.text fits in
    rw (over, idle, whole)))

quiet-settled : (s : State) (bs : List ℕ) (t : State) → Fits s → IsQuiet s bs t → settled_from s bs ≡ []
quiet-settled s bs t fits quiet =
    ap (settled_from s) (sym (append-nil bs)) ∙ quiet-stream false s bs t [] fits quiet ∙ settled-nothing t (quiet-fits s bs t fits quiet)

-- what `feed` says, from the bytes up to the first that completes a piece
abbrev pub Reached : State → List ℕ → ℕ → Option Piece → State → Type 0
Reached s bs used cut t = Fits s × Reaches s bs used cut t

pub reached-line : (s : State) (bs : List ℕ) (used : ℕ) (cut : Option Piece) (t : State) → Reached s bs used cut t → t.line ≡ s.line + newlines (take used bs)
reached-line s bs used None t r =
    let all : take used bs ≡ bs = take_all used bs (omega arith) in
    rw all (quiet-line s bs t r.1.1)
reached-line s bs used (Some piece) t r =
    let run = r.1 in
    let front : take used bs ≡ take run.0 bs ++ get_or bs run.0 0 ∷ [] = rw run.3 (take_more bs run.0 0 run.2) in
    let before : run.1.line ≡ s.line + newlines (take run.0 bs) = quiet-line s (take run.0 bs) run.1 run.4 in
    let at : t.line ≡ run.1.line + newlines (get_or bs run.0 0 ∷ []) = ap (λ u. u.line) run.6 ∙ next-line run.1 (get_or bs run.0 0) in
    let sum : newlines (take used bs) ≡ newlines (take run.0 bs) + newlines (get_or bs run.0 0 ∷ []) = ap newlines front ∙ newlines-append (take run.0 bs) (get_or bs run.0 0 ∷ []) in
    omega (arith, before, at, sum)

pub reached-earliest : (s : State) (bs : List ℕ) (used : ℕ) (cut : Option Piece) (t : State) → Reached s bs used cut t → (k : ℕ) → k < used → settled_from s (take k bs) ≡ []
reached-earliest s bs used None t r k below =
    let front = quiet-take s bs t k r.1.1 in
    quiet-settled s (take k bs) front.0 r.0 front.1
reached-earliest s bs used (Some piece) t r k below =
    let run = r.1 in
    let front = quiet-take s (take run.0 bs) run.1 k run.4 in
    let at : take k (take run.0 bs) ≡ take k bs = take-take k run.0 bs (omega arith) in
    quiet-settled s (take k bs) front.0 r.0 (subst (λ bytes. IsQuiet s bytes front.0) at front.1)

pub reached-stream : (last : Bool) (s : State) (bs : List ℕ) (used : ℕ) (cut : Option Piece) (t : State) → Reached s bs used cut t → (more : List ℕ) → from_chunks last s (chunks s.mode (bs ++ more)) ≡ option_to_list cut ++ from_chunks last t (chunks t.mode (drop used bs ++ more))
reached-stream last s bs used None t r more =
    let none : drop used bs ≡ [] = drop_all used bs (omega arith) in
    rw none (quiet-stream last s bs t more r.0 r.1.1)
reached-stream last s bs used (Some piece) t r more =
    let run = r.1 in
    let byte = get_or bs run.0 0 in
    let rest = drop used bs ++ more in
    let back : drop run.0 bs ≡ byte ∷ drop used bs = drop-cons bs run.0 0 run.2 ∙ ap (λ n. byte ∷ drop n bs) (sym (add-one run.0) ∙ sym run.3) in
    let parts : bs ++ more ≡ take run.0 bs ++ (byte ∷ rest) =
    ap (λ xs. xs ++ more) (sym (take-append-drop run.0 bs) ∙ ap (λ xs. take run.0 bs ++ xs) back) ∙ append_assoc (take run.0 bs) (byte ∷ drop used bs) more in
    ap (λ xs. from_chunks last s (chunks s.mode xs)) parts
    ∙ quiet-stream last s (take run.0 bs) run.1 (byte ∷ rest) r.0 run.4
    ∙ from_chunks-step last run.1 byte rest (quiet-fits s (take run.0 bs) run.1 r.0 run.4)
    ∙ ap (λ c. option_to_list c ++ from_chunks last (next run.1 byte) (chunks (next run.1 byte).mode rest)) run.5
    ∙ ap (λ u. piece ∷ from_chunks last u (chunks u.mode rest)) (sym run.6)

pub quiet-next : (s : State) (bs : List ℕ) (t : State) (u : State) (i : ℕ) → i < length bs → IsQuiet s (take i bs) t → cut_at t (get_or bs i 0) ≡ None → u ≡ next t (get_or bs i 0) → IsQuiet s (take (i + 1) bs) u
quiet-next s bs t u i below quiet none is = rw (take_more bs i 0 below, is) (quiet-more s (take i bs) t (get_or bs i 0) quiet none)

-- a plain byte ends nothing
plain-end : (m : Mode) (b : ℕ) → is_plain m b ≡ true → (is_end m b ≡ false) × (mode_after m b ≡ m) × (newlines (b ∷ []) ≡ 0)
plain-end Code b plain = grind arith
plain-end Comment b plain = grind arith
plain-end Double b plain = grind arith
plain-end Single b plain = grind arith

not_full : (s : State) → length s.text < statement_limit → is_full s ≡ false
not_full s room = by_test (is_full s) (λ full. absurd (omega (arith, eqb-true (length s.text) statement_limit full))) (λ e. e)

extended-nil : (s : State) → s ≡ extended s []
extended-nil s = rw (append-nil s.text, add-zero s.taken)

extended-cons : (s : State) (b : ℕ) (bs : List ℕ) → extended (extended s (b ∷ [])) bs ≡ extended s (b ∷ bs)
extended-cons s b bs =
    let count : s.taken + 1 + length bs ≡ s.taken + suc (length bs) = omega arith in
    rw (append_assoc s.text (b ∷ []) bs, count)

plain-next : (s : State) (b : ℕ) → s.over ≡ false → is_idle s ≡ false → is_full s ≡ false → is_plain s.mode b ≡ true → (cut_at s b ≡ None) × (next s b ≡ extended s (b ∷ []))
plain-next s b over idle full plain =
    let facts = plain-end s.mode b plain in
    (rw (facts.0, over, full), rw (facts.0, over, idle, full, facts.1, facts.2, add-zero s.line))

-- plain bytes complete no piece while the text has room for them
pub plain-quiet : (bs : List ℕ) (s : State) → s.over ≡ false → is_idle s ≡ false → length s.text + length bs ≤ statement_limit → list_all (is_plain s.mode) bs ≡ true → IsQuiet s bs (extended s bs)
plain-quiet [] s over idle room plain = extended-nil s
plain-quiet (b ∷ bs) s over idle room plain =
    by_test (is_plain s.mode b)
    (λ here.
    let more : list_all (is_plain s.mode) bs ≡ true = rw here at plain in
    let one = plain-next s b over idle (not_full s (omega arith)) here in
    let busy : is_idle (extended s (b ∷ [])) ≡ false = by_test (is_idle (extended s (b ∷ []))) (λ e. absurd (omega (arith, eqb-true _ _ e, length-append s.text (b ∷ [])))) (λ e. e) in
    let rest : IsQuiet (extended s (b ∷ [])) bs (extended (extended s (b ∷ [])) bs) = plain-quiet bs (extended s (b ∷ [])) over busy (omega (arith, length-append s.text (b ∷ []))) more in
    (one.0, rw (one.1, ← extended-cons s b bs) rest))
    (λ other. let never : false ≡ true = rw other at plain in absurd (cc))

quiet-append : (s : State) (xs ys : List ℕ) (t u : State) → IsQuiet s xs t → IsQuiet t ys u → IsQuiet s (xs ++ ys) u
quiet-append s [] ys t u first second = rw first second
quiet-append s (b ∷ xs) ys t u first second = (first.0, quiet-append (next s b) xs ys t u first.1 second)

pub quiet-further : (s : State) (bs : List ℕ) (at n : ℕ) (t u : State) → IsQuiet s (take at bs) t → IsQuiet t (take n (drop at bs)) u → IsQuiet s (take (at + n) bs) u
quiet-further s bs at n t u first second = rw (take-add at n bs) (quiet-append s (take at bs) (take n (drop at bs)) t u first second)

-- the plain bytes at the front of a part
pub plain-front : (s : State) (bs : List ℕ) (n : ℕ) → s.over ≡ false → is_idle s ≡ false → length s.text + length bs ≤ statement_limit → n ≡ prefix_len (is_plain s.mode) bs → IsQuiet s (take n bs) (extended s (take n bs))
plain-front s bs n over idle room is =
    let within : length (take n bs) ≤ length bs = rw (length-take-le n bs (rw is (prefix_len-le-length (is_plain s.mode) bs))) (rw is (prefix_len-le-length (is_plain s.mode) bs)) in
    plain-quiet (take n bs) s over idle (omega arith) (rw is (list_all-front (is_plain s.mode) bs))

-- what `extend` does to a begun statement
pub extend-quiet : (s : State) (part front text : List ℕ) (n room : ℕ) → s.over ≡ false → 0 < length s.text → front ≡ take room part → length s.text + room ≤ statement_limit → n ≡ prefix_len (is_plain s.mode) front → text ≡ s.text ++ take n front → IsQuiet s (take n part) (record s { text = text; taken = s.taken + n })
extend-quiet s part front text n room over some is_front fits is_len is_text =
    let idle : is_idle s ≡ false = by_test (is_idle s) (λ e. absurd (omega (arith, eqb-true (length s.text) 0 e))) (λ e. e) in
    let within : n ≤ length front = rw is_len (prefix_len-le-length (is_plain s.mode) front) in
    let at_most : length front ≤ room = rw is_front (omega (arith, length-take room part)) in
    let size : length (take n front) ≡ n = length-take-le n front within in
    let same : take n front ≡ take n part = ap (take n) is_front ∙ take-take n room part (omega arith) in
    let quiet : IsQuiet s (take n front) (extended s (take n front)) = plain-front s front n over idle (omega arith) is_len in
    rw (is_text, ← same) (subst (λ k. IsQuiet s (take n front) (record s { text = s.text ++ take n front; taken = s.taken + k })) size quiet)

-- all that was settled is answered
pub reached-answered : (s : State) (bs : List ℕ) (used : ℕ) (cut : Option Piece) (t : State) → Reached s bs used cut t → settled_from t [] ≡ []
reached-answered s bs used None t r = settled-nothing t (quiet-fits s bs t r.0 r.1.1)
reached-answered s bs used (Some piece) t r =
    let run = r.1 in
    settled-nothing t (subst Fits (sym run.6) (next-fits run.1 (get_or bs run.0 0) (quiet-fits s (take run.0 bs) run.1 r.0 run.4)))

-- the bytes taken complete the piece that is answered, and no other
pub reached-completed : (s : State) (bs : List ℕ) (used : ℕ) (cut : Option Piece) (t : State) → Reached s bs used cut t → settled_from s (take used bs) ≡ option_to_list cut
reached-completed s bs used None t r =
    let all : take used bs ≡ bs = take_all used bs (omega arith) in
    rw all (quiet-settled s bs t r.0 r.1.1)
reached-completed s bs used (Some piece) t r =
    let run = r.1 in
    let byte = get_or bs run.0 0 in
    let front : take used bs ≡ take run.0 bs ++ byte ∷ [] = rw run.3 (take_more bs run.0 0 run.2) in
    let fits : Fits run.1 = quiet-fits s (take run.0 bs) run.1 r.0 run.4 in
    ap (settled_from s) front
    ∙ quiet-stream false s (take run.0 bs) run.1 (byte ∷ []) r.0 run.4
    ∙ from_chunks-step false run.1 byte [] fits
    ∙ ap (λ c. option_to_list c ++ from_chunks false (next run.1 byte) (chunks (next run.1 byte).mode [])) run.5
    ∙ ap (λ ps. piece ∷ ps) (settled-nothing (next run.1 byte) (next-fits run.1 byte fits))

-- the line where memory was wanting: at a byte, or before the plain bytes behind it
pub failed-at : (s : State) (bs : List ℕ) (used : ℕ) (t : State) (line taken : ℕ) → used < length bs → IsQuiet s (take used bs) t → t.taken ≡ s.taken + used
    → line ≡ t.line + newlines (get_or bs used 0 ∷ []) → taken ≡ t.taken + 1 → line ≡ s.line + newlines (take (taken - s.taken) bs)
failed-at s bs used t line taken below quiet count is_line is_taken =
    let more : taken - s.taken ≡ used + 1 = omega arith in
    let front : take (used + 1) bs ≡ take used bs ++ get_or bs used 0 ∷ [] = take_more bs used 0 below in
    let before : t.line ≡ s.line + newlines (take used bs) = quiet-line s (take used bs) t quiet in
    let sum : newlines (take (used + 1) bs) ≡ newlines (take used bs) + newlines (get_or bs used 0 ∷ []) = ap newlines front ∙ newlines-append (take used bs) (get_or bs used 0 ∷ []) in
    rw more (omega (arith, before, sum, is_line))
