-- Statements that stand one behind the other.
use Rattle.std.proofs.Common.{◌≡◌, ℕ, ◌+◌, ◌≤◌, Bool, true, false, cond, List, [], ◌∷◌, ◌++◌, Some, None, refl, sym, ◌∙◌, ap, subst, arith, eqb-true, true≢false}
use Rattle.std.specs.Prelude.{◌==◌, option_and_then}
use Rattle.std.proofs.lemmas.Bool.{ne_eqb}
use Rattle.pdl_lemmas.specs.Options.{some_inj}
use Rattle.pdl_lemmas.specs.Tests.{by_test}
use Rattle.pdl_lex.specs.Bytes.{is_blank, newlines}
use Rattle.pdl_lex.specs.declared.cutter.Mode.{Mode}
use Rattle.pdl_lex.specs.declared.cutter.Mode.TheVariants.{Code, Comment, Double, Single}
use Rattle.pdl_lex.specs.declared.Piece.{Piece}
use Rattle.pdl_lex.specs.declared.Piece.TheVariants.{Whole, TooLong}
use Rattle.pdl_lex.specs.Pieces.{mode_after, is_end, is_between, onto_first, chunks, text_piece, chunk_piece, settled_piece, has_ended, numbered}
use Rattle.pdl_lex.specs.Joining.{mode_behind, IsStatement, pieces_from}
use Rattle.pdl_lex.proofs.PiecesCut.{chunks-some, newlines-cons}

pub parts_join : (now : Mode) (part other : List ℕ) → mode_behind now (part ++ other) ≡ option_and_then (λ mode. mode_behind mode other) (mode_behind now part)
parts_join now [] other = refl
parts_join now (b ∷ bs) other = by_end (is_end now b) (parts_join (mode_after now b) bs other)
  where
    by_end : (t : Bool) → mode_behind (mode_after now b) (bs ++ other) ≡ option_and_then (λ mode. mode_behind mode other) (mode_behind (mode_after now b) bs)
        → cond t None (mode_behind (mode_after now b) (bs ++ other)) ≡ option_and_then (λ mode. mode_behind mode other) (cond t None (mode_behind (mode_after now b) bs))
    by_end true e = refl
    by_end false e = e

pub digits_stay : (now : Mode) (digit : ℕ) → 48 ≤ digit → digit ≤ 57 → mode_behind now (digit ∷ []) ≡ Some now
digits_stay Code b low high =
    rw (ne_eqb b 59 (λ e. omega (arith, e)), ne_eqb b 35 (λ e. omega (arith, e)), ne_eqb b 34 (λ e. omega (arith, e)), ne_eqb b 39 (λ e. omega (arith, e))) refl
digits_stay Comment b low high = rw (ne_eqb b 10 (λ e. omega (arith, e))) refl
digits_stay Double b low high = rw (ne_eqb b 34 (λ e. omega (arith, e))) refl
digits_stay Single b low high = rw (ne_eqb b 39 (λ e. omega (arith, e))) refl

-- a statement is a chunk of its own
chunks-statement : (now : Mode) (text rest : List ℕ) → mode_behind now text ≡ Some Code → chunks now (text ++ 59 ∷ rest) ≡ text ∷ chunks Code rest
chunks-statement now [] rest is = rw (some_inj is) refl
chunks-statement now (b ∷ bs) rest is = by_end (is_end now b) is (chunks-statement (mode_after now b) bs rest)
  where
    by_end : (t : Bool) → cond t None (mode_behind (mode_after now b) bs) ≡ Some Code
        → (mode_behind (mode_after now b) bs ≡ Some Code → chunks (mode_after now b) (bs ++ 59 ∷ rest) ≡ bs ∷ chunks Code rest)
        → cond t ([] ∷ chunks Code (bs ++ 59 ∷ rest)) (onto_first b (chunks (mode_after now b) (bs ++ 59 ∷ rest))) ≡ (b ∷ bs) ∷ chunks Code rest
    by_end true e more = cc
    by_end false e more = ap (onto_first b) (more e)

ended : (chunks : List (List ℕ)) → has_ended true chunks ≡ true
ended [] = refl
ended (chunk ∷ chunks) = refl

settled_piece-ended : (piece : Piece) → settled_piece true (Some piece) ≡ piece ∷ []
settled_piece-ended (Whole cut) = refl
settled_piece-ended (TooLong line) = refl

numbered-first : (line first : ℕ) (others : List ℕ) (rest : List (List ℕ)) → is_between Code first ≡ false
    → numbered true line ((first ∷ others) ∷ rest) ≡ text_piece line (first ∷ others) ∷ numbered true (line + newlines (first ∷ others)) rest
numbered-first line first others rest begins =
    let text : List ℕ = first ∷ others in
    let here : chunk_piece line Code text ≡ Some (text_piece line text) = rw begins refl in
    ap (λ e. settled_piece e (chunk_piece line Code text) ++ numbered true (line + newlines text) rest) (ended rest)
    ∙ ap (λ p. settled_piece true p ++ numbered true (line + newlines text) rest) here
    ∙ ap (λ ps. ps ++ numbered true (line + newlines text) rest) (settled_piece-ended (text_piece line text))

pub statements_join : (line : ℕ) (text rest : List ℕ) → IsStatement text
    → pieces_from line (text ++ 59 ∷ rest) ≡ text_piece line text ∷ pieces_from (line + newlines text) rest
statements_join line text rest s =
    subst (λ t. pieces_from line (t ++ 59 ∷ rest) ≡ text_piece line t ∷ pieces_from (line + newlines t) rest) (sym s.is)
    (ap (numbered true line) (chunks-statement Code (s.first ∷ s.others) rest s.ends) ∙ numbered-first line s.first s.others (chunks Code rest) s.begins)

-- a byte that belongs to no statement and leaves the next one in code
record Passed (b : ℕ) : Type 0 where
  no_end : is_end Code b ≡ false
  stays : mode_after Code b ≡ Code
  between : is_between Code b ≡ true

blank-passed : (b : ℕ) → is_blank b ≡ true → Passed b
blank-passed b blank =
    by_test (b == 32) (λ e. is 32 e (record { no_end = refl; stays = refl; between = refl })) (λ not_space.
    by_test (b == 9) (λ e. is 9 e (record { no_end = refl; stays = refl; between = refl })) (λ not_tab.
    by_test (b == 10) (λ e. is 10 e (record { no_end = refl; stays = refl; between = refl })) (λ not_newline.
    by_test (b == 13) (λ e. is 13 e (record { no_end = refl; stays = refl; between = refl })) (λ not_return.
    let none : false ≡ true = rw (not_space, not_tab, not_newline, not_return) at blank in absurd (true≢false (sym none))))))
  where
    is : (c : ℕ) → (b == c) ≡ true → Passed c → Passed b
    is c e passed = subst Passed (sym (eqb-true b c e)) passed

pub blanks_join : (line blank : ℕ) (rest : List ℕ) → is_blank blank ≡ true
    → pieces_from line (blank ∷ rest) ≡ pieces_from (line + newlines (blank ∷ [])) rest
blanks_join line b rest blank =
    let passed = blank-passed b blank in
    let some = chunks-some Code rest in
    let chunk : List ℕ = some.0 in
    let others : List (List ℕ) = some.1 in
    let cut : chunks Code (b ∷ rest) ≡ (b ∷ chunk) ∷ others = rw (passed.no_end, passed.stays, some.2) refl in
    let piece : chunk_piece line Code (b ∷ chunk) ≡ chunk_piece (line + newlines (b ∷ [])) Code chunk = rw (passed.between, passed.stays) refl in
    let further : line + newlines (b ∷ chunk) ≡ (line + newlines (b ∷ [])) + newlines chunk = omega (arith, newlines-cons b chunk) in
    ap (numbered true line) cut
    ∙ ap (λ p. settled_piece (has_ended true others) p ++ numbered true (line + newlines (b ∷ chunk)) others) piece
    ∙ ap (λ n. settled_piece (has_ended true others) (chunk_piece (line + newlines (b ∷ [])) Code chunk) ++ numbered true n others) further
    ∙ ap (numbered true (line + newlines (b ∷ []))) (sym some.2)
