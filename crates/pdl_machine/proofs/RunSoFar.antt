-- How far a run has come by the first bytes of a script.
use Rattle.std.proofs.Common.{◌≡◌, ℕ, zero, suc, ◌+◌, ◌-◌, ◌<◌, ◌≤◌, List, [], ◌∷◌, ◌++◌, map, length, take, true, false, cond, refl, sym, ◌∙◌, ap, arith, append_assoc, length-append}
use Rattle.std.specs.Prelude.{nat_lt}
use Rattle.std.proofs.lemmas.Bool.{ltb-true, ltb-false, le-ltb}
use Rattle.std.proofs.lemmas.List.{map-append}
use Rattle.pdl_lemmas.specs.Tests.{by_test}
use Rattle.pdl_lex.specs.Bytes.{newlines}
use Rattle.pdl_lex.specs.Limits.{script_limit}
use Rattle.pdl_lex.specs.Pieces.{Mark, statement, script_too_long, pieces, settled, script_marks}
use Rattle.pdl_lex.specs.Settled.{BeginThePieces, StaySettled}
use Rattle.pdl_machine.specs.Run.{Terms, Progress, after_marks, start, run, settled_marks, so_far}
use Rattle.pdl_watch.specs.declared.notice.Notice.{Notice}
use Rattle.pdl_watch.specs.Slots.{joined}
use Rattle.pdl_machine.proofs.RunPresence.{told_stays}
use Rattle.pdl_machine.proofs.RunLemmas.{printed_stays, goes_on, limit_ends}

-- the first bytes of what two parts give together
take_over : (n : ℕ) (xs ys : List ℕ) → length xs ≤ n → take n (xs ++ ys) ≡ xs ++ take (n - length xs) ys
take_over n [] ys fits = ap (λ k. take k ys) (omega arith)
take_over zero (x ∷ xs) ys fits = absurd (omega arith)
take_over (suc n) (x ∷ xs) ys fits =
    let left : n - length xs ≡ suc n - suc (length xs) = omega arith in
    ap (λ zs. x ∷ zs) (take_over n xs ys (omega arith) ∙ ap (λ k. xs ++ take k ys) left)

module _ (begin : BeginThePieces) (stay : StaySettled) (terms : Terms) (bytes more : List ℕ) where
  abbrev Front : Type 0
  Front = (ms : List Mark) × (run terms (bytes ++ more) ≡ after_marks terms (so_far terms bytes) ms)

  -- the marks of the whole script go on from those that the first bytes settle
  front_of : (ms : List Mark) → script_marks (bytes ++ more) ≡ settled_marks bytes ++ ms → Front
  front_of ms is = (ms, ap (after_marks terms (start terms)) is ∙ goes_on terms (start terms) (settled_marks bytes) ms)

  past_limit : nat_lt script_limit (length bytes) ≡ true → Front
  past_limit far =
      let past : script_limit < length bytes = ltb-true script_limit (length bytes) far in
      ([], limit_ends terms bytes more past ∙ ap (λ t. after_marks terms (start terms) (cond t (script_marks bytes) (map statement (settled bytes)))) (sym far))

  within_limit : nat_lt script_limit (length bytes) ≡ false → nat_lt script_limit (length (bytes ++ more)) ≡ false → Front
  within_limit near all_near =
      let rest = begin bytes more in
      front_of (map statement rest.0)
      (rw (near, all_near) (ap (map statement) rest.1 ∙ map-append statement (settled bytes) rest.0))

  cut_at_limit : nat_lt script_limit (length bytes) ≡ false → nat_lt script_limit (length (bytes ++ more)) ≡ true → Front
  cut_at_limit near far =
      let fits : length bytes ≤ script_limit = ltb-false script_limit (length bytes) near in
      let front : List ℕ = take script_limit (bytes ++ more) in
      let rest = stay bytes (take (script_limit - length bytes) more) in
      let last : List Mark = script_too_long (1 + newlines front) ∷ [] in
      let pieces_are : map statement (settled front) ≡ map statement (settled bytes) ++ map statement rest.0 =
      ap (λ u. map statement (settled u)) (take_over script_limit bytes more fits) ∙ ap (map statement) rest.1 ∙ map-append statement (settled bytes) rest.0 in
      front_of (map statement rest.0 ++ last)
      (rw (near, far) (ap (λ ms. ms ++ last) pieces_are ∙ append_assoc (map statement (settled bytes)) (map statement rest.0) last))

  pub so_far-front : Front
  so_far-front =
      by_test (nat_lt script_limit (length bytes)) past_limit (λ near.
      by_test (nat_lt script_limit (length (bytes ++ more))) (cut_at_limit near) (within_limit near))

  abbrev Grown : Type 0
  Grown = (ms : List Mark) × (so_far terms (bytes ++ more) ≡ after_marks terms (so_far terms bytes) ms)

  -- past the limit that is how far the whole run comes
  grown_past : nat_lt script_limit (length (bytes ++ more)) ≡ true → Grown
  grown_past far =
      let front = so_far-front in
      let whole : so_far terms (bytes ++ more) ≡ run terms (bytes ++ more) =
      ap (λ t. after_marks terms (start terms) (cond t (script_marks (bytes ++ more)) (map statement (settled (bytes ++ more))))) far in
      (front.0, whole ∙ front.1)

  grown_within : nat_lt script_limit (length (bytes ++ more)) ≡ false → Grown
  grown_within all_near =
      let fits : length (bytes ++ more) ≤ script_limit = ltb-false script_limit (length (bytes ++ more)) all_near in
      let near : nat_lt script_limit (length bytes) ≡ false = le-ltb script_limit (length bytes) (grind (arith, length-append {A = ℕ})) in
      let rest = stay bytes more in
      let marks : map statement (settled (bytes ++ more)) ≡ map statement (settled bytes) ++ map statement rest.0 =
      ap (map statement) rest.1 ∙ map-append statement (settled bytes) rest.0 in
      (map statement rest.0, rw (near, all_near) (ap (after_marks terms (start terms)) marks ∙ goes_on terms (start terms) (map statement (settled bytes)) (map statement rest.0)))

  pub so_far-grows : Grown
  so_far-grows = by_test (nat_lt script_limit (length (bytes ++ more))) grown_past grown_within

  pub so_far-printed : (text : List ℕ) × ((run terms (bytes ++ more)).printed ≡ (so_far terms bytes).printed ++ text)
  so_far-printed =
      let front = so_far-front in
      let printed = printed_stays terms (so_far terms bytes) front.0 in
      (printed.0, ap (λ p. p.printed) front.1 ∙ printed.1)

  pub so_far-told : (rest : List (List Notice)) × ((run terms (bytes ++ more)).told ≡ joined (so_far terms bytes).told rest)
  so_far-told =
      let front = so_far-front in
      let told = told_stays terms (so_far terms bytes) front.0 in
      (told.0, ap (λ (p : Progress). p.told) front.1 ∙ told.1)

pub so_far-all : (terms : Terms) (bytes : List ℕ) → settled bytes ≡ pieces bytes → so_far terms bytes ≡ run terms bytes
so_far-all terms bytes is =
    let same : settled_marks bytes ≡ script_marks bytes =
    by_test (nat_lt script_limit (length bytes)) (λ far. rw far refl) (λ near. rw near (ap (map statement) is)) in
    ap (after_marks terms (start terms)) same
