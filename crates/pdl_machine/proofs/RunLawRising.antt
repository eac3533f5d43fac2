-- The numbers of the statements that memory refused rise: a script has too few statements for a count to stay.
use Rattle.std.proofs.Common.{◌≡◌, ℕ, ◌+◌, ◌-◌, ◌^◌, ◌<◌, ◌≤◌, List, [], ◌∷◌, ◌++◌, map, length, take, Bool, true, false, cond, Option, Some, None, Result, Ok, Err, refl, arith, length-append}
use Rattle.std.specs.List.{All, AllPairs}
use Rattle.std.proofs.Math.Nat.{le_refl, le_trans}
use Rattle.std.proofs.lemmas.List.{length-map, length-take}
use Rattle.std.proofs.lemmas.List.Elements.{All-append, All-cons, All-nil}
use Rattle.std.proofs.lemmas.List.Quantifiers.{all_pairs_push}
use Rattle.pdl_lemmas.specs.Tests.{by_lt}
use Rattle.std.proofs.lemmas.Bool.{lt-ltb, le-ltb}
use Rattle.pdl_lex.specs.Bytes.{newlines}
use Rattle.pdl_lex.specs.Limits.{script_limit}
use Rattle.pdl_lex.specs.declared.cutter.Mode.{Mode}
use Rattle.pdl_lex.specs.declared.cutter.Mode.TheVariants.{Code}
use Rattle.pdl_lex.specs.declared.Piece.{Piece}
use Rattle.pdl_lex.specs.declared.Piece.TheVariants.{Whole, TooLong}
use Rattle.pdl_lex.specs.Pieces.{Mark, statement, script_too_long, mode_after, is_end, onto_first, chunks, chunk_piece, settled_piece, has_ended, numbered, pieces, settled, script_marks}
use Rattle.pdl_io.specs.Counts.{next_count}
use Rattle.pdl_machine.specs.declared.fault.Fault.{Fault}
use Rattle.pdl_machine.specs.Step.{Done}
use Rattle.pdl_machine.specs.Run.{Terms, Progress, line_of, fault_ends, counted, after, next_step, after_mark, after_marks, start}
use Rattle.pdl_machine.specs.RunLaws.{RefusedRise}
use Rattle.pdl_machine.proofs.RunLemmas.{by_refusal}
use Rattle.pdl_machine.proofs.RunLawCounts.{each_is_counted}

-- a chunk has at most one statement
one_settled : (ended : Bool) (o : Option Piece) → length (settled_piece ended o) ≤ 1
one_settled ended None = omega arith
one_settled ended (Some (TooLong line)) = omega arith
one_settled true (Some (Whole cut)) = omega arith
one_settled false (Some (Whole cut)) = omega arith

few_numbered : (last : Bool) (line : ℕ) (cs : List (List ℕ)) → length (numbered last line cs) ≤ length cs
few_numbered last line [] = omega arith
few_numbered last line (c ∷ cs) =
    let first : List Piece = settled_piece (has_ended last cs) (chunk_piece line Code c) in
    let rest : List Piece = numbered last (line + newlines c) cs in
    let both : length (first ++ rest) ≡ length first + length rest = length-append first rest in
    let one = one_settled (has_ended last cs) (chunk_piece line Code c) in
    let fewer = few_numbered last (line + newlines c) cs in
    omega (arith, both, one, fewer)

onto_length : (b : ℕ) (cs : List (List ℕ)) → length (onto_first b cs) ≡ length cs
onto_length b [] = refl
onto_length b (c ∷ cs) = refl

-- there are at most as many chunks as bytes, and one
few_chunks : (now : Mode) (bytes : List ℕ) → length (chunks now bytes) ≤ length bytes + 1
few_chunks now [] = omega arith
few_chunks now (b ∷ bs) =
    let cut = few_chunks Code bs in
    let on = few_chunks (mode_after now b) bs in
    let same = onto_length b (chunks (mode_after now b) bs) in
    elim (is_end now b) as (λ t. length (cond t ([] ∷ chunks Code bs) (onto_first b (chunks (mode_after now b) bs))) ≤ length (b ∷ bs) + 1) [
      | true ↦ omega (arith, cut)
      | false ↦ omega (arith, on, same)
    ]

few_pieces : (last : Bool) (bytes : List ℕ) → length (numbered last 1 (chunks Code bytes)) ≤ length bytes + 1
few_pieces last bytes = le_trans (few_numbered last 1 (chunks Code bytes)) (few_chunks Code bytes)

-- a mark for each of them, and one more
few_ended : (front : List ℕ) (line most : ℕ) → length front ≤ most → length (map statement (settled front) ++ script_too_long line ∷ []) ≤ most + 2
few_ended front line most long =
    let few : length (settled front) ≤ length front + 1 = few_pieces false front in
    let same : length (map statement (settled front)) ≡ length (settled front) = length-map (settled front) statement in
    let both : length (map statement (settled front) ++ script_too_long line ∷ []) ≡ length (map statement (settled front)) + 1 =
    length-append (map statement (settled front)) (script_too_long line ∷ []) in
    omega (arith, long, few, same, both)

few_whole : (script : List ℕ) (most : ℕ) → length script ≤ most → length (map statement (pieces script)) ≤ most + 2
few_whole script most near =
    let few : length (pieces script) ≤ length script + 1 = few_pieces true script in
    let same : length (map statement (pieces script)) ≡ length (pieces script) = length-map (pieces script) statement in
    omega (arith, near, few, same)

few_marks : (script : List ℕ) → length (script_marks script) ≤ script_limit + 2
few_marks script = by_lt script_limit (length script)
    (λ far. rw (lt-ltb script_limit (length script) far)
    (few_ended (take script_limit script) (1 + newlines (take script_limit script)) script_limit (omega (arith, length-take script_limit script))))
    (λ near. rw (le-ltb script_limit (length script) near) (few_whole script script_limit near))

-- the numbers rise, and are of statements that came
record Rises (p : Progress) : Type 0 where
  below : All (λ n. n ≤ p.count) p.refused
  pairs : AllPairs (λ x y. x < y) p.refused

mark_rises : (terms : Terms) (p : Progress) (m : Mark) → p.count < 2 ^ 64 - 1 → Rises p → Rises (after_mark terms p m)
mark_rises terms p m small r =
    by_refusal Rises terms p m
    (record {
      below = All-append (λ n. n ≤ next_count p.count) p.refused (next_count p.count ∷ []) still
          (All-cons (λ n. n ≤ next_count p.count) (next_count p.count) [] (le_refl (next_count p.count)) (All-nil (λ n. n ≤ next_count p.count)));
      pairs = all_pairs_push (λ x y. x < y) p.refused (next_count p.count) r.pairs (λ k d lt. (let le = r.below k d lt in omega (arith, le, more)));
    })
    (by_result (next_step p m))
  where
    more : p.count < next_count p.count
    more = omega (arith, small)

    still : All (λ n. n ≤ next_count p.count) p.refused
    still k d lt = (let le = r.below k d lt in omega (arith, le, more))

    by_result : (x : Result Done Fault) → Rises (after (fault_ends terms.keep m) (counted p) (line_of m) x)
    by_result (Ok d) = record { below = still; pairs = r.pairs }
    by_result (Err e) = record { below = still; pairs = r.pairs }

marks_rise : (terms : Terms) (p : Progress) (ms : List Mark) → p.count + length ms < 2 ^ 64 → Rises p → AllPairs (λ x y. x < y) (after_marks terms p ms).refused
marks_rise terms p [] few r = r.pairs
marks_rise terms p (m ∷ ms) few r =
    let counts = each_is_counted terms p m in
    let next = marks_rise terms (after_mark terms p m) ms (omega (arith, few, counts)) (mark_rises terms p m (omega (arith, few)) r) in
    elim p.ended as (λ b. AllPairs (λ x y. x < y) (cond b p (after_marks terms (after_mark terms p m) ms)).refused) [
      | true ↦ r.pairs
      | false ↦ next
    ]

pub refused_rise : RefusedRise
refused_rise terms script k within =
    let few = few_marks script in
    marks_rise terms (start terms) (script_marks script) (omega (arith, few))
    (record { below = All-nil (λ n. n ≤ 0); pairs = λ i j d lt inside. absurd (omega (arith, inside)) }) k (k + 1) 0 (omega arith) within
