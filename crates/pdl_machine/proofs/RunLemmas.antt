-- What holds of every run.
use Rattle.std.proofs.Common.{◌≡◌, ℕ, ◌+◌, ◌-◌, ◌^◌, ◌<◌, ◌≤◌, List, [], ◌∷◌, ◌++◌, map, length, take, Bool, true, false, cond, Result, Ok, Err, refl, sym, ◌∙◌, ap, subst, arith, append_assoc, append-nil, length-append}
use Rattle.std.specs.Prelude.{◌||◌, not, nat_le}
use Rattle.std.specs.List.{All}
use Rattle.std.proofs.Math.Nat.{le_refl, le_trans}
use Rattle.std.proofs.lemmas.List.Elements.{All-append, All-cons, All-nil}
use Rattle.std.proofs.lemmas.Bool.{lt-ltb, leb-false}
use Rattle.std.proofs.lemmas.List.{take-append-le}
use Rattle.pdl_lex.specs.Bytes.{newlines}
use Rattle.pdl_lex.specs.Limits.{script_limit}
use Rattle.pdl_lex.specs.Pieces.{Mark, statement, script_too_long, settled, script_marks}
use Rattle.pdl_machine.specs.declared.fault.Fault.{Fault}
use Rattle.pdl_machine.specs.Step.{Done}
use Rattle.pdl_io.specs.Counts.{next_count}
use Rattle.pdl_machine.specs.Run.{Terms, Progress, line_of, fault_ends, text_after, counted, after, next_step, is_refused, memory_line, refused_limit, after_refusal, after_mark, after_marks, went_wrong, start, run}
use Rattle.pdl_machine.specs.RunLaws.{RefusedAreGiven, RefusedAreFew, NoneIsRefused, RefusalsLeaveAll}

pub ended_stays : (terms : Terms) (p : Progress) (ms : List Mark) → p.ended ≡ true → after_marks terms p ms ≡ p
ended_stays terms p [] ended = refl
ended_stays terms p (m ∷ ms) ended = rw ended refl

-- what holds after a refusal and after a statement that is run holds after the next one
pub by_refusal : (P : Progress → Type 0) (terms : Terms) (p : Progress) (m : Mark)
    → P (after_refusal (fault_ends terms.keep m) (counted p) (line_of m))
    → P (after (fault_ends terms.keep m) (counted p) (line_of m) (next_step p m)) → P (after_mark terms p m)
by_refusal P terms p m refused run =
    elim (is_refused terms (next_count p.count)) as
    (λ b. P (cond b (after_refusal (fault_ends terms.keep m) (counted p) (line_of m)) (after (fault_ends terms.keep m) (counted p) (line_of m) (next_step p m)))) [
      | true ↦ refused
      | false ↦ run
    ]

after-printed : (ends : Bool) (p : Progress) (line : ℕ) (r : Result Done Fault) → (after ends p line r).printed ≡ p.printed ++ text_after line r
after-printed ends p line (Ok d) = refl
after-printed ends p line (Err e) = refl

-- the next statement adds a text
mark_printed : (terms : Terms) (p : Progress) (m : Mark) → (text : List ℕ) × ((after_mark terms p m).printed ≡ p.printed ++ text)
mark_printed terms p m =
    by_refusal (λ q. (text : List ℕ) × (q.printed ≡ p.printed ++ text)) terms p m
    (memory_line (line_of m), refl)
    (text_after (line_of m) (next_step p m), after-printed (fault_ends terms.keep m) (counted p) (line_of m) (next_step p m))

pub printed_stays : (terms : Terms) (p : Progress) (ms : List Mark) → (text : List ℕ) × ((after_marks terms p ms).printed ≡ p.printed ++ text)
printed_stays terms p [] = ([], sym (append-nil p.printed))
printed_stays terms p (m ∷ ms) =
    let more = printed_stays terms (after_mark terms p m) ms in
    let first = mark_printed terms p m in
    elim p.ended as (λ b. (text : List ℕ) × ((cond b p (after_marks terms (after_mark terms p m) ms)).printed ≡ p.printed ++ text)) [
      | true ↦ ([], sym (append-nil p.printed))
      | false ↦ (first.0 ++ more.0, more.1 ∙ ap (λ u. u ++ more.0) first.1 ∙ append_assoc p.printed first.0 more.0)
    ]

after-faulted : (ends : Bool) (p : Progress) (line : ℕ) (r : Result Done Fault) → p.faulted ≡ true → (after ends p line r).faulted ≡ true
after-faulted ends p line (Ok d) came = came
after-faulted ends p line (Err e) came = refl

pub fault_stays : (terms : Terms) (p : Progress) (ms : List Mark) → p.faulted ≡ true → (after_marks terms p ms).faulted ≡ true
fault_stays terms p [] came = came
fault_stays terms p (m ∷ ms) came =
    let first = by_refusal (λ q. q.faulted ≡ true) terms p m came (after-faulted (fault_ends terms.keep m) (counted p) (line_of m) (next_step p m) came) in
    let next = fault_stays terms (after_mark terms p m) ms first in
    elim p.ended as (λ b. (cond b p (after_marks terms (after_mark terms p m) ms)).faulted ≡ true) [
      | true ↦ came
      | false ↦ next
    ]

pub goes_on : (terms : Terms) (p : Progress) (ms more : List Mark) → after_marks terms p (ms ++ more) ≡ after_marks terms (after_marks terms p ms) more
goes_on terms p [] more = refl
goes_on terms p (m ∷ ms) more =
    elim p.ended as (λ b. p.ended ≡ b → cond b p (after_marks terms (after_mark terms p m) (ms ++ more)) ≡ after_marks terms (cond b p (after_marks terms (after_mark terms p m) ms)) more) [
      | true ↦ λ e. sym (ended_stays terms p more e)
      | false ↦ λ e. goes_on terms (after_mark terms p m) ms more
    ] refl

-- without going on, each fault ends the run
each_fault_ends : (keep : Bool) (m : Mark) → keep ≡ false → fault_ends keep m ≡ true
each_fault_ends keep (statement piece) is = ap not is
each_fault_ends keep (script_too_long line) is = refl

-- a statement that memory refused went wrong
refusal-wrong : (ends : Bool) (p : Progress) (line : ℕ) → went_wrong (after_refusal ends p line) ≡ true
refusal-wrong ends p line =
    let more : 0 < length (p.refused ++ p.count ∷ []) = grind (arith, length-append {A = ℕ}) in
    ap (λ b. p.faulted || b) (lt-ltb 0 (length (p.refused ++ p.count ∷ [])) more) ∙ or-true p.faulted
  where
    or-true : (b : Bool) → (b || true) ≡ true
    or-true true = refl
    or-true false = refl

refusal-ended : (ends : Bool) (p : Progress) (line : ℕ) → ends ≡ true → (after_refusal ends p line).ended ≡ true
refusal-ended ends p line is = ap (λ b. b || nat_le refused_limit (length p.refused + 1)) is

after-first : (ends : Bool) (p : Progress) (line : ℕ) (r : Result Done Fault) → ends ≡ true → p.ended ≡ went_wrong p → (after ends p line r).ended ≡ went_wrong (after ends p line r)
after-first ends p line (Ok d) is same = same
after-first ends p line (Err e) is same = is

marks_first : (terms : Terms) → terms.keep ≡ false → (p : Progress) (ms : List Mark) → p.ended ≡ went_wrong p → (after_marks terms p ms).ended ≡ went_wrong (after_marks terms p ms)
marks_first terms is p [] same = same
marks_first terms is p (m ∷ ms) same =
    let ends = each_fault_ends terms.keep m is in
    let first = by_refusal (λ q. q.ended ≡ went_wrong q) terms p m
    (refusal-ended (fault_ends terms.keep m) (counted p) (line_of m) ends ∙ sym (refusal-wrong (fault_ends terms.keep m) (counted p) (line_of m)))
    (after-first (fault_ends terms.keep m) (counted p) (line_of m) (next_step p m) ends same) in
    let next = marks_first terms is (after_mark terms p m) ms first in
    elim p.ended as (λ b. (cond b p (after_marks terms (after_mark terms p m) ms)).ended ≡ went_wrong (cond b p (after_marks terms (after_mark terms p m) ms))) [
      | true ↦ same
      | false ↦ next
    ]

-- a statement that isn't run comes first where a run is ended
after-ended : (ends : Bool) (p : Progress) (line : ℕ) (r : Result Done Fault) → (p.ended ≡ true → went_wrong p ≡ true)
    → (after ends p line r).ended ≡ true → went_wrong (after ends p line r) ≡ true
after-ended ends p line (Ok d) wrong = wrong
after-ended ends p line (Err e) wrong = λ _. refl

marks-ended : (terms : Terms) (p : Progress) (ms : List Mark) → (p.ended ≡ true → went_wrong p ≡ true)
    → (after_marks terms p ms).ended ≡ true → went_wrong (after_marks terms p ms) ≡ true
marks-ended terms p [] wrong = wrong
marks-ended terms p (m ∷ ms) wrong =
    let first = by_refusal (λ q. q.ended ≡ true → went_wrong q ≡ true) terms p m
    (λ _. refusal-wrong (fault_ends terms.keep m) (counted p) (line_of m))
    (after-ended (fault_ends terms.keep m) (counted p) (line_of m) (next_step p m) wrong) in
    let next = marks-ended terms (after_mark terms p m) ms first in
    elim p.ended as (λ b. (cond b p (after_marks terms (after_mark terms p m) ms)).ended ≡ true → went_wrong (cond b p (after_marks terms (after_mark terms p m) ms)) ≡ true) [
      | true ↦ wrong
      | false ↦ next
    ]

pub ended_by_fault : (terms : Terms) (ms : List Mark) → (after_marks terms (start terms) ms).ended ≡ true → went_wrong (after_marks terms (start terms) ms) ≡ true
ended_by_fault terms ms = marks-ended terms (start terms) ms (λ e. cc)

ends_at_last : (terms : Terms) (p : Progress) (ms : List Mark) (line : ℕ) → (after_marks terms p (ms ++ script_too_long line ∷ [])).ended ≡ true
ends_at_last terms p [] line =
    let last = by_refusal (λ q. q.ended ≡ true) terms p (script_too_long line) refl refl in
    elim p.ended as (λ b. p.ended ≡ b → (cond b p (after_mark terms p (script_too_long line))).ended ≡ true) [ true ↦ λ e. e | false ↦ λ e. last ] refl
ends_at_last terms p (m ∷ ms) line =
    let next = ends_at_last terms (after_mark terms p m) ms line in
    elim p.ended as (λ b. p.ended ≡ b → (cond b p (after_marks terms (after_mark terms p m) (ms ++ script_too_long line ∷ []))).ended ≡ true) [
      | true ↦ λ e. e
      | false ↦ λ e. next
    ] refl

pub too_long_ends : (terms : Terms) (script : List ℕ) → script_limit < length script → (run terms script).ended ≡ true
too_long_ends terms script far =
    rw (lt-ltb script_limit (length script) far)
    (ends_at_last terms (start terms) (map statement (settled (take script_limit script))) (1 + newlines (take script_limit script)))

pub limit_ends : (terms : Terms) (script more : List ℕ) → script_limit < length script → run terms (script ++ more) ≡ run terms script
limit_ends terms script more far =
    let longer : script_limit < length (script ++ more) = grind (arith, length-append {A = ℕ}) in
    let near : script_limit ≤ length script = omega arith in
    rw (lt-ltb script_limit (length script) far, lt-ltb script_limit (length (script ++ more)) longer, take-append-le script_limit script more near) refl

pub first_fault : (terms : Terms) (script : List ℕ) → terms.keep ≡ false → (run terms script).ended ≡ went_wrong (run terms script)
first_fault terms script is = marks_first terms is (start terms) (script_marks script) refl

after-refused : (ends : Bool) (p : Progress) (line : ℕ) (r : Result Done Fault) → (after ends p line r).refused ≡ p.refused
after-refused ends p line (Ok d) = refl
after-refused ends p line (Err e) = refl

mark_refused : (terms : Terms) (p : Progress) (m : Mark) → (more : List ℕ) × ((after_mark terms p m).refused ≡ p.refused ++ more)
mark_refused terms p m =
    by_refusal (λ q. (more : List ℕ) × (q.refused ≡ p.refused ++ more)) terms p m
    (next_count p.count ∷ [], refl)
    ([], after-refused (fault_ends terms.keep m) (counted p) (line_of m) (next_step p m) ∙ sym (append-nil p.refused))

pub refused_stay : (terms : Terms) (p : Progress) (ms : List Mark) → (more : List ℕ) × ((after_marks terms p ms).refused ≡ p.refused ++ more)
refused_stay terms p [] = ([], sym (append-nil p.refused))
refused_stay terms p (m ∷ ms) =
    let more = refused_stay terms (after_mark terms p m) ms in
    let first = mark_refused terms p m in
    elim p.ended as (λ b. (more : List ℕ) × ((cond b p (after_marks terms (after_mark terms p m) ms)).refused ≡ p.refused ++ more)) [
      | true ↦ ([], sym (append-nil p.refused))
      | false ↦ (first.0 ++ more.0, more.1 ∙ ap (λ ns. ns ++ more.0) first.1 ∙ append_assoc p.refused first.0 more.0)
    ]

refused_is : (terms : Terms) (p : Progress) (m : Mark) → is_refused terms (next_count p.count) ≡ true → after_mark terms p m ≡ after_refusal (fault_ends terms.keep m) (counted p) (line_of m)
refused_is terms p m is = rw is refl

pub refusals_leave_all : RefusalsLeaveAll
refusals_leave_all terms p m is =
    let e = refused_is terms p m is in
    record {
      state = ap (λ (q : Progress). q.state) e;
      text = ap (λ (q : Progress). q.printed) e;
      told = ap (λ (q : Progress). q.told) e;
      present = ap (λ (q : Progress). q.present) e;
      refused = ap (λ (q : Progress). q.refused) e;
      faulted = ap (λ (q : Progress). q.faulted) e;
      ended = ap (λ (q : Progress). q.ended) e;
    }

pub none_is_refused : (terms : Terms) (p : Progress) (ms : List Mark) → terms.refused ≡ [] → (after_marks terms p ms).refused ≡ p.refused
none_is_refused terms p [] none = refl
none_is_refused terms p (m ∷ ms) none =
    let memory : is_refused terms (next_count p.count) ≡ false = rw none refl in
    let first : (after_mark terms p m).refused ≡ p.refused = rw memory (after-refused (fault_ends terms.keep m) (counted p) (line_of m) (next_step p m)) in
    let next = none_is_refused terms (after_mark terms p m) ms none in
    elim p.ended as (λ b. (cond b p (after_marks terms (after_mark terms p m) ms)).refused ≡ p.refused) [
      | true ↦ refl
      | false ↦ next ∙ first
    ]

-- there is room for one refusal more, unless the run is ended
pub record HasRoom (p : Progress) : Type 0 where
  pub few : length p.refused ≤ refused_limit
  pub fewer : p.ended ≡ false → length p.refused < refused_limit

mark_room : (terms : Terms) (p : Progress) (m : Mark) → length p.refused < refused_limit → HasRoom (after_mark terms p m)
mark_room terms p m fewer =
    by_refusal HasRoom terms p m
    (record {
      few = grind (arith, length-append {A = ℕ});
      fewer = λ going. not_yet (fault_ends terms.keep m) going;
    })
    (same (after-refused (fault_ends terms.keep m) (counted p) (line_of m) (next_step p m)))
  where
    same : {q : Progress} → q.refused ≡ p.refused → HasRoom q
    same {q} is = record {
      few = subst (λ ns. length ns ≤ refused_limit) (sym is) (omega arith);
      fewer = λ _. subst (λ ns. length ns < refused_limit) (sym is) fewer;
    }

    not_yet : (ends : Bool) → (ends || nat_le refused_limit (length p.refused + 1)) ≡ false → length (p.refused ++ next_count p.count ∷ []) < refused_limit
    not_yet true going = cc
    not_yet false going =
        let short : length p.refused + 1 < refused_limit = leb-false refused_limit (length p.refused + 1) going in
        grind (arith, length-append {A = ℕ})

pub refused_are_few : (terms : Terms) (p : Progress) (ms : List Mark) → HasRoom p → length (after_marks terms p ms).refused ≤ refused_limit
refused_are_few terms p [] room = room.few
refused_are_few terms p (m ∷ ms) room =
    elim p.ended as (λ b. p.ended ≡ b → length (cond b p (after_marks terms (after_mark terms p m) ms)).refused ≤ refused_limit) [
      | true ↦ λ _. room.few
      | false ↦ λ going. refused_are_few terms (after_mark terms p m) ms (mark_room terms p m (room.fewer going))
    ] refl

-- whether a refused number was given, and is that of a statement that came
abbrev pub IsGiven : Terms → (count : ℕ) → (number : ℕ) → Type 0
IsGiven terms count number = (is_refused terms number ≡ true) × (number ≤ count)

given_later : (terms : Terms) (before now : ℕ) (ns : List ℕ) → before ≤ now → All (IsGiven terms before) ns → All (IsGiven terms now) ns
given_later terms before now ns later given k d lt = ((given k d lt).0, le_trans (given k d lt).1 later)

mark_given : (terms : Terms) (p : Progress) (m : Mark) → p.count ≤ 2 ^ 64 - 1 → All (IsGiven terms p.count) p.refused → All (IsGiven terms (after_mark terms p m).count) (after_mark terms p m).refused
mark_given terms p m small given =
    elim (is_refused terms (next_count p.count)) as (λ b. is_refused terms (next_count p.count) ≡ b → Given (cond b refused run)) [
      | true ↦ λ is. All-append (IsGiven terms (next_count p.count)) p.refused (next_count p.count ∷ []) before
          (All-cons (IsGiven terms (next_count p.count)) (next_count p.count) [] (is, le_refl (next_count p.count)) (All-nil (IsGiven terms (next_count p.count))))
      | false ↦ λ is. by_result (next_step p m)
    ] refl
  where
    refused : Progress
    refused = after_refusal (fault_ends terms.keep m) (counted p) (line_of m)

    run : Progress
    run = after (fault_ends terms.keep m) (counted p) (line_of m) (next_step p m)

    Given : Progress → Type 0
    Given q = All (IsGiven terms q.count) q.refused

    before : All (IsGiven terms (next_count p.count)) p.refused
    before = given_later terms p.count (next_count p.count) p.refused (grind (arith)) given

    by_result : (r : Result Done Fault) → Given (after (fault_ends terms.keep m) (counted p) (line_of m) r)
    by_result (Ok d) = before
    by_result (Err e) = before

mark_small : (terms : Terms) (p : Progress) (m : Mark) → p.count ≤ 2 ^ 64 - 1 → (after_mark terms p m).count ≤ 2 ^ 64 - 1
mark_small terms p m small =
    by_refusal (λ q. q.count ≤ 2 ^ 64 - 1) terms p m (grind (arith)) (by_result (next_step p m))
  where
    by_result : (r : Result Done Fault) → (after (fault_ends terms.keep m) (counted p) (line_of m) r).count ≤ 2 ^ 64 - 1
    by_result (Ok d) = grind (arith)
    by_result (Err e) = grind (arith)

pub refused_are_given : (terms : Terms) (p : Progress) (ms : List Mark) → p.count ≤ 2 ^ 64 - 1 → All (IsGiven terms p.count) p.refused
    → All (IsGiven terms (after_marks terms p ms).count) (after_marks terms p ms).refused
refused_are_given terms p [] small given = given
refused_are_given terms p (m ∷ ms) small given =
    let next = refused_are_given terms (after_mark terms p m) ms (mark_small terms p m small) (mark_given terms p m small given) in
    elim p.ended as (λ b. All (IsGiven terms (cond b p (after_marks terms (after_mark terms p m) ms)).count) (cond b p (after_marks terms (after_mark terms p m) ms)).refused) [
      | true ↦ given
      | false ↦ next
    ]

pub refused_in_a_run : RefusedAreGiven
refused_in_a_run terms script =
    refused_are_given terms (start terms) (script_marks script) (omega arith) (All-nil (IsGiven terms 0))

pub few_in_a_run : RefusedAreFew
few_in_a_run terms script =
    refused_are_few terms (start terms) (script_marks script) (record { few = omega arith; fewer = λ _. omega arith })

pub none_in_a_run : NoneIsRefused
none_in_a_run terms script = none_is_refused terms (start terms) (script_marks script)
