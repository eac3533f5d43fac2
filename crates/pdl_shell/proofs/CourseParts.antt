-- A run that takes its script in parts: what the bytes taken say of the run of the whole script.
use Rattle.std.proofs.Common.{◌≡◌, ℕ, ◌+◌, ◌-◌, ◌<◌, ◌≤◌, ◌⊎◌, inl, inr, min, List, [], ◌++◌, map, length, take, drop, Bool, true, false, Option, Some, None, Result, Ok, Err, refl, sym, ◌∙◌, ap, subst, arith, append-nil, length-append, take-append-drop}
use Rattle.std.specs.Prelude.{◌||◌, ◌∷◌, nat_lt, IfErr, cond}
use Rattle.std.specs.List.{All}
use Rattle.std.proofs.lemmas.List.Elements.{All-nil}
use Rattle.std.specs.Result.{IsErrAnd}
use Rattle.std.proofs.lemmas.Bool.{ltb-true, ltb-false, lt-ltb, le-ltb, both_ways, false_from_ne_true}
use Rattle.std.proofs.lemmas.List.{take_all, take-append-le, take-take, length-take, length-take-le}
use Rattle.std.proofs.Math.Seq.{take-append-add}
use Rattle.std.specs.Io.KnownBytes.{Consumes, Keeps, IsAtEnd}
use Rattle.pdl_io.specs.Told.{KeepsTelling}
use Rattle.pdl_lemmas.specs.Tests.{by_lt}
use Rattle.pdl_lex.specs.Limits.{script_limit}
use Rattle.pdl_lex.specs.Pieces.{statement, settled, settled_from, script_marks}
use Rattle.pdl_watch.specs.Slots.{Slots, emptied, present_in, StartsWith}
use Rattle.pdl_machine.specs.Run.{Terms, Progress, refused_limit, start, run, so_far, after_marks, settled_marks, went_wrong}
use Rattle.pdl_machine.specs.RunLaws.{EndedStays, EndedByAFault, TooLongEnds, SoFarGrows}
use Rattle.pdl_shell.specs.declared.runner.Runner.{Runner}
use Rattle.pdl_shell.specs.declared.stop.Stop.{Stop}
use Rattle.pdl_shell.specs.declared.stop.Stop.TheVariants.{Source, Sink, Watcher, NoMemory as NoRoom}
use Rattle.pdl_shell.specs.declared.status.Status.TheVariants.{SourceFault}
use Rattle.pdl_shell.specs.Limits.{read_limit}
use Rattle.pdl_shell.specs.Outside.{Outlets, Outside, NoneFailed}
use Rattle.pdl_shell.specs.Answers.{IsShort, HasReason, TakesAtMost, ending_of_run, ending_on, status_at_end, status_after, status_of_stop}
use Rattle.pdl_shell.specs.Stops.{Fails, HasCauses, Leaves}
use Rattle.pdl_shell.specs.Pace.{Behind, end_of_input, past_limit, unknown, behind, marks_left, outcome}
use Rattle.pdl_shell.specs.CourseLaws.{Laws}
use Rattle.pdl_shell.specs.Calls.{RunsScript}
use Rattle.pdl_shell.specs.Course.{IsFresh, Foretells, Stands, Carries, StopsShort, FailsWith, Ends, Comes}
use Rattle.pdl_shell.specs.Taken.{StopsSoon, ComesTo, Reads, terms_for}
use Rattle.pdl_shell.proofs.CourseRefusals.{all_met, foretold}
use Rattle.pdl_shell.proofs.OutsideSlots.{no_notices}
use Rattle.pdl_shell.proofs.AnswersTaken.{appends_nothing, consumes_then, consumes_kept, takes_at_most}
use Rattle.pdl_shell.proofs.CourseFollowed.{short_marks, short_stands, counts_follow}
use Rattle.pdl_shell.proofs.PaceCarried.{carries_on, met_then, stops_on}

-- the first bytes of what two parts give together
take_of_two : (n : ℕ) (xs ys : List ℕ) → take n (xs ++ ys) ≡ take n xs ++ take (n - length xs) ys
take_of_two n xs ys =
    by_lt (length xs) n (λ far.
    let more : n ≡ length xs + (n - length xs) = omega (arith, far) in
    let whole : take n xs ≡ xs = take_all n xs (omega (arith, far)) in
    ap (λ k. take k (xs ++ ys)) more ∙ take-append-add xs ys (n - length xs) ∙ ap (λ zs. zs ++ take (n - length xs) ys) (sym whole)) (λ near.
    let none : n - length xs ≡ 0 = omega (arith, near) in
    take-append-le n xs ys near ∙ sym (append-nil (take n xs)) ∙ ap (λ k. take n xs ++ take k ys) (sym none))

no_some : {P : Type 0} (xs : List ℕ) → None ≡ Some xs → P
no_some xs is = absurd (none_is xs is)
  where
    none_is : (xs : List ℕ) → None ≡ Some xs → ⊥
    none_is xs is = cc

-- what is left of a script of which these bytes were taken
rest_of : (left left_now : Option (List ℕ)) (bytes script : List ℕ) → Consumes left left_now bytes → left ≡ Some script
    → (rest : List ℕ) × (script ≡ bytes ++ rest) × (left_now ≡ Some rest)
rest_of None left_now bytes script all is = no_some script is
rest_of (Some bs) None bytes script all is = absurd all
rest_of (Some bs) (Some rest) bytes script all is =
    let same : bs ≡ script = cc in
    (rest, sym same ∙ all, refl)

none_at_end : (left : Option (List ℕ)) (rest : List ℕ) → IsAtEnd left → left ≡ Some rest → rest ≡ []
none_at_end None rest end is = no_some rest is
none_at_end (Some bs) rest end is =
    let same : bs ≡ rest = cc in
    sym same ∙ end

-- the run of a script is what a fresh runner comes to by the bytes up to its limit
run_is : (runner : Runner) → IsFresh runner → (terms : Terms) (script : List ℕ)
    → run terms script ≡ outcome terms (behind (nat_lt script_limit (length script))) runner.cutter (start terms) (take script_limit script)
run_is runner fresh terms script =
    by_lt script_limit (length script) (λ far.
    rw (lt-ltb script_limit (length script) far) (sym (ap (after_marks terms (start terms)) (fresh.limited (take script_limit script))))) (λ near.
    rw (le-ltb script_limit (length script) near, take_all script_limit script near) (sym (ap (after_marks terms (start terms)) (fresh.whole script))))

-- bytes that don't end the run have no front that does
front_running : SoFarGrows → EndedStays → (terms : Terms) (xs ys : List ℕ) → (so_far terms (xs ++ ys)).ended ≡ false → (so_far terms xs).ended ≡ false
front_running grows stays terms xs ys running =
    false_from_ne_true (so_far terms xs).ended (λ ended.
    let grown = grows terms xs ys in
    let same : so_far terms (xs ++ ys) ≡ so_far terms xs = grown.1 ∙ stays terms (so_far terms xs) grown.0 ended in
    both_ways _ running (ap (λ p. p.ended) same ∙ ended))

soon_after : SoFarGrows → EndedStays → (terms : Terms) (bytes part : List ℕ) → (so_far terms bytes).ended ≡ false → length part ≤ read_limit
    → StopsSoon terms (bytes ++ part)
soon_after grows stays terms bytes part running short =
    let k : ℕ = length (bytes ++ part) - read_limit in
    let within : k ≤ length bytes = grind (arith, length-append {A = ℕ}) in
    let front : take k (bytes ++ part) ≡ take k bytes = take-append-le k bytes part within in
    let split : (so_far terms (take k bytes ++ drop k bytes)).ended ≡ false =
    ap (λ u. (so_far terms u).ended) (take-append-drop k bytes) ∙ running in
    ap (λ u. (so_far terms u).ended) front ∙ front_running grows stays terms (take k bytes) (drop k bytes) split

-- why no more bytes are taken: the one past the limit has come, or the source is at its end, or the run is ended
abbrev pub IsTaken : (is_cut : Bool) (count : ℕ) (now : Runner) (left_now : Option (List ℕ)) → Type 0
IsTaken true count now left_now = script_limit < count
IsTaken false count now left_now = (count ≤ script_limit) × (IsAtEnd left_now ⊎ (now.ended ≡ true))

pub is_taken : (is_cut : Bool) (count : ℕ) (now : Runner) (left_now : Option (List ℕ)) → is_cut ≡ nat_lt script_limit count
    → (is_cut ≡ false → now.ended ≡ false → IsAtEnd left_now) → IsTaken is_cut count now left_now
is_taken true count now left_now is end = ltb-true script_limit count (sym is)
is_taken false count now left_now is end = (ltb-false script_limit count (sym is), by_end now.ended refl)
  where
    by_end : (ended : Bool) → now.ended ≡ ended → IsAtEnd left_now ⊎ (now.ended ≡ true)
    by_end true e = inr e
    by_end false e = inl (end refl e)

-- what is handed to the runner of the bytes that were read: those up to the limit
handed_is : (within count room : ℕ) (into others : List ℕ) → within ≡ min count room → count ≤ length into
    → take within (into ++ others) ≡ take room (take count into)
handed_is within count room into others is fits =
    let inside : within ≤ length into = omega (arith, is, fits) in
    take-append-le within into others inside
    ∙ by_lt room count (λ far.
    let part : within ≡ room = omega (arith, is, far) in
    let below : room ≤ count = omega (arith, far) in
    ap (λ n. take n into) part ∙ sym (take-take room count into below)) (λ near.
    let all : within ≡ count = omega (arith, is, near) in
    let short : length (take count into) ≤ room = rw (length-take-le count into fits) near in
    ap (λ n. take n into) all ∙ sym (take_all room (take count into) short))

-- more bytes are taken, within the limit and while nothing has ended the run: so many, of which these are handed to the runner
pub record Took (count : ℕ) (now : Runner) (left_now left_then : Option (List ℕ)) (part handed : List ℕ) (size : ℕ) : Type 0 where
  pub near : count ≤ script_limit
  pub running : now.ended ≡ false
  pub sized : length part ≡ size
  pub short : size ≤ read_limit
  pub within : count + size ≤ script_limit + 1
  pub is : handed ≡ take (script_limit - count) part
  pub more : Consumes left_now left_then part

pub took : (count size within most : ℕ) (into array : List ℕ) (now : Runner) (left_now left_then : Option (List ℕ))
    → count ≤ 16777216 → now.ended ≡ false
    → size ≤ length into → size ≡ length (take size into) → most ≡ min (16777217 - count) read_limit → length into ≡ length (take most array)
    → within ≡ min size (16777216 - count) → Consumes left_now left_then (take size into)
    → Took count now left_now left_then (take size into) (take within (into ++ drop most array)) size
took count size within most into array now left_now left_then near running fits sized is_most room is_within more =
    let length_is : length (take most array) ≡ min most (length array) = length-take most array in
    let below : size ≤ most = omega (arith, fits, room, length_is) in
    record {
      near = near;
      running = running;
      sized = sym sized;
      short = omega (arith, below, is_most);
      within = omega (arith, below, is_most, near);
      is = handed_is within size (16777216 - count) into (drop most array) is_within fits;
      more = more;
    }

-- a stop has its reason, where the source's count stayed
pub reason_of_stop : (stop : Stop) (left left_then : Option (List ℕ)) (faults faults_then : ℕ) (out final : Outlets) → faults_then ≡ faults → Fails stop out final
    → HasReason (status_of_stop stop) (record { left = left; faults = faults; out = out }) (record { left = left_then; faults = faults_then; out = final })
reason_of_stop Source left left_then faults faults_then out final same fails = absurd fails
reason_of_stop Sink left left_then faults faults_then out final same fails = (fails.0, same, fails.1)
reason_of_stop Watcher left left_then faults faults_then out final same fails = (fails.0, same, fails.1)
reason_of_stop NoRoom left left_then faults faults_then out final same fails = (same, fails)

pub causes_of : (result : Result Bool Stop) (left left_then : Option (List ℕ)) (faults faults_then : ℕ) (out final : Outlets) → faults_then ≡ faults
    → FailsWith result out final
    → HasCauses (record { left = left; faults = faults; out = out }) (record { left = left_then; faults = faults_then; out = final }) result
causes_of (Ok x) left left_then faults faults_then out final same fails = (same, fails)
causes_of (Err stop) left left_then faults faults_then out final same fails = reason_of_stop stop left left_then faults faults_then out final same fails

pub causes_stopped : (result : Result Bool Stop) (stop : Stop) → IsErrAnd result (λ e. e ≡ stop) → (old new : Outside) → HasReason (status_of_stop stop) old new
    → HasCauses old new result
causes_stopped (Ok x) stop is old new reason = absurd is
causes_stopped (Err e) stop is old new reason = subst (λ (s : Stop). HasReason (status_of_stop s) old new) (sym is) reason

module _ (first now : Runner) (left : Option (List ℕ)) (out : Outlets) (count : ℕ) (left_now : Option (List ℕ)) (out_now : Outlets)
    (came : Comes first left out count now left_now out_now) where
  -- no byte came
  pub comes_kept : (left_then : Option (List ℕ)) → Consumes left_now left_then [] → Comes first left out count now left_then out_now
  comes_kept left_then none = record {
    bytes = came.bytes;
    counted = came.counted;
    all = subst (λ (u : List ℕ). Consumes left left_then u) (append-nil came.bytes) (consumes_then left left_now left_then came.bytes [] came.all none);
    within = came.within;
    carried = came.carried;
    none_left = came.none_left;
    soon = came.soon;
  }

  pub at_most : TakesAtMost (script_limit + 1) left left_now
  at_most = takes_at_most (script_limit + 1) left left_now came.bytes came.all (rw came.counted came.within)

  pub at_most_failed : (left_then : Option (List ℕ)) → Keeps left_now left_then → TakesAtMost (script_limit + 1) left left_then
  at_most_failed left_then kept =
      takes_at_most (script_limit + 1) left left_then came.bytes (consumes_kept left left_now left_then came.bytes came.all kept) (rw came.counted came.within)

-- more bytes are taken
module _ (first now : Runner) (left : Option (List ℕ)) (out : Outlets) (count : ℕ) (left_now : Option (List ℕ)) (out_now : Outlets)
    (came : Comes first left out count now left_now out_now) (left_then : Option (List ℕ)) (part handed : List ℕ) (size : ℕ)
    (step : Took count now left_now left_then part handed size) where
  abbrev both : List ℕ
  both = came.bytes ++ part

  all_taken : Consumes left left_then both
  all_taken = consumes_then left left_now left_then came.bytes part came.all step.more

  both_length : length both ≡ count + size
  both_length = length-append came.bytes part ∙ ap (λ n. n + length part) came.counted ∙ ap (λ n. count + n) step.sized

  both_handed : take script_limit both ≡ take script_limit came.bytes ++ handed
  both_handed =
      take_of_two script_limit came.bytes part
      ∙ ap (λ n. take script_limit came.bytes ++ take (script_limit - n) part) came.counted
      ∙ ap (λ u. take script_limit came.bytes ++ u) (sym step.is)

  pub at_most_short : TakesAtMost (script_limit + 1) left left_then
  at_most_short = takes_at_most (script_limit + 1) left left_then both all_taken (rw both_length step.within)

module _ (laws : Laws) (first now : Runner) (left : Option (List ℕ)) (out : Outlets) (count : ℕ) (left_now : Option (List ℕ)) (out_now : Outlets)
    (fresh : IsFresh first) (came : Comes first left out count now left_now out_now) (refused : List ℕ)
    (fore : Foretells (terms_for first.keep_going out.slots refused) now) where
  abbrev terms : Terms
  terms = terms_for first.keep_going out.slots refused

  at_start : Stands terms out first out (start terms)
  at_start = record {
    follows = record {
      keep = refl;
      state = sym fresh.state;
      faulted = sym fresh.unfaulted;
      ended = sym fresh.running;
      count = sym fresh.uncounted;
      refused = sym fresh.unrefused;
      room = λ _. subst (λ (ns : List ℕ). length ns < refused_limit) (sym fresh.unrefused) (omega arith);
      counted = subst (λ (ns : List ℕ). All (λ n. n ≤ first.count) ns) (sym fresh.unrefused) (All-nil (λ n. n ≤ first.count));
      slots = sym (ap (λ (ss : Slots). emptied ss (present_in out.slots)) (laws.quiet out.slots [] no_notices) ∙ laws.none out.slots);
      present = laws.below (present_in out.slots);
    };
    text = appends_nothing out.taken;
    faults = refl;
  }

  -- how far the run has come
  abbrev here : Progress
  here = (came.carried.on terms out (start terms) fore at_start).0

  stood : Stands terms out now out_now here
  stood = (came.carried.on terms out (start terms) fore at_start).1

  over_limit : (follows : Behind) (more : List ℕ)
      → outcome terms follows first.cutter (start terms) (take script_limit came.bytes ++ more) ≡ outcome terms follows now.cutter here more
  over_limit = (came.carried.on terms out (start terms) fore at_start).2

  pub none_failed : NoneFailed out out_now
  none_failed = (stood.faults, counts_follow laws terms out.slots now out_now.slots here stood.follows)

  -- the run of a script that begins with the bytes taken goes on from here
  goes_on : (rest : List ℕ) → run terms (came.bytes ++ rest)
      ≡ outcome terms (behind (nat_lt script_limit (length (came.bytes ++ rest)))) now.cutter here (take (script_limit - length came.bytes) rest)
  goes_on rest =
      let follows : Behind = behind (nat_lt script_limit (length (came.bytes ++ rest))) in
      run_is first fresh terms (came.bytes ++ rest)
      ∙ ap (outcome terms follows first.cutter (start terms)) (take_of_two script_limit came.bytes rest)
      ∙ over_limit follows (take (script_limit - length came.bytes) rest)

  -- how far the bytes taken bring it
  so_far_is : count ≤ script_limit → so_far terms came.bytes ≡ here
  so_far_is near =
      let fits : length came.bytes ≤ script_limit = rw came.counted near in
      let test : nat_lt script_limit (length came.bytes) ≡ false = le-ltb script_limit (length came.bytes) fits in
      let unended : so_far terms came.bytes ≡ outcome terms unknown first.cutter (start terms) came.bytes =
      rw test (sym (ap (after_marks terms (start terms)) (fresh.unended came.bytes))) in
      let whole : take script_limit came.bytes ++ [] ≡ came.bytes = append-nil (take script_limit came.bytes) ∙ take_all script_limit came.bytes fits in
      unended
      ∙ ap (outcome terms unknown first.cutter (start terms)) (sym whole)
      ∙ over_limit unknown []
      ∙ ap (λ ps. after_marks terms here (map statement ps)) came.none_left

  -- the byte past the limit has come
  past : script_limit < count → (rest : List ℕ) → run terms (came.bytes ++ rest) ≡ outcome terms past_limit now.cutter here []
  past over rest =
      let counted : length came.bytes ≡ count = came.counted in
      let far : nat_lt script_limit (length (came.bytes ++ rest)) ≡ true =
      lt-ltb script_limit (length (came.bytes ++ rest)) (grind (arith, length-append {A = ℕ}, counted, over)) in
      let none : script_limit - length came.bytes ≡ 0 = omega (arith, counted, over) in
      goes_on rest
      ∙ ap (λ t. outcome terms (behind t) now.cutter here (take (script_limit - length came.bytes) rest)) far
      ∙ ap (λ k. outcome terms past_limit now.cutter here (take k rest)) none

  -- the source is at its end
  at_end : count ≤ script_limit → (rest : List ℕ) → rest ≡ [] → run terms (came.bytes ++ rest) ≡ outcome terms end_of_input now.cutter here []
  at_end near rest none =
      let whole : came.bytes ++ rest ≡ came.bytes = ap (λ u. came.bytes ++ u) none ∙ append-nil came.bytes in
      let fits : length (came.bytes ++ rest) ≤ script_limit = rw (whole, came.counted) near in
      let test : nat_lt script_limit (length (came.bytes ++ rest)) ≡ false = le-ltb script_limit (length (came.bytes ++ rest)) fits in
      goes_on rest
      ∙ ap (λ t. outcome terms (behind t) now.cutter here (take (script_limit - length came.bytes) rest)) test
      ∙ ap (λ u. outcome terms end_of_input now.cutter here (take (script_limit - length came.bytes) u)) none
      ∙ ap (outcome terms end_of_input now.cutter here) (take_all (script_limit - length came.bytes) [] (omega arith))

  -- a fault has ended the run
  at_fault : EndedStays → now.ended ≡ true → (rest : List ℕ) → run terms (came.bytes ++ rest) ≡ outcome terms end_of_input now.cutter here []
  at_fault stays ended rest =
      let over : here.ended ≡ true = stood.follows.ended ∙ ended in
      goes_on rest
      ∙ stays terms here (marks_left (behind (nat_lt script_limit (length (came.bytes ++ rest)))) now.cutter (take (script_limit - length came.bytes) rest)) over
      ∙ sym (stays terms here (marks_left end_of_input now.cutter []) over)

  -- what the run of the source's script comes to once no more of it is taken
  run_last : EndedStays → (is_cut : Bool) → IsTaken is_cut count now left_now → (script : List ℕ) → left ≡ Some script
      → run terms script ≡ outcome terms (behind is_cut) now.cutter here []
  run_last stays true over script is =
      let s = rest_of left left_now came.bytes script came.all is in
      ap (run terms) s.1 ∙ past over s.0
  run_last stays false (near, inl end) script is =
      let s = rest_of left left_now came.bytes script came.all is in
      ap (run terms) s.1 ∙ at_end near s.0 (none_at_end left_now s.0 end s.2)
  run_last stays false (near, inr ended) script is =
      let s = rest_of left left_now came.bytes script came.all is in
      ap (run terms) s.1 ∙ at_fault stays ended s.0

  -- what the run of the bytes taken comes to, if they are all of the script
  run_taken : EndedStays → (is_cut : Bool) → IsTaken is_cut count now left_now → run terms came.bytes ≡ outcome terms (behind is_cut) now.cutter here []
  run_taken stays true over = ap (run terms) (sym (append-nil came.bytes)) ∙ past over []
  run_taken stays false (near, inl end) = ap (run terms) (sym (append-nil came.bytes)) ∙ at_end near [] refl
  run_taken stays false (near, inr ended) = ap (run terms) (sym (append-nil came.bytes)) ∙ at_fault stays ended []

  -- it meets each of the refused statements
  met_taken : (p : Progress) → run terms came.bytes ≡ p → StartsWith p.refused refused → (run terms came.bytes).refused ≡ refused
  met_taken p is starts = all_met laws.given laws.rising terms came.bytes (subst (λ (q : Progress). StartsWith q.refused refused) (sym is) starts)

  -- the run came to its end, or stopped short there
  pub leaves_parts : EndedStays → (is_cut : Bool) → IsTaken is_cut count now left_now → (result : Result Bool Stop) (final : Outlets)
      → Ends is_cut now out_now result refused final → (script : List ℕ) → left ≡ Some script → Leaves result terms (run terms script) out final
  leaves_parts stays is_cut over result final ends script is =
      subst (λ (p : Progress). Leaves result terms p out final) (sym (run_last stays is_cut over script is)) (ends.leaves terms out here refl stood)

  pub fails_parts : (is_cut : Bool) (result : Result Bool Stop) (final : Outlets) → Ends is_cut now out_now result refused final → FailsWith result out final
  fails_parts is_cut result final ends = ends.fails terms out here refl stood

  -- where a run is ended, a statement of it wasn't run
  ended_wrong : EndedByAFault → count ≤ script_limit → now.ended ≡ true → went_wrong here ≡ true
  ended_wrong by_fault near ended =
      let same : so_far terms came.bytes ≡ here = so_far_is near in
      sym (ap (λ p. went_wrong p) same) ∙ by_fault terms (settled_marks came.bytes) (ap (λ p. p.ended) same ∙ stood.follows.ended ∙ ended)

  past_wrong : EndedByAFault → TooLongEnds → script_limit < count → went_wrong (outcome terms past_limit now.cutter here []) ≡ true
  past_wrong by_fault too_long over =
      let script : List ℕ = came.bytes ++ [] in
      let counted : length came.bytes ≡ count = came.counted in
      let far : script_limit < length script = grind (arith, length-append {A = ℕ}, counted, over) in
      sym (ap (λ p. went_wrong p) (past over [])) ∙ by_fault terms (script_marks script) (too_long terms script far)

  past_ended : TooLongEnds → script_limit < count → (so_far terms came.bytes).ended ≡ true
  past_ended too_long over =
      let far : script_limit < length came.bytes = rw came.counted over in
      ap (λ t. (after_marks terms (start terms) (cond t (script_marks came.bytes) (map statement (settled came.bytes)))).ended) (lt-ltb script_limit (length came.bytes) far)
      ∙ too_long terms came.bytes far

  comes_faulted : TooLongEnds → (is_cut : Bool) → IsTaken is_cut count now left_now → IsAtEnd left_now ⊎ ((so_far terms came.bytes).ended ≡ true)
  comes_faulted too_long true over = inr (past_ended too_long over)
  comes_faulted too_long false (near, inl end) = inl end
  comes_faulted too_long false (near, inr ended) = inr (ap (λ p. p.ended) (so_far_is near) ∙ stood.follows.ended ∙ ended)

  comes_done : EndedStays → EndedByAFault → TooLongEnds → (is_cut : Bool) → IsTaken is_cut count now left_now
      → went_wrong (outcome terms (behind is_cut) now.cutter here []) ≡ false → IsAtEnd left_now
  comes_done stays by_fault too_long true over done = absurd (both_ways _ done (past_wrong by_fault too_long over))
  comes_done stays by_fault too_long false (near, inl end) done = end
  comes_done stays by_fault too_long false (near, inr ended) done =
      let last : outcome terms end_of_input now.cutter here [] ≡ here =
      stays terms here (marks_left end_of_input now.cutter []) (stood.follows.ended ∙ ended) in
      absurd (both_ways (went_wrong here) (sym (ap (λ p. went_wrong p) last) ∙ done) (ended_wrong by_fault near ended))

  -- by the status of a run that came to its end
  comes_at_end : EndedStays → EndedByAFault → TooLongEnds → (is_cut : Bool) → IsTaken is_cut count now left_now
      → (faulted : Bool) (numbers : List ℕ) (faults faults_now : ℕ) (final : Outlets) (last : Progress)
      → last ≡ outcome terms (behind is_cut) now.cutter here [] → faulted ≡ last.faulted → last.refused ≡ numbers
      → ComesTo (status_at_end faulted numbers) terms (so_far terms came.bytes) (record { left = left; faults = faults; out = out })
      (record { left = left_now; faults = faults_now; out = final })
  comes_at_end stays by_fault too_long is_cut over true [] faults faults_now final last is faulted none = comes_faulted too_long is_cut over
  comes_at_end stays by_fault too_long is_cut over false [] faults faults_now final last is faulted none =
      comes_done stays by_fault too_long is_cut over
      (ap (λ (p : Progress). went_wrong p) (sym is)
      ∙ ap (λ (b : Bool). b || nat_lt 0 (length last.refused)) (sym faulted)
      ∙ ap (λ (ns : List ℕ). nat_lt 0 (length ns)) none)
  comes_at_end stays by_fault too_long is_cut over faulted (n ∷ ns) faults faults_now final last is same met = tt

  comes_to : EndedStays → EndedByAFault → TooLongEnds → (is_cut : Bool) → IsTaken is_cut count now left_now
      → (result : Result Bool Stop) (faults faults_now : ℕ) (final : Outlets) → FailsWith result out final
      → Leaves result terms (outcome terms (behind is_cut) now.cutter here []) out final
      → ComesTo (status_after result refused) terms (so_far terms came.bytes) (record { left = left; faults = faults; out = out })
      (record { left = left_now; faults = faults_now; out = final })
  comes_to stays by_fault too_long is_cut over (Ok faulted) faults faults_now final fails leaves =
      comes_at_end stays by_fault too_long is_cut over faulted refused faults faults_now final (outcome terms (behind is_cut) now.cutter here []) refl leaves.0 leaves.1.met
  comes_to stays by_fault too_long is_cut over (Err Source) faults faults_now final fails leaves = absurd fails
  comes_to stays by_fault too_long is_cut over (Err Sink) faults faults_now final fails leaves = tt
  comes_to stays by_fault too_long is_cut over (Err Watcher) faults faults_now final fails leaves = tt
  comes_to stays by_fault too_long is_cut over (Err NoRoom) faults faults_now final fails leaves = tt

  pub reads_parts : EndedStays → EndedByAFault → TooLongEnds → (is_cut : Bool) → IsTaken is_cut count now left_now
      → (result : Result Bool Stop) (faults faults_now : ℕ) (final : Outlets) → Ends is_cut now out_now result refused final
      → Reads first.keep_going refused (status_after result refused) (record { left = left; faults = faults; out = out })
      (record { left = left_now; faults = faults_now; out = final })
  reads_parts stays by_fault too_long is_cut over result faults faults_now final ends = record {
    taken = came.bytes;
    all = came.all;
    soon = came.soon refused fore;
    met = ap (λ (p : Progress). p.refused) (run_taken stays is_cut over) ∙ ends.met terms out here refl stood;
    so_far = comes_to stays by_fault too_long is_cut over result faults faults_now final (ends.fails terms out here refl stood) (ends.leaves terms out here refl stood);
  }

  -- the source fails
  pub reads_failed : now.refused ≡ refused → count ≤ script_limit → now.ended ≡ false → (left_then : Option (List ℕ)) (faults faults_then : ℕ) → Keeps left_now left_then
      → Reads first.keep_going refused SourceFault (record { left = left; faults = faults; out = out })
      (record { left = left_then; faults = faults_then; out = out_now })
  reads_failed met near running left_then faults faults_then kept =
      let same : so_far terms came.bytes ≡ here = so_far_is near in
      let follows : Behind = behind (nat_lt script_limit (length (came.bytes ++ []))) in
      record {
        taken = came.bytes;
        all = consumes_kept left left_now left_then came.bytes came.all kept;
        soon = came.soon refused fore;
        met = met_taken (outcome terms follows now.cutter here (take (script_limit - length came.bytes) [])) (ap (run terms) (sym (append-nil came.bytes)) ∙ goes_on [])
            (met_then laws terms here (marks_left follows now.cutter (take (script_limit - length came.bytes) [])) refused
            (outcome terms follows now.cutter here (take (script_limit - length came.bytes) [])) refl (stood.follows.refused ∙ met));
        so_far = subst (λ (p : Progress). ComesTo SourceFault terms p (record { left = left; faults = faults; out = out })
            (record { left = left_then; faults = faults_then; out = out_now })) (sym same) (stood.text, stood.follows.slots, stood.follows.ended ∙ running, stood.follows.refused ∙ met);
      }

  pub short_failed : (script : List ℕ) → left ≡ Some script → IsShort (ending_of_run terms (run terms script)) out out_now
  short_failed script is =
      let s = rest_of left left_now came.bytes script came.all is in
      let follows : Behind = behind (nat_lt script_limit (length (came.bytes ++ s.0))) in
      let rest : List ℕ = take (script_limit - length came.bytes) s.0 in
      let comes : run terms script ≡ outcome terms follows now.cutter here rest = ap (run terms) s.1 ∙ goes_on s.0 in
      subst (λ (p : Progress). IsShort (ending_of_run terms p) out out_now) (sym comes)
      (short_marks laws terms out out_now here (marks_left follows now.cutter rest) (short_stands laws terms out now out_now here stood))

  -- more bytes are taken
  module _ (grows : SoFarGrows) (stays : EndedStays) (left_then : Option (List ℕ)) (part handed : List ℕ) (size : ℕ)
      (step : Took count now left_now left_then part handed size) where
    pub soon_taken : StopsSoon terms (came.bytes ++ part)
    soon_taken =
        let fits : length part ≤ read_limit = rw step.sized step.short in
        soon_after grows stays terms came.bytes part (ap (λ p. p.ended) (so_far_is step.near) ∙ stood.follows.ended ∙ step.running) fits

    -- the run of a script that begins with all of these bytes
    over_both : (rest : List ℕ) → run terms ((came.bytes ++ part) ++ rest)
        ≡ outcome terms (behind (nat_lt script_limit (length ((came.bytes ++ part) ++ rest)))) first.cutter (start terms)
        ((take script_limit came.bytes ++ handed) ++ take (script_limit - length (came.bytes ++ part)) rest)
    over_both rest =
        let script : List ℕ = (came.bytes ++ part) ++ rest in
        let behind_both : List ℕ = take (script_limit - length (came.bytes ++ part)) rest in
        let bytes_are : take script_limit script ≡ (take script_limit came.bytes ++ handed) ++ behind_both =
        take_of_two script_limit (came.bytes ++ part) rest
        ∙ ap (λ u. u ++ behind_both) (both_handed first now left out count left_now out_now came left_then part handed size step) in
        run_is first fresh terms script ∙ ap (outcome terms (behind (nat_lt script_limit (length script))) first.cutter (start terms)) bytes_are

    joined : (stop : Stop) (new : Runner) (final : Outlets) → StopsShort handed now out_now stop new final
        → StopsShort (take script_limit came.bytes ++ handed) first out stop new final
    joined stop new final stopped = stops_on first now (take script_limit came.bytes) handed out out_now stop new final came.carried stopped

    -- the run stops short over them
    pub short_parts : (stop : Stop) (new : Runner) (final : Outlets) → Foretells terms new → StopsShort handed now out_now stop new final
        → (script : List ℕ) → left ≡ Some script → IsShort (ending_of_run terms (run terms script)) out final
    short_parts stop new final known stopped script is_left =
        let s = rest_of left left_then (came.bytes ++ part) script
        (all_taken first now left out count left_now out_now came left_then part handed size step) is_left in
        subst (λ (p : Progress). IsShort (ending_of_run terms p) out final) (sym (ap (run terms) s.1 ∙ over_both s.0))
        ((joined stop new final stopped).short terms out (start terms) known at_start (behind (nat_lt script_limit (length ((came.bytes ++ part) ++ s.0))))
        (take (script_limit - length (came.bytes ++ part)) s.0))

    -- the run of these bytes meets each of the refused statements
    met_short : (stop : Stop) (new : Runner) (final : Outlets) → Foretells terms new → new.refused ≡ refused → StopsShort handed now out_now stop new final
        → (run terms (came.bytes ++ part)).refused ≡ refused
    met_short stop new final known same stopped =
        let follows : Behind = behind (nat_lt script_limit (length ((came.bytes ++ part) ++ []))) in
        let more : List ℕ = take (script_limit - length (came.bytes ++ part)) [] in
        let comes : run terms (came.bytes ++ part) ≡ outcome terms follows first.cutter (start terms) ((take script_limit came.bytes ++ handed) ++ more) =
        ap (run terms) (sym (append-nil (came.bytes ++ part))) ∙ over_both [] in
        all_met laws.given laws.rising terms (came.bytes ++ part)
        (subst (λ (p : Progress). StartsWith p.refused refused) (sym comes)
        (subst (λ (ns : List ℕ). StartsWith (outcome terms follows first.cutter (start terms) ((take script_limit came.bytes ++ handed) ++ more)).refused ns) same
        ((joined stop new final stopped).met terms out (start terms) known at_start follows more)))

    pub fails_parts_short : (stop : Stop) (new : Runner) (final : Outlets) → Foretells terms new → StopsShort handed now out_now stop new final → Fails stop out final
    fails_parts_short stop new final known stopped = stopped.fails terms out here known stood

    pub reads_short : (stop : Stop) (new : Runner) (faults faults_then : ℕ) (final : Outlets) → Foretells terms new → new.refused ≡ refused
        → StopsShort handed now out_now stop new final
        → Reads first.keep_going refused (status_of_stop stop) (record { left = left; faults = faults; out = out })
        (record { left = left_then; faults = faults_then; out = final })
    reads_short stop new faults faults_then final known same stopped = record {
      taken = came.bytes ++ part;
      all = all_taken first now left out count left_now out_now came left_then part handed size step;
      soon = soon_taken;
      met = met_short stop new final known same stopped;
      so_far = for_stop stop (fails_parts_short stop new final known stopped);
    }
      where
        for_stop : (stop : Stop) → Fails stop out final
            → ComesTo (status_of_stop stop) terms (so_far terms (came.bytes ++ part)) (record { left = left; faults = faults; out = out })
            (record { left = left_then; faults = faults_then; out = final })
        for_stop Source fails = absurd fails
        for_stop Sink fails = tt
        for_stop Watcher fails = tt
        for_stop NoRoom fails = tt

-- more bytes are run over
pub comes_on : (laws : Laws) (first now : Runner) (left : Option (List ℕ)) (out : Outlets) (count : ℕ) (left_now : Option (List ℕ)) (out_now : Outlets)
    (fresh : IsFresh first) (came : Comes first left out count now left_now out_now)
    (grows : SoFarGrows) (stays : EndedStays) (left_then : Option (List ℕ)) (part handed : List ℕ) (size : ℕ)
    (step : Took count now left_now left_then part handed size) (new : Runner) (out_then : Outlets)
    → Carries handed now out_now [] new out_then → settled_from new.cutter [] ≡ [] → Comes first left out (count + size) new left_then out_then
comes_on laws first now left out count left_now out_now fresh came grows stays left_then part handed size step new out_then carried none_left =
    let joined : Carries (take script_limit came.bytes ++ handed) first out [] new out_then =
    carries_on first now new (take script_limit came.bytes) handed out out_now out_then came.carried carried in
    record {
      bytes = came.bytes ++ part;
      counted = both_length first now left out count left_now out_now came left_then part handed size step;
      all = all_taken first now left out count left_now out_now came left_then part handed size step;
      within = step.within;
      carried = subst (λ (u : List ℕ). Carries u first out [] new out_then) (sym (both_handed first now left out count left_now out_now came left_then part handed size step)) joined;
      none_left = none_left;
      soon = λ refused fore. soon_taken laws first now left out count left_now out_now fresh came refused
          (foretold (terms_for first.keep_going out.slots refused) now new carried.later fore) grows stays left_then part handed size step;
    }

-- a part stopped short before the end
leaves_short : (stop : Stop) (given : Terms) (p : Progress) (out final : Outlets) → IsShort (ending_of_run given p) out final → Leaves (Err stop) given p out final
leaves_short Source given p out final short = short
leaves_short Sink given p out final short = short
leaves_short Watcher given p out final short = inl short
leaves_short NoRoom given p out final short = short

pub reads_result : {T : Type 0} (result : Result T Stop) (stop : Stop) → IsErrAnd result (λ e. e ≡ stop) → (keep : Bool) (refused : List ℕ) (old new : Outside)
    → Reads keep refused (status_of_stop stop) old new → IfErr result (λ s. Reads keep refused (status_of_stop s) old new)
reads_result (Ok x) stop is keep refused old new reads = absurd is
reads_result (Err e) stop is keep refused old new reads = subst (λ (s : Stop). Reads keep refused (status_of_stop s) old new) (sym is) reads

-- so no more of the run comes
pub runs_stopped : (keep : Bool) (refused : List ℕ) (stop : Stop) (result : Result Bool Stop) → IsErrAnd result (λ e. e ≡ stop) → (old new : Outside)
    → ((script : List ℕ) → old.left ≡ Some script → IsShort (ending_on (terms_for keep old.out.slots refused) script) old.out new.out)
    → Reads keep refused (status_of_stop stop) old new → TakesAtMost (script_limit + 1) old.left new.left → HasReason (status_of_stop stop) old new
    → KeepsTelling old.out.flushed new.out.flushed → RunsScript keep refused result old new
runs_stopped keep refused stop (Ok x) is old new short reads at_most reason tells = absurd is
runs_stopped keep refused stop (Err e) is old new short reads at_most reason tells =
    subst (λ (s : Stop). RunsScript keep refused (Err s) old new) (sym is) (record {
      leaves = λ script held.
          let terms : Terms = terms_for keep old.out.slots refused in
          leaves_short stop terms (run terms script) old.out new.out (short script held);
      reads = reads;
      at_most = at_most;
      causes = reason;
      flushed = tt;
      tells = tells;
    })
