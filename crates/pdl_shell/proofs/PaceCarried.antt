-- A run is carried on: what the pieces that are fed leave of it, and what it has given out at the least.
use Rattle.std.proofs.Common.{◌≡◌, ℕ, ◌+◌, List, [], ◌∷◌, ◌++◌, map, take, drop, Bool, true, false, cond, Option, Some, None, inl, inr, Result, Ok, Err, option_to_list, refl, sym, ◌∙◌, ap, subst, arith, append_assoc}
use Rattle.std.specs.Prelude.{OnOk, IfErr}
use Rattle.std.specs.Result.{IsErrAnd}
use Rattle.std.proofs.lemmas.List.{map-append, take-append-drop}
use Rattle.std.proofs.lemmas.List.Sums.{sum_by-append}
use Rattle.pdl_lemmas.specs.KnownBytes.{appends_kept}
use Rattle.pdl_lex.specs.Bytes.{newlines, is_newline}
use Rattle.pdl_lex.specs.Pieces.{State, Mark, statement, script_too_long, to_come, settled_from}
use Rattle.pdl_lex.specs.declared.Piece.{Piece}
use Rattle.std.specs.Io.KnownBytes.{Keeps}
use Rattle.pdl_io.specs.Told.{Says}
use Rattle.pdl_watch.specs.Slots.{Slots, all_told, all_ended, emptied, EndedShort, StartsWith}
use Rattle.pdl_machine.specs.Watches.{Watches}
use Rattle.pdl_machine.specs.State.{State as MachineState}
use Rattle.pdl_machine.specs.Run.{Terms, Progress, after_mark, after_marks}
use Rattle.pdl_shell.specs.declared.runner.Runner.{Runner}
use Rattle.pdl_shell.specs.declared.stop.Stop.{Stop}
use Rattle.pdl_shell.specs.declared.stop.Stop.TheVariants.{Source, Sink, Watcher, NoMemory}
use Rattle.pdl_shell.specs.Outside.{Outlets, CountsStay}
use Rattle.pdl_shell.specs.Answers.{HeardShort, IsShort, ending_of_run}
use Rattle.pdl_shell.specs.Stops.{HasSinkCause, Leaves}
use Rattle.pdl_shell.specs.Pace.{Behind, end_of_input, past_limit, unknown, behind, marks_left, outcome}
use Rattle.pdl_shell.specs.CourseLaws.{Laws}
use Rattle.pdl_shell.specs.Course.{Stands, Runs, RunsShort, Carries, StopsShort, Finishes, FinishesShort, Ends}
use Rattle.pdl_shell.proofs.OutsideSlots.{counts_then, counts_ended, one_rose}
use Rattle.pdl_shell.proofs.CourseRefusals.{later_refl, later_then, later_same, foretold, foretells_all}
use Rattle.pdl_shell.proofs.AnswersTaken.{is_prefix-refl}
use Rattle.pdl_shell.proofs.CourseFollowed.{after_marks-cons, short_marks, short_stands, counts_follow, heard_follows, sink_fails}

-- what follows where there is no error, and where there is one
pub ok_then : {T P Q : Type 0} (result : Result T Stop) → (P → Q) → OnOk result P → OnOk result Q
ok_then (Ok x) f p = f p
ok_then (Err e) f p = tt

pub err_then : {T : Type 0} {P Q : Stop → Type 0} (result : Result T Stop) → ((stop : Stop) → P stop → Q stop) → IfErr result P → IfErr result Q
err_then (Ok x) f p = tt
err_then (Err e) f p = f e p

pub stops_result : {T : Type 0} (result : Result T Stop) (stop : Stop) → IsErrAnd result (λ e. e ≡ stop) → (bytes : List ℕ) (old : Runner) (out : Outlets) (new : Runner) (now : Outlets)
    → StopsShort bytes old out stop new now → IfErr result (λ s. StopsShort bytes old out s new now)
stops_result (Ok x) stop is bytes old out new now short = absurd is
stops_result (Err e) stop is bytes old out new now short = subst (λ (s : Stop). StopsShort bytes old out s new now) (sym is) short

-- newlines of two texts, one after the other
pub newlines-append : (xs ys : List ℕ) → newlines (xs ++ ys) ≡ newlines xs + newlines ys
newlines-append xs ys = sum_by-append (λ x. cond (is_newline x) 1 0) xs ys

-- the statements that are left once bytes are fed that complete a piece or none
pub marks_left-fed : (follows : Behind) (old new : State) (piece : Option Piece) (bytes rest more : List ℕ)
    → to_come old (bytes ++ more) ≡ option_to_list piece ++ to_come new (rest ++ more)
    → settled_from old (bytes ++ more) ≡ option_to_list piece ++ settled_from new (rest ++ more)
    → old.line + newlines bytes ≡ new.line + newlines rest
    → marks_left follows old (bytes ++ more) ≡ map statement (option_to_list piece) ++ marks_left follows new (rest ++ more)
marks_left-fed end_of_input old new piece bytes rest more stream settled line =
    ap (map statement) stream ∙ map-append statement (option_to_list piece) (to_come new (rest ++ more))
marks_left-fed past_limit old new piece bytes rest more stream settled line =
    let lines : old.line + newlines (bytes ++ more) ≡ new.line + newlines (rest ++ more) =
    rw (newlines-append bytes more, newlines-append rest more) (omega arith) in
    ap (λ ms. map statement ms ++ script_too_long (old.line + newlines (bytes ++ more)) ∷ []) settled
    ∙ ap (λ n. map statement (option_to_list piece ++ settled_from new (rest ++ more)) ++ script_too_long n ∷ []) lines
    ∙ ap (λ ms. ms ++ script_too_long (new.line + newlines (rest ++ more)) ∷ []) (map-append statement (option_to_list piece) (settled_from new (rest ++ more)))
    ∙ append_assoc (map statement (option_to_list piece)) (map statement (settled_from new (rest ++ more))) (script_too_long (new.line + newlines (rest ++ more)) ∷ [])
marks_left-fed unknown old new piece bytes rest more stream settled line =
    ap (map statement) settled ∙ map-append statement (option_to_list piece) (settled_from new (rest ++ more))

-- what a cutter answers to bytes that are fed to it, whatever follows
pub record Feeds (old new : State) (piece : Option Piece) (bytes rest : List ℕ) : Type 0 where
  pub stream : (more : List ℕ) → to_come old (bytes ++ more) ≡ option_to_list piece ++ to_come new (rest ++ more)
  pub settled : (more : List ℕ) → settled_from old (bytes ++ more) ≡ option_to_list piece ++ settled_from new (rest ++ more)
  pub line : old.line + newlines bytes ≡ new.line + newlines rest

marks_fed : (follows : Behind) (old new : State) (piece : Option Piece) (bytes rest more : List ℕ) → Feeds old new piece bytes rest
    → marks_left follows old (bytes ++ more) ≡ map statement (option_to_list piece) ++ marks_left follows new (rest ++ more)
marks_fed follows old new piece bytes rest more fed = marks_left-fed follows old new piece bytes rest more (fed.stream more) (fed.settled more) fed.line

-- a runner with another cutter follows the same run
pub stands_same : (terms : Terms) (first : Outlets) (old new : Runner) (now : Outlets) (run : Progress) → new ≡ record old { cutter = new.cutter }
    → Stands terms first old now run → Stands terms first new now run
stands_same terms first old new now run same s = subst (λ (r : Runner). Stands terms first r now run) (sym same) (record {
  follows = record {
    keep = s.follows.keep;
    state = s.follows.state;
    faulted = s.follows.faulted;
    ended = s.follows.ended;
    count = s.follows.count;
    refused = s.follows.refused;
    room = s.follows.room;
    counted = s.follows.counted;
    slots = s.follows.slots;
    present = s.follows.present;
  };
  text = s.text;
  faults = s.faults;
})

-- bytes that complete no piece carry the run on
pub carries_quiet : (old new : Runner) (bytes rest : List ℕ) (out : Outlets)
    → Feeds old.cutter new.cutter None bytes rest
    → new ≡ record old { cutter = new.cutter }
    → Carries bytes old out rest new out
carries_quiet old new bytes rest out fed same = record {
  later = later_same old new same;
  on = λ terms first run fore s. (
    run,
    stands_same terms first old new out run same s,
    λ follows more. ap (after_marks terms run) (marks_fed follows old.cutter new.cutter None bytes rest more fed),
  );
}

fed_piece : (terms : Terms) (follows : Behind) (old new : State) (run : Progress) (piece : Piece) (bytes rest more : List ℕ)
    → Feeds old new (Some piece) bytes rest → run.ended ≡ false
    → outcome terms follows old run (bytes ++ more) ≡ outcome terms follows new (after_mark terms run (statement piece)) (rest ++ more)
fed_piece terms follows old new run piece bytes rest more fed running =
    ap (after_marks terms run) (marks_fed follows old new (Some piece) bytes rest more fed)
    ∙ after_marks-cons terms run (statement piece) (marks_left follows new (rest ++ more)) running

-- a statement that is completed and run carries the run on; it is run with the cutter that the bytes left
pub carries_piece : (old mid new : Runner) (piece : Piece) (bytes rest : List ℕ) (out now : Outlets)
    → Feeds old.cutter new.cutter (Some piece) bytes rest → old.ended ≡ false → mid ≡ record old { cutter = mid.cutter }
    → Runs (statement piece) mid out new now
    → Carries bytes old out rest new now
carries_piece old mid new piece bytes rest out now fed running same ran = record {
  later = later_then old mid new (later_same old mid same) ran.later;
  on = λ terms first run fore s. (
    after_mark terms run (statement piece),
    ran.stands terms first run fore (stands_same terms first old mid out run same s),
    λ follows more. fed_piece terms follows old.cutter new.cutter run piece bytes rest more fed (s.follows.ended ∙ running),
  );
}

-- a run that has met these refused statements meets them first, whatever more statements it goes on over
pub met_then : Laws → (terms : Terms) (p : Progress) (ms : List Mark) (noted : List ℕ) (whole : Progress) → whole ≡ after_marks terms p ms → p.refused ≡ noted
    → StartsWith whole.refused noted
met_then laws terms p ms noted whole is met =
    let more = laws.refused terms p ms in
    (more.0, ap (λ (q : Progress). q.refused) is ∙ more.1 ∙ ap (λ (ns : List ℕ). ns ++ more.0) met)

-- the run stops short in a statement that is completed
pub stops_in_piece : Laws → (old mid : Runner) (piece : Piece) (bytes rest : List ℕ) (out : Outlets) (stop : Stop) (new : Runner) (now : Outlets)
    → Feeds old.cutter mid.cutter (Some piece) bytes rest → old.ended ≡ false → mid ≡ record old { cutter = mid.cutter }
    → RunsShort (statement piece) mid out stop new now
    → StopsShort bytes old out stop new now
stops_in_piece laws old mid piece bytes rest out stop new now fed running same ran = record {
  later = later_then old mid new (later_same old mid same) ran.later;
  met = λ terms first run fore s follows more.
      let after : Progress = after_mark terms run (statement piece) in
      let fed_is = fed_piece terms follows old.cutter mid.cutter run piece bytes rest more fed (s.follows.ended ∙ running) in
      met_then laws terms after (marks_left follows mid.cutter (rest ++ more)) new.refused (outcome terms follows old.cutter run (bytes ++ more)) fed_is
      (ran.met terms first run fore (stands_same terms first old mid out run same s));
  short = λ terms first run fore s follows more.
      let after : Progress = after_mark terms run (statement piece) in
      subst (λ (p : Progress). IsShort (ending_of_run terms p) first now)
      (sym (fed_piece terms follows old.cutter mid.cutter run piece bytes rest more fed (s.follows.ended ∙ running)))
      (short_marks laws terms first now after (marks_left follows mid.cutter (rest ++ more))
      (ran.short terms first run fore (stands_same terms first old mid out run same s)));
  fails = λ terms first run fore s. ran.fails terms first run fore (stands_same terms first old mid out run same s);
}

-- the run stops short for lack of memory before anything more is given out
pub stops_before : Laws → (old : Runner) (bytes : List ℕ) (out : Outlets) (new : Runner) → new ≡ record old { cutter = new.cutter } → StopsShort bytes old out NoMemory new out
stops_before laws old bytes out new same = record {
  later = later_same old new same;
  met = λ terms first run fore s follows more.
      met_then laws terms run (marks_left follows old.cutter (bytes ++ more)) new.refused (outcome terms follows old.cutter run (bytes ++ more)) refl
      (s.follows.refused ∙ sym (ap (λ (r : Runner). r.refused) same));
  short = λ terms first run fore s follows more.
      short_marks laws terms first out run (marks_left follows old.cutter (bytes ++ more)) (short_stands laws terms first old out run s);
  fails = λ terms first run fore s. (s.faults, counts_follow laws terms first.slots old out.slots run s.follows);
}

-- bytes that are all run over, and then more of them
pub carries_on : (a b c : Runner) (xs ys : List ℕ) (oa ob oc : Outlets)
    → Carries xs a oa [] b ob → Carries ys b ob [] c oc → Carries (xs ++ ys) a oa [] c oc
carries_on a b c xs ys oa ob oc one two = record {
  later = later_then a b c one.later two.later;
  on = λ terms first run fore s.
      let p = one.on terms first run (foretold terms b c two.later fore) s in
      let q = two.on terms first p.0 fore p.1 in
      (q.0, q.1, λ follows more. ap (outcome terms follows a.cutter run) (append_assoc xs ys more) ∙ p.2 follows (ys ++ more) ∙ q.2 follows more);
}

pub stops_on : (a b : Runner) (xs ys : List ℕ) (oa ob : Outlets) (stop : Stop) (c : Runner) (oc : Outlets)
    → Carries xs a oa [] b ob → StopsShort ys b ob stop c oc → StopsShort (xs ++ ys) a oa stop c oc
stops_on a b xs ys oa ob stop c oc one two = record {
  later = later_then a b c one.later two.later;
  met = λ terms first run fore s follows more.
      let p = one.on terms first run (foretold terms b c two.later fore) s in
      let comes : outcome terms follows a.cutter run ((xs ++ ys) ++ more) ≡ outcome terms follows b.cutter p.0 (ys ++ more) =
      ap (outcome terms follows a.cutter run) (append_assoc xs ys more) ∙ p.2 follows (ys ++ more) in
      subst (λ (o : Progress). StartsWith o.refused c.refused) (sym comes) (two.met terms first p.0 fore p.1 follows more);
  short = λ terms first run fore s follows more.
      let p = one.on terms first run (foretold terms b c two.later fore) s in
      let comes : outcome terms follows a.cutter run ((xs ++ ys) ++ more) ≡ outcome terms follows b.cutter p.0 (ys ++ more) =
      ap (outcome terms follows a.cutter run) (append_assoc xs ys more) ∙ p.2 follows (ys ++ more) in
      subst (λ (o : Progress). IsShort (ending_of_run terms o) first oc) (sym comes) (two.short terms first p.0 fore p.1 follows more);
  fails = λ terms first run fore s. let p = one.on terms first run (foretold terms b c two.later fore) s in two.fails terms first p.0 fore p.1;
}

pub stops_then : (a b : Runner) (bytes mid : List ℕ) (oa ob : Outlets) (stop : Stop) (c : Runner) (oc : Outlets)
    → Carries bytes a oa mid b ob → StopsShort mid b ob stop c oc → StopsShort bytes a oa stop c oc
stops_then a b bytes mid oa ob stop c oc one two = record {
  later = later_then a b c one.later two.later;
  met = λ terms first run fore s follows more.
      let p = one.on terms first run (foretold terms b c two.later fore) s in
      subst (λ (o : Progress). StartsWith o.refused c.refused) (sym (p.2 follows more)) (two.met terms first p.0 fore p.1 follows more);
  short = λ terms first run fore s follows more.
      let p = one.on terms first run (foretold terms b c two.later fore) s in
      subst (λ (o : Progress). IsShort (ending_of_run terms o) first oc) (sym (p.2 follows more)) (two.short terms first p.0 fore p.1 follows more);
  fails = λ terms first run fore s. let p = one.on terms first run (foretold terms b c two.later fore) s in two.fails terms first p.0 fore p.1;
}

pub carries_then : (a b c : Runner) (bytes mid rest : List ℕ) (oa ob oc : Outlets)
    → Carries bytes a oa mid b ob → Carries mid b ob rest c oc → Carries bytes a oa rest c oc
carries_then a b c bytes mid rest oa ob oc one two = record {
  later = later_then a b c one.later two.later;
  on = λ terms first run fore s.
      let p = one.on terms first run (foretold terms b c two.later fore) s in
      let q = two.on terms first p.0 fore p.1 in
      (q.0, q.1, λ follows more. p.2 follows more ∙ q.2 follows more);
}

-- once a statement that wasn't run has ended the run, the bytes that are left don't count
pub carries_ended : Laws → (a b : Runner) (bytes rest : List ℕ) (oa ob : Outlets)
    → Carries bytes a oa rest b ob → b.ended ≡ true → Carries bytes a oa [] b ob
carries_ended laws a b bytes rest oa ob one ended = record {
  later = one.later;
  on = λ terms first run fore s.
      let p = one.on terms first run fore s in
      let over : p.0.ended ≡ true = p.1.follows.ended ∙ ended in (
        p.0,
        p.1,
        λ follows more. p.2 follows more
            ∙ laws.ended terms p.0 (marks_left follows b.cutter (rest ++ more)) over
            ∙ sym (laws.ended terms p.0 (marks_left follows b.cutter more) over),
      );
}

-- the lines of the bytes that were taken and of those that are left
pub lines_split : (before now used : ℕ) (bytes : List ℕ) → now ≡ before + newlines (take used bytes) → before + newlines bytes ≡ now + newlines (drop used bytes)
lines_split before now used bytes taken =
    let whole : newlines bytes ≡ newlines (take used bytes) + newlines (drop used bytes) =
    ap newlines (sym (take-append-drop used bytes)) ∙ newlines-append (take used bytes) (drop used bytes) in
    omega (arith, taken, whole)

-- what a cutter's answer says
pub feeds : (old new : State) (cut piece : Option Piece) (bytes : List ℕ) (used : ℕ) → cut ≡ piece
    → ((more : List ℕ) → to_come old (bytes ++ more) ≡ option_to_list cut ++ to_come new (drop used bytes ++ more))
    → ((more : List ℕ) → settled_from old (bytes ++ more) ≡ option_to_list cut ++ settled_from new (drop used bytes ++ more))
    → new.line ≡ old.line + newlines (take used bytes)
    → Feeds old new piece bytes (drop used bytes)
feeds old new cut piece bytes used is stream settled lines = record {
  stream = λ more. stream more ∙ ap (λ p. option_to_list p ++ to_come new (drop used bytes ++ more)) is;
  settled = λ more. settled more ∙ ap (λ p. option_to_list p ++ settled_from new (drop used bytes ++ more)) is;
  line = lines_split old.line new.line used bytes lines;
}

-- what is left is run
last_mark : (terms : Terms) (is_cut : Bool) (cutter : State) (m : Mark) (run : Progress) → run.ended ≡ false → m ∷ [] ≡ marks_left (behind is_cut) cutter []
    → outcome terms (behind is_cut) cutter run [] ≡ after_mark terms run m
last_mark terms is_cut cutter m run running last = ap (after_marks terms run) (sym last) ∙ after_marks-cons terms run m [] running

pub finishes_ended : Laws → (is_cut : Bool) (old : Runner) (out : Outlets) → old.ended ≡ true → Finishes is_cut old out old out
finishes_ended laws is_cut old out ended = record {
  later = later_refl old;
  stands = λ terms first run fore s.
      subst (λ (p : Progress). Stands terms first old out p) (sym (laws.ended terms run (marks_left (behind is_cut) old.cutter []) (s.follows.ended ∙ ended))) s;
}

pub finishes_none : (is_cut : Bool) (old new : Runner) (out : Outlets) → [] ≡ marks_left (behind is_cut) old.cutter []
    → new ≡ record old { cutter = new.cutter } → Finishes is_cut old out new out
finishes_none is_cut old new out none same = record {
  later = later_same old new same;
  stands = λ terms first run fore s.
      subst (λ (p : Progress). Stands terms first new out p) (ap (after_marks terms run) none) (stands_same terms first old new out run same s);
}

pub finishes_mark : (is_cut : Bool) (old mid new : Runner) (m : Mark) (out now : Outlets) → old.ended ≡ false → m ∷ [] ≡ marks_left (behind is_cut) old.cutter []
    → mid ≡ record old { cutter = mid.cutter } → Runs m mid out new now → Finishes is_cut old out new now
finishes_mark is_cut old mid new m out now running last same ran = record {
  later = later_then old mid new (later_same old mid same) ran.later;
  stands = λ terms first run fore s.
      subst (λ (p : Progress). Stands terms first new now p) (sym (last_mark terms is_cut old.cutter m run (s.follows.ended ∙ running) last))
      (ran.stands terms first run fore (stands_same terms first old mid out run same s));
}

pub finishes_short : (is_cut : Bool) (old mid : Runner) (m : Mark) (out : Outlets) (stop : Stop) (new : Runner) (now : Outlets) → old.ended ≡ false
    → m ∷ [] ≡ marks_left (behind is_cut) old.cutter [] → mid ≡ record old { cutter = mid.cutter } → RunsShort m mid out stop new now
    → FinishesShort is_cut old out stop new now
finishes_short is_cut old mid m out stop new now running last same ran = record {
  later = later_then old mid new (later_same old mid same) ran.later;
  met = λ terms first run fore s.
      ap (λ (p : Progress). p.refused) (last_mark terms is_cut old.cutter m run (s.follows.ended ∙ running) last)
      ∙ ran.met terms first run fore (stands_same terms first old mid out run same s);
  short = λ terms first run fore s.
      subst (λ (p : Progress). IsShort (ending_of_run terms p) first now) (sym (last_mark terms is_cut old.cutter m run (s.follows.ended ∙ running) last))
      (ran.short terms first run fore (stands_same terms first old mid out run same s));
  fails = λ terms first run fore s. ran.fails terms first run fore (stands_same terms first old mid out run same s);
}

leaves_short : (stop : Stop) (terms : Terms) (run : Progress) (first now : Outlets) → IsShort (ending_of_run terms run) first now → Leaves (Err stop) terms run first now
leaves_short Source terms run first now short = short
leaves_short Sink terms run first now short = short
leaves_short Watcher terms run first now short = inl short
leaves_short NoMemory terms run first now short = short

-- where it stopped, what holds of the stop holds of the result
pub ends_stopped : (is_cut : Bool) (old : Runner) (out : Outlets) (result : Result Bool Stop) (stop : Stop) (refused : List ℕ) (now : Outlets) → IsErrAnd result (λ e. e ≡ stop)
    → Ends is_cut old out (Err stop) refused now → Ends is_cut old out result refused now
ends_stopped is_cut old out (Ok x) stop refused now is ends = absurd is
ends_stopped is_cut old out (Err e) stop refused now is ends = subst (λ (s : Stop). Ends is_cut old out (Err s) refused now) (sym is) ends

-- the run stopped short in what was left
pub ends_short : (is_cut : Bool) (old : Runner) (out : Outlets) (stop : Stop) (new : Runner) (now : Outlets) → FinishesShort is_cut old out stop new now
    → Ends is_cut old out (Err stop) new.refused now
ends_short is_cut old out stop new now short = record {
  stays = short.later.stays;
  met = λ terms first run is s. short.met terms first run (foretells_all terms new is) s;
  leaves = λ terms first run is s.
      leaves_short stop terms (outcome terms (behind is_cut) old.cutter run []) first now (short.short terms first run (foretells_all terms new is) s);
  fails = λ terms first run is s. short.fails terms first run (foretells_all terms new is) s;
}

-- the sink couldn't be flushed
pub ends_unflushed : Laws → (is_cut : Bool) (old new : Runner) (out mid : Outlets) (stop : Stop) (now : Outlets) → Finishes is_cut old out new mid
    → Keeps mid.taken now.taken → now.slots ≡ mid.slots → HasSinkCause {T = Unit {0}} mid.faults now.faults (Err stop)
    → Ends is_cut old out (Err stop) new.refused now
ends_unflushed laws is_cut old new out mid stop now done kept same cause = record {
  stays = done.later.stays;
  met = λ terms first run is s. (done.stands terms first run (foretells_all terms new is) s).follows.refused;
  leaves = λ terms first run is s.
      let last : Progress = outcome terms (behind is_cut) old.cutter run [] in
      let stood = done.stands terms first run (foretells_all terms new is) s in
      leaves_short stop terms last first now (record {
        text = (last.printed, is_prefix-refl last.printed, appends_kept first.taken mid.taken now.taken last.printed stood.text kept);
        slots = subst (λ (ss : Slots). HeardShort first.slots last.told last.present ss) (sym same) (heard_follows laws terms first.slots new mid.slots last stood.follows);
      });
  fails = λ terms first run is s.
      let last : Progress = outcome terms (behind is_cut) old.cutter run [] in
      let stood = done.stands terms first run (foretells_all terms new is) s in
      sink_fails stop first mid now cause stood.faults (subst (λ (ss : Slots). CountsStay first.slots ss) (sym same) (counts_follow laws terms first.slots new mid.slots last stood.follows));
}

-- all was written, told and flushed, and the watchers that are attached are finished
pub ends_whole : Laws → (is_cut : Bool) (old new : Runner) (out mid now : Outlets) → Finishes is_cut old out new mid
    → Keeps mid.taken now.taken → Says now.flushed true → now.faults ≡ mid.faults → now.slots ≡ all_ended mid.slots new.session.state.watches
    → Ends is_cut old out (Ok new.faulted) new.refused now
ends_whole laws is_cut old new out mid now done kept flushed quiet closed = record {
  stays = done.later.stays;
  met = λ terms first run is s. (done.stands terms first run (foretells_all terms new is) s).follows.refused;
  leaves = λ terms first run is s.
      let last : Progress = outcome terms (behind is_cut) old.cutter run [] in
      let stood = done.stands terms first run (foretells_all terms new is) s in (
        sym stood.follows.faulted,
        record {
          text = appends_kept first.taken mid.taken now.taken last.printed stood.text kept;
          flushed = flushed;
          met = stood.follows.refused ∙ sym is;
          slots = closed ∙ ap (λ (ss : Slots). all_ended ss new.session.state.watches) stood.follows.slots
              ∙ ap (λ (ws : Watches). all_ended (emptied (all_told first.slots last.told) last.present) ws) (sym (ap (λ (s : MachineState). s.watches) stood.follows.state));
        },
      );
  fails = λ terms first run is s.
      let last : Progress = outcome terms (behind is_cut) old.cutter run [] in
      let stood = done.stands terms first run (foretells_all terms new is) s in (
        quiet ∙ stood.faults,
        subst (λ (ss : Slots). CountsStay first.slots ss) (sym closed)
            (counts_then first.slots mid.slots (all_ended mid.slots new.session.state.watches)
            (counts_follow laws terms first.slots new mid.slots last stood.follows) (counts_ended mid.slots new.session.state.watches)),
      );
}

-- one of them couldn't be finished
pub ends_unclosed : Laws → (is_cut : Bool) (old new : Runner) (out mid now : Outlets) → Finishes is_cut old out new mid
    → Keeps mid.taken now.taken → Says now.flushed true → now.faults ≡ mid.faults → EndedShort mid.slots new.session.state.watches now.slots
    → Ends is_cut old out (Err Watcher) new.refused now
ends_unclosed laws is_cut old new out mid now done kept flushed quiet short = record {
  stays = done.later.stays;
  met = λ terms first run is s. (done.stands terms first run (foretells_all terms new is) s).follows.refused;
  leaves = λ terms first run is s.
      let last : Progress = outcome terms (behind is_cut) old.cutter run [] in
      let stood = done.stands terms first run (foretells_all terms new is) s in
      inr (record {
        text = appends_kept first.taken mid.taken now.taken last.printed stood.text kept;
        flushed = flushed;
        slots = subst (λ (ws : Watches). EndedShort (emptied (all_told first.slots last.told) last.present) ws now.slots) (sym (ap (λ (s : MachineState). s.watches) stood.follows.state))
            (subst (λ (ss : Slots). EndedShort ss new.session.state.watches now.slots) stood.follows.slots short);
      });
  fails = λ terms first run is s.
      let last : Progress = outcome terms (behind is_cut) old.cutter run [] in
      let stood = done.stands terms first run (foretells_all terms new is) s in (
        one_rose first.slots mid.slots now.slots (counts_follow laws terms first.slots new mid.slots last stood.follows)
            (laws.ended_one mid.slots new.session.state.watches now.slots short),
        quiet ∙ stood.faults,
      );
}
