-- The run of a dump's text.
use Rattle.std.proofs.Common.{◌≡◌, ℕ, suc, ◌+◌, ◌<◌, ◌≤◌, ◌^◌, Bool, true, false, List, [], ◌∷◌, ◌++◌, length, refl, ◌∙◌, ap, ap₂, arith, map, length-append}
use Rattle.std.proofs.lemmas.Bool.{le-ltb}
use Rattle.std.proofs.lemmas.List.{map-append}
use Rattle.std.specs.Prelude.{Result, Ok, Err, codes}
use Rattle.pdl_io.specs.Counts.{next_count}
use Rattle.pdl_lex.specs.Bytes.{newlines}
use Rattle.pdl_lex.specs.declared.Piece.TheVariants.{Whole}
use Rattle.pdl_lex.specs.Joining.{pieces_from}
use Rattle.pdl_lex.specs.Limits.{script_limit}
use Rattle.pdl_lex.specs.Pieces.{Mark, statement, script_marks}
use Rattle.pdl_image.specs.Lines.{Line, line_text, whole_line, script_of}
use Rattle.pdl_reread.specs.Rereading.{AreReread, IsReread, DumpsAreReread}
use Rattle.pdl_reread.specs.Scripts.{statements, line_behind}
use Rattle.pdl_reread.specs.Trees.{line_tree}
use Rattle.pdl_machine.specs.declared.fault.Fault.{Fault}
use Rattle.pdl_machine.specs.Arrays.{no_arrays}
use Rattle.pdl_machine.specs.Dumps.{dump_lines}
use Rattle.pdl_machine.specs.Names.{nothing_named}
use Rattle.pdl_machine.specs.Run.{Terms, Progress, step_read, fault_ends, counted, after, next_step, after_marks, start}
use Rattle.pdl_machine.specs.RunLaws.{GoesOn}
use Rattle.pdl_machine.specs.Step.{Done, step}
use Rattle.pdl_machine.specs.Then.{and_then}
use Rattle.pdl_machine.specs.Worked.{done_behind, all_done}
use Rattle.pdl_rebuild.specs.Rebuilding.{emptied, DumpsRebuild}
use Rattle.pdl_rebuild.specs.Running.{with_memory, come_to, DumpsGoOn, RunsBeginSo}
use Rattle.pdl_rebuild.specs.Steps.{quietly}

-- a run that has come so far
abbrev doing : Terms → Done → ℕ → Progress
doing terms d count = record (start terms) { state = d.state; printed = d.text; count = count; told = d.told; present = d.present }

-- what statements come to, if they have no fault
abbrev or_done : Done → Result Done Fault → Done
or_done d (Ok e) = e
or_done d (Err f) = d

abbrev has_done : Result Done Fault → Bool
has_done (Ok e) = true
has_done (Err f) = false

next_is : (count : ℕ) → count + 1 < 2 ^ 64 → next_count count ≡ count + 1
next_is count few = omega (arith, few)

-- statements that are read as these and have no fault
marks_done : (keep : Bool) (present : List Bool) (lines : List Line) (line count : ℕ) (d e : Done) → AreReread lines → count + length lines < 2 ^ 64 → all_done (count + 1) d (map line_tree lines) ≡ Ok e
    → after_marks (with_memory keep present) (doing (with_memory keep present) d count) (map statement (statements line lines)) ≡ doing (with_memory keep present) e (count + length lines)
marks_done keep present [] line count d e read few is = ap₂ (doing (with_memory keep present)) (ap (or_done d) is) (plus_zero count) where
  plus_zero : (n : ℕ) → n ≡ n + 0
  plus_zero n = omega arith
marks_done keep present (l ∷ lines) line count d e read few is =
    by_step (step (count + 1) d.present d.state (line_tree l)) refl is
    (λ f rest_is. marks_done keep present lines (line + newlines (line_text l) + 1) (count + 1) (done_behind d f) e read.1 (omega (arith, few)) rest_is)
  where
    plus_suc : (n m : ℕ) → n + 1 + m ≡ n + suc m
    plus_suc n m = omega arith

    by_step : (r : Result Done Fault) → step (count + 1) d.present d.state (line_tree l) ≡ r → and_then r (λ f. all_done (count + 1 + 1) (done_behind d f) (map line_tree lines)) ≡ Ok e
        → ((f : Done) → all_done (count + 1 + 1) (done_behind d f) (map line_tree lines) ≡ Ok e
        → after_marks (with_memory keep present) (doing (with_memory keep present) (done_behind d f) (count + 1)) (map statement (statements (line + newlines (line_text l) + 1) lines)) ≡ doing (with_memory keep present) e (count + 1 + length lines))
        → after_marks (with_memory keep present) (doing (with_memory keep present) d count) (map statement (statements line (l ∷ lines))) ≡ doing (with_memory keep present) e (count + length (l ∷ lines))
    by_step (Err f) step_is is further = absurd (false_true (ap has_done is)) where
      false_true : false ≡ true → ⊥
      false_true same = cc
    by_step (Ok f) step_is is further =
        let m : Mark = statement (Whole (record { text = line_text l; line = line })) in
        let ms : List Mark = map statement (statements (line + newlines (line_text l) + 1) lines) in
        let p : Progress = doing (with_memory keep present) d count in
        let next : next_count count ≡ count + 1 = next_is count (omega (arith, few)) in
        let stepped : next_step p m ≡ Ok f = ap₂ (λ n t. step_read n d.present d.state t) next read.0 ∙ step_is in
        ap (λ r. after_marks (with_memory keep present) (after (fault_ends keep m) (counted p) line r) ms) stepped
        ∙ ap (λ n. after_marks (with_memory keep present) (doing (with_memory keep present) (done_behind d f) n) ms) next
        ∙ further f is
        ∙ ap (doing (with_memory keep present) e) (plus_suc count (length lines))

-- each line has a byte at least
lines_short : (lines : List Line) → length lines ≤ length (script_of lines)
lines_short [] = omega arith
lines_short (l ∷ lines) =
    omega (arith, lines_short lines, length-append (whole_line l) (script_of lines), length-append (line_text l) (codes ";\n"))

pub dumps_go_on : DumpsRebuild → DumpsAreReread → GoesOn → DumpsGoOn
dumps_go_on rebuild reread goes_on keep present s text rest can is short =
    let terms : Terms = with_memory keep present in
    let lines : List Line = dump_lines s in
    let again : IsReread text lines = reread s text can is in
    let few : length lines ≤ script_limit = omega (arith, short, length-append text rest, ap length again.is, lines_short lines) in
    let done_all : after_marks terms (come_to terms (emptied s) 0) (map statement (statements 1 lines)) ≡ come_to terms s (0 + length lines) =
    marks_done keep present lines 1 0 (quietly present (emptied s)) (quietly present s) again.read (omega (arith, few)) (rebuild s text can is 1 present) in
    let marks_are : script_marks (text ++ rest) ≡ map statement (statements 1 lines) ++ map statement (pieces_from (line_behind 1 lines) rest) =
    rw (le-ltb script_limit (length (text ++ rest)) short) (ap (map statement) (again.before rest) ∙ map-append statement (statements 1 lines) (pieces_from (line_behind 1 lines) rest)) in
    ap (after_marks terms (come_to terms (emptied s) 0)) marks_are
    ∙ goes_on terms (come_to terms (emptied s) 0) (map statement (statements 1 lines)) (map statement (pieces_from (line_behind 1 lines) rest))
    ∙ ap (λ p. after_marks terms p (map statement (pieces_from (line_behind 1 lines) rest)))
    (done_all ∙ ap (come_to terms s) (zero_plus (length lines)))
  where
    zero_plus : (n : ℕ) → 0 + n ≡ n
    zero_plus n = omega arith

pub runs_begin_so : RunsBeginSo
runs_begin_so terms s none =
    ap (λ ws. come_to terms (record { names = nothing_named; arrays = no_arrays; watches = ws; flows = [] }) 0) none
