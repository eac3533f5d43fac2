-- The text of a dump is cut into its lines, and each of them is read as its statement.
use Rattle.std.proofs.Common.{◌≡◌, ℕ, ◌+◌, Bool, true, false, List, [], ◌++◌, length, Result, Ok, Err, sym, ◌∙◌, ap}
use Rattle.std.specs.Prelude.{◌||◌, nat_lt, is_some}
use Rattle.std.specs.List.{list_any}
use Rattle.std.proofs.lemmas.List.{append-nil}
use Rattle.pdl_lemmas.specs.Tests.{by_test}
use Rattle.pdl_lex.specs.Joining.{pieces_from}
use Rattle.pdl_lex.specs.Limits.{statement_limit}
use Rattle.pdl_lex.specs.Pieces.{pieces}
use Rattle.pdl_image.specs.declared.TheConstants.{LONGEST_DUMP}
use Rattle.pdl_image.specs.Lines.{Line, line_text, script_of}
use Rattle.pdl_image.specs.Dump.{is_too_long}
use Rattle.pdl_machine.specs.declared.fault.Fault.{Fault}
use Rattle.pdl_machine.specs.declared.fault.Fault.TheVariants.{DumpFlow, DumpTooLong, StillWatched, TooManyNames}
use Rattle.pdl_machine.specs.Dumps.{names_wanted, dump_lines, text_within, dumped}
use Rattle.pdl_machine.specs.Names.{names_limit}
use Rattle.pdl_machine.specs.State.{State}
use Rattle.pdl_reread.specs.Scripts.{AreLines, statements, line_behind, LinesAreStatements}
use Rattle.pdl_reread.specs.Rereading.{DumpsAreReread}
use Rattle.pdl_reread.proofs.ScriptLines as dumps
use Rattle.pdl_reread.proofs.TreesPlain as plain

-- a dump that isn't refused is the text of its lines, and none of them is too long
record IsWithin (text : List ℕ) (lines : List Line) : Type 0 where
  is : text ≡ script_of lines
  short : list_any (λ l. nat_lt statement_limit (length (line_text l))) lines ≡ false

within : (text : List ℕ) (lines : List Line) → text_within lines ≡ Ok text → IsWithin text lines
within text lines is =
    by_test (is_too_long [] lines)
    (λ long. let e : Err DumpTooLong ≡ Ok text = rw long at is in absurd (never e))
    (λ fits. let e : Ok (script_of lines) ≡ Ok text = rw fits at is in record {
      is = sym (ap text_in e);
      short = second (nat_lt LONGEST_DUMP (0 + length (script_of lines))) (list_any (λ l. nat_lt statement_limit (length (line_text l))) lines) fits;
    })
  where
    never : Err DumpTooLong ≡ Ok text → ⊥
    never e = cc

    text_in : Result (List ℕ) Fault → List ℕ
    text_in (Ok t) = t
    text_in (Err e) = text

    second : (a b : Bool) → (a || b) ≡ false → b ≡ false
    second true b e = absurd (cc)
    second false b e = e

unrefused : (s : State) (text : List ℕ) → dumped s ≡ Ok text → text_within (dump_lines s) ≡ Ok text
unrefused s text is =
    by_test (list_any is_some s.watches)
    (λ watched. let e : Err StillWatched ≡ Ok text = rw watched at is in absurd (never e))
    (λ free. by_test (nat_lt 0 (length s.flows))
    (λ some. let e : Err DumpFlow ≡ Ok text = rw (free, some) at is in absurd (never e))
    (λ none. by_test (nat_lt names_limit (names_wanted s))
    (λ many. let e : Err TooManyNames ≡ Ok text = rw (free, none, many) at is in absurd (never e))
    (λ few. rw (free, none, few) at is)))
  where
    never : {e : Fault} → Err e ≡ Ok text → ⊥
    never e = cc

pub dumps_are_reread : dumps.Laws → plain.Laws → LinesAreStatements → DumpsAreReread
dumps_are_reread laws reading cut s text is there =
    let lines : List Line = dump_lines s in
    let h : IsWithin text lines = within text lines (unrefused s text there) in
    let are : AreLines lines = dumps.short_lines lines (dumps.state_are laws s is) h.short in
    let before : (rest : List ℕ) → pieces (text ++ rest) ≡ statements 1 lines ++ pieces_from (line_behind 1 lines) rest =
    λ rest. ap (λ (t : List ℕ). pieces (t ++ rest)) h.is ∙ cut lines rest are in
    record {
      is = h.is;
      are_lines = are;
      whole = ap pieces (sym (append-nil text)) ∙ before [] ∙ append-nil (statements 1 lines);
      before = before;
      read = plain.lines_reread reading lines are;
    }
