-- What a dump prints.
use Rattle.std.proofs.Common.{◌≡◌, ℕ, ◌+◌, ◌≤◌, List, [], Bool, true, false, Result, Ok, Err, refl, sym, ap, subst, ◌∙◌, arith}
use Rattle.std.specs.Prelude.{◌++◌, if◌then◌else◌, length, map, nat_lt, is_some}
use Rattle.std.specs.List.{list_any}
use Rattle.pdl_image.specs.Dump.{is_too_long, dump as dump_of}
use Rattle.pdl_image.specs.Lines.{Line, script_of}
use Rattle.pdl_syntax.specs.StatementTree.{StatementTree, dump, bind, bind_list, assign, show, show_text, sever, reshape, undef, vars, pp_def, watch, unwatch, flow}
use Rattle.pdl_machine.specs.declared.fault.Fault.{Fault}
use Rattle.pdl_machine.specs.declared.fault.Fault.TheVariants.{DumpFlow, DumpTooLong, StillWatched, TooManyNames}
use Rattle.pdl_machine.specs.Then.{and_then}
use Rattle.pdl_machine.specs.State.{State}
use Rattle.pdl_machine.specs.Tidy.{tidy}
use Rattle.pdl_machine.specs.Names.{names_limit}
use Rattle.pdl_machine.specs.Dumps.{definition, dump_lines, dumped, names_wanted, text_within}
use Rattle.pdl_machine.specs.DumpLaws.{DumpsNameByNumbers}
use Rattle.pdl_machine.specs.Step.{Done, effect, step, done as done_by}
use Rattle.pdl_scope.specs.declared.fault.ScopeFault.{ScopeFault}
use Rattle.pdl_scope.specs.Answers.{IsFault}
use Rattle.pdl_scope.specs.Dumping.{is_refused_unread}
use Rattle.pdl_scope.specs.Growth.{reads_grow, unread}
use Rattle.pdl_scope.specs.Scope.{Scope, machine, OnlyReads}
use Rattle.pdl_print.specs.Pieces.{Begins}
use Rattle.pdl_session.specs.Advanced.{HasAdvanced}
use Rattle.pdl_session.specs.declared.news.News.{News}
use Rattle.pdl_session.specs.Dumping.{DumpMakesAgain, MakesAgain, PrintsDump, dump_text}
use Rattle.pdl_session.specs.Performed.{Performs}
use Rattle.pdl_session.proofs.ScopeFacts.{first_fault}

-- a dump that is refused unread takes no step
pub dump_within : (old new : Scope) (before after most : ℕ) → after ≤ before + most → (is_refused_unread (machine old) ≡ true → (new ≡ old) × (after ≡ before)) → after ≤ before + (if is_refused_unread (machine old) then 0 else most)
dump_within old new before after most counted unmoved = by_test (is_refused_unread (machine old)) refl
  where
    by_test : (unread : Bool) → is_refused_unread (machine old) ≡ unread → after ≤ before + (if unread then 0 else most)
    by_test true is = (let same : after ≡ before = (unmoved is).1 in omega (arith, same))
    by_test false is = counted

-- a text that isn't refused is that of the lines
text_is : (lines : List Line) (text : List ℕ) → text_within lines ≡ Ok text → text ≡ script_of lines
text_is lines text is = by_test (is_too_long [] lines) is
  where
    inside : Result (List ℕ) Fault → List ℕ
    inside (Ok t) = t
    inside (Err e) = []

    by_test : (b : Bool) → (if b then Err DumpTooLong else Ok (script_of lines)) ≡ Ok text → text ≡ script_of lines
    by_test true is = absurd (cc)
    by_test false is = sym (ap inside is)

dumped_is : (s : State) (text : List ℕ) → dumped s ≡ Ok text → text ≡ script_of (dump_lines s)
dumped_is s text is = by_tests (list_any is_some s.watches) (nat_lt 0 (length s.flows)) (nat_lt names_limit (names_wanted s)) is
  where
    by_tests : (a f b : Bool) → (if a then Err StillWatched else if f then Err DumpFlow else if b then Err TooManyNames else text_within (dump_lines s)) ≡ Ok text → text ≡ script_of (dump_lines s)
    by_tests true f b is = absurd (cc)
    by_tests false true b is = absurd (cc)
    by_tests false false true is = absurd (cc)
    by_tests false false false is = text_is (dump_lines s) text is

-- what a step by `dump` prints is the dump, which isn't refused
stepped_text : (number : ℕ) (present : List Bool) (s : State) (d : Done) → step number present s dump ≡ Ok d → dumped s ≡ Ok d.text
stepped_text number present s d is = by_text (dumped s) refl is
  where
    text_of : Result Done Fault → List ℕ
    text_of (Ok e) = e.text
    text_of (Err e) = []

    by_text : (r : Result (List ℕ) Fault) → dumped s ≡ r
        → and_then (and_then r (λ text. Ok (s, text))) (λ after. Ok (done_by number present s dump after)) ≡ Ok d → dumped s ≡ Ok d.text
    by_text (Ok text) seen is = seen ∙ ap Ok (ap text_of is)
    by_text (Err e) seen is = absurd (cc)

pub prints_dump : {number : ℕ} {present : List Bool} {new : State} {o n : List ℕ} {news : News} → DumpsNameByNumbers → (old seen : State) (st : StatementTree) → seen ≡ tidy old
    → DumpMakesAgain seen → HasAdvanced number present seen new st o n news → PrintsDump seen st o n
prints_dump {number = number} {present = present} {o = o} {n = n} law old seen dump is again ran =
    let printed : dumped seen ≡ Ok ran.done.text = stepped_text number present seen ran.done ran.is in
    let lines : dump_lines seen ≡ lines_by seen = subst (λ (s : State). dump_lines s ≡ lines_by s) (sym is) (law old) in
    let same : ran.done.text ≡ dump_text seen = dumped_is seen ran.done.text printed ∙ ap script_of lines in
    record {
      printed = ran.printed ∙ ap (λ t. o ++ t) same;
      again = subst (λ t. MakesAgain t seen) same (again ran.done.text printed);
    }
  where
    lines_by : State → List Line
    lines_by s = dump_of (map definition s.names.kernels) s.arrays.world s.names.arrays
prints_dump law old seen (bind x e severs) is again ran = tt
prints_dump law old seen (bind_list xs e) is again ran = tt
prints_dump law old seen (assign x views sign e) is again ran = tt
prints_dump law old seen (show e info) is again ran = tt
prints_dump law old seen (show_text t) is again ran = tt
prints_dump law old seen (sever x) is again ran = tt
prints_dump law old seen (reshape x sizes) is again ran = tt
prints_dump law old seen (undef x) is again ran = tt
prints_dump law old seen vars is again ran = tt
prints_dump law old seen (pp_def f s c) is again ran = tt
prints_dump law old seen (watch x k) is again ran = tt
prints_dump law old seen (unwatch k) is again ran = tt
prints_dump law old seen (flow x e) is again ran = tt

-- what the statement does, by the text that the scope answers
pub dump_performed : {T : Type 0} (x : T) (old new : Scope) (text o n : List ℕ) → dumped (machine old) ≡ Ok text → OnlyReads old new → n ≡ o ++ text
    → Performs {T = T} (effect [] (machine old) dump) old new o n (Ok x)
dump_performed x old new text o n is reads printed =
    subst (λ (r : Result (List ℕ) Fault). Performs (and_then r (λ t. Ok (machine old, t))) old new o n (Ok x)) (sym is)
    (unread old new reads, printed)

pub dump_refused : (T : Type 0) (old new : Scope) (e : ScopeFault) (o n : List ℕ) → IsFault (dumped (machine old)) e → OnlyReads old new → Begins o n
    → Performs {T = T} (effect [] (machine old) dump) old new o n (Err e)
dump_refused T old new e o n fault reads front = (passed e (dumped (machine old)) fault, record { grown = reads_grow old new reads; front = front })
  where
    passed : (e : ScopeFault) (r : Result (List ℕ) Fault) → IsFault r e → IsFault {U = State × List ℕ} (and_then r (λ t. Ok (machine old, t))) e
    passed e r h = first_fault r (λ t. Ok (machine old, t)) e h
