use Rattle.std.proofs.Common.{◌≡◌, ℕ, List, Result, Ok, sym, subst, ap, ◌∙◌, if◌then◌else◌}
use Rattle.pdl_lex.specs.declared.Token.{Token}
use Rattle.pdl_syntax.specs.StatementTree.{StatementTree, statement_of}
use Rattle.pdl_watch.specs.Slots.{slots_by, present_in}
use Rattle.pdl_machine.specs.declared.fault.Fault.{Fault}
use Rattle.pdl_machine.specs.Reads.{reads, reads_plain}
use Rattle.pdl_machine.specs.Run.{step_read}
use Rattle.pdl_session.specs.declared.fault.StepFault.{StepFault}
use Rattle.pdl_shell.specs.Ran.{LeavesState}
use Rattle.pdl_shell.specs.Unread.{AreOfPlain, IsFault}
use Rattle.pdl_shell.proofs.UnreadPlain.{read_as, not_parsed}
use Rattle.pdl_shell.proofs.RanLemmas.{unread_leaves, unread_served}
use Rattle.pdl_shell.proofs.statement.run_text.Goals as goal

-- the same, of lists that are seen as slices
as_slices : (text p q : List ℕ) (ts us : List Token) → p ≡ q → ts ≡ us → AreOfPlain text q us → AreOfPlain text p ts
as_slices text p q ts us e f of = subst (λ (x : List ℕ). AreOfPlain text x ts) (sym e) (subst (λ (x : List Token). AreOfPlain text q x) (sym f) of)

pub returns-in-Ok-clause-ran : goal.returns-in-Ok-clause-ran
returns-in-Ok-clause-ran g c =
    let plain = c.plain_text-plain.result.now in
    let tokens = c.deref-2.result.now in
    let of : AreOfPlain c.args.text.now plain tokens = as_slices _ _ _ _ _
    (c.plain_text-plain.ensures ∙ ap (λ (w : List ℕ). if c.in_ok-is_nice.is_nice then w else c.args.text.now) c.deref.ensures.value) c.deref-2.ensures.value c.in_ok-is_nice.ensures.found in
    let is : reads c.args.text.now ≡ Ok (statement_of c.in-Ok.statement) =
    of.same ∙ read_as c.reads_law.ensures.plain plain tokens (Ok (statement_of c.in-Ok.statement)) of.are c.in-Ok.ensures.exact in
    let slots = slots_by g.W.Watcher.seen c.args.watchers.now.items in
    let P : Result StatementTree Fault → Type 0 = λ r. LeavesState (step_read c.args.number (present_in slots) c.args.session.now.state r) c.args.session.now.state slots c.run_statement.result c.run_statement.new.session.state c.run_statement.new.out.items (slots_by g.W.Watcher.seen c.run_statement.new.watchers.items) in
    subst P (sym is) c.run_statement.ensures.ran

pub returns-in-Err-clause-ran : goal.returns-in-Err-clause-ran
returns-in-Err-clause-ran g c =
    let plain = c.plain_text-plain.result.now in
    let tokens = c.deref-2.result.now in
    let of : AreOfPlain c.args.text.now plain tokens = as_slices _ _ _ _ _
    (c.plain_text-plain.ensures ∙ ap (λ (w : List ℕ). if c.in_ok-is_nice.is_nice then w else c.args.text.now) c.deref.ensures.value) c.deref-2.ensures.value c.in_ok-is_nice.ensures.found in
    let is : IsFault (reads c.args.text.now) c.of_parsing.result = subst (λ r. IsFault r c.of_parsing.result) (sym of.same)
    (subst (λ (f : StepFault). IsFault (reads_plain plain) f) (sym c.of_parsing.ensures)
    (not_parsed c.reads_law.ensures.plain plain tokens c.in-Err.fault of.are c.in-Err.ensures.exact)) in
    unread_leaves c.of_parsing.result c.args.number (present_in (slots_by g.W.Watcher.seen c.args.watchers.now.items)) (reads c.args.text.now) c.args.session.now.state (slots_by g.W.Watcher.seen c.args.watchers.now.items) c.args.out.now.items is c.requires.empty

pub returns-in-Err-clause-served : goal.returns-in-Err-clause-served
returns-in-Err-clause-served g c =
    unread_served c.of_parsing.result c.args.session.now.state.watches (slots_by g.W.Watcher.seen c.args.watchers.now.items) c.requires.served
