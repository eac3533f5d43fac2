-- What the runs of two statements come to, by computation.
use Rattle.std.proofs.Common.{◌≡◌, ℕ, ◌+◌, List, [], ◌∷◌, ◌++◌, take, length, true, false, Option, None, Some, option_map, refl, sym, ap, subst, ◌∙◌, arith, append-nil, length-append}
use Rattle.std.specs.Prelude.{codes}
use Rattle.std.specs.Fmt.{digits}
use Rattle.std.specs.Io.KnownBytes.{Consumes}
use Rattle.std.proofs.Math.Seq.{take-append_seam}
use Rattle.pdl_lex.specs.Brackets.{behind_token, go_deep}
use Rattle.pdl_lex.specs.Tokens.{longest, token_at, toks_from, toks}
use Rattle.pdl_lexemes.specs.ListReading.{item_at, items_at, inside_at, list_reader}
use Rattle.pdl_syntax.specs.ExpressionReading.{chain_at, arg_at, more_at, closed_at, maybe_at, primary_at, methods_at, postfix_at, unary_at, level_at, grown_at, reader}
use Rattle.pdl_syntax.specs.Parsed.{parsed}
use Rattle.pdl_syntax.specs.StatementReading.{names_at, expression_to_end_at, valued_at, called_at, bind_list_at, views_at, assignment_at, statement_of_name_at, binding_at, show_at, statement_at}
use Rattle.pdl_nice.specs.Looks.{look}
use Rattle.pdl_nice.specs.Nice.{has_nice}
use Rattle.pdl_nice.specs.Plain.{plain_text}
use Rattle.pdl_nice.specs.Reading.{reader as nice_reader}
use Rattle.pdl_watch.specs.declared.notice.Notice.{Notice}
use Rattle.pdl_watch.specs.Watched.{Watched}
use Rattle.pdl_watch.specs.Slots.{Slots, notices_of}
use Rattle.pdl_watch.specs.SlotLaws.{EachIsToldItsOwn}
use Rattle.pdl_machine.specs.Run.{so_far}
use Rattle.pdl_shell.specs.declared.status.Status.{Status}
use Rattle.pdl_shell.specs.declared.status.Status.TheVariants.{Done, ScriptFault, Usage, SinkFault, WatcherFault, NoMemory}
use Rattle.pdl_shell.specs.Outside.{Outside}
use Rattle.pdl_shell.specs.Answers.{Ending, Gives, ending}
use Rattle.pdl_shell.specs.Taken.{terms_for}
use Rattle.pdl_shell.specs.Headline.{HeardOrEnded, OfWholeStatements}
use Rattle.pdl_shell.specs.TwoStatements.{two_numbers, a_fault, a_watch, comes_to, without_first, Writes, WritesAFront, WorkedStatuses}
use Rattle.pdl_shell.proofs.HeadlineLemmas.{all_front, ends_write, source_leaves}
use Rattle.pdl_shell.proofs.AnswerGuards.{others_front}

two_text : (comes_to [] two_numbers).text ≡ codes "7\n8\n"
unfolding digits behind_token go_deep longest token_at toks_from toks item_at items_at inside_at list_reader chain_at arg_at more_at closed_at maybe_at primary_at methods_at postfix_at unary_at level_at grown_at reader parsed names_at expression_to_end_at valued_at called_at bind_list_at views_at assignment_at statement_of_name_at binding_at show_at statement_at look has_nice plain_text nice_reader
two_text = refl

two_status : (comes_to [] two_numbers).status ≡ Done
unfolding digits behind_token go_deep longest token_at toks_from toks item_at items_at inside_at list_reader chain_at arg_at more_at closed_at maybe_at primary_at methods_at postfix_at unary_at level_at grown_at reader parsed names_at expression_to_end_at valued_at called_at bind_list_at views_at assignment_at statement_of_name_at binding_at show_at statement_at look has_nice plain_text nice_reader
two_status = refl

fault_text : (comes_to [] a_fault).text ≡ codes "7\npdl: line 1: unknown name\n"
unfolding digits behind_token go_deep longest token_at toks_from toks item_at items_at inside_at list_reader chain_at arg_at more_at closed_at maybe_at primary_at methods_at postfix_at unary_at level_at grown_at reader parsed names_at expression_to_end_at valued_at called_at bind_list_at views_at assignment_at statement_of_name_at binding_at show_at statement_at look has_nice plain_text nice_reader
fault_text = refl

fault_status : (comes_to [] a_fault).status ≡ ScriptFault
unfolding digits behind_token go_deep longest token_at toks_from toks item_at items_at inside_at list_reader chain_at arg_at more_at closed_at maybe_at primary_at methods_at postfix_at unary_at level_at grown_at reader parsed names_at expression_to_end_at valued_at called_at bind_list_at views_at assignment_at statement_of_name_at binding_at show_at statement_at look has_nice plain_text nice_reader
fault_status = refl

refused_text : (without_first two_numbers).text ≡ codes "pdl: line 1: out of memory\n8\n"
unfolding digits behind_token go_deep longest token_at toks_from toks item_at items_at inside_at list_reader chain_at arg_at more_at closed_at maybe_at primary_at methods_at postfix_at unary_at level_at grown_at reader parsed names_at expression_to_end_at valued_at called_at bind_list_at views_at assignment_at statement_of_name_at binding_at show_at statement_at look has_nice plain_text nice_reader
refused_text = refl

refused_status : (without_first two_numbers).status ≡ NoMemory
unfolding digits behind_token go_deep longest token_at toks_from toks item_at items_at inside_at list_reader chain_at arg_at more_at closed_at maybe_at primary_at methods_at postfix_at unary_at level_at grown_at reader parsed names_at expression_to_end_at valued_at called_at bind_list_at views_at assignment_at statement_of_name_at binding_at show_at statement_at look has_nice plain_text nice_reader
refused_status = refl

refused_met : (without_first two_numbers).met ≡ 1 ∷ []
unfolding digits behind_token go_deep longest token_at toks_from toks item_at items_at inside_at list_reader chain_at arg_at more_at closed_at maybe_at primary_at methods_at postfix_at unary_at level_at grown_at reader parsed names_at expression_to_end_at valued_at called_at bind_list_at views_at assignment_at statement_of_name_at binding_at show_at statement_at look has_nice plain_text nice_reader
refused_met = refl

first_text : (slots : Slots) → (so_far (terms_for false slots []) (codes "p 7;")).printed ≡ codes "7\n"
unfolding digits behind_token go_deep longest token_at toks_from toks item_at items_at inside_at list_reader chain_at arg_at more_at closed_at maybe_at primary_at methods_at postfix_at unary_at level_at grown_at reader parsed names_at expression_to_end_at valued_at called_at bind_list_at views_at assignment_at statement_of_name_at binding_at show_at statement_at look has_nice plain_text nice_reader
first_text slots = refl

watch_told : notices_of (comes_to (true ∷ []) a_watch).told 0 ≡ []
unfolding digits behind_token go_deep longest token_at toks_from toks item_at items_at inside_at list_reader chain_at arg_at more_at closed_at maybe_at primary_at methods_at postfix_at unary_at level_at grown_at reader parsed names_at expression_to_end_at valued_at called_at bind_list_at views_at assignment_at statement_of_name_at binding_at show_at statement_at look has_nice plain_text nice_reader
watch_told = refl

watch_attached : (comes_to (true ∷ []) a_watch).watches ≡ Some 0 ∷ []
unfolding digits behind_token go_deep longest token_at toks_from toks item_at items_at inside_at list_reader chain_at arg_at more_at closed_at maybe_at primary_at methods_at postfix_at unary_at level_at grown_at reader parsed names_at expression_to_end_at valued_at called_at bind_list_at views_at assignment_at statement_of_name_at binding_at show_at statement_at look has_nice plain_text nice_reader
watch_attached = refl

writes : (status : Status) (e : Ending) (text : List ℕ) → ((old new : Outside) (after : List ℕ) → old.out.taken ≡ Some [] → new.out.taken ≡ Some after → Gives status e old.out new.out → after ≡ e.text)
    → e.text ≡ text → Writes status e text
writes status e text all is old new after was now gives = all old new after was now gives ∙ is

fronts : (status : Status) (e : Ending) (text : List ℕ) → e.text ≡ text → WritesAFront status e text
fronts status e text is old new after was now gives =
    let front = all_front status e old new [] after was now gives in
    (front.0, sym is ∙ front.1)

-- what is taken of the script where this is left
taken_is : (left new : Option (List ℕ)) (bytes rest : List ℕ) (n : ℕ) (all : List ℕ) → left ≡ Some all → new ≡ Some rest → Consumes left new bytes → length all ≡ n + length rest → bytes ≡ take n all
taken_is left new bytes rest n all was is taken long =
    let known : all ≡ bytes ++ rest = subst (λ (o : Option (List ℕ)). Consumes (Some all) o bytes) is (subst (λ (o : Option (List ℕ)). Consumes o new bytes) was taken) in
    let sum : length all ≡ length bytes + length rest = ap length known ∙ length-append bytes rest in
    let count : length bytes ≡ n = omega (arith, sum, long) in
    sym (take-append_seam bytes rest) ∙ ap (λ (xs : List ℕ). take (length bytes) xs) (sym known) ∙ ap (λ (k : ℕ). take k all) count

no_part : (part rest : List Notice) → [] ≡ part ++ rest → part ≡ []
no_part [] rest is = refl
no_part (n ∷ part) rest is = absurd (cc)

behind_none : (o : Option (List Notice)) → o ≡ option_map (λ (before : List Notice). before ++ []) o
behind_none None = refl
behind_none (Some ns) = ap Some (sym (append-nil ns))

told_nothing : (ns : List Notice) (watch : Option ℕ) (before after : Watched) → ns ≡ [] → HeardOrEnded ns watch before after → after.told ≡ before.told
told_nothing ns watch before after none heard =
    let part : heard.part ≡ [] = no_part heard.part heard.front.0 (sym none ∙ heard.front.1) in
    heard.told ∙ ap (λ (ms : List Notice). option_map (λ (was : List Notice). was ++ ms) before.told) part ∙ sym (behind_none before.told)

pub worked_statuses : EachIsToldItsOwn → WorkedStatuses
worked_statuses each = record {
  done = writes Done (comes_to [] two_numbers) (codes "7\n8\n") (λ old new after was now gives. (ends_write Done (comes_to [] two_numbers) old new [] after tt was now gives).1.text) two_text;
  no_fault = λ old new gives. (let e : ScriptFault ≡ Done = gives.0 ∙ two_status in absurd (cc));
  faulted = writes ScriptFault (comes_to [] a_fault) (codes "7\npdl: line 1: unknown name\n") (λ old new after was now gives. (ends_write ScriptFault (comes_to [] a_fault) old new [] after tt was now gives).1.text) fault_text;
  not_done = λ old new gives. (let e : Done ≡ ScriptFault = gives.0 ∙ fault_status in absurd (cc));
  usage = λ old new after was now gives. (ends_write Usage (ending None [] [] two_numbers) old new [] after tt was now gives).1.text;
  sink = fronts SinkFault (comes_to [] two_numbers) (codes "7\n8\n") two_text;
  memory = fronts NoMemory (comes_to [] two_numbers) (codes "7\n8\n") two_text;
  refused = fronts NoMemory (without_first two_numbers) (codes "pdl: line 1: out of memory\n8\n") refused_text;
  refused_text = refused_text;
  refused_status = refused_status;
  met = refused_met;
  refused_done = λ old new gives. (let e : Done ≡ NoMemory = gives.0 ∙ refused_status in absurd (cc));
  source = λ old new after had left was now reads. (let whole : OfWholeStatements false [] old new [] after = source_leaves false [] old new [] after was now reads in
      let bytes : whole.bytes ≡ codes "p 7;" = taken_is old.left new.left whole.bytes (codes "p 8;") 4 two_numbers had left whole.taken refl in
      whole.text ∙ ap (λ (bs : List ℕ). (so_far (terms_for false old.out.slots []) bs).printed) bytes ∙ first_text old.out.slots);
  attached = watch_attached;
  watcher = λ old new before after was is gives. told_nothing (notices_of (comes_to (true ∷ []) a_watch).told 0) _ before after watch_told (others_front each WatcherFault (comes_to (true ∷ []) a_watch) old new 0 before after tt gives was is);
}
