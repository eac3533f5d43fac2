-- A step of the machine, from what a statement did to a scope.
use Rattle.std.proofs.Common.{◌≡◌, ℕ, List, Bool, Result, Ok, Err, refl, sym, ap, subst, ◌∙◌}
use Rattle.std.specs.Prelude.{IfOk, IfErr}
use Rattle.pdl_syntax.specs.StatementTree.{StatementTree}
use Rattle.pdl_machine.specs.declared.fault.Fault.{Fault}
use Rattle.pdl_machine.specs.Laws.{StepsAlike, OnlyAssignmentsTell}
use Rattle.pdl_machine.specs.State.{State, IsWhole, IsSwept}
use Rattle.pdl_machine.specs.Step.{Stepped, Done, effect, step, done as done_by}
use Rattle.pdl_machine.specs.Then.{and_then}
use Rattle.pdl_machine.specs.Tidy.{tidy}
use Rattle.pdl_machine.specs.Watches.{notices}
use Rattle.pdl_scope.specs.declared.fault.ScopeFault.{ScopeFault}
use Rattle.pdl_scope.specs.Answers.{IsFault, Prints, Runs}
use Rattle.pdl_scope.specs.Scope.{Scope, machine}
use Rattle.pdl_session.specs.Advanced.{HasAdvanced}
use Rattle.pdl_session.specs.declared.news.News.{News}
use Rattle.pdl_session.specs.News.{IsNewsOf}
use Rattle.pdl_session.proofs.ScopeFacts.{first_fault}

-- the step from what is seen of a state, by the statement's effect on the state
step_seen : StepsAlike → (number : ℕ) (present : List Bool) (s seen : State) (st : StatementTree) → IsWhole s → IsSwept s → tidy s ≡ seen
    → step number present seen st ≡ and_then (effect present s st) (λ after. Ok (done_by number present s st after))
step_seen alike number present s seen st whole swept is = ap (λ (z : State). step number present z st) (sym is) ∙ alike number present s st whole swept

advanced_by : (x : Stepped) (number : ℕ) (present : List Bool) (st : StatementTree) (old new : Scope) (left seen : State) (o n : List ℕ) (news : News)
    → StepsAlike → OnlyAssignmentsTell → IsWhole (machine old) → IsSwept (machine old) → tidy left ≡ tidy (machine new) → tidy (machine old) ≡ seen
    → effect present (machine old) st ≡ x → Prints x (machine new) o n → IsNewsOf st (notices number old.arrays.world new.arrays.world new.watches) news
    → HasAdvanced number present seen (tidy left) st o n news
advanced_by (Err e) number present st old new left seen o n news alike only whole swept gone is effect_is ran told = absurd ran
advanced_by (Ok (s, t)) number present st old new left seen o n news alike only whole swept gone is effect_is ran told = record {
  done = done_by number present (machine old) st (s, t);
  is = step_seen alike number present (machine old) seen st whole swept is ∙ ap (λ (y : Stepped). and_then y (λ after. Ok (done_by number present (machine old) st after))) effect_is;
  state = gone ∙ ap tidy ran.0;
  printed = ran.1;
  left = refl;
  news_of = subst (λ (z : State). IsNewsOf st (notices number old.arrays.world z.arrays.world z.watches) news) ran.0 told;
  quiet = λ other. only number present (machine old) st (s, t) whole other effect_is;
}

pub advanced : (r : Result News ScopeFault) (number : ℕ) (present : List Bool) (st : StatementTree) (old new : Scope) (left seen : State) (o n : List ℕ)
    → StepsAlike → OnlyAssignmentsTell → IsWhole (machine old) → IsSwept (machine old) → tidy left ≡ tidy (machine new) → tidy (machine old) ≡ seen
    → Runs (effect present (machine old) st) old new o n r → IfOk r (IsNewsOf st (notices number old.arrays.world new.arrays.world new.watches))
    → IfOk r (HasAdvanced number present seen (tidy left) st o n)
advanced (Err e) number present st old new left seen o n alike only whole swept gone is ran told = tt
advanced (Ok news) number present st old new left seen o n alike only whole swept gone is ran told =
    advanced_by (effect present (machine old) st) number present st old new left seen o n news alike only whole swept gone is refl ran told

pub advance_refused : (r : Result News ScopeFault) (number : ℕ) (present : List Bool) (st : StatementTree) (old new : Scope) (seen : State) (o n : List ℕ)
    → StepsAlike → IsWhole (machine old) → IsSwept (machine old) → tidy (machine old) ≡ seen
    → Runs (effect present (machine old) st) old new o n r → IfErr r (IsFault (step number present seen st))
advance_refused (Ok news) number present st old new seen o n alike whole swept is ran = tt
advance_refused (Err e) number present st old new seen o n alike whole swept is ran =
    subst (λ (y : Result Done Fault). IsFault y e) (sym (step_seen alike number present (machine old) seen st whole swept is))
    (first_fault (effect present (machine old) st) (λ after. Ok (done_by number present (machine old) st after)) e ran.0)
