use Rattle.std.proofs.Common.{◌≡◌, ◌+◌, ◌≤◌, true, false, ℕ, length, Vec, Global, sym, ap, ap₂, subst, ◌∙◌}
use Rattle.std.specs.Prelude.{nat_lt, is_some, sum_by}
use Rattle.std.specs.List.{list_any}
use Rattle.pdl_machine.specs.Dumps.{dumped, names_wanted}
use Rattle.pdl_machine.specs.Flows.{Flows}
use Rattle.pdl_machine.specs.Names.{names_limit}
use Rattle.pdl_machine.specs.State.{State}
use Rattle.pdl_scope.specs.Answers.{AnswersAs}
use Rattle.pdl_scope.specs.Dumping.{dump_steps, is_refused_unread}
use Rattle.pdl_scope.specs.Scope.{Scope as Seen, engine_of, machine, names_in, state_in}
use Rattle.pdl_scope.proofs.DumpingCosts.{not_any}
use Rattle.pdl_scope.proofs.DumpingLemmas.{dumped_as}
use Rattle.pdl_scope.proofs.scope.Scope.dump.Goals as goal

pub returns-clause-text : goal.returns-clause-text
returns-clause-text g c =
    let names = names_in c.self.inside.names.entries c.self.inside.kernels in
    let s : State = state_in names c.self.inside.watches.items c.self.inside.flows.items c.self.inside.engine in
    subst (λ (t : State). AnswersAs {T = Vec ℕ Global} (λ text. text.items) (dumped t) c.dump_text.result) (ap machine c.self.view_is)
    (dumped_as {T = Vec ℕ Global} (λ text. text.items) s c.is_any_attached.result c.are_too_many.result c.dump_text.result
    (c.is_any_attached.ensures ∙ ap (list_any is_some) c.deref.ensures.value) c.if-is_any_attached.false (sym (c.is_any_flow.ensures ∙ ap (λ (fs : Flows). nat_lt 0 (length fs)) c.deref-2.ensures.value) ∙ c.if-is_any_flow.false)
    (c.are_too_many.ensures ∙ ap₂ (λ (a n : ℕ). nat_lt names_limit (a + n + 1)) c.live.ensures c.len.ensures) c.if-are_too_many.false c.dump_text.ensures.text)

pub returns-clause-counted : goal.returns-clause-counted
returns-clause-counted g c =
    let P : Seen → Type 0 = λ s. c.dump_text.new.steps ≤ c.args.steps.now + sum_by (dump_steps (engine_of s)) (engine_of s).world in
    subst P c.self.view_is c.dump_text.ensures.counted

pub returns-clause-unmoved : goal.returns-clause-unmoved
returns-clause-unmoved g c = λ unread.
    let names = names_in c.self.inside.names.entries c.self.inside.kernels in
    let s : State = state_in names c.self.inside.watches.items c.self.inside.flows.items c.self.inside.engine in
    let none : list_any is_some s.watches ≡ false = sym (c.is_any_attached.ensures ∙ ap (list_any is_some) c.deref.ensures.value) ∙ c.if-is_any_attached.false in
    let few : nat_lt names_limit (names_wanted s) ≡ false =
    sym (c.are_too_many.ensures ∙ ap₂ (λ (a n : ℕ). nat_lt names_limit (a + n + 1)) c.live.ensures c.len.ensures) ∙ c.if-are_too_many.false in
    let P : State → Type 0 = λ t. is_refused_unread t ≡ true in
    absurd (not_any (list_any is_some s.watches) (nat_lt 0 (length s.flows)) (nat_lt names_limit (names_wanted s)) none (sym (c.is_any_flow.ensures ∙ ap (λ (fs : Flows). nat_lt 0 (length fs)) c.deref-2.ensures.value) ∙ c.if-is_any_flow.false) few (subst P (sym (ap machine c.self.view_is)) unread))
