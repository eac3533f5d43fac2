use Rattle.std.proofs.Common.{◌≡◌, ◌+◌, ◌≤◌, ◌++◌, [], ℕ, List, length, sym, ap, subst, ◌∙◌, arith}
use Rattle.std.proofs.lemmas.List.{append-nil}
use Rattle.std.proofs.lemmas.Option.{slice_get_within}
use Rattle.pdl_flow.specs.Formula.{arrays_in}
use Rattle.pdl_machine.specs.Flows.{Flow, Flows, without_flow}
use Rattle.pdl_scope.specs.Flowing.{HasRootAt, read_by}
use Rattle.pdl_scope.proofs.FlowingEnds.{ended_at, none_ended, same_place}
use Rattle.pdl_scope.proofs.flowing.end_flow.Goals as goal

pub note_all-requires : goal.note_all-requires
note_all-requires c =
    let fs = c.args.flows.now.items in
    let H : Flows → Type 0 = λ gs. HasRootAt gs c.args.root c.in-Some.place in
    let at = subst H c.deref.ensures.value c.in-Some.ensures.here in
    let ended = ended_at fs c.in-Some.place c.args.root at.flow c.requires.rising at.is at.root in
    let same : at.flow ≡ c.remove-flow.result = same_place fs c.in-Some.place at.flow c.remove-flow.result (slice_get_within fs c.in-Some.place at.flow at.is) at.is c.remove-flow.ensures.value in
    let read : length c.reads.result.now ≡ length (read_by fs c.args.root) = ap length (c.reads.ensures ∙ ap (λ (f : Flow). arrays_in f.formula) (sym same) ∙ sym ended.1) in
    omega (arith, read, c.requires.room)

pub returns-in-Some-clause-flows : goal.returns-in-Some-clause-flows
returns-in-Some-clause-flows c =
    let fs = c.args.flows.now.items in
    let H : Flows → Type 0 = λ gs. HasRootAt gs c.args.root c.in-Some.place in
    let at = subst H c.deref.ensures.value c.in-Some.ensures.here in
    let ended = ended_at fs c.in-Some.place c.args.root at.flow c.requires.rising at.is at.root in
    c.remove-flow.ensures.by_index.2 ∙ sym ended.0

pub returns-in-Some-clause-leaving : goal.returns-in-Some-clause-leaving
returns-in-Some-clause-leaving c =
    let fs = c.args.flows.now.items in
    let H : Flows → Type 0 = λ gs. HasRootAt gs c.args.root c.in-Some.place in
    let at = subst H c.deref.ensures.value c.in-Some.ensures.here in
    let ended = ended_at fs c.in-Some.place c.args.root at.flow c.requires.rising at.is at.root in
    let same : at.flow ≡ c.remove-flow.result = same_place fs c.in-Some.place at.flow c.remove-flow.result (slice_get_within fs c.in-Some.place at.flow at.is) at.is c.remove-flow.ensures.value in
    c.note_all.ensures.items ∙ ap (λ (ks : List ℕ). c.args.leaving.now.items ++ ks) (c.reads.ensures ∙ ap (λ (f : Flow). arrays_in f.formula) (sym same) ∙ sym ended.1)

pub returns-in-None-clause-flows : goal.returns-in-None-clause-flows
returns-in-None-clause-flows c =
    let none = none_ended c.deref.result.now c.args.root c.in-None.ensures.none in
    sym (ap (λ (fs : Flows). without_flow fs c.args.root) (sym c.deref.ensures.value) ∙ none.0 ∙ c.deref.ensures.value)

pub returns-in-None-clause-leaving : goal.returns-in-None-clause-leaving
returns-in-None-clause-leaving c =
    let none = none_ended c.deref.result.now c.args.root c.in-None.ensures.none in
    let leaving = c.args.leaving.now.items in
    sym (ap (λ (ks : List ℕ). leaving ++ ks) (ap (λ (fs : Flows). read_by fs c.args.root) (sym c.deref.ensures.value) ∙ none.1) ∙ append-nil leaving)
