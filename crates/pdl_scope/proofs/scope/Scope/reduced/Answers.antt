use Rattle.std.proofs.Common.{◌≡◌, ◌+◌, ◌≤◌, Result, sym, ap, subst, ◌∙◌}
use Rattle.pdl_buf.specs.declared.made.Made.{Made}
use Rattle.pdl_buf.specs.Made.{array_of}
use Rattle.pdl_reduce.specs.Refusals.{ReduceRefusal}
use Rattle.pdl_reduce.specs.Reductions.{reduced}
use Rattle.pdl_machine.specs.Refused.{reduce_fault, or_named}
use Rattle.pdl_scope.specs.Answers.{Answers}
use Rattle.pdl_engine.specs.Reading.{read_steps}
use Rattle.pdl_scope.specs.Scope.{arrays_of, engine_of, Scope as Seen}
use Rattle.pdl_scope.proofs.ScopeGrowing.{readied_arrays}
use Rattle.pdl_scope.proofs.ScopeReductions.{one_lent}
use Rattle.pdl_scope.proofs.scope.Scope.reduced.Goals as goal

pub returns-clause-value : goal.returns-clause-value
returns-clause-value g c =
    let f = reduced c.args.kind in
    let e = c.ready.new.engine in
    let a = c.args.self.now.arrays in
    let same : arrays_of e ≡ a = readied_arrays c.self.inside.engine e c.ready.ensures.same ∙ ap (λ (s : Seen). s.arrays) c.self.view_is in
    let P : Result Made ReduceRefusal → Type 0 = λ x. Answers (or_named reduce_fault x) c.named.result in
    subst P (sym (one_lent f a c.args.id e c.lend.result same c.lend.ensures)) (c.named.ensures.value (f (array_of c.lend.result)) c.reduce-2.ensures.value)

pub returns-clause-counted : goal.returns-clause-counted
returns-clause-counted g c =
    let P : Seen → Type 0 = λ s. c.ready.new.steps ≤ c.args.steps.now + read_steps (engine_of s) c.args.id in
    subst P c.self.view_is c.ready.ensures.counted
