use Rattle.std.proofs.Common.{◌≡◌, ◌+◌, ◌≤◌, ap, subst, ◌∙◌}
use Rattle.pdl_numbers.specs.Typed.{count_moved}
use Rattle.pdl_buf.specs.declared.made.Made.{Made}
use Rattle.pdl_buf.specs.Made.{array_of}
use Rattle.pdl_ops.specs.Elementwise.{unary_each}
use Rattle.pdl_engine.specs.Reading.{read_steps}
use Rattle.pdl_machine.specs.Arrays.{Arrays, array_in}
use Rattle.pdl_scope.specs.Scope.{arrays_of, engine_of, Scope as Seen}
use Rattle.pdl_scope.proofs.CostLemmas.{read_and_made}
use Rattle.pdl_scope.proofs.ScopeGrowing.{readied_arrays}
use Rattle.pdl_scope.proofs.scope.Scope.unary.Goals as goal

pub returns-clause-counted : goal.returns-clause-counted
returns-clause-counted g c =
    let e = c.self.inside.engine in
    let t = c.ready.new.engine in
    let wanted : Arrays → Made = λ b. unary_each c.args.op (array_in b c.args.id) in
    let is : c.in_ok-made.made ≡ wanted (arrays_of e) =
    c.in_ok-made.ensures.value ∙ ap (λ w. unary_each c.args.op (array_of w)) c.lend.ensures ∙ ap wanted (readied_arrays e t c.ready.ensures.same) in
    let P : Seen → Type 0 = λ s. c.adopt.new.steps ≤ c.args.steps.now + (read_steps (engine_of s) c.args.id + count_moved (wanted s.arrays).elems) in
    subst P c.self.view_is
    (read_and_made c.args.steps.now c.ready.new.steps c.adopt.new.steps _ _ _ c.ready.ensures.counted c.adopt.ensures.counted (ap (λ (m : Made). count_moved m.elems) is))
