use Rattle.std.proofs.Common.{◌≡◌, ℕ, ◌+◌, ◌≤◌, List, [], ◌∷◌, Ok, arith, sym, ap, subst, ◌∙◌}
use Rattle.pdl_syntax.specs.declared.tree.Arg.{Arg}
use Rattle.pdl_syntax.specs.Tree.{Args, call, none, value}
use Rattle.pdl_syntax.specs.StatementTree.{view_of}
use Rattle.pdl_syntax.specs.TreeOf.{args_of}
use Rattle.pdl_machine.specs.Outcome.{Valued}
use Rattle.pdl_machine.specs.Calls.{call_value}
use Rattle.pdl_machine.specs.Step.{behind}
use Rattle.pdl_machine.specs.Value.{Taken, value_of, taken}
use Rattle.pdl_scope.specs.declared.fault.ScopeFault.TheVariants.{NoMemory}
use Rattle.pdl_scope.specs.Answers.{IsFault, Evaluates}
use Rattle.pdl_engine.specs.State.{ready_steps}
use Rattle.pdl_scope.specs.Costs.{MovesUpTo, total_size}
use Rattle.pdl_scope.specs.Scope.{engine_of}
use Rattle.pdl_session.specs.declared.given.Given.{Given}
use Rattle.pdl_session.specs.declared.given.Given.TheVariants.{Array}
use Rattle.pdl_session.specs.Arguments.{arguments}
use Rattle.pdl_session.specs.Costs.{EvaluatesWithin, argued_steps, ready_all}
use Rattle.pdl_session.specs.Came.{args_evaluated, args_left, came, evaluated, parts_left}
use Rattle.pdl_session.proofs.CostExpressions.{paid_on, pays_fault}
use Rattle.pdl_session.proofs.CameGained.{call_part, called_part, size_in}
use Rattle.pdl_session.proofs.ArgumentEvals.{call_is}
use Rattle.pdl_session.proofs.ScopeFacts.{hands_on, first_fault}
use Rattle.pdl_session.proofs.ArgumentTargets.{behind_args, called, first_taken}
use Rattle.pdl_session.proofs.target.call_on.Goals as goal

pub returns-in_err-given-clause-value : goal.returns-in_err-given-clause-value
returns-in_err-given-clause-value g c = λ a of h.
    let names = c.args.scope.now.names in
    let xs = c.args.view.now.args.items in
    let f = c.in_err-given.field-0.0 in
    let behind_is : args_of c.deref.result.now (value none of) ≡ behind of (args_of xs none) = ap (λ (ys : List Arg). args_of ys (value none of)) c.deref.ensures.value ∙ sym (behind_args of xs none) in
    let all : IsFault (taken names a (behind of (args_of xs none))) f = subst (λ (args : Args). IsFault (taken names a args) f) behind_is
    (c.in_err-given.ensures.value a (value none of) (first_taken names a c.args.scope.now.arrays of c.args.id c.in_ok-first.first.items h c.in_ok-first.ensures.items)) in
    hands_on _ c.take.new.scope f c.from_residual-in_err-given.result c.from_residual-in_err-given.ensures.1
    (first_fault (taken names a (behind of (args_of xs none))) (λ t. call_value names c.args.view.now.method t.0 t.1) f all)

pub returns-clause-value : goal.returns-clause-value
returns-clause-value g c = λ a of h.
    let names = c.args.scope.now.names in
    let xs = c.args.view.now.args.items in
    let given = arguments c.in_ok-given.given.items in
    let behind_is : args_of c.deref.result.now (value none of) ≡ behind of (args_of xs none) = ap (λ (ys : List Arg). args_of ys (value none of)) c.deref.ensures.value ∙ sym (behind_args of xs none) in
    let all : taken names a (behind of (args_of xs none)) ≡ Ok (c.take.new.scope.arrays, given) = subst (λ (args : Args). taken names a args ≡ Ok (c.take.new.scope.arrays, given)) behind_is
    (c.in_ok-given.ensures.value a (value none of) (first_taken names a c.args.scope.now.arrays of c.args.id c.in_ok-first.first.items h c.in_ok-first.ensures.items)) in
    let v : value_of names a (call c.args.view.now.method (behind of (args_of xs none))) ≡ call_value c.take.new.scope.names c.args.view.now.method c.take.new.scope.arrays (arguments c.deref-2.result.now) =
    call_is names c.take.new.scope.names a c.take.new.scope.arrays c.args.view.now.method (behind of (args_of xs none)) given (arguments c.deref-2.result.now) all (ap arguments c.deref-2.ensures.value) c.take.ensures.grown.names in
    subst (λ (x : Valued). Evaluates x c.call.new.scope c.call.result) (sym v) c.call.ensures.value

pub returns-in_err-first-clause-within : goal.returns-in_err-first-clause-within
returns-in_err-first-clause-within g c = λ a of h.
    let s = c.args.scope.now in
    let tree = called of (view_of c.args.view.now) in
    let part = called_part s.names a of (view_of c.args.view.now) in
    let first : size_in (evaluated s.names a of) ≡ size_in s.arrays = ap (λ (v : Valued). size_in (came v (parts_left s.names a of))) h in
    pays_fault (ready_steps (engine_of s)) (argued_steps s (view_of c.args.view.now).1 + ready_steps (engine_of s) c.args.id) s s (evaluated s.names a tree) c.args.steps.now c.args.steps.now NoMemory c.from_residual.result c.from_residual.ensures.1
    (omega (arith, part, first))

pub returns-in_err-given-clause-within : goal.returns-in_err-given-clause-within
returns-in_err-given-clause-within g c = λ a of h.
    let s = c.args.scope.now in
    let v = c.args.id in
    let xs = c.args.view.now.args.items in
    let new = c.take.new.scope in
    let args = behind of (args_of xs none) in
    let f = c.args.view.now.method in
    let behind_is : args_of c.deref.result.now (value none of) ≡ args = ap (λ (ys : List Arg). args_of ys (value none of)) c.deref.ensures.value ∙ sym (behind_args of xs none) in
    let before = first_taken s.names a s.arrays of v c.in_ok-first.first.items h c.in_ok-first.ensures.items in
    let most : List Arg → List Given → ℕ = λ ys gs. argued_steps s (args_of ys none) + ready_all s gs in
    let L : Args → Type 0 = λ ys. MovesUpTo (most c.deref.result.now c.in_ok-first.first.items) s (args_evaluated s.names a ys) c.args.steps.now c.take.new.steps in
    let P : List Arg → List Given → Type 0 = λ ys gs. MovesUpTo (most ys gs) s (args_evaluated s.names a args) c.args.steps.now c.take.new.steps in
    let given : P c.deref.result.now c.in_ok-first.first.items = subst L behind_is (c.in_err-given.ensures.within a (value none of) before) in
    let alone : P xs (Array v ∷ []) = subst (λ ys. P ys (Array v ∷ [])) c.deref.ensures.value (subst (P c.deref.result.now) c.in_ok-first.ensures.items given) in
    let part = call_part s.names a f args in
    pays_fault (ready_steps (engine_of new)) (argued_steps s (args_of xs none) + ready_steps (engine_of s) v) s new (evaluated s.names a (call f args)) c.args.steps.now c.take.new.steps c.in_err-given.field-0.0 c.from_residual-in_err-given.result c.from_residual-in_err-given.ensures.1
    (omega (arith, alone, part))

pub returns-clause-within : goal.returns-clause-within
returns-clause-within g c = λ a of h.
    let s = c.args.scope.now in
    let v = c.args.id in
    let xs = c.args.view.now.args.items in
    let mid = c.take.new.scope in
    let new = c.call.new.scope in
    let gs = c.in_ok-given.given.items in
    let f = c.args.view.now.method in
    let items = arguments c.deref-2.result.now in
    let G : List Arg → List Given → Type 0 = λ ys hs. c.take.new.steps + ready_all mid gs + total_size s.arrays.world ≤ c.args.steps.now + total_size mid.arrays.world + (argued_steps s (args_of ys none) + ready_all s hs) in
    let args = behind of (args_of xs none) in
    let behind_is : args_of c.deref.result.now (value none of) ≡ args = ap (λ (ys : List Arg). args_of ys (value none of)) c.deref.ensures.value ∙ sym (behind_args of xs none) in
    let before = first_taken s.names a s.arrays of v c.in_ok-first.first.items h c.in_ok-first.ensures.items in
    let all : taken s.names a args ≡ Ok (mid.arrays, arguments gs) = subst (λ (ys : Args). taken s.names a ys ≡ Ok (mid.arrays, arguments gs)) behind_is (c.in_ok-given.ensures.value a (value none of) before) in
    let given : G xs (Array v ∷ []) = subst (λ ys. G ys (Array v ∷ [])) c.deref.ensures.value (subst (G c.deref.result.now) c.in_ok-first.ensures.items (c.in_ok-given.ensures.within a (value none of) before)) in
    let part = came (call_value mid.names f mid.arrays items) mid.arrays in
    let H : List Given → Type 0 = λ hs. EvaluatesWithin (ready_all mid hs) mid new part c.take.new.steps c.call.new.steps c.call.result in
    let called : H gs = subst H c.deref-2.ensures.value c.call.ensures.within in
    let most = argued_steps s (args_of xs none) + ready_steps (engine_of s) v in
    let value = call_is s.names mid.names a mid.arrays f args (arguments gs) items all (ap arguments c.deref-2.ensures.value) c.take.ensures.grown.names in
    let late = evaluated s.names a (call f args) in
    let size : size_in late ≡ size_in part =
    ap (λ (y : Valued). size_in (came y (parts_left s.names a (call f args)))) value ∙ ap (λ (y : Taken). size_in (came (call_value mid.names f mid.arrays items) (came y (args_left s.names a args)))) all in
    paid_on (ready_steps (engine_of new)) (ready_all mid gs) most s mid new part late c.args.steps.now c.take.new.steps c.call.new.steps c.call.result (omega (arith, given)) (omega (arith, size)) called
