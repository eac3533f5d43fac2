use Rattle.std.proofs.Common.{◌≡◌, ℤ, Bool, true, false, cond, List, Result, Some, None, refl, sym, ap₂, subst}
use Rattle.std.specs.Prelude.{◌&&◌, IfOk}
use Rattle.pdl_buf.specs.Window.{Window}
use Rattle.pdl_buf.specs.declared.made.Made.{Made}
use Rattle.pdl_buf.specs.Made.{IsMade, array_of}
use Rattle.pdl_engine.specs.State.{is_fresh, shown_in}
use Rattle.pdl_ops.specs.Elementwise.{OpRefusal}
use Rattle.pdl_ops.specs.Values.{values_for}
use Rattle.pdl_machine.specs.Refused.{operator_fault, or_named}
use Rattle.pdl_scope.specs.declared.fault.ScopeFault.{ScopeFault}
use Rattle.pdl_scope.specs.Answers.{Answers}
use Rattle.pdl_scope.specs.Scope.{arrays_of}
use Rattle.pdl_scope.proofs.FaultLemmas.{answers_named, holds_named}
use Rattle.pdl_scope.proofs.ScopeReductions.{two_lent}
use Rattle.pdl_scope.proofs.assigning.written_at_once.Goals as goal

-- what is lent is what is shown
lent_is : (b : Bool) (w x : Window) → Some w ≡ cond b (Some x) None → w ≡ x
lent_is true w x e = cc
lent_is false w x e = absurd (cc)

-- and it can be lent
can_lend : (b : Bool) (w x : Window) → Some w ≡ cond b (Some x) None → b ≡ true
can_lend true w x e = refl
can_lend false w x e = absurd (cc)

pub returns-clause-fresh : goal.returns-clause-fresh
returns-clause-fresh c =
    let e = c.args.engine.now in
    let left = can_lend (is_fresh e c.args.target) c.in_ok-into.into (shown_in e c.args.target) c.in_ok-into.ensures in
    let right = can_lend (is_fresh e c.args.value) c.in_ok-from.from (shown_in e c.args.value) c.in_ok-from.ensures in
    sym (ap₂ (λ (a b : Bool). a && b) left right)

pub returns-clause-value : goal.returns-clause-value
returns-clause-value c =
    let e = c.args.engine.now in
    let into = lent_is (is_fresh e c.args.target) c.in_ok-into.into (shown_in e c.args.target) c.in_ok-into.ensures in
    let from = lent_is (is_fresh e c.args.value) c.in_ok-from.from (shown_in e c.args.value) c.in_ok-from.ensures in
    let f : Made → Made → Result (List ℤ) OpRefusal = values_for c.args.sign in
    let wanted : Result (List ℤ) OpRefusal = f (array_of c.in_ok-into.into) (array_of c.in_ok-from.from) in
    let R : Result (List ℤ) ScopeFault → Type 0 = λ r. Answers (or_named operator_fault wanted) r in
    let P : Result (List ℤ) OpRefusal → Type 0 = λ w. Answers (or_named operator_fault w) c.operator_named.result in
    subst P (sym (two_lent f (arrays_of e) c.args.target c.args.value e c.in_ok-into.into c.in_ok-from.from refl into from))
    (subst R (sym c.operator_named.ensures) (answers_named (λ (vs : List ℤ). vs) wanted c.values_for.result c.values_for.ensures.value))

pub returns-clause-made : goal.returns-clause-made
returns-clause-made c =
    let e = c.args.engine.now in
    let into = lent_is (is_fresh e c.args.target) c.in_ok-into.into (shown_in e c.args.target) c.in_ok-into.ensures in
    let M : Window → List ℤ → Type 0 = λ w vs. IsMade w.ty w.dims vs in
    let R : Result (List ℤ) ScopeFault → Type 0 = λ r. IfOk r (M c.in_ok-into.into) in
    let W : Window → Type 0 = λ w. IfOk c.operator_named.result (M w) in
    subst W into (subst R (sym c.operator_named.ensures) (holds_named (M c.in_ok-into.into) c.values_for.result c.values_for.ensures.made))
