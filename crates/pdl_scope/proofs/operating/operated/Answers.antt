use Rattle.std.proofs.Common.{Result, refl, sym, subst}
use Rattle.std.specs.Prelude.{IfOk}
use Rattle.pdl_buf.specs.declared.made.Made.{Made}
use Rattle.pdl_buf.specs.Made.{IsMade, array_of}
use Rattle.pdl_ops.specs.Elementwise.{OpRefusal, elementwise}
use Rattle.pdl_machine.specs.Refused.{operator_fault, or_named}
use Rattle.pdl_scope.specs.declared.fault.ScopeFault.{ScopeFault}
use Rattle.pdl_scope.specs.Answers.{Answers}
use Rattle.pdl_scope.specs.Scope.{arrays_of}
use Rattle.pdl_scope.proofs.FaultLemmas.{answers_named, holds_named}
use Rattle.pdl_scope.proofs.ScopeReductions.{two_lent}
use Rattle.pdl_scope.proofs.operating.operated.Goals as goal

pub returns-clause-value : goal.returns-clause-value
returns-clause-value c =
    let e = c.args.engine.now in
    let f : Made → Made → Result Made OpRefusal = elementwise c.args.op in
    let wanted : Result Made OpRefusal = f (array_of c.lend.result) (array_of c.lend-2.result) in
    let R : Result Made ScopeFault → Type 0 = λ r. Answers (or_named operator_fault wanted) r in
    let P : Result Made OpRefusal → Type 0 = λ w. Answers (or_named operator_fault w) c.operator_named.result in
    subst P (sym (two_lent f (arrays_of e) c.args.left c.args.right e c.lend.result c.lend-2.result refl c.lend.ensures c.lend-2.ensures))
    (subst R (sym c.operator_named.ensures) (answers_named (λ (m : Made). m) wanted c.elementwise-3.result c.elementwise-3.ensures.value))

pub returns-clause-made : goal.returns-clause-made
returns-clause-made c =
    let M : Made → Type 0 = λ m. IsMade m.ty m.dims m.elems in
    let R : Result Made ScopeFault → Type 0 = λ r. IfOk r M in
    subst R (sym c.operator_named.ensures) (holds_named M c.elementwise-3.result c.elementwise-3.ensures.made)
