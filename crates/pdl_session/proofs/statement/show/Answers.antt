use Rattle.std.proofs.Common.{ℕ, [], Ok}
use Rattle.pdl_machine.specs.Arrays.{Arrays}
use Rattle.pdl_machine.specs.Step.{Stepped, after_printing}
use Rattle.pdl_machine.specs.Then.{and_then}
use Rattle.pdl_scope.specs.Scope.{machine}
use Rattle.pdl_session.proofs.ScopeFacts.{ends_at, first_fault}
use Rattle.pdl_scope.specs.Growth.{grows_trans, reads_grow}
use Rattle.pdl_session.proofs.PerformedStatements.{silent, falls_short}
use Rattle.pdl_syntax.specs.TreeOf.{tree_of}
use Rattle.pdl_session.proofs.BoundLemmas.{unshown_plainly}
use Rattle.pdl_session.specs.Costs.{named_steps}
use Rattle.pdl_machine.specs.Value.{value_of}
use Rattle.pdl_session.specs.Came.{parts_left}
use Rattle.pdl_session.proofs.MoveLemmas.{shown_within}
use Rattle.pdl_session.proofs.statement.show.Goals as goal

pub returns-in_err-id-clause-moves : goal.returns-in_err-id-clause-moves
returns-in_err-id-clause-moves g c =
    unshown_plainly (tree_of c.args.value.now) c.args.info c.args.scope.now c.eval.new.scope c.args.steps.now c.eval.new.steps c.eval.result c.eval.ensures.plain

pub returns-in_err-id-clause-performs : goal.returns-in_err-id-clause-performs
returns-in_err-id-clause-performs g c =
    let s = c.args.scope.now in
    let new = c.eval.new.scope in
    let f = c.in_err-id.field-0.0 in
    let valued = value_of s.names s.arrays (tree_of c.args.value.now) in
    let printed : Arrays × ℕ → Stepped = λ v. Ok (after_printing (machine s) c.args.info v) in
    silent c.from_residual.result (and_then valued printed) s new c.args.out.now.items
    (ends_at (and_then valued printed) s new [] f c.from_residual.result c.from_residual.ensures.1 (first_fault valued printed f c.in_err-id.ensures.value) c.eval.ensures.grown)

pub returns-clause-within : goal.returns-clause-within
returns-clause-within g c =
    let s = c.args.scope.now in
    let tree = tree_of c.args.value.now in
    shown_within s c.eval.new.scope (value_of s.names s.arrays tree) (parts_left s.names s.arrays tree) (named_steps s tree) c.args.steps.now c.eval.new.steps c.print.new.steps c.in_ok-id.id c.in_ok-id.ensures.value.0 c.in_ok-id.ensures.within c.print.ensures.counted

pub returns-in_err-id-clause-within : goal.returns-in_err-id-clause-within
returns-in_err-id-clause-within g c = c.in_err-id.ensures.within

pub returns-in_err-print-clause-within : goal.returns-in_err-print-clause-within
returns-in_err-print-clause-within g c =
    let s = c.args.scope.now in
    let tree = tree_of c.args.value.now in
    shown_within s c.eval.new.scope (value_of s.names s.arrays tree) (parts_left s.names s.arrays tree) (named_steps s tree) c.args.steps.now c.eval.new.steps c.print.new.steps c.in_ok-id.id c.in_ok-id.ensures.value.0 c.in_ok-id.ensures.within c.print.ensures.counted

pub returns-in_err-print-clause-performs : goal.returns-in_err-print-clause-performs
returns-in_err-print-clause-performs g c =
    falls_short _ _ _ _ _ _ c.from_residual-in_err-print.ensures.1
    (grows_trans _ _ _ c.eval.ensures.grown (reads_grow _ _ c.print.ensures.same)) c.print.ensures.front
