use Rattle.std.proofs.Common.{◌≡◌, refl, sym, subst, ap, ◌∙◌, Vec, Global, OnOk, arith}
use Rattle.std.proofs.lemmas.List.{take_all}
use Rattle.std.proofs.lemmas.Result.{err_from_is_err_and}
use Rattle.pdl_code.specs.Tree.{put}
use Rattle.pdl_code.specs.TreeOf.{KernelStmt, code_of, indices_of, step_of, tree_of}
use Rattle.pdl_code.specs.Refused.{scope_after}
use Rattle.pdl_code.specs.Resolving.{Agrees, resolve_code, resolve_step, resolve_tree}
use Rattle.pdl_code.proofs.TreeBlocks.{and_code, choice_err_first, choice_err_second, choice_ok, code_end, code_fault, code_none, code_turn, fronts, loop_ok, loop_err, pass_on, visible}
use Rattle.pdl_code.proofs.TreeRows.{if_tree, loop_tree, same_parts}
use Rattle.pdl_code.proofs.block.+block.Goals as goal

pub stmt-returns-in_ok-code-in-Loop-clause-gives : goal.stmt-returns-in_ok-code-in-Loop-clause-gives
stmt-returns-in_ok-code-in-Loop-clause-gives t c =
    loop_ok c.args.source.now c.args.signature.now c.args.locals.now.items c.args.loops.now c.mark.new.flags _ c.in-Loop.word (code_of c.deref.result.now) c.in_ok-d-in-Loop.d (code_of c.in_ok-code-in-Loop.code.items) (step_of c.loop_stmt.result)
    (loop_tree c.args.raw.now c.in-Loop.word c.in-Loop.body c.deref.result.now c.in-Loop.is c.deref.ensures.value) c.in_ok-d-in-Loop.ensures.known c.in_ok-d-in-Loop.ensures.unmarked c.mark.ensures c.in_ok-code-in-Loop.ensures.gives c.loop_stmt.ensures

pub stmt-returns-in_err-code-in-Loop-clause-gives : goal.stmt-returns-in_err-code-in-Loop-clause-gives
stmt-returns-in_err-code-in-Loop-clause-gives t c =
    let p = err_from_is_err_and c.from_residual-in_err-code-in-Loop.result c.from_residual-in_err-code-in-Loop.ensures.1 in
    rw (p.1, p.2)
    (pass_on (λ (v : Vec KernelStmt Global). code_of v.items) step_of c.in_err-code-in-Loop.field-0.0 _ _
    (loop_err c.args.source.now c.args.signature.now c.args.locals.now.items c.args.loops.now c.mark.new.flags _ c.in-Loop.word (code_of c.deref.result.now) c.in_ok-d-in-Loop.d
    (loop_tree c.args.raw.now c.in-Loop.word c.in-Loop.body c.deref.result.now c.in-Loop.is c.deref.ensures.value) c.in_ok-d-in-Loop.ensures.known c.in_ok-d-in-Loop.ensures.unmarked c.mark.ensures)
    c.in_err-code-in-Loop.ensures.gives)

pub stmt-returns-in_ok-no-in-If-clause-gives : goal.stmt-returns-in_ok-no-in-If-clause-gives
stmt-returns-in_ok-no-in-If-clause-gives t c =
    choice_ok c.args.source.now c.args.signature.now c.args.locals.now.items c.block-in-If.new.locals.items c.args.loops.now _ (tree_of c.in-If.expr) (code_of c.deref-in-If.result.now) (code_of c.deref-in-If-2.result.now) (tree_of c.in_ok-e-in-If.e) (code_of c.in_ok-yes-in-If.yes.items) (code_of c.in_ok-no-in-If.no.items) (step_of c.if_stmt.result)
    (if_tree c.args.raw.now c.in-If.expr c.in-If.whole c.in-If.other c.in-If.is ∙ same_parts (tree_of c.in-If.expr) c.deref-in-If.ensures.value c.deref-in-If-2.ensures.value)
    (ap (λ ls. resolve_tree c.args.source.now c.args.signature.now (visible ls c.args.loops.now) (tree_of c.in-If.expr)) (sym c.as_slice.ensures.value) ∙ c.in_ok-e-in-If.ensures)
    c.in_ok-yes-in-If.ensures.gives
    c.in_ok-yes-in-If.ensures.same
    c.in_ok-no-in-If.ensures.gives
    c.if_stmt.ensures

pub stmt-returns-in_err-no-in-If-clause-gives : goal.stmt-returns-in_err-no-in-If-clause-gives
stmt-returns-in_err-no-in-If-clause-gives t c =
    let p = err_from_is_err_and c.from_residual-in_err-no-in-If.result c.from_residual-in_err-no-in-If.ensures.1 in
    rw (p.1, p.2)
    (pass_on (λ (v : Vec KernelStmt Global). code_of v.items) step_of c.in_err-no-in-If.field-0.0 _ _
    (choice_err_second c.args.source.now c.args.signature.now c.args.locals.now.items c.block-in-If.new.locals.items c.args.loops.now _ (tree_of c.in-If.expr) (code_of c.deref-in-If.result.now) (code_of c.deref-in-If-2.result.now) (tree_of c.in_ok-e-in-If.e) (code_of c.in_ok-yes-in-If.yes.items)
    (if_tree c.args.raw.now c.in-If.expr c.in-If.whole c.in-If.other c.in-If.is ∙ same_parts (tree_of c.in-If.expr) c.deref-in-If.ensures.value c.deref-in-If-2.ensures.value)
    (ap (λ ls. resolve_tree c.args.source.now c.args.signature.now (visible ls c.args.loops.now) (tree_of c.in-If.expr)) (sym c.as_slice.ensures.value) ∙ c.in_ok-e-in-If.ensures) c.in_ok-yes-in-If.ensures.gives c.in_ok-yes-in-If.ensures.same)
    c.in_err-no-in-If.ensures.gives)

pub stmt-returns-in_err-yes-in-If-clause-gives : goal.stmt-returns-in_err-yes-in-If-clause-gives
stmt-returns-in_err-yes-in-If-clause-gives t c =
    let p = err_from_is_err_and c.from_residual-in_err-yes-in-If.result c.from_residual-in_err-yes-in-If.ensures.1 in
    rw (p.1, p.2)
    (pass_on (λ (v : Vec KernelStmt Global). code_of v.items) step_of c.in_err-yes-in-If.field-0.0 _ _
    (choice_err_first c.args.source.now c.args.signature.now c.args.locals.now.items c.args.loops.now _ (tree_of c.in-If.expr) (code_of c.deref-in-If.result.now) (code_of c.in-If.other.items) (tree_of c.in_ok-e-in-If.e)
    (if_tree c.args.raw.now c.in-If.expr c.in-If.whole c.in-If.other c.in-If.is ∙ same_parts (tree_of c.in-If.expr) c.deref-in-If.ensures.value refl)
    (ap (λ ls. resolve_tree c.args.source.now c.args.signature.now (visible ls c.args.loops.now) (tree_of c.in-If.expr)) (sym c.as_slice.ensures.value) ∙ c.in_ok-e-in-If.ensures))
    c.in_err-yes-in-If.ensures.gives)

pub block-loop-one-preserved : goal.block-loop-one-preserved
block-loop-one-preserved t c =
    let old = c.loop-one.invariant.fronts in
    let grown = fronts _ c.loop-one.locals.items c.stmt.new.locals.items c.args.loops.now (step_of c.one-item.result) old.count c.in-Ok.ensures.after in
    record {
      rest = code_turn c.args.source.now c.args.signature.now (visible c.loop-one.locals.items c.args.loops.now) (visible c.stmt.new.locals.items c.args.loops.now) c.args.raw.now c.loop-one.one-index c.one-item.result (code_of c.loop-one.code.items) (code_of c.in-Ok-with_stmt.more.items) (step_of c.in-Ok.s)
          c.loop-one-test.true c.one-item.is c.in-Ok.ensures.after c.in-Ok.ensures.gives c.in-Ok-with_stmt.ensures
          ∙ c.loop-one.invariant.rest;
      fronts = record { same = grown.same ∙ old.same; count = grown.count };
    }

pub block-returns-clause-gives : goal.block-returns-clause-gives
block-returns-clause-gives t c =
    code_end c.args.source.now c.args.signature.now (visible c.loop-one.locals.items c.args.loops.now) c.args.raw.now c.loop-one.one-index (code_of c.loop-one.code.items) _ c.loop-one-test.false c.loop-one.invariant.rest

pub block-loop-one-init : goal.block-loop-one-init
block-loop-one-init t c =
    record {
      rest = ap (λ xs. and_code (code_of xs) (resolve_code c.args.source.now c.args.signature.now (visible c.args.locals.now.items c.args.loops.now) (code_of c.args.raw.now))) c.new-code.ensures.items ∙ code_none _;
      fronts = record { same = refl; count = omega arith };
    }

pub block-returns-in-Err-clause-gives : goal.block-returns-in-Err-clause-gives
block-returns-in-Err-clause-gives t c =
    pass_on step_of (λ (v : Vec KernelStmt Global). code_of v.items) c.in-Err.fault _ _
    (λ x err. code_fault c.args.source.now c.args.signature.now (visible c.loop-one.locals.items c.args.loops.now) c.args.raw.now c.loop-one.one-index c.one-item.result (code_of c.loop-one.code.items) _ x c.loop-one-test.true c.one-item.is c.loop-one.invariant.rest err)
    c.in-Err.ensures.gives

pub block-returns-clause-same : goal.block-returns-clause-same
block-returns-clause-same t c =
    c.cut.ensures ∙ c.loop-one.invariant.fronts.same ∙ take_all c.len-count.result c.args.locals.now.items (omega arith)

pub stmt-returns-in-Keep-clause-gives : goal.stmt-returns-in-Keep-clause-gives
stmt-returns-in-Keep-clause-gives t c =
    subst (λ raw. Agrees step_of c.store.result (resolve_step c.args.source.now c.args.signature.now (visible c.args.locals.now.items c.args.loops.now) (step_of raw))) (sym c.in-Keep.is) c.store.ensures.gives

pub stmt-returns-in-Keep-clause-after : goal.stmt-returns-in-Keep-clause-after
stmt-returns-in-Keep-clause-after t c =
    subst (λ raw. OnOk c.store.result (visible c.store.new.locals.items c.args.loops.now ≡ scope_after (visible c.args.locals.now.items c.args.loops.now) (step_of raw))) (sym c.in-Keep.is) c.store.ensures.after

pub stmt-returns-in-Put-clause-gives : goal.stmt-returns-in-Put-clause-gives
stmt-returns-in-Put-clause-gives t c =
    subst (λ raw. Agrees step_of c.access_assignment.result (resolve_step c.args.source.now c.args.signature.now (visible c.args.locals.now.items c.args.loops.now) (step_of raw))) (sym c.in-Put.is)
    (subst (λ gs. Agrees step_of c.access_assignment.result (resolve_step c.args.source.now c.args.signature.now (visible c.args.locals.now.items c.args.loops.now) (put c.in-Put.called (indices_of gs) c.in-Put.op (tree_of c.in-Put.expr)))) c.deref-in-Put.ensures.value
    (subst (λ ls. Agrees step_of c.access_assignment.result (resolve_step c.args.source.now c.args.signature.now (visible ls c.args.loops.now) (put c.in-Put.called (indices_of c.deref-in-Put.result.now) c.in-Put.op (tree_of c.in-Put.expr)))) c.as_slice-seen.ensures.value c.access_assignment.ensures))
