use Rattle.std.proofs.Common.{◌≡◌, ℕ, length, refl, sym, ap, ◌∙◌, subst, arith, Ok}
use Rattle.std.proofs.lemmas.List.{take_all}
use Rattle.std.specs.Prelude.{max}
use Rattle.pdl_code.specs.Declaring.{declared_step}
use Rattle.pdl_code.specs.TreeOf.{code_of, tree_of, step_of}
use Rattle.pdl_code.specs.Resolving.{Agrees}
use Rattle.pdl_code.specs.Scope.{no_flags}
use Rattle.pdl_code.proofs.TreeBlocks.{fronts, pass_on, visible}
use Rattle.pdl_code.proofs.DeclaringLemmas.{branches_err_first, branches_err_second, branches_ok, most_end, most_fault, most_none, most_turn}
use Rattle.pdl_code.proofs.TreeRows.{if_tree, loop_tree, same_parts}
use Rattle.pdl_code.proofs.locals.+declaring.Goals as goal

pub stmt_locals-returns-in-Loop-clause-gives : goal.stmt_locals-returns-in-Loop-clause-gives
stmt_locals-returns-in-Loop-clause-gives t c =
    subst (Agrees (λ n. n) c.code_locals.result)
    (sym (ap (declared_step c.args.source.now c.args.signature.now (visible c.args.locals.now.items no_flags)) (loop_tree c.args.raw.now c.in-Loop.field-0 c.in-Loop.body c.deref.result.now c.in-Loop.is c.deref.ensures.value)))
    c.code_locals.ensures.gives

pub stmt_locals-returns-in-Ok-code_locals-clause-gives : goal.stmt_locals-returns-in-Ok-code_locals-clause-gives
stmt_locals-returns-in-Ok-code_locals-clause-gives t c =
    branches_ok c.args.source.now c.args.signature.now c.args.locals.now.items c.code_locals-in-If.new.locals.items _ (tree_of c.in-If.field-0) (code_of c.deref-in-If.result.now) (code_of c.deref-in-Ok.result.now) c.in-Ok.first c.in-Ok-code_locals.second c.max.result
    (if_tree c.args.raw.now c.in-If.field-0 c.in-If.whole c.in-If.other c.in-If.is ∙ same_parts (tree_of c.in-If.field-0) c.deref-in-If.ensures.value c.deref-in-Ok.ensures.value)
    c.in-Ok.ensures.gives c.in-Ok.ensures.same c.in-Ok-code_locals.ensures.gives c.max.ensures

pub stmt_locals-returns-in-Err-code_locals-clause-gives : goal.stmt_locals-returns-in-Err-code_locals-clause-gives
stmt_locals-returns-in-Err-code_locals-clause-gives t c =
    pass_on (λ n. n) (λ n. n) c.in-Err-code_locals.fault _ _
    (branches_err_second c.args.source.now c.args.signature.now c.args.locals.now.items c.code_locals-in-If.new.locals.items _ (tree_of c.in-If.field-0) (code_of c.deref-in-If.result.now) (code_of c.deref-in-Ok.result.now) c.in-Ok.first
    (if_tree c.args.raw.now c.in-If.field-0 c.in-If.whole c.in-If.other c.in-If.is ∙ same_parts (tree_of c.in-If.field-0) c.deref-in-If.ensures.value c.deref-in-Ok.ensures.value)
    c.in-Ok.ensures.gives c.in-Ok.ensures.same)
    c.in-Err-code_locals.ensures.gives

pub stmt_locals-returns-in-Err-clause-gives : goal.stmt_locals-returns-in-Err-clause-gives
stmt_locals-returns-in-Err-clause-gives t c =
    pass_on (λ n. n) (λ n. n) c.in-Err.fault _ _
    (branches_err_first c.args.source.now c.args.signature.now c.args.locals.now.items _ (tree_of c.in-If.field-0) (code_of c.deref-in-If.result.now) (code_of c.in-If.other.items)
    (if_tree c.args.raw.now c.in-If.field-0 c.in-If.whole c.in-If.other c.in-If.is ∙ same_parts (tree_of c.in-If.field-0) c.deref-in-If.ensures.value refl))
    c.in-Err.ensures.gives

pub code_locals-loop-one-init : goal.code_locals-loop-one-init
code_locals-loop-one-init t c = record { rest = most_none _; fronts = record { same = refl; count = omega arith } }

pub code_locals-loop-one-preserved : goal.code_locals-loop-one-preserved
code_locals-loop-one-preserved t c =
    let old = c.loop-one.invariant.fronts in
    let grown = fronts _ c.loop-one.locals.items c.stmt_locals.new.locals.items no_flags (step_of c.one-item.result) old.count c.in-Ok.ensures.after in
    let more : c.max-most.result ≡ max c.loop-one.most c.in-Ok.n = grind (arith, c.max-most.ensures) in
    record {
      rest = most_turn c.args.source.now c.args.signature.now (visible c.loop-one.locals.items no_flags) (visible c.stmt_locals.new.locals.items no_flags) c.args.raw.now c.loop-one.one-index c.one-item.result c.loop-one.most c.in-Ok.n c.max-most.result
          c.loop-one-test.true c.one-item.is c.in-Ok.ensures.after c.in-Ok.ensures.gives more
          ∙ c.loop-one.invariant.rest;
      fronts = record { same = grown.same ∙ old.same; count = grown.count };
    }

pub code_locals-returns-in-Err-clause-gives : goal.code_locals-returns-in-Err-clause-gives
code_locals-returns-in-Err-clause-gives t c =
    pass_on (λ n. n) (λ n. n) c.in-Err.fault _ _
    (λ x err. most_fault c.args.source.now c.args.signature.now (visible c.loop-one.locals.items no_flags) c.args.raw.now c.loop-one.one-index c.one-item.result c.loop-one.most _ x c.loop-one-test.true c.one-item.is c.loop-one.invariant.rest err)
    c.in-Err.ensures.gives

pub code_locals-returns-clause-gives : goal.code_locals-returns-clause-gives
code_locals-returns-clause-gives t c =
    let long : length c.loop-one.locals.items ≡ c.len.result = omega arith in
    most_end c.args.source.now c.args.signature.now (visible c.loop-one.locals.items no_flags) c.args.raw.now c.loop-one.one-index c.loop-one.most _ c.loop-one-test.false c.loop-one.invariant.rest
    ∙ ap (λ (n : ℕ). Ok (max c.loop-one.most n)) long
    ∙ ap Ok (sym c.max-most-2.ensures)

pub code_locals-returns-clause-same : goal.code_locals-returns-clause-same
code_locals-returns-clause-same t c =
    c.cut.ensures ∙ c.loop-one.invariant.fronts.same ∙ take_all c.len-count.result c.args.locals.now.items (omega arith)
