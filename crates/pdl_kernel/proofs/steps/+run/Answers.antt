use Rattle.std.proofs.Common.{rules, ◌≡◌, sym, ap, ◌∙◌, subst, of_z, w64, pos, ℤ, arith, List, ◌+◌}
use Rattle.std.proofs.lemmas.Int.{ints}
use Rattle.std.specs.Prelude.{Result}
use Rattle.pdl_kernel.specs.declared.faults.Fault.{Fault}
use Rattle.pdl_kernel.specs.Answers.{Becomes}
use Rattle.pdl_kernel.specs.Over.{IsCodeOver, IsStepOver}
use Rattle.pdl_kernel.specs.Meaning.{Store, branch, run, step}
use Rattle.pdl_kernel.specs.Scenes.{kinds_of, store_of}
use Rattle.pdl_code.specs.Tree.{Step, repeat, choose}
use Rattle.pdl_code.specs.TreeOf.{KernelStmt, code_of, step_of, tree_of}
use Rattle.pdl_kernel.proofs.MeaningTurns.{chosen, branch_whole}
use Rattle.pdl_kernel.proofs.TreeWeights.{step_weight, code_weight}
use Rattle.pdl_kernel.proofs.steps.+run.Goals as goal

pub step-repeat-requires : goal.step-repeat-requires
step-repeat-requires t c =
    let e : step_of c.args.stmt.now ≡ repeat c.in-Loop.dimension (code_of c.deref.result.now) = ap step_of c.in-Loop.is ∙ c.rows_are_trees.ensures.repeat c.in-Loop.dimension c.in-Loop.body ∙ ap (λ (xs : List KernelStmt). repeat c.in-Loop.dimension (code_of xs)) (sym c.deref.ensures.value) in
    let w : step_weight (step_of c.args.stmt.now) ≡ code_weight (code_of c.deref.result.now) + 4 = ap step_weight e in
    (search (rules, w), (subst (IsStepOver (kinds_of c.args.scene.now)) e c.requires.over, c.requires.whole))

pub step-run-requires : goal.step-run-requires
step-run-requires t c =
    let e : step_of c.args.stmt.now ≡ choose (tree_of c.in-If.expr) (code_of c.in-If.whole.items) (code_of c.in-If.other.items) = ap step_of c.in-If.is ∙ c.rows_are_trees.ensures.choose c.in-If.expr c.in-If.whole c.in-If.other in
    let fit : IsStepOver (kinds_of c.args.scene.now) (choose (tree_of c.in-If.expr) (code_of c.in-If.whole.items) (code_of c.in-If.other.items)) = subst (IsStepOver (kinds_of c.args.scene.now)) e c.requires.over in
    let P : List KernelStmt → Type 0 = λ xs. IsCodeOver (kinds_of c.args.scene.now) (code_of xs) in
    let w : step_weight (step_of c.args.stmt.now) ≡ code_weight (code_of c.in-If.whole.items) + code_weight (code_of c.in-If.other.items) + 2 = ap step_weight e in
    let v : code_weight (code_of c.deref-then-x-eq0.result.now) ≡ code_weight (code_of c.in-If.other.items) = ap (λ xs. code_weight (code_of xs)) c.deref-then-x-eq0.ensures.value in
    (search (rules, w, v), (subst P (sym c.deref-then-x-eq0.ensures.value) fit.1.1, c.requires.whole))

pub step-run-requires-else-x-eq0 : goal.step-run-requires-else-x-eq0
step-run-requires-else-x-eq0 t c =
    let e : step_of c.args.stmt.now ≡ choose (tree_of c.in-If.expr) (code_of c.in-If.whole.items) (code_of c.in-If.other.items) = ap step_of c.in-If.is ∙ c.rows_are_trees.ensures.choose c.in-If.expr c.in-If.whole c.in-If.other in
    let fit : IsStepOver (kinds_of c.args.scene.now) (choose (tree_of c.in-If.expr) (code_of c.in-If.whole.items) (code_of c.in-If.other.items)) = subst (IsStepOver (kinds_of c.args.scene.now)) e c.requires.over in
    let P : List KernelStmt → Type 0 = λ xs. IsCodeOver (kinds_of c.args.scene.now) (code_of xs) in
    let w : step_weight (step_of c.args.stmt.now) ≡ code_weight (code_of c.in-If.whole.items) + code_weight (code_of c.in-If.other.items) + 2 = ap step_weight e in
    let v : code_weight (code_of c.deref-else-x-eq0.result.now) ≡ code_weight (code_of c.in-If.whole.items) = ap (λ xs. code_weight (code_of xs)) c.deref-else-x-eq0.ensures.value in
    (search (rules, w, v), (subst P (sym c.deref-else-x-eq0.ensures.value) fit.1.0, c.requires.whole))

pub step-returns-in-Loop-clause-store : goal.step-returns-in-Loop-clause-store
step-returns-in-Loop-clause-store t c =
    let P : Step → Type 0 = λ s. Becomes c.repeat.result (store_of c.repeat.new.scene) (step c.args.resolved.now c.args.loops.now s (store_of c.args.scene.now)) in
    let e : step_of c.args.stmt.now ≡ repeat c.in-Loop.dimension (code_of c.deref.result.now) = ap step_of c.in-Loop.is ∙ c.rows_are_trees.ensures.repeat c.in-Loop.dimension c.in-Loop.body ∙ ap (λ (xs : List KernelStmt). repeat c.in-Loop.dimension (code_of xs)) (sym c.deref.ensures.value) in
    subst P (sym e) c.repeat.ensures.store

pub step-returns-then-x-eq0-clause-store : goal.step-returns-then-x-eq0-clause-store
step-returns-then-x-eq0-clause-store t c =
    let z : c.in-Ok.x ≡ pos 0 = grind (arith, ints) in
    let m = store_of c.args.scene.now in
    let now = store_of c.run.new.scene in
    let P : List KernelStmt → Type 0 = λ xs. Becomes c.run.result now (run c.args.resolved.now c.args.loops.now (code_of xs) m) in
    let Q : ℤ → Type 0 = λ x. Becomes c.run.result now (branch x (run c.args.resolved.now c.args.loops.now (code_of c.in-If.whole.items) m) (run c.args.resolved.now c.args.loops.now (code_of c.in-If.other.items) m)) in
    chosen c.run.result now m c.args.resolved.now c.args.loops.now (step_of c.args.stmt.now) (tree_of c.in-If.expr) (code_of c.in-If.whole.items) (code_of c.in-If.other.items) c.in-Ok.x c.value.result
    (ap step_of c.in-If.is ∙ c.rows_are_trees.ensures.choose c.in-If.expr c.in-If.whole c.in-If.other) c.value.ensures c.in-Ok.is
    (subst Q (sym z) (subst P c.deref-then-x-eq0.ensures.value c.run.ensures.store))

pub step-returns-else-x-eq0-clause-store : goal.step-returns-else-x-eq0-clause-store
step-returns-else-x-eq0-clause-store t c =
    let m = store_of c.args.scene.now in
    let now = store_of c.run-else-x-eq0.new.scene in
    let P : List KernelStmt → Type 0 = λ xs. Becomes c.run-else-x-eq0.result now (run c.args.resolved.now c.args.loops.now (code_of xs) m) in
    let z : branch c.in-Ok.x (run c.args.resolved.now c.args.loops.now (code_of c.in-If.whole.items) m) (run c.args.resolved.now c.args.loops.now (code_of c.in-If.other.items) m) ≡ run c.args.resolved.now c.args.loops.now (code_of c.in-If.whole.items) m = branch_whole c.in-Ok.x _ _ (λ e. c.if-x-eq0.false (ap (of_z w64) e)) in
    let Q : Result Store Fault → Type 0 = λ r. Becomes c.run-else-x-eq0.result now r in
    chosen c.run-else-x-eq0.result now m c.args.resolved.now c.args.loops.now (step_of c.args.stmt.now) (tree_of c.in-If.expr) (code_of c.in-If.whole.items) (code_of c.in-If.other.items) c.in-Ok.x c.value.result
    (ap step_of c.in-If.is ∙ c.rows_are_trees.ensures.choose c.in-If.expr c.in-If.whole c.in-If.other) c.value.ensures c.in-Ok.is
    (subst Q (sym z) (subst P c.deref-else-x-eq0.ensures.value c.run-else-x-eq0.ensures.store))
