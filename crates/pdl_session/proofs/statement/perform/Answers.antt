use Rattle.std.proofs.Common.{ℕ, ◌∙◌, List, Bool, true, false, Ok, map, sym, subst}
use Rattle.pdl_syntax.specs.declared.tree.Statement.{Statement}
use Rattle.pdl_syntax.specs.declared.tree.Arg.{Arg}
use Rattle.pdl_syntax.specs.StatementTree.{bind, bind_list, flow, pp_def, reshape, sever, statement_of, undef, view_of, watch}
use Rattle.pdl_syntax.specs.Tree.{none}
use Rattle.pdl_syntax.specs.TreeOf.{args_of, tree_of}
use Rattle.pdl_watch.specs.Slots.{present_in, slots_by}
use Rattle.pdl_machine.specs.Step.{Stepped, assigning, effect, target}
use Rattle.pdl_scope.specs.Answers.{Prints}
use Rattle.pdl_scope.specs.Scope.{machine}
use Rattle.pdl_session.specs.Performed.{Performs}
use Rattle.pdl_session.specs.Statements.{MovesByForm}
use Rattle.pdl_session.proofs.DumpingLemmas.{dump_within}
use Rattle.pdl_session.proofs.PerformedStatements.{silent, silent_err}
use Rattle.pdl_session.proofs.statement.perform.Goals as goal

pub returns-in-Show-clause-performs : goal.returns-in-Show-clause-performs
returns-in-Show-clause-performs g c =
    subst (λ (s : Statement). Performs (effect (present_in (slots_by g.W.Watcher.seen c.args.watchers.now.items)) (machine c.args.scope.now) (statement_of s)) c.args.scope.now c.show.new.scope c.args.out.now.items c.show.new.out.items c.show.result) (sym c.in-Show.is) c.show.ensures.performs

pub returns-in-Dump-clause-performs : goal.returns-in-Dump-clause-performs
returns-in-Dump-clause-performs g c =
    subst (λ (s : Statement). Performs (effect (present_in (slots_by g.W.Watcher.seen c.args.watchers.now.items)) (machine c.args.scope.now) (statement_of s)) c.args.scope.now c.dump.new.scope c.args.out.now.items c.dump.new.out.items c.dump.result) (sym c.in-Dump.is) c.dump.ensures.performs

pub returns-in-PpDef-clause-performs : goal.returns-in-PpDef-clause-performs
returns-in-PpDef-clause-performs g c =
    let s = c.args.scope.now in
    let P : Statement → Type 0 = λ t. Performs (effect (present_in (slots_by g.W.Watcher.seen c.args.watchers.now.items)) (machine s) (statement_of t)) s c.define_kernel.new.scope c.args.out.now.items c.args.out.now.items c.define_kernel.result in
    subst P (sym c.in-PpDef.is) (silent c.define_kernel.result (effect (present_in (slots_by g.W.Watcher.seen c.args.watchers.now.items)) (machine s) (pp_def c.in-PpDef.name c.in-PpDef.signature c.in-PpDef.code)) s c.define_kernel.new.scope c.args.out.now.items c.define_kernel.ensures)

pub returns-in-BindList-clause-performs : goal.returns-in-BindList-clause-performs
returns-in-BindList-clause-performs g c =
    let s = c.args.scope.now in
    let t = c.bind_list.new.scope in
    let out = c.args.out.now.items in
    let wanted : List (List ℕ) → Stepped = λ xs. effect (present_in (slots_by g.W.Watcher.seen c.args.watchers.now.items)) (machine s) (bind_list xs (tree_of c.in-BindList.value)) in
    let P : Statement → Type 0 = λ z. Performs (effect (present_in (slots_by g.W.Watcher.seen c.args.watchers.now.items)) (machine s) (statement_of z)) s t out out c.bind_list.result in
    let Q : List (List ℕ) → Type 0 = λ xs. Performs (wanted xs) s t out out c.bind_list.result in
    subst P (sym c.in-BindList.is) (subst Q c.deref.ensures.value (silent c.bind_list.result (wanted c.deref.result.now) s t out c.bind_list.ensures.runs))

pub returns-in-Bind-default-default-true-clause-performs : goal.returns-in-Bind-default-default-true-clause-performs
returns-in-Bind-default-default-true-clause-performs g c =
    let s = c.args.scope.now in
    let out = c.args.out.now.items in
    let wanted : Bool → Stepped = λ b. effect (present_in (slots_by g.W.Watcher.seen c.args.watchers.now.items)) (machine s) (bind c.in-Bind-default-default-true.name (tree_of c.in-Bind-default-default-true.value) b) in
    let P : Statement → Type 0 = λ t. Performs (effect (present_in (slots_by g.W.Watcher.seen c.args.watchers.now.items)) (machine s) (statement_of t)) s c.bind_severed.new.scope out out c.bind_severed.result in
    let Q : Bool → Type 0 = λ b. Performs (wanted b) s c.bind_severed.new.scope out out c.bind_severed.result in
    subst P (sym c.in-Bind-default-default-true.is) (subst Q (sym c.in-Bind-default-default-true.sever-test ∙ c.in-Bind-default-default-true.sever-is) (silent c.bind_severed.result (wanted true) s c.bind_severed.new.scope out c.bind_severed.ensures.runs))

pub returns-in-Bind-default-default-false-clause-performs : goal.returns-in-Bind-default-default-false-clause-performs
returns-in-Bind-default-default-false-clause-performs g c =
    let s = c.args.scope.now in
    let out = c.args.out.now.items in
    let wanted : Bool → Stepped = λ b. effect (present_in (slots_by g.W.Watcher.seen c.args.watchers.now.items)) (machine s) (bind c.in-Bind-default-default-false.name (tree_of c.in-Bind-default-default-false.value) b) in
    let P : Statement → Type 0 = λ t. Performs (effect (present_in (slots_by g.W.Watcher.seen c.args.watchers.now.items)) (machine s) (statement_of t)) s c.bind_value.new.scope out out c.bind_value.result in
    let Q : Bool → Type 0 = λ b. Performs (wanted b) s c.bind_value.new.scope out out c.bind_value.result in
    subst P (sym c.in-Bind-default-default-false.is) (subst Q (sym c.in-Bind-default-default-false.sever-test ∙ c.in-Bind-default-default-false.sever-is) (silent c.bind_value.result (wanted false) s c.bind_value.new.scope out c.bind_value.ensures.runs))

pub returns-in-Sever-clause-performs : goal.returns-in-Sever-clause-performs
returns-in-Sever-clause-performs g c =
    let s = c.args.scope.now in
    let out = c.args.out.now.items in
    let P : Statement → Type 0 = λ t. Performs (effect (present_in (slots_by g.W.Watcher.seen c.args.watchers.now.items)) (machine s) (statement_of t)) s c.sever.new.scope out out c.sever.result in
    subst P (sym c.in-Sever.is) (silent c.sever.result (effect (present_in (slots_by g.W.Watcher.seen c.args.watchers.now.items)) (machine s) (sever c.in-Sever.name)) s c.sever.new.scope out c.sever.ensures.runs)

pub returns-in-Flow-clause-performs : goal.returns-in-Flow-clause-performs
returns-in-Flow-clause-performs g c =
    let s = c.args.scope.now in
    let out = c.args.out.now.items in
    let P : Statement → Type 0 = λ t. Performs (effect (present_in (slots_by g.W.Watcher.seen c.args.watchers.now.items)) (machine s) (statement_of t)) s c.flow.new.scope out out c.flow.result in
    subst P (sym c.in-Flow.is) (silent c.flow.result (effect (present_in (slots_by g.W.Watcher.seen c.args.watchers.now.items)) (machine s) (flow c.in-Flow.name (tree_of c.in-Flow.value))) s c.flow.new.scope out c.flow.ensures.runs)

pub returns-in-Undef-clause-performs : goal.returns-in-Undef-clause-performs
returns-in-Undef-clause-performs g c =
    let s = c.args.scope.now in
    let out = c.args.out.now.items in
    let P : Statement → Type 0 = λ t. Performs (effect (present_in (slots_by g.W.Watcher.seen c.args.watchers.now.items)) (machine s) (statement_of t)) s c.undef.new.self out out c.undef.result in
    subst P (sym c.in-Undef.is) (silent c.undef.result (effect (present_in (slots_by g.W.Watcher.seen c.args.watchers.now.items)) (machine s) (undef c.in-Undef.name)) s c.undef.new.self out c.undef.ensures)

pub returns-in-Watch-clause-performs : goal.returns-in-Watch-clause-performs
returns-in-Watch-clause-performs g c =
    let s = c.args.scope.now in
    let out = c.args.out.now.items in
    let P : Statement → Type 0 = λ t. Performs (effect (present_in (slots_by g.W.Watcher.seen c.args.watchers.now.items)) (machine s) (statement_of t)) s c.watch.new.scope out out c.watch.result in
    subst P (sym c.in-Watch.is) (silent c.watch.result (effect (present_in (slots_by g.W.Watcher.seen c.args.watchers.now.items)) (machine s) (watch c.in-Watch.name c.in-Watch.slot)) s c.watch.new.scope out c.watch.ensures)

pub returns-in-Reshape-clause-performs : goal.returns-in-Reshape-clause-performs
returns-in-Reshape-clause-performs g c =
    let s = c.args.scope.now in
    let out = c.args.out.now.items in
    let wanted : List Arg → Stepped = λ xs. effect (present_in (slots_by g.W.Watcher.seen c.args.watchers.now.items)) (machine s) (reshape c.in-Reshape.name (args_of xs none)) in
    let P : Statement → Type 0 = λ t. Performs (effect (present_in (slots_by g.W.Watcher.seen c.args.watchers.now.items)) (machine s) (statement_of t)) s c.reshape.new.scope out out c.reshape.result in
    let Q : List Arg → Type 0 = λ xs. Performs (wanted xs) s c.reshape.new.scope out out c.reshape.result in
    subst P (sym c.in-Reshape.is) (subst Q c.deref-in-Reshape.ensures.value (silent c.reshape.result (wanted c.deref-in-Reshape.result.now) s c.reshape.new.scope out c.reshape.ensures.runs))

pub returns-in_ok-all-in-Assign-clause-performs : goal.returns-in_ok-all-in-Assign-clause-performs
returns-in_ok-all-in-Assign-clause-performs g c =
    let s = c.args.scope.now in
    let out = c.args.out.now.items in
    let t = c.in-Assign.target in
    let wanted = assigning (machine s) (target t.name (map view_of t.views.items)) c.in-Assign.op (tree_of c.in-Assign.value) in
    let P : Statement → Type 0 = λ z. Prints (effect (present_in (slots_by g.W.Watcher.seen c.args.watchers.now.items)) (machine s) (statement_of z)) (machine c.assign_value.new.scope) out out in
    subst P (sym c.in-Assign.is) (silent (Ok c.in_ok-all-in-Assign.all) wanted s c.assign_value.new.scope out c.in_ok-all-in-Assign.ensures.runs)

pub returns-in_err-all-in-Assign-clause-performs : goal.returns-in_err-all-in-Assign-clause-performs
returns-in_err-all-in-Assign-clause-performs g c =
    let s = c.args.scope.now in
    let out = c.args.out.now.items in
    let t = c.in-Assign.target in
    let wanted = assigning (machine s) (target t.name (map view_of t.views.items)) c.in-Assign.op (tree_of c.in-Assign.value) in
    let P : Statement → Type 0 = λ z. Performs (effect (present_in (slots_by g.W.Watcher.seen c.args.watchers.now.items)) (machine s) (statement_of z)) s c.assign_value.new.scope out out c.from_residual.result in
    subst P (sym c.in-Assign.is) (silent_err c.from_residual.result c.in_err-all-in-Assign.field-0.0 wanted s c.assign_value.new.scope out c.from_residual.ensures.1 c.in_err-all-in-Assign.ensures.runs)

pub returns-in-Show-clause-bounded : goal.returns-in-Show-clause-bounded
returns-in-Show-clause-bounded g c =
    subst (λ (z : Statement). MovesByForm (statement_of z) c.args.scope.now c.args.steps.now c.show.new.steps) (sym c.in-Show.is) c.show.ensures.within

pub returns-in-Dump-clause-bounded : goal.returns-in-Dump-clause-bounded
returns-in-Dump-clause-bounded g c =
    subst (λ (z : Statement). MovesByForm (statement_of z) c.args.scope.now c.args.steps.now c.dump.new.steps) (sym c.in-Dump.is)
    (dump_within c.args.scope.now c.dump.new.scope c.args.steps.now c.dump.new.steps _ c.dump.ensures.counted c.dump.ensures.unmoved)

pub returns-in-BindList-clause-bounded : goal.returns-in-BindList-clause-bounded
returns-in-BindList-clause-bounded g c =
    let s = c.args.scope.now in
    let P : Statement → Type 0 = λ z. MovesByForm (statement_of z) s c.args.steps.now c.bind_list.new.steps in
    let Q : List (List ℕ) → Type 0 = λ xs. MovesByForm (bind_list xs (tree_of c.in-BindList.value)) s c.args.steps.now c.bind_list.new.steps in
    subst P (sym c.in-BindList.is) (subst Q c.deref.ensures.value c.bind_list.ensures.within)

pub returns-in-Sever-clause-bounded : goal.returns-in-Sever-clause-bounded
returns-in-Sever-clause-bounded g c =
    subst (λ (z : Statement). MovesByForm (statement_of z) c.args.scope.now c.args.steps.now c.sever.new.steps) (sym c.in-Sever.is) c.sever.ensures.counted

pub returns-in-Flow-clause-bounded : goal.returns-in-Flow-clause-bounded
returns-in-Flow-clause-bounded g c =
    subst (λ (z : Statement). MovesByForm (statement_of z) c.args.scope.now c.args.steps.now c.flow.new.steps) (sym c.in-Flow.is) c.flow.ensures.within

pub returns-in-Bind-default-default-true-clause-bounded : goal.returns-in-Bind-default-default-true-clause-bounded
returns-in-Bind-default-default-true-clause-bounded g c =
    let s = c.args.scope.now in
    let P : Statement → Type 0 = λ z. MovesByForm (statement_of z) s c.args.steps.now c.bind_severed.new.steps in
    let Q : Bool → Type 0 = λ b. MovesByForm (bind c.in-Bind-default-default-true.name (tree_of c.in-Bind-default-default-true.value) b) s c.args.steps.now c.bind_severed.new.steps in
    subst P (sym c.in-Bind-default-default-true.is) (subst Q (sym c.in-Bind-default-default-true.sever-test ∙ c.in-Bind-default-default-true.sever-is) c.bind_severed.ensures.within)

pub returns-in-Bind-default-default-false-clause-bounded : goal.returns-in-Bind-default-default-false-clause-bounded
returns-in-Bind-default-default-false-clause-bounded g c =
    let s = c.args.scope.now in
    let P : Statement → Type 0 = λ z. MovesByForm (statement_of z) s c.args.steps.now c.bind_value.new.steps in
    let Q : Bool → Type 0 = λ b. MovesByForm (bind c.in-Bind-default-default-false.name (tree_of c.in-Bind-default-default-false.value) b) s c.args.steps.now c.bind_value.new.steps in
    subst P (sym c.in-Bind-default-default-false.is) (subst Q (sym c.in-Bind-default-default-false.sever-test ∙ c.in-Bind-default-default-false.sever-is) c.bind_value.ensures.within)

pub returns-in-Reshape-clause-bounded : goal.returns-in-Reshape-clause-bounded
returns-in-Reshape-clause-bounded g c =
    let s = c.args.scope.now in
    let P : Statement → Type 0 = λ z. MovesByForm (statement_of z) s c.args.steps.now c.reshape.new.steps in
    let Q : List Arg → Type 0 = λ xs. MovesByForm (reshape c.in-Reshape.name (args_of xs none)) s c.args.steps.now c.reshape.new.steps in
    subst P (sym c.in-Reshape.is) (subst Q c.deref-in-Reshape.ensures.value c.reshape.ensures.within)

pub returns-in_ok-all-in-Assign-clause-bounded : goal.returns-in_ok-all-in-Assign-clause-bounded
returns-in_ok-all-in-Assign-clause-bounded g c =
    subst (λ (z : Statement). MovesByForm (statement_of z) c.args.scope.now c.args.steps.now c.assign_value.new.steps) (sym c.in-Assign.is) c.in_ok-all-in-Assign.ensures.within

pub returns-in_err-all-in-Assign-clause-bounded : goal.returns-in_err-all-in-Assign-clause-bounded
returns-in_err-all-in-Assign-clause-bounded g c =
    subst (λ (z : Statement). MovesByForm (statement_of z) c.args.scope.now c.args.steps.now c.assign_value.new.steps) (sym c.in-Assign.is) c.in_err-all-in-Assign.ensures.within
