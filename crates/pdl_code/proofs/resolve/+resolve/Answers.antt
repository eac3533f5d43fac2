use Rattle.std.proofs.Common.{◌≡◌, ℕ, refl, sym, subst, ap, ap₂, ◌∙◌, Ok, Vec, Global, drop, ◌+◌}
use Rattle.std.specs.Prelude.{Box, slice_set, true, false}
use Rattle.pdl_elem.specs.declared.BinaryOp.{BinaryOp}
use Rattle.pdl_code.specs.declared.tree.Expr.{Binary}
use Rattle.pdl_code.specs.Tree.{unary, binary}
use Rattle.pdl_code.specs.TreeOf.{KernelEntry, RawExpr, index_of, indices_of, tree_of}
use Rattle.pdl_code.specs.Resolving.{Agrees, resolve_indices, resolve_tree}
use Rattle.pdl_code.specs.Scope.{Scope, no_flags}
use Rattle.pdl_code.proofs.TreeBlocks.{pass_on}
use Rattle.pdl_code.proofs.TreeRows.{access_tree}
use Rattle.pdl_code.proofs.TreeTurns.{access_ok, access_err, access_unknown, and_join, binary_err_left, binary_err_right, binary_ok, found_none, entry_next, index_refused, index_tree_refused, index_turn, indices_end, turned_to, unary_err, unary_ok}
use Rattle.pdl_code.proofs.resolve.+resolve.Goals as goal

-- a binary expression's tree
operands : {raw : RawExpr} {a b : Box RawExpr Global} {x y : RawExpr} (op : BinaryOp) → raw ≡ Binary op a b → x ≡ a.value → y ≡ b.value → tree_of raw ≡ binary op (tree_of x) (tree_of y)
operands op is left right = ap tree_of is ∙ ap₂ (λ u v. binary op (tree_of u) (tree_of v)) (sym left) (sym right)

pub tree-returns-in-Access : goal.tree-returns-in-Access
tree-returns-in-Access t c =
    subst (λ raw. Agrees tree_of c.access.result (resolve_tree c.args.source.now c.args.signature.now (record { locals = c.args.locals.now; loops = c.args.loops.now }) raw)) (sym (access_tree c.args.raw.now c.in-Access.called c.in-Access.given c.deref.result.now c.in-Access.is c.deref.ensures.value)) c.access.ensures

pub access-returns-in-Ok : goal.access-returns-in-Ok
access-returns-in-Ok t c =
    access_ok c.args.source.now c.args.signature.now (record { locals = c.args.locals.now; loops = c.args.loops.now }) _ c.args.called.name (indices_of c.args.given.now) c.args.called.close c.in-Some.number c.dims_of-dims.result.now (indices_of c.in-Ok.found.items)
    refl (sym c.argument.ensures ∙ c.in-Some.is) c.dims_of-dims.ensures c.in-Ok.ensures
    ∙ ap Ok (sym c.access_expr.ensures)

pub access-returns-in-Err : goal.access-returns-in-Err
access-returns-in-Err t c =
    access_err c.args.source.now c.args.signature.now (λ (v : Vec KernelEntry Global). indices_of v.items) tree_of c.in-Err.fault (record { locals = c.args.locals.now; loops = c.args.loops.now }) _ c.args.called.name (indices_of c.args.given.now) c.args.called.close c.in-Some.number c.dims_of-dims.result.now
    refl (sym c.argument.ensures ∙ c.in-Some.is) c.dims_of-dims.ensures c.in-Err.ensures

pub indices-loop-one-preserved : goal.indices-loop-one-preserved
indices-loop-one-preserved t c =
    let z : Scope = record { locals = c.args.locals.now; loops = c.args.loops.now } in
    let rest = indices_of (drop (c.loop-one.one-index + 1) c.args.given.now) in
    let f = indices_of c.loop-one.found.items in
    turned_to c.args.source.now c.args.signature.now z c.args.dims.now c.args.close rest (slice_set c.loop-one.flags c.in-Ok.k true) c.mark.new.flags (indices_of c.in-Ok-with_entry.more.items) _ _ c.mark.ensures refl
    (index_turn c.args.source.now c.args.signature.now z c.args.dims.now c.loop-one.flags c.args.close c.dimension_of.result (index_of c.one-item.result) rest f (indices_of c.in-Ok-with_entry.more.items) c.in-Ok.k (tree_of c.in-Ok-index.e) c.in-Ok.ensures.known c.in-Ok.ensures.given c.in-Ok-index.ensures c.in-Ok-with_entry.ensures
    ∙ ap (λ is. and_join f (resolve_indices c.args.source.now c.args.signature.now z c.args.dims.now c.loop-one.flags c.args.close is)) (sym (entry_next c.args.given.now c.loop-one.one-index c.one-item.result c.dimension_of.result c.loop-one-test.true c.one-item.is c.dimension_of.ensures))
    ∙ c.loop-one.invariant)

pub access-returns-in-None : goal.access-returns-in-None
access-returns-in-None t c =
    access_unknown c.args.source.now c.args.signature.now (record { locals = c.args.locals.now; loops = c.args.loops.now }) _ c.args.called.name (indices_of c.args.given.now) c.args.called.close refl (sym c.argument.ensures ∙ c.in-None.is)

pub tree-returns-in-Size : goal.tree-returns-in-Size
tree-returns-in-Size t c =
    subst (λ raw. Agrees tree_of c.size.result (resolve_tree c.args.source.now c.args.signature.now (record { locals = c.args.locals.now; loops = c.args.loops.now }) (tree_of raw))) (sym c.in-Size.is) c.size.ensures

pub tree-returns-in-Named : goal.tree-returns-in-Named
tree-returns-in-Named t c =
    subst (λ raw. Agrees tree_of c.named.result (resolve_tree c.args.source.now c.args.signature.now (record { locals = c.args.locals.now; loops = c.args.loops.now }) (tree_of raw))) (sym c.in-Named.is) c.named.ensures

pub tree-returns-in-Ok-unary_expr : goal.tree-returns-in-Ok-unary_expr
tree-returns-in-Ok-unary_expr t c =
    unary_ok c.args.source.now c.args.signature.now (record { locals = c.args.locals.now; loops = c.args.loops.now }) _ c.in-Unary.op (tree_of c.deref-in-Unary.result.now) (tree_of c.in-Ok.a) (ap tree_of c.in-Unary.is ∙ ap (λ x. unary c.in-Unary.op (tree_of x)) (sym c.deref-in-Unary.ensures)) c.in-Ok.ensures
    ∙ ap Ok (sym c.in-Ok-unary_expr.ensures)

pub tree-returns-in-Err : goal.tree-returns-in-Err
tree-returns-in-Err t c =
    pass_on tree_of tree_of c.in-Err.fault _ _
    (unary_err c.args.source.now c.args.signature.now (record { locals = c.args.locals.now; loops = c.args.loops.now }) _ c.in-Unary.op (tree_of c.deref-in-Unary.result.now) (ap tree_of c.in-Unary.is ∙ ap (λ x. unary c.in-Unary.op (tree_of x)) (sym c.deref-in-Unary.ensures)))
    c.in-Err.ensures

pub tree-returns-in-Ok-binary_expr : goal.tree-returns-in-Ok-binary_expr
tree-returns-in-Ok-binary_expr t c =
    binary_ok c.args.source.now c.args.signature.now (record { locals = c.args.locals.now; loops = c.args.loops.now }) _ c.in-Binary.op (tree_of c.deref-in-Binary.result.now) (tree_of c.deref-in-Ok-tree.result.now) (tree_of c.in-Ok-tree.a) (tree_of c.in-Ok-tree-2.b)
    (operands c.in-Binary.op c.in-Binary.is c.deref-in-Binary.ensures c.deref-in-Ok-tree.ensures) c.in-Ok-tree.ensures c.in-Ok-tree-2.ensures
    ∙ ap Ok (sym c.in-Ok-binary_expr.ensures)

pub tree-returns-in-Err-tree : goal.tree-returns-in-Err-tree
tree-returns-in-Err-tree t c =
    pass_on tree_of tree_of c.in-Err-tree.fault _ _
    (binary_err_left c.args.source.now c.args.signature.now (record { locals = c.args.locals.now; loops = c.args.loops.now }) _ c.in-Binary.op (tree_of c.deref-in-Binary.result.now) (tree_of c.in-Binary.right.value)
    (operands c.in-Binary.op c.in-Binary.is c.deref-in-Binary.ensures refl))
    c.in-Err-tree.ensures

pub tree-returns-in-Err-tree-2 : goal.tree-returns-in-Err-tree-2
tree-returns-in-Err-tree-2 t c =
    pass_on tree_of tree_of c.in-Err-tree-2.fault _ _
    (binary_err_right c.args.source.now c.args.signature.now (record { locals = c.args.locals.now; loops = c.args.loops.now }) _ c.in-Binary.op (tree_of c.deref-in-Binary.result.now) (tree_of c.deref-in-Ok-tree.result.now) (tree_of c.in-Ok-tree.a)
    (operands c.in-Binary.op c.in-Binary.is c.deref-in-Binary.ensures c.deref-in-Ok-tree.ensures) c.in-Ok-tree.ensures)
    c.in-Err-tree-2.ensures

pub indices-loop-one-init : goal.indices-loop-one-init
indices-loop-one-init t c =
    let all = resolve_indices c.args.source.now c.args.signature.now (record { locals = c.args.locals.now; loops = c.args.loops.now }) c.args.dims.now no_flags c.args.close (indices_of c.args.given.now) in
    ap (λ xs. and_join (indices_of xs) all) c.new-found.ensures.items ∙ found_none all

pub indices-returns-in-Err : goal.indices-returns-in-Err
indices-returns-in-Err t c =
    pass_on (λ (k : ℕ). k) (λ (v : Vec KernelEntry Global). indices_of v.items) c.in-Err.fault _ _
    (index_refused c.args.source.now c.args.signature.now (record { locals = c.args.locals.now; loops = c.args.loops.now }) c.args.dims.now c.loop-one.flags c.args.close (indices_of (drop c.loop-one.one-index c.args.given.now)) (indices_of (drop (c.loop-one.one-index + 1) c.args.given.now)) c.dimension_of.result (index_of c.one-item.result) (indices_of c.loop-one.found.items) _ (entry_next c.args.given.now c.loop-one.one-index c.one-item.result c.dimension_of.result c.loop-one-test.true c.one-item.is c.dimension_of.ensures) c.loop-one.invariant)
    c.in-Err.ensures.given

pub indices-returns-in-Err-index : goal.indices-returns-in-Err-index
indices-returns-in-Err-index t c =
    pass_on tree_of (λ (v : Vec KernelEntry Global). indices_of v.items) c.in-Err-index.fault _ _
    (index_tree_refused c.args.source.now c.args.signature.now (record { locals = c.args.locals.now; loops = c.args.loops.now }) c.args.dims.now c.loop-one.flags c.args.close (indices_of (drop c.loop-one.one-index c.args.given.now)) (indices_of (drop (c.loop-one.one-index + 1) c.args.given.now)) c.dimension_of.result (index_of c.one-item.result) c.in-Ok.k (indices_of c.loop-one.found.items) _ (entry_next c.args.given.now c.loop-one.one-index c.one-item.result c.dimension_of.result c.loop-one-test.true c.one-item.is c.dimension_of.ensures) c.loop-one.invariant c.in-Ok.ensures.given)
    c.in-Err-index.ensures

pub indices-returns-then-lacks_one : goal.indices-returns-then-lacks_one
indices-returns-then-lacks_one t c =
    indices_end c.args.source.now c.args.signature.now (record { locals = c.args.locals.now; loops = c.args.loops.now }) c.args.dims.now c.loop-one.flags c.args.close c.args.given.now c.loop-one.one-index (indices_of c.loop-one.found.items) _ true c.loop-one-test.false c.loop-one.invariant (sym c.if-lacks_one.true ∙ c.lacks_one.ensures)

pub indices-returns : goal.indices-returns
indices-returns t c =
    subst (Agrees (λ (v : Vec KernelEntry Global). indices_of v.items) c.with_loops.result)
    (sym (indices_end c.args.source.now c.args.signature.now (record { locals = c.args.locals.now; loops = c.args.loops.now }) c.args.dims.now c.loop-one.flags c.args.close c.args.given.now c.loop-one.one-index (indices_of c.loop-one.found.items) _ false c.loop-one-test.false c.loop-one.invariant (sym c.if-lacks_one.false ∙ c.lacks_one.ensures)))
    c.with_loops.ensures
