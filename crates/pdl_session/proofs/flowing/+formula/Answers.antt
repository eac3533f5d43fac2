use Rattle.std.proofs.Common.{rules, ◌≡◌, ◌+◌, true, ap, subst}
use Rattle.pdl_flow.specs.Formula.{tree_of as formula_tree}
use Rattle.pdl_syntax.specs.Tree.{Tree, binary, call, none}
use Rattle.pdl_syntax.specs.TreeOf.{tree_of, args_of}
use Rattle.pdl_syntax.specs.Formulas.{is_formula}
use Rattle.pdl_syntax.specs.WellMade.{AreArrays}
use Rattle.pdl_machine.specs.Formulas.{formula_of}
use Rattle.pdl_session.proofs.ArgumentEvals.{weight, weights, binary_tree, tree_is}
use Rattle.pdl_session.proofs.CameFlows.{binary_formed, both_formulas, convert_formed, convert_refused, forms_fault, no_operand, one_formula}
use Rattle.pdl_session.proofs.flowing.+formula.Goals as goal

pub formula_of-formula_of-requires-in-Binary-2 : goal.formula_of-formula_of-requires-in-Binary-2
formula_of-formula_of-requires-in-Binary-2 t c =
    let x = tree_of c.deref-in-Binary.result.now in
    let y = tree_of c.deref-in-Binary-2.result.now in
    let e : tree_of c.args.value.now ≡ binary c.in-Binary.op x y = binary_tree c.args.value.now c.deref-in-Binary.result.now c.deref-in-Binary-2.result.now c.in-Binary.op c.in-Binary.left c.in-Binary.right c.in-Binary.is c.deref-in-Binary.ensures c.deref-in-Binary-2.ensures in
    let w : weight (tree_of c.args.value.now) ≡ weight x + weight y + 1 = ap weight e in
    let fine = both_formulas c.in-Binary.op x y (subst (λ (z : Tree). is_formula z ≡ true) e c.requires.formula) in
    (search (rules, w), (fine.2, (subst AreArrays e c.requires.made).1))

pub formula_of-returns-in_ok-right-in-Binary-2 : goal.formula_of-returns-in_ok-right-in-Binary-2
formula_of-returns-in_ok-right-in-Binary-2 t c =
    let s = c.args.scope.now in
    let x = tree_of c.deref-in-Binary.result.now in
    let y = tree_of c.deref-in-Binary-2.result.now in
    let e : tree_of c.args.value.now ≡ binary c.in-Binary.op x y = binary_tree c.args.value.now c.deref-in-Binary.result.now c.deref-in-Binary-2.result.now c.in-Binary.op c.in-Binary.left c.in-Binary.right c.in-Binary.is c.deref-in-Binary.ensures c.deref-in-Binary-2.ensures in
    binary_formed s.names s.arrays.world (tree_of c.args.value.now) x y c.in-Binary.op (formula_tree c.in_ok-left-in-Binary.left) (formula_tree c.in_ok-right-in-Binary.right) (formula_tree c.in_ok-left-in-Binary-2.left.value) (formula_tree c.in_ok-right-in-Binary-2.right.value)
    e c.requires.formula c.in_ok-left-in-Binary.ensures c.in_ok-right-in-Binary.ensures (ap formula_tree c.in_ok-left-in-Binary-2.ensures) (ap formula_tree c.in_ok-right-in-Binary-2.ensures)

pub formula_of-operand_of-requires : goal.formula_of-operand_of-requires
formula_of-operand_of-requires t c =
    let xs = c.deref-in-Some-type_named.result.now in
    let e : tree_of c.args.value.now ≡ call c.in-Call.name (args_of xs none) = tree_is c.args.value.now c.in-Call.name c.in-Call.args xs (c.calls_are_trees.ensures c.in-Call.name c.in-Call.args) c.in-Call.is c.deref-in-Some-type_named.ensures.value in
    let w : weight (tree_of c.args.value.now) ≡ weights (args_of xs none) + 2 = ap weight e in
    (search (rules, w), (one_formula c.in-Call.name (args_of xs none) (subst (λ (z : Tree). is_formula z ≡ true) e c.requires.formula), subst AreArrays e c.requires.made))

pub formula_of-returns-in_err-operand-in-Some-type_named : goal.formula_of-returns-in_err-operand-in-Some-type_named
formula_of-returns-in_err-operand-in-Some-type_named t c =
    let s = c.args.scope.now in
    let xs = c.deref-in-Some-type_named.result.now in
    let f = c.in_err-operand-in-Some-type_named.field-0.0 in
    let e : tree_of c.args.value.now ≡ call c.in-Call.name (args_of xs none) = tree_is c.args.value.now c.in-Call.name c.in-Call.args xs (c.calls_are_trees.ensures c.in-Call.name c.in-Call.args) c.in-Call.is c.deref-in-Some-type_named.ensures.value in
    forms_fault (formula_of s.names (tree_of c.args.value.now)) s.arrays.world f c.from_residual-in_err-operand-in-Some-type_named.result c.from_residual-in_err-operand-in-Some-type_named.ensures.1
    (convert_refused s.names (tree_of c.args.value.now) c.in-Call.name (args_of xs none) c.in-Some-type_named.ty f e (search rules) c.in_err-operand-in-Some-type_named.ensures)

pub formula_of-returns-in_ok-boxed-in-Some-type_named : goal.formula_of-returns-in_ok-boxed-in-Some-type_named
formula_of-returns-in_ok-boxed-in-Some-type_named t c =
    let s = c.args.scope.now in
    let xs = c.deref-in-Some-type_named.result.now in
    let e : tree_of c.args.value.now ≡ call c.in-Call.name (args_of xs none) = tree_is c.args.value.now c.in-Call.name c.in-Call.args xs (c.calls_are_trees.ensures c.in-Call.name c.in-Call.args) c.in-Call.is c.deref-in-Some-type_named.ensures.value in
    convert_formed s.names s.arrays.world (tree_of c.args.value.now) c.in-Call.name (args_of xs none) c.in-Some-type_named.ty (formula_tree c.in_ok-operand-in-Some-type_named.operand) (formula_tree c.in_ok-boxed-in-Some-type_named.field-0.value)
    e (search rules) c.in_ok-operand-in-Some-type_named.ensures (ap formula_tree c.in_ok-boxed-in-Some-type_named.ensures)

pub operand_of-returns-in-len2-up : goal.operand_of-returns-in-len2-up
operand_of-returns-in-len2-up t c = no_operand c.args.scope.now.names c.args.args.now c.in-len2-up.len_at_least
