use Rattle.std.proofs.Common.{rules, ◌≡◌, ◌+◌, true, sym, ap, ◌∙◌}
use Rattle.std.specs.Prelude.{◌&&◌, is_some}
use Rattle.pdl_elem.specs.Types.{type_named}
use Rattle.pdl_syntax.specs.Formulas.{is_formula, is_one_formula}
use Rattle.pdl_syntax.specs.Tree.{none, call}
use Rattle.pdl_syntax.specs.TreeOf.{tree_of, args_of}
use Rattle.pdl_syntax.proofs.TreeOfWalks.{weight, weights, tree_is, no_one_formula}
use Rattle.pdl_syntax.proofs.formula.+formula.Goals as goal

pub is_formula-is_one_formula-requires : goal.is_formula-is_one_formula-requires
is_formula-is_one_formula-requires t c =
    let xs = c.deref-then-is_some.result.now in
    let e : tree_of c.args.value.now ≡ call c.in-Call.name (args_of xs none) = tree_is c.args.value.now c.in-Call.name c.in-Call.args xs c.in-Call.is c.deref-then-is_some.ensures.value in
    let w : weight (tree_of c.args.value.now) ≡ weights (args_of xs none) + 2 = ap weight e in
    (search (rules, w), tt)

pub is_formula-returns-then-is_some : goal.is_formula-returns-then-is_some
is_formula-returns-then-is_some t c =
    let xs = c.deref-then-is_some.result.now in
    let e : tree_of c.args.value.now ≡ call c.in-Call.name (args_of xs none) = tree_is c.args.value.now c.in-Call.name c.in-Call.args xs c.in-Call.is c.deref-then-is_some.ensures.value in
    let named : is_some (type_named c.in-Call.name) ≡ true = search rules in
    c.is_one_formula.ensures ∙ sym (ap is_formula e ∙ ap (λ b. b && is_one_formula (args_of xs none)) named)

pub is_one_formula-returns-in_default-2 : goal.is_one_formula-returns-in_default-2
is_one_formula-returns-in_default-2 t c = sym (no_one_formula c.args.args.now c.in_default.len_at_least)
