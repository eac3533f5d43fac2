use Rattle.std.proofs.Common.{rules, ◌≡◌, ◌+◌, ◌<◌, ◌≤◌, suc, true, false, ◌||◌, length, drop, sym, ap, subst, ◌∙◌, arith, add-one}
use Rattle.pdl_syntax.specs.declared.tree.Arg.{Arg}
use Rattle.pdl_syntax.specs.Tree.{none, call}
use Rattle.pdl_syntax.specs.TreeOf.{tree_of, args_of, argument_of}
use Rattle.pdl_syntax.specs.Ragged.{is_ragged, are_ragged}
use Rattle.pdl_syntax.proofs.TreeOfWalks.{weight, weights, weights_at, ragged_from, tree_is}
use Rattle.pdl_syntax.proofs.ragged.+ragged.Goals as goal

pub is_ragged-are_ragged-requires : goal.is_ragged-are_ragged-requires
is_ragged-are_ragged-requires t c =
    let xs = c.deref-in-Call.result.now in
    let e : tree_of c.args.value.now ≡ call c.in-Call.field-0 (args_of xs none) = tree_is c.args.value.now c.in-Call.field-0 c.in-Call.args xs c.in-Call.is c.deref-in-Call.ensures.value in
    let w : weight (tree_of c.args.value.now) ≡ weights (args_of xs none) + 2 = ap weight e in
    (search (rules, w), tt)

pub is_ragged-returns-in-Call : goal.is_ragged-returns-in-Call
is_ragged-returns-in-Call t c =
    let xs = c.deref-in-Call.result.now in
    let e : tree_of c.args.value.now ≡ call c.in-Call.field-0 (args_of xs none) = tree_is c.args.value.now c.in-Call.field-0 c.in-Call.args xs c.in-Call.is c.deref-in-Call.ensures.value in
    c.are_ragged.ensures ∙ sym (ap is_ragged e)

pub are_ragged-is_ragged_arg-requires : goal.are_ragged-is_ragged_arg-requires
are_ragged-is_ragged_arg-requires t c =
    let lt : c.loop-arg.arg-index < length c.args.args.now = omega arith in
    let Q : Arg → Type 0 = λ a. weights (argument_of a none) ≤ weights (args_of c.args.args.now none) in
    let w : weights (argument_of c.arg-item.result none) ≤ weights (args_of c.args.args.now none) = subst Q (sym c.arg-item.is) (weights_at c.args.args.now none c.loop-arg.arg-index c.arg-item.result lt) in
    (search (rules, w), tt)

pub are_ragged-returns-then-is_ragged_arg : goal.are_ragged-returns-then-is_ragged_arg
are_ragged-returns-then-is_ragged_arg t c =
    let lt : c.loop-arg.arg-index < length c.args.args.now = omega arith in
    let others = are_ragged (args_of (drop (suc c.loop-arg.arg-index) c.args.args.now) none) in
    let here : are_ragged (argument_of c.arg-item.result none) ≡ true = sym c.if-is_ragged_arg.ensures in
    sym (c.loop-arg.invariant ∙ ragged_from c.args.args.now c.loop-arg.arg-index c.arg-item.result lt c.arg-item.is ∙ ap (λ b. b || others) here)

pub are_ragged-loop-arg-preserved : goal.are_ragged-loop-arg-preserved
are_ragged-loop-arg-preserved t c =
    let lt : c.loop-arg.arg-index < length c.args.args.now = omega arith in
    let others = are_ragged (args_of (drop (suc c.loop-arg.arg-index) c.args.args.now) none) in
    let here : are_ragged (argument_of c.arg-item.result none) ≡ false = sym c.if-is_ragged_arg.ensures in
    c.loop-arg.invariant ∙ ragged_from c.args.args.now c.loop-arg.arg-index c.arg-item.result lt c.arg-item.is ∙ ap (λ b. b || others) here
    ∙ ap (λ k. are_ragged (args_of (drop k c.args.args.now) none)) (sym (add-one c.loop-arg.arg-index))
