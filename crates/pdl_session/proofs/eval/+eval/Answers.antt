use Rattle.std.proofs.Common.{rules, ◌≡◌, [], ◌∷◌, ◌++◌, ◌+◌, ◌<◌, ◌≤◌, List, Ok, length, refl, sym, ap, subst, ◌∙◌, arith, take}
use Rattle.std.proofs.lemmas.Int.{to_z-of_z}
use Rattle.std.specs.Int.{w64}
use Rattle.std.proofs.lemmas.List.{take_all}
use Rattle.pdl_syntax.specs.declared.tree.Arg.{Arg}
use Rattle.pdl_syntax.specs.Tree.{Tree, binary, none, call, unary}
use Rattle.pdl_syntax.specs.TreeOf.{tree_of, args_of, argument_of}
use Rattle.pdl_syntax.specs.WellMade.{AreArrays, AreArgArrays}
use Rattle.pdl_machine.specs.Names.{Names}
use Rattle.pdl_machine.specs.Outcome.{Valued, new_root}
use Rattle.pdl_machine.specs.Calls.{call_value}
use Rattle.pdl_machine.specs.Value.{Taken, number_made, value_of, taken}
use Rattle.pdl_scope.specs.Growth.{grows_refl}
use Rattle.pdl_session.specs.declared.given.Given.{Given}
use Rattle.pdl_scope.specs.Answers.{IsFault, Evaluates}
use Rattle.pdl_session.specs.Bounds.{EvaluatesPlainly}
use Rattle.pdl_session.specs.Arguments.{argument, arguments, AreGivenLive}
use Rattle.pdl_session.proofs.BoundLemmas.{list_plain, named_plain, number_plain}
use Rattle.std.proofs.Common.{ℕ, ℤ, FitsSigned, Vec, Global}
use Rattle.pdl_ops.specs.Elementwise.{unary_each}
use Rattle.pdl_engine.specs.State.{ready_steps}
use Rattle.pdl_machine.specs.Arrays.{Arrays, array_in}
use Rattle.pdl_machine.specs.Operators.{binary_each}
use Rattle.pdl_numbers.specs.Typed.{count_moved}
use Rattle.pdl_machine.specs.Then.{and_then}
use Rattle.pdl_scope.specs.declared.fault.ScopeFault.TheVariants.{NoMemory}
use Rattle.pdl_scope.specs.Costs.{MovesUpTo, total_size}
use Rattle.pdl_scope.specs.Scope.{engine_of}
use Rattle.pdl_session.specs.Came.{args_evaluated, args_left, came, evaluated, parts_left}
use Rattle.pdl_session.specs.Costs.{EvaluatesWithin, argued_steps, named_steps, ready_all}
use Rattle.pdl_session.proofs.CostExpressions.{args_less, argued_part, binary_within, both_parts, list_within, made_enough, named_within, names_less, names_live, number_within, paid_on, pays_fault, taken_more, taken_refused, unary_within, unmoved_within}
use Rattle.pdl_session.proofs.CameGained.{call_part, left_part, right_part, size_in, unary_part, up_to_part}
use Rattle.pdl_session.proofs.ScopeFacts.{hands_on, handed_on, first_fault, grows_trans}
use Rattle.pdl_session.proofs.ArgumentEvals.{fault_at, arrays_at, weight, weights, weights_at, named_is, list_is, unary_tree, binary_tree, unary_is, binary_is, unary_fault, left_fault, right_fault, tree_is, with_given, call_is, arguments_snoc, live_snoc, given_still, args_more}
use Rattle.pdl_session.proofs.eval.+eval.Goals as goal

pub eval-take-requires : goal.eval-take-requires
eval-take-requires g t c =
    let xs = c.deref-in-Call.result.now in
    let e : tree_of c.args.value.now ≡ call c.in-Call.name (args_of xs none) = tree_is c.args.value.now c.in-Call.name c.in-Call.args xs (c.calls_are_trees.ensures c.in-Call.name c.in-Call.args) c.in-Call.is c.deref-in-Call.ensures.value in
    let w : weight (tree_of c.args.value.now) ≡ weights (args_of xs none) + 2 = ap weight e in
    let P : List Given → Type 0 = AreGivenLive c.args.scope.now.arrays.world in
    λ κs within. (search (rules, w), (within, (subst AreArrays e c.requires, subst P (sym c.in_ok-none-in-Call.ensures.items) tt)))

pub eval-returns-in_ok-given-in-Call-clause-value : goal.eval-returns-in_ok-given-in-Call-clause-value
eval-returns-in_ok-given-in-Call-clause-value g t c =
    let xs = c.deref-in-Call.result.now in
    let names = c.args.scope.now.names in
    let a = c.args.scope.now.arrays in
    let e : tree_of c.args.value.now ≡ call c.in-Call.name (args_of xs none) = tree_is c.args.value.now c.in-Call.name c.in-Call.args xs (c.calls_are_trees.ensures c.in-Call.name c.in-Call.args) c.in-Call.is c.deref-in-Call.ensures.value in
    let all : taken names a (args_of xs none) ≡ Ok (c.take.new.scope.arrays, arguments c.in_ok-given-in-Call.given.items) =
    c.in_ok-given-in-Call.ensures.value a none (ap (λ gs. with_given a (arguments gs)) (sym c.in_ok-none-in-Call.ensures.items)) in
    let v : value_of names a (tree_of c.args.value.now) ≡ call_value c.take.new.scope.names c.in-Call.name c.take.new.scope.arrays (arguments c.deref-in-Call-2.result.now) =
    ap (value_of names a) e
    ∙ call_is names c.take.new.scope.names a c.take.new.scope.arrays c.in-Call.name (args_of xs none) (arguments c.in_ok-given-in-Call.given.items) (arguments c.deref-in-Call-2.result.now) all (ap arguments c.deref-in-Call-2.ensures.value) c.take.ensures.grown.names in
    subst (λ (x : Valued). Evaluates x c.call.new.scope c.call.result) (sym v) c.call.ensures.value

pub eval-returns-in_err-given-in-Call-clause-value : goal.eval-returns-in_err-given-in-Call-clause-value
eval-returns-in_err-given-in-Call-clause-value g t c =
    let xs = c.deref-in-Call.result.now in
    let names = c.args.scope.now.names in
    let a = c.args.scope.now.arrays in
    let f = c.in_err-given-in-Call.field-0.0 in
    let e : tree_of c.args.value.now ≡ call c.in-Call.name (args_of xs none) = tree_is c.args.value.now c.in-Call.name c.in-Call.args xs (c.calls_are_trees.ensures c.in-Call.name c.in-Call.args) c.in-Call.is c.deref-in-Call.ensures.value in
    let all : IsFault (taken names a (args_of xs none)) f = c.in_err-given-in-Call.ensures.value a none (ap (λ gs. with_given a (arguments gs)) (sym c.in_ok-none-in-Call.ensures.items)) in
    let h : IsFault (value_of names a (tree_of c.args.value.now)) f = subst (λ (x : Tree). IsFault (value_of names a x) f) (sym e) (first_fault (taken names a (args_of xs none)) (λ x. call_value names c.in-Call.name x.0 x.1) f all) in
    hands_on _ c.take.new.scope f c.from_residual-in_err-given-in-Call.result c.from_residual-in_err-given-in-Call.ensures.1 h

pub eval-returns-in-Some-clause-value : goal.eval-returns-in-Some-clause-value
eval-returns-in-Some-clause-value g t c =
    (named_is c.args.scope.now.names c.args.scope.now.arrays c.args.value.now _ c.in-Some.id c.number_of.result c.in-Named.is c.number_of.ensures.number c.in-Some.is, c.in-Some.ensures.live)

pub eval-returns-in-List-clause-value : goal.eval-returns-in-List-clause-value
eval-returns-in-List-clause-value g t c =
    let e = list_is c.args.scope.now.names c.args.scope.now.arrays c.args.value.now c.deref.result.now _ c.in-List.is c.deref.ensures in
    subst (λ (x : Valued). Evaluates x c.make_like-made.new.self c.make_like-made.result) (sym e) c.make_like-made.ensures.value

pub eval-eval-requires : goal.eval-eval-requires
eval-eval-requires g t c =
    let e = unary_tree c.args.value.now c.deref-in-Unary.result.now c.in-Unary.op _ c.in-Unary.is c.deref-in-Unary.ensures in
    let w = ap weight e in
    λ κs within. (search (rules, w), (within, subst AreArrays e c.requires))

pub eval-returns-in_ok-operand-in-Unary-clause-value : goal.eval-returns-in_ok-operand-in-Unary-clause-value
eval-returns-in_ok-operand-in-Unary-clause-value g t c =
    let x = c.deref-in-Unary.result.now in
    let is = unary_tree c.args.value.now x c.in-Unary.op _ c.in-Unary.is c.deref-in-Unary.ensures in
    let e = unary_is c.args.scope.now.names c.args.scope.now.arrays c.eval.new.scope.arrays c.in-Unary.op (tree_of c.args.value.now) (tree_of x) c.in_ok-operand-in-Unary.operand is c.in_ok-operand-in-Unary.ensures.value.0 in
    subst (λ (v : Valued). Evaluates v c.unary-made.new.self c.unary-made.result) (sym e) c.unary-made.ensures.value

pub eval-returns-in_ok-operand-in-Unary-clause-grown : goal.eval-returns-in_ok-operand-in-Unary-clause-grown
eval-returns-in_ok-operand-in-Unary-clause-grown g t c = grows_trans c.args.scope.now c.eval.new.scope c.unary-made.new.self c.eval.ensures.grown c.unary-made.ensures.grown

pub eval-returns-in_err-operand-in-Unary-clause-value : goal.eval-returns-in_err-operand-in-Unary-clause-value
eval-returns-in_err-operand-in-Unary-clause-value g t c =
    let x = c.deref-in-Unary.result.now in
    let f = c.in_err-operand-in-Unary.field-0.0 in
    let is = unary_tree c.args.value.now x c.in-Unary.op _ c.in-Unary.is c.deref-in-Unary.ensures in
    hands_on _ c.eval.new.scope f c.from_residual.result c.from_residual.ensures.1
    (unary_fault c.args.scope.now.names c.args.scope.now.arrays c.in-Unary.op (tree_of c.args.value.now) (tree_of x) f is c.in_err-operand-in-Unary.ensures.value)

pub eval-eval-requires-in-Binary : goal.eval-eval-requires-in-Binary
eval-eval-requires-in-Binary g t c =
    let e = binary_tree c.args.value.now c.deref-in-Binary.result.now _ c.in-Binary.op _ _ c.in-Binary.is c.deref-in-Binary.ensures refl in
    let w = ap weight e in
    λ κs within. (search (rules, w), (within, (subst AreArrays e c.requires).0))

pub eval-returns-in_err-left-in-Binary-clause-value : goal.eval-returns-in_err-left-in-Binary-clause-value
eval-returns-in_err-left-in-Binary-clause-value g t c =
    let x = c.deref-in-Binary.result.now in
    let y = c.in-Binary.right.value in
    let f = c.in_err-left-in-Binary.field-0.0 in
    let is = binary_tree c.args.value.now x y c.in-Binary.op _ _ c.in-Binary.is c.deref-in-Binary.ensures refl in
    hands_on _ c.eval-in-Binary.new.scope f c.from_residual-in_err-left-in-Binary.result c.from_residual-in_err-left-in-Binary.ensures.1
    (left_fault c.args.scope.now.names c.args.scope.now.arrays c.in-Binary.op (tree_of c.args.value.now) (tree_of x) (tree_of y) f is c.in_err-left-in-Binary.ensures.value)

pub eval-eval-requires-in-Binary-2 : goal.eval-eval-requires-in-Binary-2
eval-eval-requires-in-Binary-2 g t c =
    let e = binary_tree c.args.value.now c.deref-in-Binary.result.now c.deref-in-Binary-2.result.now c.in-Binary.op _ _ c.in-Binary.is c.deref-in-Binary.ensures c.deref-in-Binary-2.ensures in
    let w = ap weight e in
    λ κs within. (search (rules, w), (within, (subst AreArrays e c.requires).1))

pub eval-returns-in_err-right-in-Binary-clause-value : goal.eval-returns-in_err-right-in-Binary-clause-value
eval-returns-in_err-right-in-Binary-clause-value g t c =
    let x = c.deref-in-Binary.result.now in
    let y = c.deref-in-Binary-2.result.now in
    let mid = c.eval-in-Binary.new.scope in
    let f = c.in_err-right-in-Binary.field-0.0 in
    let is = binary_tree c.args.value.now x y c.in-Binary.op _ _ c.in-Binary.is c.deref-in-Binary.ensures c.deref-in-Binary-2.ensures in
    hands_on _ c.eval-in-Binary-2.new.scope f c.from_residual-in_err-right-in-Binary.result c.from_residual-in_err-right-in-Binary.ensures.1
    (right_fault c.args.scope.now.names mid.names c.args.scope.now.arrays mid.arrays c.in-Binary.op (tree_of c.args.value.now) (tree_of x) (tree_of y) c.in_ok-left-in-Binary.left f is
    c.in_ok-left-in-Binary.ensures.value.0 c.eval-in-Binary.ensures.grown.names c.in_err-right-in-Binary.ensures.value)

pub eval-returns-in_err-right-in-Binary-clause-grown : goal.eval-returns-in_err-right-in-Binary-clause-grown
eval-returns-in_err-right-in-Binary-clause-grown g t c = grows_trans c.args.scope.now c.eval-in-Binary.new.scope c.eval-in-Binary-2.new.scope c.eval-in-Binary.ensures.grown c.eval-in-Binary-2.ensures.grown

pub eval-returns-in_ok-right-in-Binary-clause-value : goal.eval-returns-in_ok-right-in-Binary-clause-value
eval-returns-in_ok-right-in-Binary-clause-value g t c =
    let x = c.deref-in-Binary.result.now in
    let y = c.deref-in-Binary-2.result.now in
    let mid = c.eval-in-Binary.new.scope in
    let late = c.eval-in-Binary-2.new.scope in
    let is = binary_tree c.args.value.now x y c.in-Binary.op _ _ c.in-Binary.is c.deref-in-Binary.ensures c.deref-in-Binary-2.ensures in
    let e = binary_is c.args.scope.now.names mid.names c.args.scope.now.arrays mid.arrays late.arrays c.in-Binary.op (tree_of c.args.value.now) (tree_of x) (tree_of y) c.in_ok-left-in-Binary.left c.in_ok-right-in-Binary.right is
    c.in_ok-left-in-Binary.ensures.value.0 c.eval-in-Binary.ensures.grown.names c.in_ok-right-in-Binary.ensures.value.0 in
    subst (λ (v : Valued). Evaluates v c.binary-made.new.self c.binary-made.result) (sym e) c.binary-made.ensures.value

pub eval-returns-in_ok-right-in-Binary-clause-grown : goal.eval-returns-in_ok-right-in-Binary-clause-grown
eval-returns-in_ok-right-in-Binary-clause-grown g t c =
    let late = grows_trans c.args.scope.now c.eval-in-Binary.new.scope c.eval-in-Binary-2.new.scope c.eval-in-Binary.ensures.grown c.eval-in-Binary-2.ensures.grown in
    grows_trans c.args.scope.now c.eval-in-Binary-2.new.scope c.binary-made.new.self late c.binary-made.ensures.grown

pub eval-returns-in_ok-given-in-Call-clause-grown : goal.eval-returns-in_ok-given-in-Call-clause-grown
eval-returns-in_ok-given-in-Call-clause-grown g t c = grows_trans c.args.scope.now c.take.new.scope c.call.new.scope c.take.ensures.grown c.call.ensures.grown

pub eval-returns-in_err-operand-in-Unary-clause-grown : goal.eval-returns-in_err-operand-in-Unary-clause-grown
eval-returns-in_err-operand-in-Unary-clause-grown g t c = c.eval.ensures.grown

pub eval-returns-in_err-left-in-Binary-clause-grown : goal.eval-returns-in_err-left-in-Binary-clause-grown
eval-returns-in_err-left-in-Binary-clause-grown g t c = c.eval-in-Binary.ensures.grown

pub eval-returns-in_err-none-in-Call-clause-grown : goal.eval-returns-in_err-none-in-Call-clause-grown
eval-returns-in_err-none-in-Call-clause-grown g t c = grows_refl c.args.scope.now

pub eval-returns-in_err-given-in-Call-clause-grown : goal.eval-returns-in_err-given-in-Call-clause-grown
eval-returns-in_err-given-in-Call-clause-grown g t c = c.take.ensures.grown

pub take-loop-arg-init : goal.take-loop-arg-init
take-loop-arg-init g t c = record { so_far = λ a front before. before; grown = grows_refl c.args.scope.now; live = c.requires.live; within = omega arith }

pub take-returns-clause-value : goal.take-returns-clause-value
take-returns-clause-value g t c = λ a front before.
    ap (λ (xs : List Arg). taken c.args.scope.now.names a (args_of xs front)) (sym (take_all c.loop-arg.arg-index c.args.args.now c.loop-arg-test.false))
    ∙ c.loop-arg.invariant.so_far a front before

pub take-returns-clause-live : goal.take-returns-clause-live
take-returns-clause-live g t c = c.loop-arg.invariant.live

pub take-returns-clause-grown : goal.take-returns-clause-grown
take-returns-clause-grown g t c = c.loop-arg.invariant.grown

pub take-returns-in_err-one-clause-grown : goal.take-returns-in_err-one-clause-grown
take-returns-in_err-one-clause-grown g t c = grows_trans c.args.scope.now c.loop-arg.scope c.take_one.new.scope c.loop-arg.invariant.grown c.take_one.ensures.grown

pub take-returns-in_err-push-clause-grown : goal.take-returns-in_err-push-clause-grown
take-returns-in_err-push-clause-grown g t c = grows_trans c.args.scope.now c.loop-arg.scope c.take_one.new.scope c.loop-arg.invariant.grown c.take_one.ensures.grown

pub take-take_one-requires : goal.take-take_one-requires
take-take_one-requires g t c =
    let lt : c.loop-arg.arg-index < length c.args.args.now = omega arith in
    let w : weights (argument_of c.arg-item.result none) ≤ weights (args_of c.args.args.now none) = subst (λ (a : Arg). weights (argument_of a none) ≤ weights (args_of c.args.args.now none)) (sym c.arg-item.is) (weights_at c.args.args.now none c.loop-arg.arg-index c.arg-item.result lt) in
    λ κs within. (search (rules, w), (within, subst (λ (a : Arg). AreArgArrays (argument_of a none)) (sym c.arg-item.is) (arrays_at c.args.args.now none c.loop-arg.arg-index c.arg-item.result lt c.requires.made)))

pub take-returns-in_err-one-clause-value : goal.take-returns-in_err-one-clause-value
take-returns-in_err-one-clause-value g t c = λ a front before.
    let names = c.args.scope.now.names in
    let so_far = args_of (take c.loop-arg.arg-index c.args.args.now) front in
    let f = c.in_err-one.field-0.0 in
    let here : IsFault (taken names a (argument_of c.arg-item.result so_far)) f = subst (λ (n : Names). IsFault (taken n a (argument_of c.arg-item.result so_far)) f) c.loop-arg.invariant.grown.names
    (c.in_err-one.ensures.value a so_far (arguments c.loop-arg.given.items) (subst (λ (n : Names). taken n a so_far ≡ Ok (c.loop-arg.scope.arrays, arguments c.loop-arg.given.items)) (sym c.loop-arg.invariant.grown.names) (c.loop-arg.invariant.so_far a front before))) in
    handed_on _ _ f c.from_residual.result c.from_residual.ensures.1 (fault_at names a c.args.args.now front c.loop-arg.arg-index c.arg-item.result f (omega arith) c.arg-item.is here)

pub take-loop-arg-preserved : goal.take-loop-arg-preserved
take-loop-arg-preserved g t c =
    let lt : c.loop-arg.arg-index < length c.args.args.now = omega arith in
    let items : c.push.new.self.items ≡ c.loop-arg.given.items ++ c.in_ok-one.one ∷ [] = c.in_ok-push.ensures.items in
    let names = c.args.scope.now.names in
    record {
      so_far = λ a front before.
          let so_far = args_of (take c.loop-arg.arg-index c.args.args.now) front in
          let here : taken names a (argument_of c.arg-item.result so_far) ≡ Ok (c.take_one.new.scope.arrays, arguments c.loop-arg.given.items ++ argument c.in_ok-one.one ∷ []) = subst (λ (n : Names). taken n a (argument_of c.arg-item.result so_far) ≡ Ok (c.take_one.new.scope.arrays, arguments c.loop-arg.given.items ++ argument c.in_ok-one.one ∷ [])) c.loop-arg.invariant.grown.names
          (c.in_ok-one.ensures.value a so_far (arguments c.loop-arg.given.items) (subst (λ (n : Names). taken n a so_far ≡ Ok (c.loop-arg.scope.arrays, arguments c.loop-arg.given.items)) (sym c.loop-arg.invariant.grown.names) (c.loop-arg.invariant.so_far a front before))) in
          ap (taken names a) (args_more c.args.args.now front c.loop-arg.arg-index c.arg-item.result lt c.arg-item.is) ∙ here
          ∙ ap (with_given c.take_one.new.scope.arrays) (sym (ap arguments items ∙ arguments_snoc c.loop-arg.given.items c.in_ok-one.one));
      grown = grows_trans c.args.scope.now c.loop-arg.scope c.take_one.new.scope c.loop-arg.invariant.grown c.take_one.ensures.grown;
      live = rw items (live_snoc c.take_one.new.scope.arrays.world c.loop-arg.given.items c.in_ok-one.one
          (given_still c.loop-arg.scope.arrays.world c.take_one.new.scope.arrays.world c.take_one.ensures.grown.still c.loop-arg.given.items c.loop-arg.invariant.live)
          c.in_ok-one.ensures.live);
      within = rw items (taken_more c.args.scope.now c.loop-arg.scope c.take_one.new.scope c.args.args.now c.loop-arg.given.items c.arg-item.result c.in_ok-one.one c.loop-arg.arg-index (ready_all c.args.scope.now c.args.given.items) c.args.steps.now c.loop-arg.steps c.take_one.new.steps lt c.arg-item.is
          (c.cost_laws.ensures.older c.loop-arg.scope c.take_one.new.scope c.in_order-in-loop-arg.ensures c.in_order-in-loop-arg-2.ensures c.take_one.ensures.grown) c.loop-arg.invariant.live
          (args_less c.args.scope.now c.loop-arg.scope c.loop-arg.invariant.grown.names (names_live c.args.scope.now c.in_order.ensures.whole) (c.cost_laws.ensures.older c.args.scope.now c.loop-arg.scope c.in_order.ensures c.in_order-in-loop-arg.ensures c.loop-arg.invariant.grown) (argument_of c.arg-item.result none))
          c.loop-arg.invariant.within (c.in_ok-one.ensures.within c.loop-arg.scope.arrays none [] refl));
    }

pub eval-returns-in_ok-given-in-Call-clause-plain : goal.eval-returns-in_ok-given-in-Call-clause-plain
eval-returns-in_ok-given-in-Call-clause-plain g t c =
    let e = tree_is c.args.value.now c.in-Call.name c.in-Call.args c.deref-in-Call.result.now (c.calls_are_trees.ensures c.in-Call.name c.in-Call.args) c.in-Call.is c.deref-in-Call.ensures.value in
    subst (λ (x : Tree). EvaluatesPlainly x c.args.scope.now c.call.new.scope c.args.steps.now c.call.new.steps c.call.result) (sym e) tt

pub eval-returns-in_err-none-in-Call-clause-plain : goal.eval-returns-in_err-none-in-Call-clause-plain
eval-returns-in_err-none-in-Call-clause-plain g t c =
    let e = tree_is c.args.value.now c.in-Call.name c.in-Call.args c.in-Call.args.items (c.calls_are_trees.ensures c.in-Call.name c.in-Call.args) c.in-Call.is refl in
    subst (λ (x : Tree). EvaluatesPlainly x c.args.scope.now c.args.scope.now c.args.steps.now c.args.steps.now c.from_residual-in_err-none-in-Call.result) (sym e) tt

pub eval-returns-in_err-given-in-Call-clause-plain : goal.eval-returns-in_err-given-in-Call-clause-plain
eval-returns-in_err-given-in-Call-clause-plain g t c =
    let e = tree_is c.args.value.now c.in-Call.name c.in-Call.args c.deref-in-Call.result.now (c.calls_are_trees.ensures c.in-Call.name c.in-Call.args) c.in-Call.is c.deref-in-Call.ensures.value in
    subst (λ (x : Tree). EvaluatesPlainly x c.args.scope.now c.take.new.scope c.args.steps.now c.take.new.steps c.from_residual-in_err-given-in-Call.result) (sym e) tt

pub eval-returns-in_ok-operand-in-Unary-clause-plain : goal.eval-returns-in_ok-operand-in-Unary-clause-plain
eval-returns-in_ok-operand-in-Unary-clause-plain g t c =
    let is = unary_tree c.args.value.now c.deref-in-Unary.result.now c.in-Unary.op _ c.in-Unary.is c.deref-in-Unary.ensures in
    subst (λ (x : Tree). EvaluatesPlainly x c.args.scope.now c.unary-made.new.self c.args.steps.now c.unary-made.new.steps c.unary-made.result) (sym is) tt

pub eval-returns-in_err-operand-in-Unary-clause-plain : goal.eval-returns-in_err-operand-in-Unary-clause-plain
eval-returns-in_err-operand-in-Unary-clause-plain g t c =
    let is = unary_tree c.args.value.now c.deref-in-Unary.result.now c.in-Unary.op _ c.in-Unary.is c.deref-in-Unary.ensures in
    subst (λ (x : Tree). EvaluatesPlainly x c.args.scope.now c.eval.new.scope c.args.steps.now c.eval.new.steps c.from_residual.result) (sym is) tt

pub eval-returns-in_err-left-in-Binary-clause-plain : goal.eval-returns-in_err-left-in-Binary-clause-plain
eval-returns-in_err-left-in-Binary-clause-plain g t c =
    let is = binary_tree c.args.value.now c.deref-in-Binary.result.now c.in-Binary.right.value c.in-Binary.op _ _ c.in-Binary.is c.deref-in-Binary.ensures refl in
    subst (λ (x : Tree). EvaluatesPlainly x c.args.scope.now c.eval-in-Binary.new.scope c.args.steps.now c.eval-in-Binary.new.steps c.from_residual-in_err-left-in-Binary.result) (sym is) tt

pub eval-returns-in_err-right-in-Binary-clause-plain : goal.eval-returns-in_err-right-in-Binary-clause-plain
eval-returns-in_err-right-in-Binary-clause-plain g t c =
    let is = binary_tree c.args.value.now c.deref-in-Binary.result.now c.deref-in-Binary-2.result.now c.in-Binary.op _ _ c.in-Binary.is c.deref-in-Binary.ensures c.deref-in-Binary-2.ensures in
    subst (λ (x : Tree). EvaluatesPlainly x c.args.scope.now c.eval-in-Binary-2.new.scope c.args.steps.now c.eval-in-Binary-2.new.steps c.from_residual-in_err-right-in-Binary.result) (sym is) tt

pub eval-returns-in_ok-right-in-Binary-clause-plain : goal.eval-returns-in_ok-right-in-Binary-clause-plain
eval-returns-in_ok-right-in-Binary-clause-plain g t c =
    let is = binary_tree c.args.value.now c.deref-in-Binary.result.now c.deref-in-Binary-2.result.now c.in-Binary.op _ _ c.in-Binary.is c.deref-in-Binary.ensures c.deref-in-Binary-2.ensures in
    subst (λ (x : Tree). EvaluatesPlainly x c.args.scope.now c.binary-made.new.self c.args.steps.now c.binary-made.new.steps c.binary-made.result) (sym is) tt

pub eval-returns-in-Number-clause-plain : goal.eval-returns-in-Number-clause-plain
eval-returns-in-Number-clause-plain g t c = number_plain c.args.value.now c.in-Number.number c.args.scope.now c.number_array.new.scope _ _ c.number_array.result c.in-Number.is c.number_array.ensures.root

pub eval-returns-in-Some-clause-plain : goal.eval-returns-in-Some-clause-plain
eval-returns-in-Some-clause-plain g t c = named_plain c.args.value.now _ c.args.scope.now _ _ c.in-Named.is

pub eval-returns-in-None-clause-plain : goal.eval-returns-in-None-clause-plain
eval-returns-in-None-clause-plain g t c = named_plain c.args.value.now _ c.args.scope.now _ _ c.in-Named.is

pub eval-returns-in-List-clause-plain : goal.eval-returns-in-List-clause-plain
eval-returns-in-List-clause-plain g t c =
    list_plain c.args.value.now c.deref.result.now _ c.args.scope.now c.make_like-made.new.self _ _ c.make_like-made.result c.in-List.is c.deref.ensures c.make_like-made.ensures.roots c.make_like-made.ensures.fresh c.make_like-made.ensures.counted

pub eval-returns-in-Number-clause-within : goal.eval-returns-in-Number-clause-within
eval-returns-in-Number-clause-within g t c =
    let s = c.args.scope.now in
    let new = c.number_array.new.scope in
    let n = c.in-Number.number in
    let fits : FitsSigned w64 n = search rules in
    let W : ℤ → Type 0 = λ k. EvaluatesWithin 0 s new (came (new_root s.arrays (number_made k)) s.arrays) c.args.steps.now c.number_array.new.steps c.number_array.result in
    number_within c.args.value.now n s new c.args.steps.now c.number_array.new.steps c.number_array.result c.in-Number.is (subst W (to_z-of_z w64 n fits) c.number_array.ensures.within)

pub eval-returns-in-Some-clause-within : goal.eval-returns-in-Some-clause-within
eval-returns-in-Some-clause-within g t c =
    let s = c.args.scope.now in
    named_within c.args.value.now _ s (evaluated s.names s.arrays (tree_of c.args.value.now)) c.in-Some.id c.args.steps.now c.in-Named.is (sym c.number_of.ensures.number ∙ c.in-Some.is)

pub eval-returns-in-None-clause-within : goal.eval-returns-in-None-clause-within
eval-returns-in-None-clause-within g t c =
    let s = c.args.scope.now in
    unmoved_within s.names s (tree_of c.args.value.now) (named_steps s (tree_of c.args.value.now)) c.args.steps.now

pub eval-returns-in-List-clause-within : goal.eval-returns-in-List-clause-within
eval-returns-in-List-clause-within g t c =
    list_within c.cost_laws.ensures.roots c.cost_laws.ensures.made c.args.value.now c.deref.result.now _ c.args.scope.now c.make_like-made.new.self _ _ c.make_like-made.result c.in-List.is c.deref.ensures c.in_order-in-List.ensures c.make_like-made.ensures.value
    c.make_like-made.ensures.counted

pub eval-returns-in_ok-operand-in-Unary-clause-within : goal.eval-returns-in_ok-operand-in-Unary-clause-within
eval-returns-in_ok-operand-in-Unary-clause-within g t c =
    let s = c.args.scope.now in
    let x = c.deref-in-Unary.result.now in
    let mid = c.eval.new.scope in
    let v = c.in_ok-operand-in-Unary.operand in
    let op = c.in-Unary.op in
    let is = unary_tree c.args.value.now x op _ c.in-Unary.is c.deref-in-Unary.ensures in
    let made = unary_each op (array_in mid.arrays v) in
    let late = evaluated s.names s.arrays (unary op (tree_of x)) in
    let value = unary_is s.names s.arrays mid.arrays op (unary op (tree_of x)) (tree_of x) v refl c.in_ok-operand-in-Unary.ensures.value.0 in
    let size : size_in late ≡ count_moved made.elems + size_in mid.arrays = ap (λ (y : Valued). size_in (came y (parts_left s.names s.arrays (unary op (tree_of x))))) value in
    subst (λ (y : Tree). EvaluatesWithin (named_steps s y) s c.unary-made.new.self (evaluated s.names s.arrays y) c.args.steps.now c.unary-made.new.steps c.unary-made.result) (sym is)
    (unary_within c.cost_laws.ensures.roots c.cost_laws.ensures.made s mid c.unary-made.new.self late made (named_steps s (tree_of x)) c.args.steps.now c.eval.new.steps c.unary-made.new.steps v c.unary-made.result
    c.in_order-in-Unary.ensures c.in_ok-operand-in-Unary.ensures.within c.unary-made.ensures.value c.unary-made.ensures.counted (omega (arith, size)))

pub eval-returns-in_err-operand-in-Unary-clause-within : goal.eval-returns-in_err-operand-in-Unary-clause-within
eval-returns-in_err-operand-in-Unary-clause-within g t c =
    let s = c.args.scope.now in
    let x = c.deref-in-Unary.result.now in
    let op = c.in-Unary.op in
    let is = unary_tree c.args.value.now x op _ c.in-Unary.is c.deref-in-Unary.ensures in
    let new = c.eval.new.scope in
    let part = unary_part s.names s.arrays op (tree_of x) in
    subst (λ (y : Tree). EvaluatesWithin (named_steps s y) s new (evaluated s.names s.arrays y) c.args.steps.now c.eval.new.steps c.from_residual.result) (sym is)
    (pays_fault (ready_steps (engine_of new)) (named_steps s (tree_of x)) s new (evaluated s.names s.arrays (unary op (tree_of x))) c.args.steps.now c.eval.new.steps c.in_err-operand-in-Unary.field-0.0 c.from_residual.result c.from_residual.ensures.1
    (omega (arith, part, c.in_err-operand-in-Unary.ensures.within)))

pub eval-returns-in_ok-right-in-Binary-clause-within : goal.eval-returns-in_ok-right-in-Binary-clause-within
eval-returns-in_ok-right-in-Binary-clause-within g t c =
    let s = c.args.scope.now in
    let x = c.deref-in-Binary.result.now in
    let y = c.deref-in-Binary-2.result.now in
    let op = c.in-Binary.op in
    let mid = c.eval-in-Binary.new.scope in
    let late = c.eval-in-Binary-2.new.scope in
    let is = binary_tree c.args.value.now x y op _ _ c.in-Binary.is c.deref-in-Binary.ensures c.deref-in-Binary-2.ensures in
    let v = c.in_ok-left-in-Binary.left in
    let u = c.in_ok-right-in-Binary.right in
    let wanted = binary_each op (array_in late.arrays v) (array_in late.arrays u) in
    let first = c.cost_laws.ensures.older s mid c.in_order.ensures c.in_order-in-Binary.ensures c.eval-in-Binary.ensures.grown in
    let next = c.cost_laws.ensures.older mid late c.in_order-in-Binary.ensures c.in_order-in-Binary-2.ensures c.eval-in-Binary-2.ensures.grown in
    let fewer = names_less s mid c.eval-in-Binary.ensures.grown.names (names_live s c.in_order.ensures.whole) first (tree_of y) in
    let tree = binary op (tree_of x) (tree_of y) in
    let both = both_parts s.names mid.names s.arrays mid.arrays late.arrays op (tree_of x) (tree_of y) v u c.in_ok-left-in-Binary.ensures.value.0 c.eval-in-Binary.ensures.grown.names c.in_ok-right-in-Binary.ensures.value.0 in
    let value = binary_is s.names mid.names s.arrays mid.arrays late.arrays op tree (tree_of x) (tree_of y) v u refl c.in_ok-left-in-Binary.ensures.value.0 c.eval-in-Binary.ensures.grown.names c.in_ok-right-in-Binary.ensures.value.0 in
    let last = evaluated s.names s.arrays tree in
    let size : size_in last ≡ size_in (came (and_then wanted (new_root late.arrays)) late.arrays) = ap (λ (z : Valued). size_in (came z (parts_left s.names s.arrays tree))) value ∙ ap (λ (a : Arrays). size_in (came (and_then wanted (new_root late.arrays)) a)) both in
    subst (λ (z : Tree). EvaluatesWithin (named_steps s z) s c.binary-made.new.self (evaluated s.names s.arrays z) c.args.steps.now c.binary-made.new.steps c.binary-made.result) (sym is)
    (binary_within c.cost_laws.ensures.roots c.cost_laws.ensures.made s mid late c.binary-made.new.self last wanted (named_steps s (tree_of x)) (named_steps mid (tree_of y)) (named_steps s (tree_of y)) c.args.steps.now c.eval-in-Binary.new.steps c.eval-in-Binary-2.new.steps c.binary-made.new.steps v u c.binary-made.result
    c.in_order-in-Binary-3.ensures c.in_ok-left-in-Binary.ensures.value.1 next c.in_ok-left-in-Binary.ensures.within fewer c.in_ok-right-in-Binary.ensures.within c.binary-made.ensures.value c.binary-made.ensures.counted
    (omega (arith, size, made_enough wanted late.arrays)))

pub eval-returns-in_err-left-in-Binary-clause-within : goal.eval-returns-in_err-left-in-Binary-clause-within
eval-returns-in_err-left-in-Binary-clause-within g t c =
    let s = c.args.scope.now in
    let x = c.deref-in-Binary.result.now in
    let y = c.in-Binary.right.value in
    let op = c.in-Binary.op in
    let is = binary_tree c.args.value.now x y op _ _ c.in-Binary.is c.deref-in-Binary.ensures refl in
    let new = c.eval-in-Binary.new.scope in
    let tree = binary op (tree_of x) (tree_of y) in
    let part = left_part s.names s.arrays op (tree_of x) (tree_of y) in
    subst (λ (z : Tree). EvaluatesWithin (named_steps s z) s new (evaluated s.names s.arrays z) c.args.steps.now c.eval-in-Binary.new.steps c.from_residual-in_err-left-in-Binary.result) (sym is)
    (pays_fault (ready_steps (engine_of new)) (named_steps s tree) s new (evaluated s.names s.arrays tree) c.args.steps.now c.eval-in-Binary.new.steps c.in_err-left-in-Binary.field-0.0 c.from_residual-in_err-left-in-Binary.result c.from_residual-in_err-left-in-Binary.ensures.1
    (omega (arith, part, c.in_err-left-in-Binary.ensures.within)))

pub eval-returns-in_err-right-in-Binary-clause-within : goal.eval-returns-in_err-right-in-Binary-clause-within
eval-returns-in_err-right-in-Binary-clause-within g t c =
    let s = c.args.scope.now in
    let x = c.deref-in-Binary.result.now in
    let y = c.deref-in-Binary-2.result.now in
    let op = c.in-Binary.op in
    let mid = c.eval-in-Binary.new.scope in
    let late = c.eval-in-Binary-2.new.scope in
    let is = binary_tree c.args.value.now x y op _ _ c.in-Binary.is c.deref-in-Binary.ensures c.deref-in-Binary-2.ensures in
    let first = c.cost_laws.ensures.older s mid c.in_order.ensures c.in_order-in-Binary.ensures c.eval-in-Binary.ensures.grown in
    let fewer = names_less s mid c.eval-in-Binary.ensures.grown.names (names_live s c.in_order.ensures.whole) first (tree_of y) in
    let tree = binary op (tree_of x) (tree_of y) in
    let part = right_part s.names mid.names s.arrays mid.arrays op (tree_of x) (tree_of y) c.in_ok-left-in-Binary.left c.in_ok-left-in-Binary.ensures.value.0 c.eval-in-Binary.ensures.grown.names in
    subst (λ (z : Tree). EvaluatesWithin (named_steps s z) s late (evaluated s.names s.arrays z) c.args.steps.now c.eval-in-Binary-2.new.steps c.from_residual-in_err-right-in-Binary.result) (sym is)
    (pays_fault (ready_steps (engine_of late)) (named_steps s tree) s late (evaluated s.names s.arrays tree) c.args.steps.now c.eval-in-Binary-2.new.steps c.in_err-right-in-Binary.field-0.0 c.from_residual-in_err-right-in-Binary.result c.from_residual-in_err-right-in-Binary.ensures.1
    (omega (arith, part, fewer, c.in_ok-left-in-Binary.ensures.within, c.in_err-right-in-Binary.ensures.within)))

pub eval-returns-in_ok-given-in-Call-clause-within : goal.eval-returns-in_ok-given-in-Call-clause-within
eval-returns-in_ok-given-in-Call-clause-within g t c =
    let s = c.args.scope.now in
    let mid = c.take.new.scope in
    let xs = c.deref-in-Call.result.now in
    let f = c.in-Call.name in
    let args = args_of xs none in
    let items = arguments c.deref-in-Call-2.result.now in
    let e : tree_of c.args.value.now ≡ call f args = tree_is c.args.value.now f c.in-Call.args xs (c.calls_are_trees.ensures f c.in-Call.args) c.in-Call.is c.deref-in-Call.ensures.value in
    let before = ap (λ gs. with_given s.arrays (arguments gs)) (sym c.in_ok-none-in-Call.ensures.items) in
    let all : taken s.names s.arrays args ≡ Ok (mid.arrays, arguments c.in_ok-given-in-Call.given.items) = c.in_ok-given-in-Call.ensures.value s.arrays none before in
    let G : List Given → Type 0 = λ gs. c.take.new.steps + ready_all mid c.in_ok-given-in-Call.given.items + total_size s.arrays.world ≤ c.args.steps.now + total_size mid.arrays.world + (argued_steps s args + ready_all s gs) in
    let given : G [] = subst G c.in_ok-none-in-Call.ensures.items (c.in_ok-given-in-Call.ensures.within s.arrays none before) in
    let part = came (call_value mid.names f mid.arrays items) mid.arrays in
    let H : List Given → Type 0 = λ gs. EvaluatesWithin (ready_all mid gs) mid c.call.new.scope part c.take.new.steps c.call.new.steps c.call.result in
    let called = subst H c.deref-in-Call-2.ensures.value c.call.ensures.within in
    let value = call_is s.names mid.names s.arrays mid.arrays f args (arguments c.in_ok-given-in-Call.given.items) items all (ap arguments c.deref-in-Call-2.ensures.value) c.take.ensures.grown.names in
    let late = evaluated s.names s.arrays (call f args) in
    let size : size_in late ≡ size_in part =
    ap (λ (y : Valued). size_in (came y (parts_left s.names s.arrays (call f args)))) value ∙ ap (λ (y : Taken). size_in (came (call_value mid.names f mid.arrays items) (came y (args_left s.names s.arrays args)))) all in
    subst (λ (z : Tree). EvaluatesWithin (named_steps s z) s c.call.new.scope (evaluated s.names s.arrays z) c.args.steps.now c.call.new.steps c.call.result) (sym e)
    (paid_on (ready_steps (engine_of c.call.new.scope)) (ready_all mid c.in_ok-given-in-Call.given.items) (argued_steps s args) s mid c.call.new.scope part late c.args.steps.now c.take.new.steps c.call.new.steps c.call.result (omega (arith, given)) (omega (arith, size)) called)

pub eval-returns-in_err-none-in-Call-clause-within : goal.eval-returns-in_err-none-in-Call-clause-within
eval-returns-in_err-none-in-Call-clause-within g t c =
    let s = c.args.scope.now in
    let tree = tree_of c.args.value.now in
    let n = c.args.steps.now in
    pays_fault (ready_steps (engine_of s)) (named_steps s tree) s s (evaluated s.names s.arrays tree) n n NoMemory c.from_residual-in_err-none-in-Call.result c.from_residual-in_err-none-in-Call.ensures.1
    (unmoved_within s.names s tree (named_steps s tree) n)

pub eval-returns-in_err-given-in-Call-clause-within : goal.eval-returns-in_err-given-in-Call-clause-within
eval-returns-in_err-given-in-Call-clause-within g t c =
    let s = c.args.scope.now in
    let xs = c.deref-in-Call.result.now in
    let new = c.take.new.scope in
    let f = c.in-Call.name in
    let args = args_of xs none in
    let e : tree_of c.args.value.now ≡ call f args = tree_is c.args.value.now f c.in-Call.args xs (c.calls_are_trees.ensures f c.in-Call.args) c.in-Call.is c.deref-in-Call.ensures.value in
    let before = ap (λ gs. with_given s.arrays (arguments gs)) (sym c.in_ok-none-in-Call.ensures.items) in
    let none_given : ready_all s c.in_ok-none-in-Call.none.items ≡ 0 = ap (ready_all s) c.in_ok-none-in-Call.ensures.items in
    let part = call_part s.names s.arrays f args in
    let within = c.in_err-given-in-Call.ensures.within s.arrays none before in
    subst (λ (z : Tree). EvaluatesWithin (named_steps s z) s new (evaluated s.names s.arrays z) c.args.steps.now c.take.new.steps c.from_residual-in_err-given-in-Call.result) (sym e)
    (pays_fault (ready_steps (engine_of new)) (argued_steps s args) s new (evaluated s.names s.arrays (call f args)) c.args.steps.now c.take.new.steps c.in_err-given-in-Call.field-0.0 c.from_residual-in_err-given-in-Call.result c.from_residual-in_err-given-in-Call.ensures.1
    (omega (arith, part, none_given, within)))

pub take-returns-clause-within : goal.take-returns-clause-within
take-returns-clause-within g t c = λ a front before.
    let part = argued_part c.args.scope.now c.args.args.now c.loop-arg.arg-index in
    omega (arith, c.loop-arg.invariant.within, part)

pub take-returns-in_err-one-clause-within : goal.take-returns-in_err-one-clause-within
take-returns-in_err-one-clause-within g t c = λ a front before.
    let s = c.args.scope.now in
    let xs = c.args.args.now in
    let i = c.loop-arg.arg-index in
    let x = c.arg-item.result in
    let so_far = args_of (take i xs) front in
    let gs = arguments c.loop-arg.given.items in
    let same = c.loop-arg.invariant.grown.names in
    let mid = c.loop-arg.scope in
    let late = c.take_one.new.scope in
    let first = c.cost_laws.ensures.older s mid c.in_order.ensures c.in_order-in-loop-arg.ensures c.loop-arg.invariant.grown in
    let fewer = args_less s mid same (names_live s c.in_order.ensures.whole) first (argument_of x none) in
    let taken_so : taken mid.names a so_far ≡ Ok (mid.arrays, gs) = subst (λ (n : Names). taken n a so_far ≡ Ok (mid.arrays, gs)) (sym same) (c.loop-arg.invariant.so_far a front before) in
    let due : Vec Given Global → ℕ = λ all. ready_all late all.items in
    let held = ready_all s c.args.given.items in
    let N : Names → Type 0 = λ n. MovesUpTo (argued_steps mid (argument_of x none)) mid (args_evaluated n a (argument_of x so_far)) c.loop-arg.steps c.take_one.new.steps in
    let refused = taken_refused s mid (args_evaluated s.names a (argument_of x so_far)) xs c.loop-arg.given.items x i held c.args.steps.now c.loop-arg.steps c.take_one.new.steps (omega arith) c.arg-item.is fewer c.loop-arg.invariant.within
    (subst N same (c.in_err-one.ensures.within a so_far gs taken_so)) in
    let part = up_to_part s.names a xs front i x (omega arith) c.arg-item.is in
    pays_fault due (argued_steps s (args_of xs none) + held) s late (args_evaluated s.names a (args_of xs front)) c.args.steps.now c.take_one.new.steps c.in_err-one.field-0.0 c.from_residual.result c.from_residual.ensures.1
    (omega (arith, refused, part))

pub take-returns-in_err-push-clause-within : goal.take-returns-in_err-push-clause-within
take-returns-in_err-push-clause-within g t c = λ a front before.
    let s = c.args.scope.now in
    let xs = c.args.args.now in
    let i = c.loop-arg.arg-index in
    let x = c.arg-item.result in
    let so_far = args_of (take i xs) front in
    let gs = arguments c.loop-arg.given.items in
    let same = c.loop-arg.invariant.grown.names in
    let mid = c.loop-arg.scope in
    let late = c.take_one.new.scope in
    let first = c.cost_laws.ensures.older s mid c.in_order.ensures c.in_order-in-loop-arg.ensures c.loop-arg.invariant.grown in
    let fewer = args_less s mid same (names_live s c.in_order.ensures.whole) first (argument_of x none) in
    let taken_so : taken mid.names a so_far ≡ Ok (mid.arrays, gs) = subst (λ (n : Names). taken n a so_far ≡ Ok (mid.arrays, gs)) (sym same) (c.loop-arg.invariant.so_far a front before) in
    let due : Vec Given Global → ℕ = λ all. ready_all late all.items in
    let held = ready_all s c.args.given.items in
    let one = c.in_ok-one.ensures.within a so_far gs taken_so in
    let next = subst (λ (n : Names). taken n a (argument_of x so_far) ≡ Ok (late.arrays, gs ++ argument c.in_ok-one.one ∷ [])) same (c.in_ok-one.ensures.value a so_far gs taken_so) in
    let came_so : size_in (args_evaluated s.names a (argument_of x so_far)) ≡ size_in late.arrays = ap (λ (y : Taken). size_in (came y (args_left s.names a (argument_of x so_far)))) next in
    let refused = taken_refused s mid late.arrays xs c.loop-arg.given.items x i held c.args.steps.now c.loop-arg.steps c.take_one.new.steps (omega arith) c.arg-item.is fewer c.loop-arg.invariant.within (omega (arith, one)) in
    let part = up_to_part s.names a xs front i x (omega arith) c.arg-item.is in
    pays_fault due (argued_steps s (args_of xs none) + held) s late (args_evaluated s.names a (args_of xs front)) c.args.steps.now c.take_one.new.steps NoMemory c.from_residual-in_err-push.result c.from_residual-in_err-push.ensures.1
    (omega (arith, refused, part, came_so))
