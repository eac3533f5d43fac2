use Rattle.std.proofs.Common.{◌≡◌, ◌+◌, ◌≤◌, List, [], arith, refl, sym, ap, subst}
use Rattle.pdl_syntax.specs.Tree.{call, none}
use Rattle.pdl_syntax.specs.TreeOf.{tree_of, args_of}
use Rattle.pdl_syntax.specs.WellMade.{AreArrays}
use Rattle.pdl_scope.specs.Costs.{MovesUpTo, total_size}
use Rattle.pdl_scope.specs.Growth.{grows_refl}
use Rattle.pdl_scope.specs.Scope.{machine}
use Rattle.pdl_scope.specs.declared.fault.ScopeFault.TheVariants.{NoMemory}
use Rattle.pdl_session.specs.declared.given.Given.{Given}
use Rattle.pdl_session.specs.Costs.{argued_steps, ready_all}
use Rattle.pdl_session.proofs.MoveLemmas.{bound_late, list_refused_within, list_within}
use Rattle.pdl_session.specs.Arguments.{arguments}
use Rattle.pdl_session.proofs.ArgumentEvals.{tree_is, with_given}
use Rattle.pdl_session.proofs.CameGained.{args_start}
use Rattle.pdl_session.proofs.ScopeFacts.{ends_at}
use Rattle.pdl_session.proofs.PerformedStatements.{runs_list, list_refused}
use Rattle.pdl_session.proofs.statement.bind_list.Goals as goal

pub take-requires-clause-made : goal.take-requires-clause-made
take-requires-clause-made g c =
    subst AreArrays (tree_is c.args.value.now c.in-Call.function c.in-Call.args c.deref.result.now (c.calls_are_trees.ensures c.in-Call.function c.in-Call.args) c.in-Call.is c.deref.ensures.value) c.requires

pub returns-in_ok-given-in-Call-clause-runs : goal.returns-in_ok-given-in-Call-clause-runs
returns-in_ok-given-in-Call-clause-runs g c =
    let a = c.args.scope.now.arrays in
    runs_list c.bind_outputs.result c.args.scope.now c.take.new.scope c.bind_outputs.new.scope c.args.bound.now (tree_of c.args.value.now) c.in-Call.function (args_of c.deref.result.now none)
    (arguments c.in_ok-given-in-Call.given.items) (arguments c.deref-in-Call.result.now)
    (tree_is c.args.value.now c.in-Call.function c.in-Call.args c.deref.result.now (c.calls_are_trees.ensures c.in-Call.function c.in-Call.args) c.in-Call.is c.deref.ensures.value)
    (c.in_ok-given-in-Call.ensures.value a none (ap (λ gs. with_given a (arguments gs)) (sym c.in_ok-none-in-Call.ensures.items))) (ap arguments c.deref-in-Call.ensures.value) c.take.ensures.grown c.bind_outputs.ensures.runs

pub returns-in_err-none-in-Call-clause-runs : goal.returns-in_err-none-in-Call-clause-runs
returns-in_err-none-in-Call-clause-runs g c = ends_at _ _ _ _ NoMemory c.from_residual.result c.from_residual.ensures.1 tt (grows_refl c.args.scope.now)

pub returns-in_err-given-in-Call-clause-runs : goal.returns-in_err-given-in-Call-clause-runs
returns-in_err-given-in-Call-clause-runs g c =
    let s = c.args.scope.now in
    let f = c.in_err-given-in-Call.field-0.0 in
    ends_at _ _ _ _ f c.from_residual-in_err-given-in-Call.result c.from_residual-in_err-given-in-Call.ensures.1
    (list_refused (machine s) c.args.bound.now (tree_of c.args.value.now) c.in-Call.function (args_of c.deref.result.now none) f
    (tree_is c.args.value.now c.in-Call.function c.in-Call.args c.deref.result.now (c.calls_are_trees.ensures c.in-Call.function c.in-Call.args) c.in-Call.is c.deref.ensures.value)
    (c.in_err-given-in-Call.ensures.value s.arrays none (ap (λ gs. with_given s.arrays (arguments gs)) (sym c.in_ok-none-in-Call.ensures.items)))) c.take.ensures.grown

pub returns-in_ok-given-in-Call-clause-within : goal.returns-in_ok-given-in-Call-clause-within
returns-in_ok-given-in-Call-clause-within g c =
    let s = c.args.scope.now in
    let mid = c.take.new.scope in
    let xs = c.deref.result.now in
    let bound = c.args.bound.now in
    let tree = tree_of c.args.value.now in
    let gs = c.in_ok-given-in-Call.given.items in
    let items = arguments c.deref-in-Call.result.now in
    let same = ap arguments c.deref-in-Call.ensures.value in
    let e : tree ≡ call c.in-Call.function (args_of xs none) = tree_is c.args.value.now c.in-Call.function c.in-Call.args xs (c.calls_are_trees.ensures c.in-Call.function c.in-Call.args) c.in-Call.is c.deref.ensures.value in
    let before = ap (λ hs. with_given s.arrays (arguments hs)) (sym c.in_ok-none-in-Call.ensures.items) in
    let all = c.in_ok-given-in-Call.ensures.value s.arrays none before in
    let G : List Given → Type 0 = λ hs. c.take.new.steps + ready_all mid gs + total_size s.arrays.world ≤ c.args.steps.now + total_size mid.arrays.world + (argued_steps s (args_of xs none) + ready_all s hs) in
    let given : G [] = subst G c.in_ok-none-in-Call.ensures.items (c.in_ok-given-in-Call.ensures.within s.arrays none before) in
    let H : List Given → Type 0 = λ hs. MovesUpTo (ready_all mid hs) mid (bound_late mid bound c.in-Call.function items) c.take.new.steps c.bind_outputs.new.steps in
    let put : H gs = subst H c.deref-in-Call.ensures.value c.bind_outputs.ensures.within in
    list_within s mid bound tree c.in-Call.function (args_of xs none) (arguments gs) items (ready_all mid gs) c.args.steps.now c.take.new.steps c.bind_outputs.new.steps e all same c.take.ensures.grown (omega (arith, given)) put

pub returns-in_err-none-in-Call-clause-within : goal.returns-in_err-none-in-Call-clause-within
returns-in_err-none-in-Call-clause-within g c =
    let s = c.args.scope.now in
    let xs = c.in-Call.args.items in
    let e : tree_of c.args.value.now ≡ call c.in-Call.function (args_of xs none) = tree_is c.args.value.now c.in-Call.function c.in-Call.args xs (c.calls_are_trees.ensures c.in-Call.function c.in-Call.args) c.in-Call.is refl in
    list_refused_within s c.args.bound.now (tree_of c.args.value.now) c.in-Call.function (args_of xs none) c.args.steps.now c.args.steps.now e (omega (arith, args_start s.names s.arrays (args_of xs none)))

pub returns-in_err-given-in-Call-clause-within : goal.returns-in_err-given-in-Call-clause-within
returns-in_err-given-in-Call-clause-within g c =
    let s = c.args.scope.now in
    let xs = c.deref.result.now in
    let e : tree_of c.args.value.now ≡ call c.in-Call.function (args_of xs none) = tree_is c.args.value.now c.in-Call.function c.in-Call.args xs (c.calls_are_trees.ensures c.in-Call.function c.in-Call.args) c.in-Call.is c.deref.ensures.value in
    let before = ap (λ gs. with_given s.arrays (arguments gs)) (sym c.in_ok-none-in-Call.ensures.items) in
    let none_given : ready_all s c.in_ok-none-in-Call.none.items ≡ 0 = ap (ready_all s) c.in_ok-none-in-Call.ensures.items in
    let within = c.in_err-given-in-Call.ensures.within s.arrays none before in
    list_refused_within s c.args.bound.now (tree_of c.args.value.now) c.in-Call.function (args_of xs none) c.args.steps.now c.take.new.steps e (omega (arith, none_given, within))
