use Rattle.pdl_flow.specs.Formula.{arrays_in, tree_of as formula_tree}
use Rattle.pdl_syntax.specs.TreeOf.{tree_of}
use Rattle.pdl_session.proofs.CameFlows.{equals_value, flow_unformed, flow_unmade, flowing_within, runs_flow, still_live}
use Rattle.pdl_session.proofs.flowing.flow.Goals as goal

pub flow-made-requires-clause-live : goal.flow-made-requires-clause-live
flow-made-requires-clause-live g c =
    still_live c.args.scope.now c.eval.new.scope (arrays_in (formula_tree c.in_ok-formula.field-0)) c.in_ok-id.ensures.grown c.in_ok-formula.ensures.2

pub flow-made-requires-clause-equal : goal.flow-made-requires-clause-equal
flow-made-requires-clause-equal g c =
    equals_value c.growth_laws.ensures.older c.growth_laws.ensures.older_elements c.meaning_laws.ensures c.flow_laws.ensures.values c.args.scope.now c.eval.new.scope (tree_of c.args.value.now) c.in_ok-id.id (formula_tree c.in_ok-formula.field-0)
    c.in_order.ensures.whole c.in_order-2.ensures.whole c.in_ok-id.ensures.grown c.in_ok-id.ensures.value.0 c.in_ok-formula.ensures.0 c.in_ok-formula.ensures.2

pub returns-clause-runs : goal.returns-clause-runs
returns-clause-runs g c =
    runs_flow c.flow-made.result c.args.scope.now c.eval.new.scope c.flow-made.new.self c.args.name.now (tree_of c.args.value.now) c.in_ok-id.id (formula_tree c.in_ok-formula.field-0)
    c.in_ok-id.ensures.value.0 c.in_ok-formula.ensures.0 c.in_ok-id.ensures.grown c.flow-made.ensures.runs

pub returns-clause-within : goal.returns-clause-within
returns-clause-within g c =
    let s = c.args.scope.now in
    flowing_within s c.eval.new.scope c.args.name.now (tree_of c.args.value.now) (formula_tree c.in_ok-formula.field-0) c.args.steps.now c.eval.new.steps c.flow-made.new.steps c.in_ok-id.id
    c.in_ok-id.ensures.value.0 c.in_ok-formula.ensures.0 c.in_ok-id.ensures.grown c.in_ok-id.ensures.within c.flow-made.ensures.within

pub returns-in_err-id-clause-within : goal.returns-in_err-id-clause-within
returns-in_err-id-clause-within g c = flow_unmade c.args.scope.now c.args.name.now (tree_of c.args.value.now) c.args.steps.now c.eval.new.steps c.in_err-id.ensures.within

pub returns-in_err-formula-clause-within : goal.returns-in_err-formula-clause-within
returns-in_err-formula-clause-within g c =
    flow_unformed c.args.scope.now c.eval.new.scope c.args.name.now (tree_of c.args.value.now) c.args.steps.now c.eval.new.steps c.in_ok-id.id c.in_ok-id.ensures.value.0 c.in_ok-id.ensures.within
