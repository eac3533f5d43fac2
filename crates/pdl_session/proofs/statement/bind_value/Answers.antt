use Rattle.pdl_syntax.specs.TreeOf.{tree_of}
use Rattle.pdl_machine.specs.Value.{value_of}
use Rattle.pdl_session.specs.Costs.{named_steps}
use Rattle.pdl_session.specs.Came.{parts_left}
use Rattle.pdl_session.proofs.MoveLemmas.{bound_within}
use Rattle.pdl_session.proofs.PerformedStatements.{runs_bound}
use Rattle.pdl_session.proofs.statement.bind_value.Goals as goal

pub returns-clause-runs : goal.returns-clause-runs
returns-clause-runs g c =
    runs_bound c.bind.result c.args.scope.now c.eval.new.scope c.bind.new.self c.args.name.now (value_of c.args.scope.now.names c.args.scope.now.arrays (tree_of c.args.value.now)) c.in_ok-id.id
    c.in_ok-id.ensures.value.0 c.in_ok-id.ensures.grown c.bind.ensures.runs

pub returns-clause-within : goal.returns-clause-within
returns-clause-within g c =
    let s = c.args.scope.now in
    let tree = tree_of c.args.value.now in
    bound_within s c.eval.new.scope (value_of s.names s.arrays tree) (parts_left s.names s.arrays tree) (named_steps s tree) c.args.steps.now c.eval.new.steps c.in_ok-id.id c.in_ok-id.ensures.value.0 c.in_ok-id.ensures.within

pub returns-in_err-id-clause-within : goal.returns-in_err-id-clause-within
returns-in_err-id-clause-within g c = c.in_err-id.ensures.within
