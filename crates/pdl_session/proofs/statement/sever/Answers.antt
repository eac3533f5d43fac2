use Rattle.std.proofs.Common.{sym, ◌∙◌}
use Rattle.pdl_scope.specs.Scope.{engine_of}
use Rattle.pdl_session.proofs.ArgumentCuts.{runs_cut}
use Rattle.pdl_session.proofs.MoveLemmas.{name_cut}
use Rattle.pdl_session.proofs.statement.sever.Goals as goal

pub returns-in-Some-clause-runs : goal.returns-in-Some-clause-runs
returns-in-Some-clause-runs g c = runs_cut c.sever.result c.args.scope.now c.sever.new.self c.args.name.now c.in-Some.id (sym c.number_of.ensures.number ∙ c.in-Some.is) c.sever.ensures.runs

pub returns-in-Some-clause-counted : goal.returns-in-Some-clause-counted
returns-in-Some-clause-counted g c = name_cut (engine_of c.args.scope.now) _ c.in-Some.id c.args.steps.now c.sever.new.steps (sym c.number_of.ensures.number ∙ c.in-Some.is) c.sever.ensures.counted
