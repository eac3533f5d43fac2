use Rattle.pdl_session.proofs.MovesLawViews.{kept_views_cost_nothing, ready_prints_move_nothing}
use Rattle.pdl_session.proofs.laws.moves_laws.Goals as goal

pub returns-clause-kept : goal.returns-clause-kept
returns-clause-kept c = kept_views_cost_nothing

pub returns-clause-prints : goal.returns-clause-prints
returns-clause-prints c = ready_prints_move_nothing
