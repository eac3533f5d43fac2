use Rattle.pdl_choice.proofs.RangeSources.{index_sources_lie, range_sources_lie, where_sources_lie}
use Rattle.pdl_choice.proofs.laws.choice_laws.Goals as goal

pub returns-clause-index : goal.returns-clause-index
returns-clause-index c = index_sources_lie c.shape_laws.ensures.positions c.shape_laws.ensures.cuts c.shape_laws.ensures.joins

pub returns-clause-listed : goal.returns-clause-listed
returns-clause-listed c = where_sources_lie c.shape_laws.ensures.positions

pub returns-clause-range : goal.returns-clause-range
returns-clause-range c = range_sources_lie c.shape_laws.ensures.positions
