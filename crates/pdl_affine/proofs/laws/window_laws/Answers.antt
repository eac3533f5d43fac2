use Rattle.pdl_affine.proofs.WindowComposition.{composed_show_views, uncomposed_are_in_order}
use Rattle.pdl_affine.proofs.laws.window_laws.Goals as goal

pub returns-clause-composed : goal.returns-clause-composed
returns-clause-composed c = composed_show_views c.shape_laws.ensures.positions

pub returns-clause-uncomposed : goal.returns-clause-uncomposed
returns-clause-uncomposed c = uncomposed_are_in_order c.shape_laws.ensures.positions
