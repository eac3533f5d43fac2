use Rattle.std.proofs.Common.{sym, subst}
use Rattle.pdl_scope.specs.Flowing.{RootsRise}
use Rattle.pdl_scope.specs.Scope.{arrays_of}
use Rattle.pdl_scope.proofs.FlowingStays.{roots_rise}
use Rattle.pdl_scope.proofs.scope.Scope.is_flowing.Goals as goal

pub is_flow-requires : goal.is_flow-requires
is_flow-requires c = subst RootsRise (sym c.deref.ensures.value) (roots_rise (arrays_of c.self.inside.engine) c.self.inside.flows.items c.self.invariant.whole.flows)
