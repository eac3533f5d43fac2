use Rattle.pdl_scope.proofs.HoldingLemmas.{held_defined}
use Rattle.pdl_scope.proofs.scope.Scope.define.Goals as goal

pub invariant_of-self : goal.invariant_of-self
invariant_of-self c = held_defined c.self.inside.names.entries c.self.inside.kernels c.define.new.self c.self.inside.watches.items c.self.inside.flows.items c.self.inside.engine c.self.inside.leaving.items c.self.invariant
