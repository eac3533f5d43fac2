use Rattle.std.proofs.Common.{sym, subst}
use Rattle.pdl_scope.specs.Assigning.{CanAssign}
use Rattle.pdl_scope.proofs.following.Values.new.Goals as goal

pub returns-clause-can : goal.returns-clause-can
returns-clause-can g c = subst (CanAssign c.args.engine.now c.args.target) (sym c.in_ok-list.ensures) c.requires
