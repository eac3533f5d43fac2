use Rattle.std.proofs.Common.{subst}
use Rattle.pdl_machine.specs.State.{IsWhole}
use Rattle.pdl_scope.specs.Scope.{machine, Scope as Seen}
use Rattle.pdl_scope.proofs.scope.Scope.whole.Goals as goal

pub returns : goal.returns
returns c = (let P : Seen → Type 0 = λ s. IsWhole (machine s) in subst P c.self.view_is c.self.invariant.whole)
