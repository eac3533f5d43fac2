use Rattle.std.proofs.Common.{◌≡◌, map, take}
use Rattle.pdl_scope.specs.Scope.{made_in}
use Rattle.pdl_scope.proofs.calling.give_all.Given as goal

abbrev pub invariant-loop-id : goal.invariant-loop-id
invariant-loop-id l = l.run ≡ record l.fn.run { given = map (made_in l.engine) (take l.id-index l.ids) }
