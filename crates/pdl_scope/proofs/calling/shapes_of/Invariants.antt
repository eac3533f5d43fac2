use Rattle.std.proofs.Common.{◌≡◌, map, take}
use Rattle.pdl_scope.specs.Scope.{shape_in}
use Rattle.pdl_scope.proofs.calling.shapes_of.Given as goal

abbrev pub invariant-loop-id : goal.invariant-loop-id
invariant-loop-id l = l.shapes.items ≡ map (shape_in l.engine) (take l.id-index l.ids)
