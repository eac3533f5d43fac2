use Rattle.std.proofs.Common.{◌≡◌, ◌++◌, take}
use Rattle.std.specs.List.{flat_map}
use Rattle.pdl_machine.specs.Step.{name_line}
use Rattle.pdl_scope.proofs.scope.Scope.print_names.Given as goal

abbrev pub invariant-loop-index : goal.invariant-loop-index
invariant-loop-index l = l.out.items ≡ l.fn.out.items ++ flat_map (name_line l.self.arrays) (take l.index l.self.names.arrays)
