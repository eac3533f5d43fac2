use Rattle.std.proofs.Common.{◌≡◌, ◌+◌, ◌≤◌, length, map, take, drop}
use Rattle.std.specs.Prelude.{sum_by}
use Rattle.pdl_numbers.specs.Typed.{count_moved}
use Rattle.pdl_buf.specs.declared.made.Made.{Made}
use Rattle.pdl_machine.specs.Names.{names_limit}
use Rattle.pdl_machine.specs.State.{AreLive}
use Rattle.pdl_machine.specs.Step.{roots_bound}
use Rattle.pdl_scope.specs.Room.{with_names, new_among}
use Rattle.pdl_scope.specs.Scope.{machine, Grows}
use Rattle.pdl_scope.proofs.RoomRoots.{left, named_too}
use Rattle.pdl_scope.proofs.scope.Scope.bind_roots.Given as goal

-- the arrays so far are made, and there is room for their names and the others
abbrev pub invariant-loop-i : goal.invariant-loop-i
invariant-loop-i g l = record {
  so_far : roots_bound (machine l.fn.self) l.bound l.outputs ≡ left (named_too (machine l.self) l.made.items) l.bound l.outputs l.i;
  room : let names = with_names l.self.names.arrays l.made.items in
      length names + new_among names (drop l.i (take l.count l.bound)) ≤ names_limit;
  grown : Grows l.fn.self l.self;
  live : AreLive l.self.arrays.world (map (λ n. n.1) l.made.items);
  many : length l.made.items ≡ l.i;
  fits : length l.fn.self.names.arrays + new_among l.fn.self.names.arrays (take l.count l.bound) ≤ names_limit;
  counted : l.steps ≤ l.fn.steps + sum_by (λ (m : Made). count_moved m.elems) (take l.i l.outputs);
}
