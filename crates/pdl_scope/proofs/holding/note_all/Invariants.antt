use Rattle.std.proofs.Common.{◌≡◌, ◌+◌, ◌≤◌, ◌++◌, length, take}
use Rattle.std.specs.Prelude.{vec_capacity}
use Rattle.pdl_scope.proofs.holding.note_all.Given as goal

-- those before this place are noted
abbrev pub invariant-loop-id : goal.invariant-loop-id
invariant-loop-id l = record {
  items : l.list.items ≡ l.fn.list.items ++ take l.id-index l.ids;
  room : vec_capacity l.fn.list ≤ vec_capacity l.list;
}
