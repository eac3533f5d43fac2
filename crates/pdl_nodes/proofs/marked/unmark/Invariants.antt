use Rattle.std.proofs.Common.{◌≡◌, drop}
use Rattle.pdl_nodes.specs.Changes.{unmark_in}
use Rattle.pdl_nodes.specs.Rows.{each}
use Rattle.pdl_nodes.specs.Table.{rows_of, IsTable}
use Rattle.pdl_nodes.proofs.marked.unmark.Given as goal

-- what is left to be done gives what the whole list does
abbrev pub invariant-loop-id : goal.invariant-loop-id
invariant-loop-id l = record {
  table : IsTable l.keys l.nodes;
  left : each (unmark_in (drop l.id-index l.views) l.root l.base) (rows_of l.nodes l.keys) ≡ each (unmark_in l.views l.root l.base) (rows_of l.fn.nodes l.keys);
}
