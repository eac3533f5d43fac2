-- The values before the next block are made, and there is room for it.
use Rattle.std.proofs.Common.{◌≡◌, ◌≤◌, ◌*◌, ◌-◌, length, map}
use Rattle.pdl_elem.specs.Numbers.{wrapped}
use Rattle.pdl_elem.specs.Types.{binary_result}
use Rattle.pdl_ops.proofs.ElementwiseParts.{AreMade}
use Rattle.pdl_ops.proofs.blocks.values_within.Given as goal

abbrev pub invariant-loop-done : goal.invariant-loop-done
invariant-loop-done l = record {
  begun : l.begun ≤ l.done;
  inside : l.done ≤ l.count;
  room : 3 * l.block ≤ length l.room;
  ty : l.made.ty ≡ binary_result l.op l.ty l.ty;
  count : length l.made.elems ≡ l.done;
  made : AreMade l.op l.ty (map (wrapped l.ty) l.a.elems) (map (wrapped l.ty) l.b.elems) l.done l.made.elems;
}

abbrev pub decreases-loop-done : goal.decreases-loop-done
decreases-loop-done l = l.count - l.done
