-- No divisor before the next block is 0, and there is room for it.
use Rattle.std.proofs.Common.{◌≡◌, ◌≤◌, ◌-◌, length, map, min, take, None}
use Rattle.pdl_elem.specs.Blocks.{zero_at}
use Rattle.pdl_elem.specs.Numbers.{wrapped}
use Rattle.pdl_ops.specs.declared.operands.TheConstants.{BLOCK}
use Rattle.pdl_ops.proofs.in_parts.divisor_within.Given as goal

abbrev pub invariant-loop-done : goal.invariant-loop-done
invariant-loop-done l = record {
  inside : l.done ≤ l.count;
  room : min (l.count - l.done) BLOCK ≤ length l.room;
  none : zero_at l.fn.op (take l.done (map (wrapped l.ty) l.new.elems)) ≡ None;
}

abbrev pub decreases-loop-done : goal.decreases-loop-done
decreases-loop-done l = l.count - l.done
