use Rattle.std.proofs.Common.{◌-◌, ◌≡◌, ◌≤◌, ◌++◌, pos, min, replicate}
use Rattle.pdl_engine.proofs.severing.pack_zeros.Given as goal

abbrev pub invariant-loop-done : goal.invariant-loop-done
invariant-loop-done l = record {
  inside : l.done ≤ l.all;
  zeros : l.zeros.items ≡ replicate (min l.all 512) (pos 0);
  ty : l.packing.ty ≡ l.fn.packing.ty;
  elems : l.packing.elems ≡ l.fn.packing.elems ++ replicate l.done (pos 0);
}

abbrev pub decreases-loop-done : goal.decreases-loop-done
decreases-loop-done l = l.all - l.done
