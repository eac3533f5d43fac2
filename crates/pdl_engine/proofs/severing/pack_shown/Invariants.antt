use Rattle.std.proofs.Common.{◌-◌, ◌≡◌, ◌≤◌, ◌++◌, length, take}
use Rattle.pdl_engine.proofs.severing.pack_shown.Given as goal

abbrev pub invariant-loop-done : goal.invariant-loop-done
invariant-loop-done l = record {
  inside : l.done ≤ l.all;
  block : length l.block ≡ 512;
  ty : l.packing.ty ≡ l.fn.packing.ty;
  elems : l.packing.elems ≡ l.fn.packing.elems ++ take l.done l.window.elems;
}

abbrev pub decreases-loop-done : goal.decreases-loop-done
decreases-loop-done l = l.all - l.done
