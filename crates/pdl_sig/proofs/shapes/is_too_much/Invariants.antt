use Rattle.std.proofs.Common.{◌≡◌, ◌≤◌, ◌*◌, min, drop}
use Rattle.pdl_shape.specs.Shape.{extent}
use Rattle.pdl_sig.proofs.shapes.is_too_much.Given as goal

abbrev pub invariant-loop-size : goal.invariant-loop-size
invariant-loop-size l = record {
  bound : l.work ≤ 4294967295;
  cut : min (l.work * extent (drop l.size-index l.sizes)) 16777217 ≡ min (l.count * extent l.sizes) 16777217;
}
