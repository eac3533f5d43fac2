-- What is made of the lists before this one.
use Rattle.std.proofs.Common.{◌≡◌}
use Rattle.std.specs.List.{flat_map}
use Rattle.pdl_reduce.specs.Reductions.{lists, reduced_row, reduced_type}
use Rattle.pdl_reduce.proofs.reducing.reduced_lists.Given as goal

abbrev pub invariant-loop-i : goal.invariant-loop-i
invariant-loop-i l = record {
  ty : l.made.ty ≡ reduced_type l.kind l.a.ty;
  made : l.made.elems ≡ flat_map (reduced_row l.kind l.a.ty) (lists l.i l.size l.a.elems);
}
