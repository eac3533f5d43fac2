-- The numbers before this one are taken in, and all cells are packed.
use Rattle.std.proofs.Common.{◌≡◌, pos, ◌+ℤ◌, ◌*ℤ◌, length, map, get_or}
use Rattle.std.specs.Int.RustNames.{unsigned_abs}
use Rattle.pdl_numbers.specs.Bytes.{ArePacked, number_of}
use Rattle.pdl_numbers.specs.Folds.{HasFolded}
use Rattle.pdl_numbers.proofs.folds.fold_steps.Given as goal

abbrev pub invariant-loop-k : goal.invariant-loop-k
invariant-loop-k g l = record {
  many : length l.cells ≡ length l.fn.cells;
  packed : ArePacked g.T.PackedType.ty l.cells;
  folded : HasFolded g.T.PackedType.ty g.F.Folding.taken (λ m. get_or l.numbers (unsigned_abs (pos l.place +ℤ l.inc *ℤ pos m)) (pos 0)) l.start l.k
      (map (number_of g.T.PackedType.ty) l.fn.cells) (map (number_of g.T.PackedType.ty) l.cells);
}
