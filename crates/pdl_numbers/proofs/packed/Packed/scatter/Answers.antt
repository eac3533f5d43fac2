-- The cells at the places are packed, and the others stay.
use Rattle.std.proofs.Common.{sym, subst, arith}
use Rattle.std.proofs.lemmas.List.{take_at}
use Rattle.pdl_numbers.specs.Bytes.{ArePacked}
use Rattle.pdl_numbers.proofs.packed.Packed.scatter.Goals as goal

pub invariant_of-self : goal.invariant_of-self
invariant_of-self g c = subst (ArePacked g.T.PackedType.ty) (sym (take_at c.pack_at.new.cells _ c.self.inside.cells.len (omega arith))) c.pack_at.ensures.packed
