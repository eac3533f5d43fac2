-- All numbers are unpacked, one after another.
use Rattle.std.proofs.Common.{arith, ap, ◌∙◌, FitsSigned}
use Rattle.std.proofs.lemmas.List.{length-set}
use Rattle.std.proofs.lemmas.Int.{to_z-of_z}
use Rattle.std.specs.Int.{w64}
use Rattle.pdl_numbers.specs.Bytes.{number_of}
use Rattle.pdl_numbers.proofs.ByteLemmas.{set_more, set_all}
use Rattle.pdl_numbers.proofs.packed.unpack_all.Goals as goal

pub loop-i-preserved : goal.loop-i-preserved
loop-i-preserved g c =
    let f : FitsSigned w64 c.unpack.result = record { sfits = c.unpack.type_inv } in
    record {
      count = length-set c.loop-i.numbers c.loop-i.i _ ∙ c.loop-i.invariant.count;
      unpacked = set_more (number_of g.T.PackedType.ty) c.loop-i.numbers c.args.cells.now c.loop-i.i c.index-cells-i.result _ (omega arith) c.loop-i.invariant.count (to_z-of_z w64 c.unpack.result f ∙ c.unpack.ensures ∙ ap (number_of g.T.PackedType.ty) c.index-cells-i.is) c.loop-i.invariant.unpacked;
    }

pub returns : goal.returns
returns g c = set_all (number_of g.T.PackedType.ty) c.loop-i.numbers c.args.cells.now c.loop-i.i (omega arith) c.loop-i.invariant.count c.loop-i.invariant.unpacked
