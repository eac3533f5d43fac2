-- All numbers are packed, one after another.
use Rattle.std.proofs.Common.{ℤ, pos, get_or, rules, arith, ap, ◌∙◌, FitsSigned}
use Rattle.std.proofs.lemmas.List.{length-set}
use Rattle.std.proofs.lemmas.Int.{to_z-of_z}
use Rattle.std.specs.Int.{w64}
use Rattle.pdl_numbers.specs.Bytes.{bytes_of}
use Rattle.pdl_numbers.proofs.ByteLemmas.{set_more, set_all}
use Rattle.pdl_numbers.proofs.packed.pack_all.Goals as goal

pub loop-i-preserved : goal.loop-i-preserved
loop-i-preserved g c =
    let z : ℤ = get_or c.args.numbers.now c.loop-i.i (pos 0) in
    let f : FitsSigned w64 z = search rules in
    record {
      count = length-set c.loop-i.cells c.loop-i.i c.pack.result ∙ c.loop-i.invariant.count;
      packed = set_more (bytes_of g.T.PackedType.ty) c.loop-i.cells c.args.numbers.now c.loop-i.i (pos 0) c.pack.result (omega arith) c.loop-i.invariant.count (c.pack.ensures ∙ ap (bytes_of g.T.PackedType.ty) (to_z-of_z w64 z f)) c.loop-i.invariant.packed;
    }

pub returns : goal.returns
returns g c = set_all (bytes_of g.T.PackedType.ty) c.loop-i.cells c.args.numbers.now c.loop-i.i (omega arith) c.loop-i.invariant.count c.loop-i.invariant.packed
