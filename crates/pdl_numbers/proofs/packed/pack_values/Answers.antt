-- All values are packed, one after another.
use Rattle.std.proofs.Common.{◌≡◌, ℤ, List, length, pos, get_or, rules, arith, ap, ap₂, sym, ◌∙◌, FitsSigned}
use Rattle.std.proofs.lemmas.List.{length-set}
use Rattle.std.proofs.lemmas.Int.{to_z-of_z}
use Rattle.std.specs.Int.{w64}
use Rattle.pdl_elem.specs.Blocks.{pairwise}
use Rattle.pdl_elem.specs.Operators.{value_of}
use Rattle.pdl_numbers.specs.Bytes.{bytes_of}
use Rattle.pdl_numbers.proofs.ByteLemmas.{set_more, set_all}
use Rattle.pdl_numbers.proofs.packed.pack_values.Goals as goal

pub loop-i-preserved : goal.loop-i-preserved
loop-i-preserved g c =
    let f : ℤ → ℤ → ℤ = value_of g.O.KnownOp.op g.T.PackedType.ty in
    let values : List ℤ = pairwise f c.args.left.now c.args.right.now in
    let x : ℤ = get_or c.args.left.now c.loop-i.i (pos 0) in
    let y : ℤ = get_or c.args.right.now c.loop-i.i (pos 0) in
    let a : FitsSigned w64 x = search rules in
    let b : FitsSigned w64 y = search rules in
    let long : length values ≡ length c.args.left.now = c.block_laws.ensures.as_many f c.args.left.now c.args.right.now (omega arith) in
    let here : f x y ≡ get_or values c.loop-i.i (pos 0) = sym (c.block_laws.ensures.at f c.args.left.now c.args.right.now c.loop-i.i (omega arith) (omega arith)) in
    record {
      count = length-set c.loop-i.cells c.loop-i.i c.packed_value.result ∙ c.loop-i.invariant.count;
      packed = set_more (bytes_of g.T.PackedType.ty) c.loop-i.cells values c.loop-i.i (pos 0) c.packed_value.result (omega (arith, long)) (c.loop-i.invariant.count ∙ sym long) (c.packed_value.ensures ∙ ap (bytes_of g.T.PackedType.ty) (ap₂ f (to_z-of_z w64 x a) (to_z-of_z w64 y b) ∙ here)) c.loop-i.invariant.packed;
    }

pub returns : goal.returns
returns g c =
    let f : ℤ → ℤ → ℤ = value_of g.O.KnownOp.op g.T.PackedType.ty in
    let values : List ℤ = pairwise f c.args.left.now c.args.right.now in
    let long : length values ≡ length c.args.left.now = c.block_laws.ensures.as_many f c.args.left.now c.args.right.now (omega arith) in
    set_all (bytes_of g.T.PackedType.ty) c.loop-i.cells values c.loop-i.i (omega (arith, long)) (c.loop-i.invariant.count ∙ sym long) c.loop-i.invariant.packed
