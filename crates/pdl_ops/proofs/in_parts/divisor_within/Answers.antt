-- The first divisor 0 is the first one of the first block that has one.
use Rattle.std.proofs.Common.{◌≡◌, ℕ, ◌+◌, ◌≤◌, ℤ, List, length, take, drop, map, None, Some, sym, ◌∙◌, ap, arith, take-append-drop, length-append}
use Rattle.std.proofs.lemmas.List.{length-map, length-take-le, length-drop}
use Rattle.std.proofs.Math.Seq.{take-add}
use Rattle.pdl_elem.specs.declared.BinaryOp.{BinaryOp}
use Rattle.pdl_elem.specs.Blocks.{zero_at}
use Rattle.pdl_elem.specs.Numbers.{wrapped}
use Rattle.pdl_shape.specs.Shape.{size_of}
use Rattle.pdl_lemmas.specs.Lists.{take_written}
use Rattle.pdl_ops.proofs.ValueCuts.{block_map}
use Rattle.pdl_ops.proofs.BlockZeros.{zero_none, zero_after, zero_before}
use Rattle.pdl_ops.proofs.in_parts.divisor_within.Goals as goal

-- no divisor before the next block, and none in it
more : (op : BinaryOp) (ys vs : List ℤ) (k n : ℕ) → vs ≡ take n (drop k ys) → zero_at op (take k ys) ≡ None → zero_at op vs ≡ None → zero_at op (take (k + n) ys) ≡ None
more op ys vs k n e h z = ap (zero_at op) (take-add k n ys) ∙ zero_none op (take k ys) (take n (drop k ys)) h (ap (zero_at op) (sym e) ∙ z)

-- the first one in it
found : (op : BinaryOp) (ys vs : List ℤ) (k n p : ℕ) → k ≤ length ys → vs ≡ take n (drop k ys) → zero_at op (take k ys) ≡ None → zero_at op vs ≡ Some p → zero_at op ys ≡ Some (k + p)
found op ys vs k n p l e h z =
    let front : zero_at op (take (k + n) ys) ≡ Some (length (take k ys) + p) =
    ap (zero_at op) (take-add k n ys) ∙ zero_after op (take k ys) (take n (drop k ys)) p h (ap (zero_at op) (sym e) ∙ z) in
    ap (zero_at op) (sym (take-append-drop (k + n) ys)) ∙ zero_before op (take (k + n) ys) (drop (k + n) ys) (length (take k ys) + p) front
    ∙ ap (λ (q : ℕ). Some (q + p)) (length-take-le k ys l)

pub returns-in-Some : goal.returns-in-Some
returns-in-Some c =
    let n : ℕ = c.min-size.result in
    let k : ℕ = c.loop-done.done in
    let es : List ℤ = c.args.new.now.elems in
    let f : ℤ → ℤ = wrapped c.args.ty in
    let m : length (map f es) ≡ length es = length-map es f in
    let size : length (take n c.loop-done.room) ≡ n = length-take-le n c.loop-done.room (omega (arith, c.min-size.ensures, c.loop-done.invariant.room)) in
    let v : c.read_operand.new.into ≡ take n (drop k (map f es)) = c.read_operand.ensures.value ∙ ap (λ i. map f (take i (drop k es))) size ∙ block_map f es k n in
    let left : k + n ≤ length (map f es) = omega (arith, m, c.min-size.ensures, c.loop-done-test.true, c.elements_of-count.ensures.count, c.strided_dims.ensures.count, ap size_of c.strided_dims.ensures.dims) in
    let long : length c.read_operand.new.into ≡ n = ap length v ∙ length-take-le n (drop k (map f es)) (omega (arith, left, length-drop k (map f es))) in
    let z : zero_at c.args.op c.read_operand.new.into ≡ Some c.in-Some.place =
    ap (zero_at c.args.op) (sym (take_written n c.read_operand.new.into (drop n c.loop-done.room) long)) ∙ sym c.in-Some.ensures.place in
    sym (found c.args.op (map f es) c.read_operand.new.into k n c.in-Some.place (omega (arith, left)) v c.loop-done.invariant.none z)

pub loop-done-preserved : goal.loop-done-preserved
loop-done-preserved c =
    let n : ℕ = c.min-size.result in
    let k : ℕ = c.loop-done.done in
    let es : List ℤ = c.args.new.now.elems in
    let f : ℤ → ℤ = wrapped c.args.ty in
    let m : length (map f es) ≡ length es = length-map es f in
    let size : length (take n c.loop-done.room) ≡ n = length-take-le n c.loop-done.room (omega (arith, c.min-size.ensures, c.loop-done.invariant.room)) in
    let v : c.read_operand.new.into ≡ take n (drop k (map f es)) = c.read_operand.ensures.value ∙ ap (λ i. map f (take i (drop k es))) size ∙ block_map f es k n in
    let left : k + n ≤ length (map f es) = omega (arith, m, c.min-size.ensures, c.loop-done-test.true, c.elements_of-count.ensures.count, c.strided_dims.ensures.count, ap size_of c.strided_dims.ensures.dims) in
    let long : length c.read_operand.new.into ≡ n = ap length v ∙ length-take-le n (drop k (map f es)) (omega (arith, left, length-drop k (map f es))) in
    let z : zero_at c.args.op c.read_operand.new.into ≡ None =
    ap (zero_at c.args.op) (sym (take_written n c.read_operand.new.into (drop n c.loop-done.room) long)) ∙ sym c.in_default.ensures.place in
    record {
      inside = omega (arith, c.min-size.ensures, c.loop-done-test.true);
      room = omega (arith, c.min-size.ensures, long, c.loop-done.invariant.room, length-append c.read_operand.new.into (drop n c.loop-done.room), length-drop n c.loop-done.room);
      none = more c.args.op (map f es) c.read_operand.new.into k n v c.loop-done.invariant.none z;
    }
