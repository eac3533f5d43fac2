-- One block more of the values is made, or has the first divisor 0; at the end all are made.
use Rattle.std.proofs.Common.{◌≡◌, ℕ, ◌+◌, ◌*◌, ◌≤◌, ℤ, List, length, length-append, length-drop, take, drop, map, arith, refl, ap, sym, ◌∙◌}
use Rattle.std.proofs.lemmas.List.{length-map, length-take-le, drop-map, take-map}
use Rattle.pdl_numbers.specs.Typed.{TypedElements}
use Rattle.pdl_elem.specs.Blocks.{pairwise}
use Rattle.pdl_elem.specs.Numbers.{wrapped}
use Rattle.pdl_elem.specs.Operators.{value_of}
use Rattle.pdl_elem.specs.Types.{InRange, binary_result}
use Rattle.pdl_shape.specs.Shape.{size_of}
use Rattle.pdl_ops.proofs.ElementwiseForms.{all_pairs}
use Rattle.pdl_ops.proofs.ElementwiseParts.{AreMade, made_all, made_begun, made_more, made_never, values_found}
use Rattle.pdl_ops.proofs.ValueCuts.{length_pairs}
use Rattle.pdl_ops.proofs.blocks.values_within.Goals as goal

pub returns-in-Some-clause-value : goal.returns-in-Some-clause-value
returns-in-Some-clause-value c =
    let f : ℤ → ℤ = wrapped c.args.ty in
    let k : ℕ = c.loop-done.done in
    let n : ℕ = c.min-size.result in
    let bs : List ℤ = c.args.b.now.elems in
    let m : length (map f bs) ≡ length bs = simp length-map in
    let part : map f (take n (drop k bs)) ≡ take n (drop k (map f bs)) = simp (take-map, drop-map) in
    made_never c.args.op c.args.ty _ _ _ _ k n c.in-Some.place
    (omega (arith, m, ap size_of c.strided_dims.ensures.dims)) c.loop-done.invariant.made
    part (sym c.in_ok-found.ensures.refused ∙ c.in-Some.is)

pub loop-done-init : goal.loop-done-init
loop-done-init c =
    let f : ℤ → ℤ = wrapped c.args.ty in
    let value : ℤ → ℤ → ℤ = value_of c.args.op c.args.ty in
    let k : ℕ = c.args.begun in
    let xs : List ℤ = c.args.a.now.elems in
    let bs : List ℤ = c.args.b.now.elems in
    let us : List ℤ = map f (take k xs) in
    let vs : List ℤ = map f (take k bs) in
    let left : length us ≡ k = length-map (take k xs) f ∙ length-take-le k xs (omega (arith, c.requires.within, c.requires.paired)) in
    let right : length vs ≡ k = length-map (take k bs) f ∙ length-take-le k bs c.requires.within in
    let made : AreMade c.args.op c.args.ty (map f xs) (map f bs) k c.args.made.elems =
    made_begun c.args.op c.args.ty _ _ us vs k (simp take-map) (simp take-map)
    (all_pairs (InRange (binary_result c.args.op c.args.ty c.args.ty)) value (c.operator_laws.ensures.binary c.args.op c.args.ty) us vs) c.requires.begun in
    record {
      begun = omega arith;
      inside = omega (arith, c.requires.within, c.elements_of-count.ensures.count, c.strided_dims.ensures.count, ap size_of c.strided_dims.ensures.dims);
      room = c.requires.room;
      ty = c.requires.typed;
      count = ap (λ (zs : List ℤ). length zs) (values_found c.args.op c.args.ty us vs c.args.made.elems c.requires.begun) ∙ length_pairs value us vs (left ∙ sym right) ∙ right;
      made = made;
    }

pub loop-done-smaller : goal.loop-done-smaller
loop-done-smaller c =
    omega (arith, c.loop-done.invariant.begun, c.loop-done.invariant.inside, c.loop-done-test.true, c.min-size.ensures, c.requires.some, c.elements_of-count.ensures.count, c.strided_dims.ensures.count, ap size_of c.strided_dims.ensures.dims)

pub loop-done-preserved : goal.loop-done-preserved
loop-done-preserved c =
    let f : ℤ → ℤ = wrapped c.args.ty in
    let value : ℤ → ℤ → ℤ = value_of c.args.op c.args.ty in
    let k : ℕ = c.loop-done.done in
    let n : ℕ = c.min-size.result in
    let xs : List ℤ = c.args.a.now.elems in
    let bs : List ℤ = c.args.b.now.elems in
    let l : length (map f xs) ≡ length xs = simp length-map in
    let m : length (map f bs) ≡ length bs = simp length-map in
    let us : List ℤ = map f (take n (drop k xs)) in
    let vs : List ℤ = map f (take n (drop k bs)) in
    let fits : k + n ≤ length bs = omega (arith, c.min-size.ensures, c.loop-done-test.true, c.elements_of-count.ensures.count, c.strided_dims.ensures.count, ap size_of c.strided_dims.ensures.dims) in
    let left : length us ≡ n = length-map (take n (drop k xs)) f ∙ length-take-le n (drop k xs) (omega (arith, fits, c.requires.paired, length-drop k xs)) in
    let right : length vs ≡ n = length-map (take n (drop k bs)) f ∙ length-take-le n (drop k bs) (omega (arith, fits, length-drop k bs)) in
    let put = c.in_ok-found.ensures.made c.in_default.is in
    let room : length c.put_block.new.room ≡ 3 * n = c.put_block.ensures.length in
    record {
      begun = omega arith;
      inside = omega arith;
      room = omega (arith, room, c.loop-done.invariant.room, length-append c.put_block.new.room (drop (3 * n) c.loop-done.room), length-drop (3 * n) c.loop-done.room);
      ty = ap (λ (p : TypedElements). p.ty) put ∙ c.loop-done.invariant.ty;
      count = omega (arith, left, right, ap (λ (p : TypedElements). length p.elems) put, length-append c.loop-done.made.elems (pairwise value us vs), length_pairs value us vs (left ∙ sym right), c.loop-done.invariant.count);
      made = made_more c.args.op c.args.ty (map f xs) (map f bs) _ _ _ us vs k n (omega (arith, l, m)) (omega (arith, m, ap size_of c.strided_dims.ensures.dims)) c.loop-done.invariant.made
          (simp (take-map, drop-map)) (simp (take-map, drop-map)) refl (sym c.in_ok-found.ensures.refused ∙ c.in_default.is)
          (all_pairs (InRange (binary_result c.args.op c.args.ty c.args.ty)) value (c.operator_laws.ensures.binary c.args.op c.args.ty) us vs) (ap (λ (p : TypedElements). p.elems) put);
    }

pub returns-clause-value : goal.returns-clause-value
returns-clause-value c =
    let f : ℤ → ℤ = wrapped c.args.ty in
    let l : length (map f c.args.a.now.elems) ≡ length c.args.a.now.elems = simp length-map in
    let m : length (map f c.args.b.now.elems) ≡ length c.args.b.now.elems = simp length-map in
    made_all c.args.op c.args.ty _ _ _ c.loop-done.done (omega (arith, l, m, c.requires.paired))
    (omega (arith, m, c.loop-done-test.false, c.elements_of-count.ensures.count, c.strided_dims.ensures.count, ap size_of c.strided_dims.ensures.dims)) c.loop-done.invariant.made

pub returns-clause-in_range : goal.returns-clause-in_range
returns-clause-in_range c = c.loop-done.invariant.made.in_range

pub returns-clause-count : goal.returns-clause-count
returns-clause-count c =
    omega (arith, c.loop-done.invariant.count, c.loop-done.invariant.inside, c.loop-done-test.false, c.elements_of-count.ensures.count, c.strided_dims.ensures.count, ap size_of c.strided_dims.ensures.dims)
